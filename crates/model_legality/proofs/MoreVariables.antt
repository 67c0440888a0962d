-- More variables behind those that are there leave terms, constraints and shown items as they are.
use Rattle.std.proofs.Common.{◌≡◌, ℕ, zero, suc, List, [], ◌∷◌, ◌++◌, length, Option, Some, None, refl, sym, ap, subst, ◌∙◌}
use Rattle.std.specs.Prelude.{All, IfSome, IsTrue, slice_get}
use Rattle.std.specs.List.{AllZip}
use Rattle.std.specs.Option.{option_map}
use Rattle.std.proofs.lemmas.Option.{none-some}
use Rattle.std.proofs.lemmas.List.Elements.{All-weaker}
use Rattle.set_meaning.specs.declared.kinds.Kind.{Kind}
use Rattle.set_meaning.specs.declared.problems.Term.{Term}
use Rattle.set_meaning.specs.declared.problems.Term.TheVariants.{Const, Var}
use Rattle.set_meaning.specs.declared.problems.Arg.{Arg}
use Rattle.set_meaning.specs.declared.problems.Arg.TheVariants.{One, Many}
use Rattle.set_meaning.specs.declared.problems.Constraint.{Constraint}
use Rattle.set_meaning.specs.declared.problems.Shown.{Shown}
use Rattle.set_meaning.specs.declared.rows.Sort.{Sort}
use Rattle.set_meaning.specs.declared.rows.Sort.TheVariants.{Boolean}
use Rattle.set_meaning.specs.declared.rows.Shape.{Shape}
use Rattle.set_meaning.specs.declared.rows.Shape.TheVariants.{OneOf, ManyOf, ConstantOf, ConstantsOf}
use Rattle.set_meaning.specs.Problems.{IsShown}
use Rattle.set_meaning.specs.Rows.{FitsRow, HasShape, HasSort, IsTerm, row_of, shapes_of, sort_of_kind}

get_front : {A : Type 0} (xs ys : List A) (i : ℕ) (x : A) → slice_get xs i ≡ Some x → slice_get (xs ++ ys) i ≡ Some x
get_front [] ys i x e = absurd (none-some x e)
get_front (z ∷ xs) ys zero x e = e
get_front (z ∷ xs) ys (suc i) x e = get_front xs ys i x e

pub get_behind : {A : Type 0} (xs : List A) (y : A) → slice_get (xs ++ y ∷ []) (length xs) ≡ Some y
get_behind [] y = refl
get_behind (x ∷ xs) y = get_behind xs y

-- the variable behind others has the sort of its kind
pub last_has_sort : (kinds : List Kind) (k : Kind) (sort : Sort) (number : ℕ) → number ≡ length kinds → sort_of_kind k ≡ sort
    → HasSort (kinds ++ k ∷ []) sort (Var (record { 0 = number }))
last_has_sort kinds k sort number numbered same =
    subst (λ n. option_map sort_of_kind (slice_get (kinds ++ k ∷ []) n) ≡ Some sort) (sym numbered)
    (ap (λ o. option_map sort_of_kind o) (get_behind kinds k) ∙ ap Some same)

module _ (kinds more : List Kind) where
  pub sort_more : (sort : Sort) (t : Term) → HasSort kinds sort t → HasSort (kinds ++ more) sort t
  sort_more sort (Const v) h = h
  sort_more sort (Var x) h = by (slice_get kinds x.0) refl
    where
      by : (o : Option Kind) → slice_get kinds x.0 ≡ o → option_map sort_of_kind (slice_get (kinds ++ more) x.0) ≡ Some sort
      by None q = absurd (none-some sort (sym (ap (λ o. option_map sort_of_kind o) q) ∙ h))
      by (Some k) q =
          ap (λ o. option_map sort_of_kind o) (get_front kinds more x.0 k q) ∙ (sym (ap (λ o. option_map sort_of_kind o) q) ∙ h)

  pub sorts_more : (sort : Sort) (ts : List Term) → All (HasSort kinds sort) ts → All (HasSort (kinds ++ more) sort) ts
  sorts_more sort ts h = All-weaker (HasSort kinds sort) (HasSort (kinds ++ more) sort) (λ t. sort_more sort t) ts h

  pub shape_more : (shape : Shape) (a : Arg) → HasShape kinds shape a → HasShape (kinds ++ more) shape a
  shape_more (OneOf sort) (One t) h = sort_more sort t h
  shape_more (OneOf sort) (Many ts) h = h
  shape_more (ManyOf sort) (One t) h = h
  shape_more (ManyOf sort) (Many ts) h = sorts_more sort ts h
  shape_more (ConstantOf sort) (One t) h = h
  shape_more (ConstantOf sort) (Many ts) h = h
  shape_more (ConstantsOf sort) (One t) h = h
  shape_more (ConstantsOf sort) (Many ts) h = h

  shapes_more : (shapes : List Shape) (args : List Arg) → AllZip (HasShape kinds) shapes args → AllZip (HasShape (kinds ++ more)) shapes args
  shapes_more [] [] h = h
  shapes_more [] (a ∷ args) h = h
  shapes_more (s ∷ shapes) [] h = h
  shapes_more (s ∷ shapes) (a ∷ args) h = (shape_more s a h.0, shapes_more shapes args h.1)

  pub fits_more : (c : Constraint) → FitsRow kinds c → FitsRow (kinds ++ more) c
  fits_more c h = record {
    args = shapes_more (shapes_of (row_of c.relation)) c.args h.args;
    paired = h.paired;
    reif = by c.reif h.reif;
  }
    where
      by : (o : Option Term) → IfSome o (λ t. IsTrue (row_of c.relation).reifiable × HasSort kinds Boolean t)
          → IfSome o (λ t. IsTrue (row_of c.relation).reifiable × HasSort (kinds ++ more) Boolean t)
      by None k = k
      by (Some t) k = (k.0, sort_more Boolean t k.1)

  term_more : (t : Term) → IsTerm kinds t → IsTerm (kinds ++ more) t
  term_more t h = (h.0, sort_more h.0 t h.1)

  pub shown_more : (s : Shown) → IsShown kinds s → IsShown (kinds ++ more) s
  shown_more s h = record {
    terms = All-weaker (IsTerm kinds) (IsTerm (kinds ++ more)) term_more s.terms h.terms;
    dims = h.dims;
    scalar = h.scalar;
  }
