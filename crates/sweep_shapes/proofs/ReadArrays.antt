-- What it says that all, or some, of an array of Booleans are true, as a clause.
use Rattle.std.proofs.Common.{◌≡◌, ◌↔◌, ◌⊎◌, ℕ, zero, suc, ◌<◌, Bool, true, false, not, List, [], ◌∷◌, length, get_or, Some, IsTrue, IsFalse, refl, sym, ap, ◌∙◌, subst, inl, inr, arith}
use Rattle.std.specs.Prelude.{All, Any}
use Rattle.std.proofs.lemmas.List.Elements.{All-head, All-tail, All-nil, All-cons}
use Rattle.std.specs.List.{AllZip, filter_map, flat_map}
use Rattle.std.proofs.Common.{Contains, append-nil, ◌++◌}
use Rattle.std.proofs.lemmas.List.Elements.{Contains-append_left}
use Rattle.set_meaning.specs.declared.kinds.Kind.{Kind}
use Rattle.set_meaning.specs.declared.kinds.Value.TheVariants as value
use Rattle.set_meaning.specs.declared.problems.VarId.{VarId}
use Rattle.set_meaning.specs.declared.problems.Term.{Term}
use Rattle.set_meaning.specs.declared.problems.Term.TheVariants.{Const, Var}
use Rattle.set_meaning.specs.declared.problems.Arg.TheVariants.{One, Many}
use Rattle.set_meaning.specs.declared.problems.Relation.TheVariants.{BoolClause, ArrayBoolAnd, ArrayBoolOr}
use Rattle.set_meaning.specs.declared.problems.Constraint.{Constraint}
use Rattle.set_meaning.specs.declared.rows.Sort.TheVariants.{Boolean}
use Rattle.set_meaning.specs.declared.rows.Shape.{Shape}
use Rattle.set_meaning.specs.declared.rows.Shape.TheVariants.{OneOf, ManyOf}
use Rattle.set_meaning.specs.Rows.{HasSort, HasShape, shapes_of, row_of, FitsRow}
use Rattle.set_meaning.specs.Arguments.{bool_in, bool_of_term, OfTwo}
use Rattle.set_meaning.specs.Relations.{HoldsOf, IsScope, terms_of, variable_of}
use Rattle.set_meaning.specs.Booleans.{IsClause}
use Rattle.sweep_sets.specs.Shapes.{HasTruth}
use Rattle.sweep_shapes.specs.Slots.{AsksFor, IsReading}
use Rattle.sweep_shapes.specs.Readings.{IsArrayTruth, clause_of}
use Rattle.sweep_shapes.proofs.SetKinds.{args_in_variables, asked_holds}
use Rattle.sweep_shapes.proofs.Standing.{variable_term, term_variable}
use Rattle.sweep_shapes.proofs.ReadElements.{each_some, terms_there, read_of_bool}

any_later : (P : Bool → Type 0) (b : Bool) (bs : List Bool) → Any P bs → Any P (b ∷ bs)
any_later P b bs h = let within : h.0 < length bs = h.2 in (suc h.0, h.1, omega (arith, within), h.3, h.4)

any_here : (P : Bool → Type 0) (b : Bool) (bs : List Bool) → P b → Any P (b ∷ bs)
any_here P b bs p = (0, b, omega arith, refl, p)

no_any : (P : Bool → Type 0) → Any P [] → ⊥
no_any P h = let none : h.0 < 0 = h.2 in omega (arith, none)

any_cases : (P : Bool → Type 0) (b : Bool) (bs : List Bool) → Any P (b ∷ bs) → P b ⊎ Any P bs
any_cases P b bs h = at h.0 h.1 h.2 h.3 h.4
  where
    at : (k : ℕ) (x : Bool) → k < length (b ∷ bs) → get_or (b ∷ bs) k x ≡ x → P x → P b ⊎ Any P bs
    at zero x within e p = inl (subst P (sym e) p)
    at (suc k) x within e p = inr (k, x, omega (arith, within), e, p)

-- all are true, or some is false
all_or_some : (bs : List Bool) → All IsTrue bs ⊎ Any IsFalse bs
all_or_some [] = inl (All-nil IsTrue)
all_or_some (true ∷ bs) = elim (all_or_some bs) [ inl h ↦ inl (All-cons IsTrue true bs refl h) | inr h ↦ inr (any_later IsFalse true bs h) ]
all_or_some (false ∷ bs) = inr (any_here IsFalse false bs refl)

not_both : (bs : List Bool) → All IsTrue bs → Any IsFalse bs → ⊥
not_both [] h k = no_any IsFalse k
not_both (b ∷ bs) h k = elim (any_cases IsFalse b bs k) [
  | inl here ↦ let clash : false ≡ true = sym here ∙ All-head IsTrue b bs h in absurd (cc)
  | inr later ↦ not_both bs (All-tail IsTrue b bs h) later
]

-- some is true, or none is
any_or_none : (bs : List Bool) → Any IsTrue bs ⊎ (Any IsTrue bs → ⊥)
any_or_none [] = inr (no_any IsTrue)
any_or_none (true ∷ bs) = inl (any_here IsTrue true bs refl)
any_or_none (false ∷ bs) = elim (any_or_none bs) [
  | inl h ↦ inl (any_later IsTrue false bs h)
  | inr h ↦ inr (λ k. elim (any_cases IsTrue false bs k) [ inl here ↦ absurd (cc) | inr later ↦ h later ])
]

untrue : IsTrue false → ⊥
untrue h = let clash : false ≡ true = h in cc

-- that all are true has the truth value b, where "some is false" has the other
pub all_as_clause : (b : Bool) (bs : List Bool) → HasTruth (not b) (IsClause [] bs) ↔ (IsTrue b ↔ All IsTrue bs)
all_as_clause true bs = (
  λ h. (λ _. elim (all_or_some bs) [ inl all ↦ all | inr some ↦ absurd (h (inr some)) ], λ _. refl),
  λ h k. elim k [ inl none ↦ no_any IsTrue none | inr some ↦ not_both bs (h.0 refl) some ],
)
all_as_clause false bs = (
  λ h. (λ no_more. absurd (untrue no_more), λ all. absurd (elim h [ inl none ↦ no_any IsTrue none | inr some ↦ not_both bs all some ])),
  λ h. elim (all_or_some bs) [ inl all ↦ absurd (untrue (h.1 all)) | inr some ↦ inr some ],
)

-- that some is true has the truth value b, where the clause of them has it
pub some_as_clause : (b : Bool) (bs : List Bool) → HasTruth b (IsClause bs []) ↔ (IsTrue b ↔ Any IsTrue bs)
some_as_clause true bs = (
  λ h. (λ _. elim h [ inl some ↦ some | inr none ↦ absurd (no_any IsFalse none) ], λ _. refl),
  λ h. inl (h.0 refl),
)
some_as_clause false bs = (
  λ h. (λ no_more. absurd (untrue no_more), λ some. absurd (h (inl some))),
  λ h k. elim k [ inl some ↦ untrue (h.1 some) | inr none ↦ no_any IsFalse none ],
)

-- ---- the readings

items_sort : (kinds : List Kind) (c : Constraint) (items : List Term) (b : Bool) (shape : Shape) → FitsRow kinds c → shapes_of (row_of c.relation) ≡ ManyOf Boolean ∷ shape ∷ [] → IsArrayTruth c items b
    → All (HasSort kinds Boolean) items
items_sort kinds c items b shape fits row at =
    let shaped : AllZip (HasShape kinds) (ManyOf Boolean ∷ shape ∷ []) (Many items ∷ One (Const (value.Bool b)) ∷ []) =
    subst (AllZip (HasShape kinds) (ManyOf Boolean ∷ shape ∷ [])) at (subst (λ shapes. AllZip (HasShape kinds) shapes c.args) row fits.args) in
    shaped.0

item_among : (c : Constraint) (variables : List VarId) (items : List Term) (b : Bool) (v : VarId) → IsScope c variables → AsksFor true c.reif → IsArrayTruth c items b
    → Contains (filter_map variable_of (items ++ [])) v → Contains variables v
item_among c variables items b v scope asks at h =
    let among : Contains items (Var v) = subst (λ ts. Contains ts (Var v)) (append-nil items) (variable_term (items ++ []) v h) in
    let there : Contains (flat_map terms_of c.args) (Var v) = subst (λ args. Contains (flat_map terms_of args) (Var v)) (sym at) (Contains-append_left items (Const (value.Bool b) ∷ []) (Var v) among) in
    (scope.members v).1 (args_in_variables c true v asks (term_variable (flat_map terms_of c.args) v there))

pub read_all : (kinds : List Kind) (c read : Constraint) (variables : List VarId) (items : List Term) (b : Bool) → c.relation ≡ ArrayBoolAnd → FitsRow kinds c → IsScope c variables → AsksFor true c.reif
    → IsArrayTruth c items b → read ≡ clause_of [] items → IsReading kinds c variables read (not b)
unfolding HoldsOf
read_all kinds c read variables items b is fits scope asks at put = subst (λ r. IsReading kinds c variables r (not b)) (sym put) (record {
  fits = record { args = (All-nil (HasSort kinds Boolean), (sorts, tt)); paired = λ asked. absurd (untrue asked); reif = tt };
  among = λ v h. item_among c variables items b v scope asks at h;
  same = λ values legal.
      let each = each_some (bool_of_term values) items (terms_there Boolean bool_in read_of_bool kinds values legal items sorts) in
      let holds = asked_holds c true values asks in
      let whole : HoldsOf c.relation c.args values ≡ (IsTrue b ↔ All IsTrue each.0) =
      ap (λ r. HoldsOf r c.args values) is ∙ ap (λ args. HoldsOf ArrayBoolAnd args values) at ∙ ap (λ o. OfTwo (λ xs y. IsTrue y ↔ All IsTrue xs) o (Some b)) each.1 in
      let other : HoldsOf BoolClause (Many [] ∷ Many items ∷ []) values ≡ IsClause [] each.0 = ap (λ o. OfTwo IsClause (Some []) o) each.1 in
      let both = all_as_clause b each.0 in (
        λ h. holds.0 (subst (λ (T : Type 0). T) (sym whole) (both.0 (subst (λ (T : Type 0). HasTruth (not b) T) other h))),
        λ h. subst (λ (T : Type 0). HasTruth (not b) T) (sym other) (both.1 (subst (λ (T : Type 0). T) whole (holds.1 h))),
      );
})
  where
    sorts : All (HasSort kinds Boolean) items
    sorts = items_sort kinds c items b (OneOf Boolean) fits (ap (λ r. shapes_of (row_of r)) is) at

pub read_some : (kinds : List Kind) (c read : Constraint) (variables : List VarId) (items : List Term) (b : Bool) → c.relation ≡ ArrayBoolOr → FitsRow kinds c → IsScope c variables → AsksFor true c.reif
    → IsArrayTruth c items b → read ≡ clause_of items [] → IsReading kinds c variables read b
unfolding HoldsOf
read_some kinds c read variables items b is fits scope asks at put = subst (λ r. IsReading kinds c variables r b) (sym put) (record {
  fits = record { args = (sorts, (All-nil (HasSort kinds Boolean), tt)); paired = λ asked. absurd (untrue asked); reif = tt };
  among = λ v h. item_among c variables items b v scope asks at h;
  same = λ values legal.
      let each = each_some (bool_of_term values) items (terms_there Boolean bool_in read_of_bool kinds values legal items sorts) in
      let holds = asked_holds c true values asks in
      let whole : HoldsOf c.relation c.args values ≡ (IsTrue b ↔ Any IsTrue each.0) =
      ap (λ r. HoldsOf r c.args values) is ∙ ap (λ args. HoldsOf ArrayBoolOr args values) at ∙ ap (λ o. OfTwo (λ xs y. IsTrue y ↔ Any IsTrue xs) o (Some b)) each.1 in
      let other : HoldsOf BoolClause (Many items ∷ Many [] ∷ []) values ≡ IsClause each.0 [] = ap (λ o. OfTwo IsClause o (Some [])) each.1 in
      let both = some_as_clause b each.0 in (
        λ h. holds.0 (subst (λ (T : Type 0). T) (sym whole) (both.0 (subst (λ (T : Type 0). HasTruth b T) other h))),
        λ h. subst (λ (T : Type 0). HasTruth b T) (sym other) (both.1 (subst (λ (T : Type 0). T) whole (holds.1 h))),
      );
})
  where
    sorts : All (HasSort kinds Boolean) items
    sorts = items_sort kinds c items b (OneOf Boolean) fits (ap (λ r. shapes_of (row_of r)) is) at
