-- Values and their tests: equal values, initial values, and options.
use Rattle.std.proofs.Common.{◌≡◌, ℕ, zero, suc, ◌↔◌, Bool, true, false, ◌&&◌, ◌||◌, List, [], ◌∷◌, Option, Some, None, refl, sym, ap, ◌∙◌, subst, inl, inr, Contains}
use Rattle.std.specs.Prelude.{slice_get, IsSomeAnd}
use Rattle.std.specs.List.{list_any}
use Rattle.std.specs.Option.{option_map_or}
use Rattle.std.specs.Cmp.{signed_Decides}
use Rattle.std.specs.Cmp.Rules.{signed_items}
use Rattle.std.proofs.lemmas.Bool.{or_cases}
use Rattle.set_meaning.specs.declared.kinds.Kind.{Kind}
use Rattle.set_meaning.specs.declared.kinds.Kind.TheVariants as kind
use Rattle.set_meaning.specs.declared.kinds.Value.{Value}
use Rattle.set_meaning.specs.declared.kinds.Value.TheVariants as value
use Rattle.set_meaning.specs.declared.problems.VarId.{VarId}
use Rattle.set_meaning.specs.Kinds.{initial_values, InKind}
use Rattle.set_meaning.specs.Problems.{IsKind}
use Rattle.set_meaning.proofs.InitialValues.{values_of_bool, values_of_int, values_of_set}
use Rattle.bit_layout.specs.Order.{LayoutState, IsLayout}
use Rattle.bit_layout.proofs.Rising.{nothing_in_empty, in_cons, in_head, in_tail}
use Rattle.bit_layout.proofs.Finding.{legal_kind}
use Rattle.exact_steps.specs.Domains.{same_value, is_initial}

-- ---- options and truth

pub some_and : {X : Type 0} (o : Option X) (P : X → Type 0) → IsSomeAnd o P → (x : X) × (o ≡ Some x) × P x
some_and None P h = absurd h
some_and (Some x) P h = (x, refl, h)

pub some_and_from : {X : Type 0} (o : Option X) (P : X → Type 0) (x : X) → o ≡ Some x → P x → IsSomeAnd o P
some_and_from o P x e h = subst (λ o. IsSomeAnd o P) (sym e) h

pub same_some : {X : Type 0} (o : Option X) (x y : X) → o ≡ Some x → o ≡ Some y → x ≡ y
same_some o x y e f = let g : Some x ≡ Some y = sym e ∙ f in cc

pub both_are : (a b : Bool) → (a && b) ≡ true → (a ≡ true) × (b ≡ true)
both_are true b h = (refl, h)
both_are false b h = absurd (let e : false ≡ true = h in cc)

pub both_from : (a b : Bool) → a ≡ true → b ≡ true → (a && b) ≡ true
both_from true b h k = k
both_from false b h k = absurd (let e : false ≡ true = h in cc)

pub same_truth : (a b : Bool) → (a ≡ true → b ≡ true) → (b ≡ true → a ≡ true) → a ≡ b
same_truth true b f g = sym (f refl)
same_truth false true f g = g refl
same_truth false false f g = refl

pub or_left : (a b : Bool) → a ≡ true → (a || b) ≡ true
or_left true b h = refl
or_left false b h = absurd (let e : false ≡ true = h in cc)

pub or_right : (a b : Bool) → b ≡ true → (a || b) ≡ true
or_right true b h = refl
or_right false b h = h

-- ---- equal values

pub values_equal : (x y : Value) → same_value x y ≡ true → x ≡ y
values_equal (value.Bool false) (value.Bool false) h = refl
values_equal (value.Bool false) (value.Bool true) h = absurd (let e : false ≡ true = h in cc)
values_equal (value.Bool true) (value.Bool false) h = absurd (let e : false ≡ true = h in cc)
values_equal (value.Bool true) (value.Bool true) h = refl
values_equal (value.Bool false) (value.Int y) h = absurd (let e : false ≡ true = h in cc)
values_equal (value.Bool true) (value.Int y) h = absurd (let e : false ≡ true = h in cc)
values_equal (value.Bool false) (value.Set y) h = absurd (let e : false ≡ true = h in cc)
values_equal (value.Bool true) (value.Set y) h = absurd (let e : false ≡ true = h in cc)
values_equal (value.Int x) (value.Bool b) h = absurd (let e : false ≡ true = h in cc)
values_equal (value.Int x) (value.Int y) h = ap value.Int ((signed_Decides x y).0 h)
values_equal (value.Int x) (value.Set y) h = absurd (let e : false ≡ true = h in cc)
values_equal (value.Set x) (value.Bool b) h = absurd (let e : false ≡ true = h in cc)
values_equal (value.Set x) (value.Int y) h = absurd (let e : false ≡ true = h in cc)
values_equal (value.Set x) (value.Set y) h = ap value.Set ((signed_items x y).0 h)

pub equal_itself : (x : Value) → same_value x x ≡ true
equal_itself (value.Bool false) = refl
equal_itself (value.Bool true) = refl
equal_itself (value.Int x) = (signed_Decides x x).1 refl
equal_itself (value.Set x) = (signed_items x x).1 refl

pub found_in : (x : Value) (ys : List Value) → list_any (same_value x) ys ≡ true → Contains ys x
found_in x [] h = absurd (let e : false ≡ true = h in cc)
found_in x (y ∷ ys) h =
    elim (or_cases (same_value x y) (list_any (same_value x) ys) h) [
      | inl here ↦ subst (Contains (y ∷ ys)) (sym (values_equal x y here)) (in_head y ys)
      | inr later ↦ in_tail y ys x (found_in x ys later)
    ]

pub found_from : (x : Value) (ys : List Value) → Contains ys x → list_any (same_value x) ys ≡ true
found_from x [] h = absurd (nothing_in_empty x h)
found_from x (y ∷ ys) h =
    elim (in_cons y ys x h) [
      | inl here ↦ or_left (same_value x y) (list_any (same_value x) ys) (subst (λ z. same_value x z ≡ true) (sym here) (equal_itself x))
      | inr later ↦ or_right (same_value x y) (list_any (same_value x) ys) (found_from x ys later)
    ]

-- ---- initial values

pub kind_values : (k : Kind) → IsKind k → (x : Value) → InKind k x ↔ Contains (initial_values k) x
kind_values kind.Bool ok x = values_of_bool x
kind_values (kind.Int numbers) ok x = values_of_int numbers x
kind_values (kind.Set universe) ok x = values_of_set universe ok x

pub initial_kind : (l : LayoutState) (v : VarId) (x : Value) → IsLayout l → is_initial l v x ≡ true → (k : Kind) × (slice_get l.kinds v.0 ≡ Some k) × InKind k x
initial_kind l v x ok h =
    elim (slice_get l.kinds v.0) as (λ o. slice_get l.kinds v.0 ≡ o → option_map_or (λ k. list_any (same_value x) (initial_values k)) o false ≡ true → (k : Kind) × (slice_get l.kinds v.0 ≡ Some k) × InKind k x) [
      | None ↦ λ e h. absurd (let f : false ≡ true = h in cc)
      | Some k ↦ λ e h. (k, e, (kind_values k (legal_kind l v.0 k ok e) x).1 (found_in x (initial_values k) h))
    ] refl h

pub initial_from : (l : LayoutState) (v : VarId) (k : Kind) (x : Value) → IsLayout l → slice_get l.kinds v.0 ≡ Some k → InKind k x → is_initial l v x ≡ true
initial_from l v k x ok e h =
    ap (λ o. option_map_or (λ k. list_any (same_value x) (initial_values k)) o false) e ∙ found_from x (initial_values k) ((kind_values k (legal_kind l v.0 k ok e) x).0 h)

-- ---- a list that has a value at a place

copies : ℕ → Value → List Value
copies zero x = x ∷ []
copies (suc n) x = x ∷ copies n x

at_copies : (n : ℕ) (x : Value) → slice_get (copies n x) n ≡ Some x
unfolding copies
at_copies zero x = refl
at_copies (suc n) x = at_copies n x

pub some_list : (n : ℕ) (x : Value) → (values : List Value) × (slice_get values n ≡ Some x)
some_list n x = (copies n x, at_copies n x)
