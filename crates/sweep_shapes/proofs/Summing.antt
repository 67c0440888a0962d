-- Numbers of the variables' values that give a sum a total as asked, and values in the sides that satisfy the constraint.
use Rattle.std.proofs.Common.{◌≡◌, ◌↔◌, ℕ, ◌<◌, Bool, true, false, ℤ, pos, ◌+ℤ◌, List, [], ◌∷◌, length, map, set, Contains, Option, Some, None, refl, sym, ap, ◌∙◌, subst, inl, inr}
use Rattle.std.specs.Prelude.{slice_get, IsSomeAnd, All}
use Rattle.std.specs.Option.{option_map_or}
use Rattle.std.specs.List.{AllZip}
use Rattle.std.specs.Ordering.{nat_cmp}
use Rattle.std.specs.List.Sorted.{IsStrictlySortedBy}
use Rattle.std.specs.declared.cmp.Ordering.TheVariants.{Less}
use Rattle.std.proofs.lemmas.List.Elements.{All-contains, All-weaker, All-from_recursion}
use Rattle.std.proofs.lemmas.Map.Keys.{sorted_head, sorted_tail}
use Rattle.set_meaning.specs.declared.kinds.Kind.{Kind}
use Rattle.set_meaning.specs.declared.kinds.Value.{Value}
use Rattle.set_meaning.specs.declared.problems.VarId.{VarId}
use Rattle.set_meaning.specs.declared.problems.Constraint.{Constraint}
use Rattle.set_meaning.specs.Kinds.{InKind, IsAssignment}
use Rattle.set_meaning.specs.Problems.{IsKind}
use Rattle.set_meaning.specs.Rows.{FitsRow}
use Rattle.set_meaning.specs.LinearSums.{sum_of_products}
use Rattle.set_meaning.specs.Relations.{HoldsOf, Holds, IsScope}
use Rattle.bit_layout.proofs.Rising.{nothing_in_empty, in_cons, in_head, in_tail}
use Rattle.bit_layout.proofs.Listing.{all_zip_long}
use Rattle.log_rules.specs.declared.nodes.Node.{Node}
use Rattle.log_rules.specs.Boxes.{Sides, IsWithin as IsInBox, SomeSatisfy}
use Rattle.log_rules.specs.Rules.{StandsIn}
use Rattle.log_rules.proofs.Inside.{is_initial, value_there}
use Rattle.sweep_sums.specs.declared.forms.LinearTerm.{LinearTerm}
use Rattle.sweep_sums.specs.declared.forms.LinearSum.{LinearSum}
use Rattle.sweep_sums.specs.Forms.{number_of, number_at, linear_sum, Compares, SumHolds, variables_in, HaveValues, IsSumOf}
use Rattle.sweep_sums.specs.Weights.{weights_of, numbers_at}
use Rattle.sweep_sums.specs.Reaching.{HasTruth, IsWanted, ArePicked, SomeFit}
use Rattle.sweep_shapes.specs.Trials.{IsAllowed}
use Rattle.sweep_shapes.specs.Slots.{IsReading}
use Rattle.sweep_shapes.specs.Numbers.{IsNumberWithin, AreNumbersWithin}
use Rattle.sweep_shapes.proofs.Lists.{at_put, beside_put, length_put, same_or_other}
use Rattle.sweep_shapes.proofs.Opening.{Beside, IsWithin, not_less}
use Rattle.sweep_shapes.proofs.Satisfying.{within_legal, within_satisfies}
use Rattle.sweep_shapes.proofs.SetGlue.{first_exists}
use Rattle.sweep_shapes.proofs.Known.{variable_known}

-- ---- lists of numbers

number_there : (values : List Value) (x : Value) → Contains values x → Contains (map number_of values) (number_of x)
number_there [] x h = absurd (nothing_in_empty x h)
number_there (y ∷ ys) x h = elim (in_cons y ys x h) [
  | inl e ↦ subst (λ z. Contains (number_of y ∷ map number_of ys) (number_of z)) e (in_head (number_of y) (map number_of ys))
  | inr later ↦ in_tail (number_of y) (map number_of ys) (number_of x) (number_there ys x later)
]

value_of_number : (values : List Value) (n : ℤ) → Contains (map number_of values) n → (x : Value) × Contains values x × (number_of x ≡ n)
value_of_number [] n h = absurd (nothing_in_empty n h)
value_of_number (y ∷ ys) n h = elim (in_cons (number_of y) (map number_of ys) n h) [
  | inl e ↦ (y, in_head y ys, e)
  | inr later ↦ let r = value_of_number ys n later in (r.0, in_tail y ys r.0 r.1, r.2)
]

pub numbers_are : (kinds : List Kind) (table : List Node) (sides : Sides) (v : VarId) (values given : List Value) (numbers made : List ℤ) → ((x : Value) → Contains values x ↔ IsAllowed kinds table sides v.0 x)
    → given ≡ values → numbers ≡ map number_of given → made ≡ numbers → AreNumbersWithin kinds table sides v made
numbers_are kinds table sides v values given numbers made are lent is same n =
    let all : made ≡ map number_of values = same ∙ is ∙ ap (map number_of) lent in (
      λ h. let r = value_of_number values n (subst (λ ns. Contains ns n) all h) in (r.0, (are r.0).0 r.1, r.2),
      λ h. subst (λ ns. Contains ns n) (sym all) (subst (Contains (map number_of values)) h.2 (number_there values h.0 ((are h.0).1 h.1))),
    )

-- ---- values that have given numbers

-- allowed values of the variables, with these numbers
record HaveNumbers (kinds : List Kind) (table : List Node) (sides : Sides) (variables : List VarId) (numbers : List ℤ) : Type 0 where
  values : List Value
  allowed : AllZip (λ v x. IsAllowed kinds table sides v.0 x) variables values
  are : map number_of values ≡ numbers

values_of : (kinds : List Kind) (table : List Node) (sides : Sides) (variables : List VarId) (lists : List (List ℤ)) (numbers : List ℤ) → AllZip (AreNumbersWithin kinds table sides) variables lists
    → ArePicked lists numbers → HaveNumbers kinds table sides variables numbers
values_of kinds table sides [] [] [] are picked = record { values = []; allowed = tt; are = refl }
values_of kinds table sides [] [] (n ∷ ns) are picked = absurd picked
values_of kinds table sides [] (l ∷ ls) ns are picked = absurd are
values_of kinds table sides (v ∷ vs) [] ns are picked = absurd are
values_of kinds table sides (v ∷ vs) (l ∷ ls) [] are picked = absurd picked
values_of kinds table sides (v ∷ vs) (l ∷ ls) (n ∷ ns) are picked =
    let x = (are.0 n).0 picked.0 in
    let rest = values_of kinds table sides vs ls ns are.1 picked.1 in
    record { values = x.0 ∷ rest.values; allowed = (x.1, rest.allowed); are = ap (λ m. m ∷ map number_of rest.values) x.2 ∙ ap (λ ms. n ∷ ms) rest.are }

-- ---- values put in the places of the variables

abbrev placed : List Value → List VarId → List Value → List Value
placed base (v ∷ vs) (x ∷ xs) = set (placed base vs xs) v.0 x
placed base _ _ = base

length_placed : (base : List Value) (vs : List VarId) (xs : List Value) → length (placed base vs xs) ≡ length base
length_placed base [] [] = refl
length_placed base [] (x ∷ xs) = refl
length_placed base (v ∷ vs) [] = refl
length_placed base (v ∷ vs) (x ∷ xs) = length_put (placed base vs xs) v.0 x ∙ length_placed base vs xs

placed_beside : (base : List Value) (vs : List VarId) (xs : List Value) (k : ℕ) → Beside vs k → slice_get (placed base vs xs) k ≡ slice_get base k
placed_beside base [] [] k beside = refl
placed_beside base [] (x ∷ xs) k beside = refl
placed_beside base (v ∷ vs) [] k beside = refl
placed_beside base (v ∷ vs) (x ∷ xs) k beside = beside_put (placed base vs xs) v.0 k x (λ e. beside v (in_head v vs) e) ∙ placed_beside base vs xs k (λ u h e. beside u (in_tail v vs u h) e)

placed_inside : (P : ℕ → Value → Type 0) (base : List Value) (vs : List VarId) (xs : List Value) → ((u : VarId) → Contains vs u → u.0 < length base) → AllZip (λ v x. P v.0 x) vs xs
    → (u : VarId) → Contains vs u → IsSomeAnd (slice_get (placed base vs xs) u.0) (P u.0)
placed_inside P base [] xs known all u h = absurd (nothing_in_empty u h)
placed_inside P base (v ∷ vs) [] known all u h = absurd all
placed_inside P base (v ∷ vs) (x ∷ xs) known all u h = elim (same_or_other v.0 u.0) [
  | inl e ↦
      let within : v.0 < length (placed base vs xs) = subst (λ n. v.0 < n) (sym (length_placed base vs xs)) (known v (in_head v vs)) in
      let at : slice_get (set (placed base vs xs) v.0 x) v.0 ≡ Some x = at_put (placed base vs xs) v.0 x within in
      subst (λ k. IsSomeAnd (slice_get (set (placed base vs xs) v.0 x) k) (P k)) e (subst (λ o. IsSomeAnd o (P v.0)) (sym at) all.0)
  | inr other ↦ elim (in_cons v vs u h) [
    | inl same ↦ absurd (other (ap (λ (w : VarId). w.0) same))
    | inr later ↦ subst (λ o. IsSomeAnd o (P u.0)) (sym (beside_put (placed base vs xs) v.0 u.0 x other))
        (placed_inside P base vs xs (λ w k. known w (in_tail v vs w k)) all.1 u later)
  ]
]

numbers_beside : (values : List Value) (v : ℕ) (x : Value) (vs : List VarId) → ((u : VarId) → Contains vs u → v ≡ u.0 → ⊥) → numbers_at (set values v x) vs ≡ numbers_at values vs
numbers_beside values v x [] apart = refl
numbers_beside values v x (u ∷ us) apart =
    ap (λ o. option_map_or number_of o (pos 0) ∷ numbers_at (set values v x) us) (beside_put values v u.0 x (apart u (in_head u us)))
    ∙ ap (λ ns. number_at values u ∷ ns) (numbers_beside values v x us (λ w h. apart w (in_tail u us w h)))

apart_from : (v : VarId) (vs : List VarId) → IsStrictlySortedBy (λ u w. nat_cmp u.0 w.0) (v ∷ vs) → (u : VarId) → Contains vs u → v.0 ≡ u.0 → ⊥
apart_from v vs up u h e =
    let all = All-from_recursion (λ (w : VarId). nat_cmp v.0 w.0 ≡ Less) vs (sorted_head (λ (u w : VarId). nat_cmp u.0 w.0) v vs up) in
    not_less v.0 u.0 e (All-contains (λ (w : VarId). nat_cmp v.0 w.0 ≡ Less) vs u all h)

placed_numbers : (P : ℕ → Value → Type 0) (base : List Value) (vs : List VarId) (xs : List Value) → IsStrictlySortedBy (λ u w. nat_cmp u.0 w.0) vs → ((u : VarId) → Contains vs u → u.0 < length base)
    → AllZip (λ v x. P v.0 x) vs xs → numbers_at (placed base vs xs) vs ≡ map number_of xs
placed_numbers P base [] [] up known all = refl
placed_numbers P base [] (x ∷ xs) up known all = absurd all
placed_numbers P base (v ∷ vs) [] up known all = absurd all
placed_numbers P base (v ∷ vs) (x ∷ xs) up known all =
    let within : v.0 < length (placed base vs xs) = subst (λ n. v.0 < n) (sym (length_placed base vs xs)) (known v (in_head v vs)) in
    ap (λ o. option_map_or number_of o (pos 0) ∷ numbers_at (set (placed base vs xs) v.0 x) vs) (at_put (placed base vs xs) v.0 x within)
    ∙ ap (λ ns. number_of x ∷ ns) (numbers_beside (placed base vs xs) v.0 x vs (apart_from v vs up)
    ∙ placed_numbers P base vs xs (sorted_tail (λ (u w : VarId). nat_cmp u.0 w.0) v vs up) (λ u h. known u (in_tail v vs u h)) all.1)

-- ---- what the constraint says of numbers

-- what is known of a constraint that is one linear sum
pub record SumTask (kinds : List Kind) (c read : Constraint) (variables : List VarId) (truth : Bool) (s : LinearSum) : Type 0 where
  pub weighted : (terms : List LinearTerm) (variables : List VarId) (values : List Value) → IsStrictlySortedBy (λ v w. nat_cmp v.0 w.0) variables → All (λ t. Contains variables t.variable) terms
      → sum_of_products (weights_of terms variables) (numbers_at values variables) ≡ linear_sum terms values
  pub fits : FitsRow kinds c
  pub reading : IsReading kinds c variables read truth
  pub scope : IsScope c variables
  pub sum : IsSumOf kinds read.relation read.args s

-- a fact that holds just where another does has the truth values that this has
like_truth : (truth : Bool) (P Q : Type 0) → P ↔ Q → HasTruth truth P → HasTruth truth Q
like_truth true P Q both h = both.0 h
like_truth false P Q both h = λ q. h (both.1 q)

have_values : (kinds : List Kind) (c read : Constraint) (variables : List VarId) (truth : Bool) (s : LinearSum) (values : List Value) → SumTask kinds c read variables truth s → IsAssignment kinds values
    → HaveValues kinds (variables_in read.args) values
have_values kinds c read variables truth s values task legal v h =
    let known : v.0 < length kinds = variable_known kinds c v task.fits ((task.scope.members v).0 (task.reading.among v h)) in
    let x = value_there kinds values legal v.0 known in
    subst (λ o. IsSomeAnd o (λ y. IsSomeAnd (slice_get kinds v.0) (λ k. InKind k y))) (sym x.1) (is_initial kinds values legal v.0 x.0 x.1)

told_by_numbers : (kinds : List Kind) (c read : Constraint) (variables : List VarId) (truth : Bool) (s : LinearSum) → SumTask kinds c read variables truth s → (values : List Value) → IsAssignment kinds values
    → IsWanted s truth (s.constant +ℤ sum_of_products (weights_of s.terms variables) (numbers_at values variables)) ↔ Holds c values
told_by_numbers kinds c read variables truth s task values legal =
    let there : All (λ t. Contains variables t.variable) s.terms = All-weaker (λ t. Contains (variables_in read.args) t.variable) (λ t. Contains variables t.variable)
    (λ t h. task.reading.among t.variable h) s.terms task.sum.variables in
    let same = task.weighted s.terms variables values task.scope.ascending there in
    let is = task.sum.meaning values (have_values kinds c read variables truth s values task legal) in
    let holds = task.reading.same values legal in (
      λ h. holds.0 (like_truth truth (SumHolds values s) (HoldsOf read.relation read.args values) (is.1, is.0) (subst (λ n. HasTruth truth (Compares s.comparison (s.constant +ℤ n))) same h)),
      λ h. subst (λ n. HasTruth truth (Compares s.comparison (s.constant +ℤ n))) (sym same) (like_truth truth (HoldsOf read.relation read.args values) (SumHolds values s) is (holds.1 h)),
    )

-- ---- both ways

fit_satisfies : (kinds : List Kind) (table : List Node) (sides : Sides) (c read : Constraint) (variables : List VarId) (truth : Bool) (s : LinearSum) (lists : List (List ℤ)) → All IsKind kinds
    → All (λ side. StandsIn c side.0) sides → SumTask kinds c read variables truth s → AllZip (AreNumbersWithin kinds table sides) variables lists → SomeFit s truth variables lists → SomeSatisfy kinds table sides c
fit_satisfies kinds table sides c read variables truth s lists legal named task are fit =
    within_satisfies kinds table sides c base variables (placed base variables have.values) (first_exists kinds legal).1 task.scope named within
    ((told_by_numbers kinds c read variables truth s task (placed base variables have.values) assignment).0 holds)
  where
    base : List Value
    base = (first_exists kinds legal).0

    have : HaveNumbers kinds table sides variables fit.numbers
    have = values_of kinds table sides variables lists fit.numbers are fit.picked

    known : (u : VarId) → Contains variables u → u.0 < length base
    known u h = subst (λ n. u.0 < n) (all_zip_long InKind kinds base (first_exists kinds legal).1) (variable_known kinds c u task.fits ((task.scope.members u).0 h))

    within : IsWithin (IsAllowed kinds table sides) base variables (placed base variables have.values)
    within = record {
      long = length_placed base variables have.values;
      inside = placed_inside (IsAllowed kinds table sides) base variables have.values known have.allowed;
      others = λ k beside. placed_beside base variables have.values k beside;
    }

    assignment : IsAssignment kinds (placed base variables have.values)
    assignment = within_legal kinds table sides base variables (placed base variables have.values) (first_exists kinds legal).1 within

    numbers : numbers_at (placed base variables have.values) variables ≡ fit.numbers
    numbers = placed_numbers (IsAllowed kinds table sides) base variables have.values task.scope.ascending known have.allowed ∙ have.are

    only : fit.sum ≡ s.constant
    only = by fit.among
      where
        by : Contains (s.constant ∷ []) fit.sum → fit.sum ≡ s.constant
        by h = elim (in_cons s.constant [] fit.sum h) [ inl e ↦ sym e | inr later ↦ absurd (nothing_in_empty fit.sum later) ]

    holds : IsWanted s truth (s.constant +ℤ sum_of_products (weights_of s.terms variables) (numbers_at (placed base variables have.values) variables))
    holds = subst (λ ns. IsWanted s truth (s.constant +ℤ sum_of_products (weights_of s.terms variables) ns)) (sym numbers)
        (subst (λ n. IsWanted s truth (n +ℤ sum_of_products (weights_of s.terms variables) fit.numbers)) only fit.holds)

picked_at : (kinds : List Kind) (table : List Node) (sides : Sides) (values : List Value) (variables : List VarId) (lists : List (List ℤ)) → ((u : VarId) → Contains variables u → IsSomeAnd (slice_get values u.0) (IsAllowed kinds table sides u.0))
    → AllZip (AreNumbersWithin kinds table sides) variables lists → ArePicked lists (numbers_at values variables)
picked_at kinds table sides values [] [] inside are = tt
picked_at kinds table sides values [] (l ∷ ls) inside are = absurd are
picked_at kinds table sides values (v ∷ vs) [] inside are = absurd are
picked_at kinds table sides values (v ∷ vs) (l ∷ ls) inside are =
    ((are.0 (number_at values v)).1 (by (slice_get values v.0) (inside v (in_head v vs))), picked_at kinds table sides values vs ls (λ u h. inside u (in_tail v vs u h)) are.1)
  where
    by : (o : Option Value) → IsSomeAnd o (IsAllowed kinds table sides v.0) → IsNumberWithin kinds table sides v (option_map_or number_of o (pos 0))
    by None h = absurd h
    by (Some x) h = (x, h, refl)

satisfies_fit : (kinds : List Kind) (table : List Node) (sides : Sides) (c read : Constraint) (variables : List VarId) (truth : Bool) (s : LinearSum) (lists : List (List ℤ)) → SumTask kinds c read variables truth s
    → AllZip (AreNumbersWithin kinds table sides) variables lists → SomeSatisfy kinds table sides c → SomeFit s truth variables lists
unfolding IsInBox
satisfies_fit kinds table sides c read variables truth s lists task are some = record {
  sum = s.constant;
  among = in_head s.constant [];
  numbers = numbers_at some.values variables;
  picked = picked_at kinds table sides some.values variables lists (λ u h.
      let known : u.0 < length kinds = variable_known kinds c u task.fits ((task.scope.members u).0 h) in
      let x = value_there kinds some.values some.assignment u.0 known in
      subst (λ o. IsSomeAnd o (IsAllowed kinds table sides u.0)) (sym x.1) (is_initial kinds some.values some.assignment u.0 x.0 x.1, some.inside u.0 x.0 x.1)) are;
  holds = (told_by_numbers kinds c read variables truth s task some.values some.assignment).1 some.holds;
}

pub fit_is_satisfied : (kinds : List Kind) (table : List Node) (sides : Sides) (c read : Constraint) (variables : List VarId) (truth : Bool) (s : LinearSum) (lists given : List (List ℤ)) → All IsKind kinds
    → All (λ side. StandsIn c side.0) sides → SumTask kinds c read variables truth s → AllZip (AreNumbersWithin kinds table sides) variables lists → given ≡ lists
    → (P : Type 0) → P ↔ SomeFit s truth variables given → P ↔ SomeSatisfy kinds table sides c
fit_is_satisfied kinds table sides c read variables truth s lists given legal named task are lent P answer =
    let moved = subst (λ ls. P ↔ SomeFit s truth variables ls) lent answer in
    (λ p. fit_satisfies kinds table sides c read variables truth s lists legal named task are (moved.0 p), λ h. moved.1 (satisfies_fit kinds table sides c read variables truth s lists task are h))
