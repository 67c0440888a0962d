-- A constraint has one scope.
use Rattle.std.proofs.Common.{◌≡◌, ◌⊎◌, ◌<◌, List, [], ◌∷◌, refl, sym, ap, ◌∙◌, subst, inl, inr, arith}
use Rattle.std.specs.Prelude.{Contains}
use Rattle.std.specs.Ordering.{nat_cmp}
use Rattle.std.specs.declared.cmp.Ordering.{Ordering}
use Rattle.std.specs.declared.cmp.Ordering.TheVariants.{Less}
use Rattle.std.specs.List.Sorted.{IsStrictlySortedBy}
use Rattle.std.proofs.lemmas.Bool.Decides.{nat_tests}
use Rattle.std.proofs.lemmas.List.Elements.{All-contains, Contains-append_cases, Contains-append_left, Contains-append_right, Contains-push, Contains-push_cases}
use Rattle.std.proofs.lemmas.Map.Keys.{sorted_tail}
use Rattle.std.proofs.lemmas.Map.Views.{All-after_first}
use Rattle.set_meaning.specs.declared.problems.VarId.{VarId}
use Rattle.set_meaning.specs.declared.problems.Constraint.{Constraint}
use Rattle.set_meaning.specs.Relations.{IsScope}

contains_one : {A : Type 0} (x y : A) → Contains (x ∷ []) y → x ≡ y
contains_one x y h = elim (Contains-push_cases [] x y h) [ inl k ↦ let l = k.1 in absurd (omega arith) | inr e ↦ e ]

none_in : {A : Type 0} (y : A) → Contains [] y → ⊥
none_in y h = let l = h.1 in omega arith

abbrev compared : VarId → VarId → Ordering
compared v w = nat_cmp v.0 w.0

below : (v w : VarId) → compared v w ≡ Less → v.0 < w.0
below v w e = grind (arith, nat_tests)

-- the first of such a list is below the others
first_below : (v w : VarId) (vs : List VarId) → IsStrictlySortedBy compared (v ∷ vs) → Contains vs w → v.0 < w.0
first_below v w vs sorted h = below v w (All-contains (λ x. compared v x ≡ Less) vs w (All-after_first compared v vs sorted) h)

here : {A : Type 0} (x : A) (xs : List A) → Contains (x ∷ xs) x
here x xs = Contains-append_left (x ∷ []) xs x (Contains-push [] x)

there : {A : Type 0} (x y : A) (xs : List A) → Contains xs y → Contains (x ∷ xs) y
there x y xs h = Contains-append_right (x ∷ []) xs y h

head_or_tail : {A : Type 0} (x y : A) (xs : List A) → Contains (x ∷ xs) y → (x ≡ y) ⊎ Contains xs y
head_or_tail x y xs h = elim (Contains-append_cases (x ∷ []) xs y h) [ inl k ↦ inl (contains_one x y k) | inr k ↦ inr k ]

same_variable : (v w : VarId) → v.0 ≡ w.0 → v ≡ w
same_variable v w e = ap (λ n. record { 0 = n }) e

-- the first two are equal
same_first_variable : (v w : VarId) (vs ws : List VarId) → IsStrictlySortedBy compared (v ∷ vs) → IsStrictlySortedBy compared (w ∷ ws)
    → Contains (w ∷ ws) v → Contains (v ∷ vs) w → v ≡ w
same_first_variable v w vs ws p q h k =
    elim (head_or_tail w v ws h) [
      | inl e ↦ sym e
      | inr later ↦ elim (head_or_tail v w vs k) [
        | inl e ↦ e
        | inr other ↦ let a = first_below w v ws q later in let b = first_below v w vs p other in absurd (omega arith)
      ]
    ]

-- what is behind the first of one list is behind that of the other
behind : (v x : VarId) (vs ws : List VarId) → IsStrictlySortedBy compared (v ∷ vs) → ((x : VarId) → Contains (v ∷ vs) x → Contains (v ∷ ws) x)
    → Contains vs x → Contains ws x
behind v x vs ws p to h =
    elim (head_or_tail v x ws (to x (there v x vs h))) [
      | inl e ↦ let a = first_below v x vs p h in let same = ap (λ (y : VarId). y.0) e in absurd (omega arith)
      | inr k ↦ k
    ]

same_sorted : (vs ws : List VarId) → IsStrictlySortedBy compared vs → IsStrictlySortedBy compared ws
    → ((x : VarId) → Contains vs x → Contains ws x) → ((x : VarId) → Contains ws x → Contains vs x) → vs ≡ ws
same_sorted [] [] p q to from = refl
same_sorted [] (w ∷ ws) p q to from = absurd (none_in w (from w (here w ws)))
same_sorted (v ∷ vs) [] p q to from = absurd (none_in v (to v (here v vs)))
same_sorted (v ∷ vs) (w ∷ ws) p q to from =
    let e : v ≡ w = same_first_variable v w vs ws p q (to v (here v vs)) (from w (here w ws)) in
    let q' : IsStrictlySortedBy compared (v ∷ ws) = subst (λ x. IsStrictlySortedBy compared (x ∷ ws)) (sym e) q in
    let to' : (x : VarId) → Contains (v ∷ vs) x → Contains (v ∷ ws) x = subst (λ y. (x : VarId) → Contains (v ∷ vs) x → Contains (y ∷ ws) x) (sym e) to in
    let from' : (x : VarId) → Contains (v ∷ ws) x → Contains (v ∷ vs) x = subst (λ y. (x : VarId) → Contains (y ∷ ws) x → Contains (v ∷ vs) x) (sym e) from in
    let tails : vs ≡ ws = same_sorted vs ws (sorted_tail compared v vs p) (sorted_tail compared w ws q)
    (λ x h. behind v x vs ws p to' h) (λ x h. behind v x ws vs q' from' h) in
    ap (λ x. x ∷ vs) e ∙ ap (λ zs. w ∷ zs) tails

pub one_scope : (c : Constraint) (vs ws : List VarId) → IsScope c vs → IsScope c ws → vs ≡ ws
one_scope c vs ws a b =
    same_sorted vs ws a.ascending b.ascending
    (λ x h. (b.members x).1 ((a.members x).0 h)) (λ x h. (a.members x).1 ((b.members x).0 h))
