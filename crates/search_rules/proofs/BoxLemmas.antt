-- What lies in a resolvent, and what the box step means.
use Rattle.std.proofs.Common.{◌≡◌, ◌≢◌, ℕ, eqb, Bool, true, false, not, ◌&&◌, ◌||◌, ◌⊎◌, refl, sym, ap, ◌∙◌, subst, inl, inr}
use Rattle.std.proofs.lemmas.Bool.{eq-eqb, ne_eqb, cases_eq, cond-true, cond-false, and_parts, and_from, or_cases, both_ways, not-true}
use Rattle.search_rules.specs.Family.{Leaves, HasValue, IsWithin, assign, without}
use Rattle.search_rules.specs.Box.{resolvent, BoxStep, Empty, Narrowed, Same, IsBoxStep, Escapes, IsStepOutside}
use Rattle.search_rules.proofs.FamilyLemmas.{assign_each, assign-same, assign-other}

pub resolvent-at : {X : Type 0} (b c : ℕ → X → Bool) (v : ℕ) (x : X) → resolvent b c v v x ≡ (b v x || c v x)
resolvent-at b c v x = cond-true (eqb v v) (b v x || c v x) (b v x && c v x) (eq-eqb v v refl)

pub resolvent-else : {X : Type 0} (b c : ℕ → X → Bool) (v u : ℕ) (x : X) → u ≢ v → resolvent b c v u x ≡ (b u x && c u x)
resolvent-else b c v u x ne = cond-false (eqb u v) (b u x || c u x) (b u x && c u x) (ne_eqb u v ne)

pub resolvent_sides : {X : Type 0} (b c : ℕ → X → Bool) (v : ℕ) (a : ℕ → X) → IsWithin (resolvent b c v) a → (u : ℕ) → u ≢ v
    → (b u (a u) ≡ true) × (c u (a u) ≡ true)
resolvent_sides b c v a within u ne = and_parts (b u (a u)) (c u (a u)) (sym (resolvent-else b c v u (a u) ne) ∙ within u)

-- in a box where its value of `v` is in the side, and so are the others
pub within_by : {X : Type 0} (b : ℕ → X → Bool) (v : ℕ) (a : ℕ → X) → b v (a v) ≡ true
    → ((u : ℕ) → u ≢ v → b u (a u) ≡ true) → IsWithin b a
within_by b v a here others u = elim (cases_eq u v) [
  | inl same ↦ subst (λ w. b w (a w) ≡ true) (sym same) here
  | inr apart ↦ others u apart
]

pub resolvent_lies : {X : Type 0} (b c : ℕ → X → Bool) (v : ℕ) (a : ℕ → X) → IsWithin (resolvent b c v) a
    → IsWithin b a ⊎ IsWithin c a
resolvent_lies b c v a within =
    elim (or_cases (b v (a v)) (c v (a v)) (sym (resolvent-at b c v (a v)) ∙ within v)) [
      | inl in_b ↦ inl (within_by b v a in_b (λ u ne. (resolvent_sides b c v a within u ne).0))
      | inr in_c ↦ inr (within_by c v a in_c (λ u ne. (resolvent_sides b c v a within u ne).1))
    ]

-- a value extends outside the box where it is outside its own side
pub escapes_here : {X : Type 0} (b f : ℕ → X → Bool) (a : ℕ → X) (v : ℕ) (x : X) → IsWithin f a → f v x ≡ true → b v x ≡ false
    → Escapes b f v x
escapes_here b f a v x within has out = record {
  values = assign a v x;
  at = assign-same a v x;
  inside = assign_each a v x (λ u y. f u y ≡ true) has (λ u ne. within u);
  out = (v, ap (b v) (assign-same a v x) ∙ out);
}

-- and where the set of another variable is outside that variable's side
pub escapes_there : {X : Type 0} (b f : ℕ → X → Bool) (a : ℕ → X) (v : ℕ) (x : X) (u : ℕ) → IsWithin f a → f v x ≡ true → u ≢ v
    → Leaves (f u) (b u) → Escapes b f v x
escapes_there b f a v x u within has ne (y, there, out) = record {
  values = assign (assign a u y) v x;
  at = assign-same (assign a u y) v x;
  inside = assign_each (assign a u y) v x (λ w z. f w z ≡ true) has
      (λ w _. assign_each a u y (λ w z. f w z ≡ true) there (λ w _. within w) w);
  out = (u, ap (b u) (assign-other (assign a u y) v x u ne ∙ assign-same a u y) ∙ out);
}

pub box_step_is : {X : Type 0} (b f : ℕ → X → Bool) (step : BoxStep X) → ((v : ℕ) → HasValue (f v)) → IsBoxStep b f step
    → IsStepOutside b f step
box_step_is b f Empty values all = λ a within v. all v (a v) (within v)
box_step_is {X} b f (Narrowed v s) values narrowed = (
  (λ x. (
    (λ has.
        let (in_set, out) = and_parts (f v x) (not (b v x)) (sym (ap (λ (t : X → Bool). t x) narrowed.stays) ∙ has) in
        escapes_here b f some v x (λ u. (values u).1) in_set (not-true (b v x) out)),
    (λ escapes. ap (λ (t : X → Bool). t x) narrowed.stays ∙ of_escape x escapes),
  )),
  (λ u x ne has. escapes_there b f some u x v (λ w. (values w).1) has (λ same. ne (sym same)) narrowed.outside),
)
  where
    some : ℕ → X
    some = λ u. (values u).0

    of_escape : (x : X) → Escapes b f v x → without (f v) (b v) x ≡ true
    of_escape x escapes =
        let (u, out) = escapes.out in
        elim (cases_eq u v) [
          | inr apart ↦ absurd (both_ways (b u (escapes.values u)) out (narrowed.others u apart (escapes.values u) (escapes.inside u)))
          | inl same ↦
              subst (λ y. (f v y && not (b v y)) ≡ true) escapes.at
              (and_from (f v (escapes.values v)) (not (b v (escapes.values v))) (escapes.inside v)
              (ap not (subst (λ w. b w (escapes.values w) ≡ false) same out)))
        ]
box_step_is {X} b f Same values (inl two) = λ u x has. elim (cases_eq u two.one) [
  | inr apart ↦ escapes_there b f (λ w. (values w).0) u x two.one (λ w. (values w).1) has (λ same. apart (sym same)) two.one_outside
  | inl here ↦
      escapes_there b f (λ w. (values w).0) u x two.other (λ w. (values w).1) has (λ same. two.apart (sym here ∙ sym same)) two.other_outside
]
box_step_is {X} b f Same values (inr one) = λ u x has. elim (cases_eq u one.one) [
  | inr apart ↦ escapes_there b f (λ w. (values w).0) u x one.one (λ w. (values w).1) has (λ same. apart (sym same)) one.outside
  | inl here ↦
      escapes_here b f (λ w. (values w).0) u x (λ w. (values w).1) has
      (subst (λ w. f w x ≡ true → b w x ≡ false) (sym here) (one.misses x) has)
]
