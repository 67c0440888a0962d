-- Steps and parts of steps reach the root family, in whatever order they are taken.
use Rattle.std.proofs.Common.{◌≡◌, ℕ, zero, suc, ◌<◌, Bool, true, false, List, ◌⊎◌, refl, sym, ◌∙◌, subst, inl, inr, arith}
use Rattle.std.proofs.lemmas.Bool.{cases_Bool, cases_eq, both_ways}
use Rattle.search_rules.specs.Family.{Lies, AllLie, IsWithin, put}
use Rattle.search_rules.specs.Problem.{Problem, Extends, IsExactStep, IsNarrowed, IsLeft, IsPartOfStep, Steps, start, next, InRootFamily, IsRootRefuted, IsViolated, IsSingle, IsSolution}
use Rattle.search_rules.proofs.FamilyLemmas.{put_each, put-other}

pub extends_in : {X : Type 0} {p : Problem X} {c : ℕ} {f : ℕ → X → Bool} {v : ℕ} {x : X} → Extends p c f v x → f v x ≡ true
extends_in {X} {p} {c} {f} {v} e = subst (λ y. f v y ≡ true) e.at (e.inside v e.scoped)

pub extends_more : {X : Type 0} {p : Problem X} {c : ℕ} {f g : ℕ → X → Bool} {v : ℕ} {x : X} → AllLie f g → Extends p c f v x
    → Extends p c g v x
extends_more lie e = record {
  values = e.values;
  scoped = e.scoped;
  at = e.at;
  inside = λ u scoped. lie u (e.values u) (e.inside u scoped);
  holds = e.holds;
}

-- the exact step is a part of itself
pub exact_is_part : {X : Type 0} (p : Problem X) (c : ℕ) (f g : ℕ → X → Bool) → IsExactStep p c f g → IsPartOfStep p c f g
exact_is_part p c f g step = record {
  smaller = λ v x has. elim (cases_Bool (p.scope c v)) [
    | inl scoped ↦ extends_in (step.sound v x scoped has)
    | inr not_scoped ↦ subst (λ s. s x ≡ true) (step.others v not_scoped) has
  ];
  keeps = λ v x has extends. elim (cases_Bool (p.scope c v)) [
    | inl scoped ↦ step.whole v x (extends scoped)
    | inr not_scoped ↦ subst (λ s. s x ≡ true) (sym (step.others v not_scoped)) has
  ];
}

-- the exact step at one variable is a part of it
pub narrowed_is_part : {X : Type 0} (p : Problem X) (c : ℕ) (f : ℕ → X → Bool) (v : ℕ) (s : X → Bool) → IsNarrowed p c f v s
    → IsPartOfStep p c f (put f v s)
narrowed_is_part {X} p c f v s narrowed = record {
  smaller = put_each f v s (λ u t. Lies t (f u)) (λ x has. extends_in (narrowed.sound x has)) (λ u ne x has. has);
  keeps = put_each f v s (λ u t. (x : X) → f u x ≡ true → (p.scope c u ≡ true → Extends p c f u x) → t x ≡ true)
      (λ x has extends. narrowed.whole x (extends narrowed.scoped))
      (λ u ne x has extends. has);
}

pub steps_smaller : {X : Type 0} {p : Problem X} {f g : ℕ → X → Bool} {cs : List ℕ} → Steps p f cs g → AllLie g f
steps_smaller start = λ v x has. has
steps_smaller (next steps known part) = λ v x has. steps_smaller steps v x (part.smaller v x has)

-- a family that every step leaves as it is stays within, whatever steps are taken
pub steps_keep : {X : Type 0} {p : Problem X} {f g : ℕ → X → Bool} {cs : List ℕ} (h : ℕ → X → Bool) → Steps p f cs g
    → AllLie h f → ((c : ℕ) → c < p.constraints → IsLeft p c h) → AllLie h g
steps_keep h start within left = within
steps_keep h (next {c} steps known part) within left =
    λ v x has.
    part.keeps v x (steps_keep h steps within left v x has)
    (λ scoped. extends_more (steps_keep h steps within left) (left c known v x scoped has))

pub steps_reach_root : {X : Type 0} (p : Problem X) (cs : List ℕ) (f : ℕ → X → Bool) → Steps p p.initial cs f
    → ((c : ℕ) → c < p.constraints → IsLeft p c f) → (v : ℕ) (x : X)
    → (f v x ≡ true → InRootFamily p v x) × (InRootFamily p v x → f v x ≡ true)
steps_reach_root p cs f steps left v x = (
  (λ has. record { family = f; initial = steps_smaller steps; has = has; left = left }),
  (λ root. steps_keep root.family steps root.initial root.left v x root.has),
)

-- a family is left as it is where it is its own exact step
pub left_is_exact : {X : Type 0} (p : Problem X) (c : ℕ) (f : ℕ → X → Bool) → IsLeft p c f → IsExactStep p c f f
left_is_exact p c f left = record { sound = left; whole = λ v x extends. extends_in extends; others = λ v out. refl }

-- no step takes a value of a solution away
pub steps_keep_solution : {X : Type 0} {p : Problem X} {f : ℕ → X → Bool} {cs : List ℕ} (a : ℕ → X) → IsSolution p a
    → Steps p p.initial cs f → IsWithin f a
steps_keep_solution a solution start = solution.initial
steps_keep_solution a solution (next {c} steps known part) =
    λ v.
    part.keeps v (a v) (steps_keep_solution a solution steps v)
    (λ scoped. record {
      values = a;
      scoped = scoped;
      at = refl;
      inside = λ u _. steps_keep_solution a solution steps u;
      holds = solution.holds c known;
    })

-- single values that every step leaves as they are satisfy each constraint
pub single_solves : {X : Type 0} (p : Problem X) (f : ℕ → X → Bool) (a : ℕ → X) → AllLie f p.initial → IsSingle p f a
    → ((c : ℕ) → c < p.constraints → IsLeft p c f)
    → ((c : ℕ) → c < p.constraints → ((v : ℕ) × (p.scope c v ≡ true)) ⊎ p.holds c a) → IsSolution p a
single_solves {X} p f a within single left each = record {
  initial = λ v. within v (a v) (single.within v);
  holds = λ c known. elim (each c known) [
    | inr holds ↦ holds
    | inl some ↦
        let e : Extends p c f some.0 (a some.0) = left c known some.0 (a some.0) some.1 (single.within some.0) in
        p.reads c e.values a (λ v scoped. single.only v (e.values v) (p.scoped c v scoped) (e.inside v scoped)) e.holds
  ];
}

-- where one variable is left what extends, the same values extend
pub extends_narrowed : {X : Type 0} {p : Problem X} {c : ℕ} {f : ℕ → X → Bool} {v : ℕ} {s : X → Bool} {u : ℕ} {x : X}
    → IsNarrowed p c f v s → Extends p c f u x → Extends p c (put f v s) u x
extends_narrowed {X} {p} {c} {f} {v} {s} narrowed e = record {
  values = e.values;
  scoped = e.scoped;
  at = e.at;
  inside = put_each f v s (λ w t. p.scope c w ≡ true → t (e.values w) ≡ true)
      (λ scoped. narrowed.whole (e.values v)
      (record { values = e.values; scoped = narrowed.scoped; at = refl; inside = e.inside; holds = e.holds }))
      (λ w ne scoped. e.inside w scoped);
  holds = e.holds;
}

pub extends_before : {X : Type 0} {p : Problem X} {c : ℕ} {f : ℕ → X → Bool} {v : ℕ} {s : X → Bool} {u : ℕ} {x : X}
    → IsNarrowed p c f v s → Extends p c (put f v s) u x → Extends p c f u x
extends_before {X} {p} {c} {f} {v} {s} narrowed e = extends_more (narrowed_is_part p c f v s narrowed).smaller e

pub exact_after : {X : Type 0} (p : Problem X) (c : ℕ) (f g : ℕ → X → Bool) (v : ℕ) (s : X → Bool) → IsNarrowed p c f v s
    → IsExactStep p c f g → IsExactStep p c (put f v s) g
exact_after p c f g v s narrowed step = record {
  sound = λ u x scoped has. extends_narrowed narrowed (step.sound u x scoped has);
  whole = λ u x e. step.whole u x (extends_before narrowed e);
  others = λ u out.
      step.others u out
      ∙ sym (put-other f v s u (λ same. both_ways (p.scope c v) (subst (λ w. p.scope c w ≡ false) same out) narrowed.scoped));
}

pub violated_none : {X : Type 0} (p : Problem X) (c : ℕ) (f : ℕ → X → Bool) (a : ℕ → X) → c < p.constraints → IsViolated p c f
    → IsSolution p a → IsWithin f a → ⊥
violated_none p c f a known violated solution within = violated a (λ u scoped. within u) (solution.holds c known)

-- the constraint speaks of one of the first `n` variables, or of none of them
pub scope_some : {X : Type 0} (p : Problem X) (c n : ℕ)
    → ((v : ℕ) × (v < n) × (p.scope c v ≡ true)) ⊎ ((v : ℕ) → v < n → p.scope c v ≡ false)
scope_some p c zero = inr (λ v lt. absurd (omega arith))
scope_some p c (suc n) = elim (scope_some p c n) [
  | inl some ↦ inl (some.0, omega (arith, some.1), some.2)
  | inr none ↦ elim (cases_Bool (p.scope c n)) [
    | inl scoped ↦ inl (n, omega arith, scoped)
    | inr out ↦ inr (λ v lt. elim (cases_eq v n) [
      | inl same ↦ subst (λ w. p.scope c w ≡ false) (sym same) out
      | inr apart ↦ let below : v < n = omega arith in none v below
    ])
  ]
]

pub violated_root : {X : Type 0} (p : Problem X) (cs : List ℕ) (c : ℕ) (f : ℕ → X → Bool) → Steps p p.initial cs f
    → c < p.constraints → IsViolated p c f → IsRootRefuted p
violated_root {X} p cs c f steps known violated = elim (scope_some p c p.variables) [
  | inl some ↦ inl (
    some.0,
    some.1,
    λ x root.
        let e : Extends p c root.family some.0 x = root.left c known some.0 x some.2 root.has in
        violated e.values
        (λ u scoped. steps_keep root.family steps root.initial root.left u (e.values u) (e.inside u scoped)) e.holds,
  )
  | inr none ↦
      let free : (v : ℕ) → p.scope c v ≡ false = λ v. elim (cases_Bool (p.scope c v)) [
        | inr out ↦ out
        | inl scoped ↦ none v (p.scoped c v scoped)
      ] in
      inr (c, known, free, λ a holds. violated a (λ u scoped. absurd (both_ways (p.scope c u) (free u) scoped)) holds)
]
