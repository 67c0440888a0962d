-- From "no assignment is a solution" to a constraint that is violated.
use Rattle.std.proofs.Common.{◌≡◌, ℕ, zero, suc, ◌<◌, true, false, [], ◌⊎◌, get_or, sym, ◌∙◌, subst, inl, inr, arith}
use Rattle.std.proofs.lemmas.Bool.{cases_eq, cases_Bool, both_ways}
use Rattle.plain_steps.specs.Sets.{has}
use Rattle.plain_steps.specs.Task.{Plain, masked}
use Rattle.plain_steps.proofs.StepLemmas.{family-at}
use Rattle.plain_search.specs.Moves.{HasNoSolution}
use Rattle.plain_search.specs.Outcome.{IsRefuted, HasEmptySet}

-- the first `n` constraints hold, or one of them does not
pub all_or_one : (p : Plain) (a : ℕ → ℕ) (n : ℕ)
    → ((c : ℕ) → c < n → p.holds c (masked p c a) ≡ true) ⊎ ((c : ℕ) × (c < n) × (p.holds c (masked p c a) ≡ false))
all_or_one p a zero = inl (λ c lt. absurd (omega arith))
all_or_one p a (suc n) = elim (all_or_one p a n) [
  | inr one ↦ inr (one.0, omega (arith, one.1), one.2)
  | inl all ↦ elim (cases_Bool (p.holds n (masked p n a))) [
    | inr fails ↦ inr (n, omega arith, fails)
    | inl holds ↦ inl (λ c lt. elim (cases_eq c n) [
      | inl same ↦ subst (λ (d : ℕ). p.holds d (masked p d a) ≡ true) (sym same) holds
      | inr apart ↦ let below : c < n = omega arith in all c below
    ])
  ]
]

pub refuted : (p : Plain) → HasNoSolution p → IsRefuted p
refuted p none a within = elim (all_or_one p a p.count) [
  | inr one ↦ one
  | inl all ↦ absurd (none a (record { initial = within; holds = all }))
]

-- no assignment takes a value from an empty set
pub empty_refuted : (p : Plain) → HasEmptySet p → IsRefuted p
empty_refuted p empty a within =
    absurd (both_ways (has (get_or p.sets empty.0 []) (a empty.0)) (empty.2 (a empty.0))
    (sym (family-at p.sets empty.0 (a empty.0) empty.1) ∙ within empty.0))
