-- Which sums come of numbers that are taken from lists, one from each. This project's own.
use Rattle.std.specs.Prelude.{◌≡◌, ℤ, ◌+ℤ◌, ◌*ℤ◌, ◌+◌, ◌*◌, ◌^◌, ◌≤◌, ℕ, unsigned_abs, Bool, true, false, List, [], ◌∷◌, map, Contains, All}
use Rattle.std.specs.List.{AllZip}
use Rattle.set_meaning.specs.declared.problems.VarId.{VarId}
use Rattle.set_meaning.specs.LinearSums.{sum_of_products}
use Rattle.sweep_sums.specs.declared.forms.LinearSum.{LinearSum}
use Rattle.sweep_sums.specs.Forms.{Compares}
use Rattle.sweep_sums.specs.Weights.{weights_of}

-- the fact is true, or it is false, as the truth value says
abbrev pub HasTruth : Bool → Type 0 → Type 0
HasTruth true P = P
HasTruth false P = P → ⊥

-- that this total compares so with 0 has the truth value
abbrev pub IsWanted : LinearSum → Bool → ℤ → Type 0
IsWanted s truth total = HasTruth truth (Compares s.comparison total)

-- each number is from the list at its place
abbrev pub ArePicked : List (List ℤ) → List ℤ → Type 0
ArePicked lists numbers = AllZip Contains lists numbers

-- some numbers from the lists, times the weights and added to one of the sums, are a total as wanted
pub record SomeOn (wanted : ℤ → Type 0) (weights : List ℤ) (lists : List (List ℤ)) (sums : List ℤ) : Type 0 where
  pub sum : ℤ
  pub among : Contains sums sum
  pub numbers : List ℤ
  pub picked : ArePicked lists numbers
  pub holds : wanted (sum +ℤ sum_of_products weights numbers)

-- some numbers from the lists, one for each variable, give the sum a total as wanted
abbrev pub SomeFit : LinearSum → Bool → List VarId → List (List ℤ) → Type 0
SomeFit s truth variables lists = SomeOn (IsWanted s truth) (weights_of s.terms variables) lists (s.constant ∷ [])

-- what comes of a sum with each of the numbers
abbrev pub reached_from : ℤ → List ℤ → ℤ → List ℤ
reached_from weight numbers sum = map (λ x. sum +ℤ (weight *ℤ x)) numbers

-- the sums that come of the first ones with each of the numbers
pub record AreReached (weight : ℤ) (numbers sums next : List ℤ) : Type 0 where
  pub only : (t : ℤ) → Contains next t → (s : ℤ) × (x : ℤ) × Contains sums s × Contains numbers x × (t ≡ s +ℤ (weight *ℤ x))
  pub every : (s x : ℤ) → Contains sums s → Contains numbers x → Contains next (s +ℤ (weight *ℤ x))

-- after so many variables no sum is larger than this
abbrev pub AreWithin : ℕ → List ℤ → Type 0
AreWithin at sums = All (λ s. unsigned_abs s ≤ 2 ^ 100 + at * 2 ^ 115) sums
