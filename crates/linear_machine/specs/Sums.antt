-- Weighted sums over the bits of a word, compared with 0. A linear constraint over Booleans is a pseudo-Boolean constraint
-- (Een and Sorensson, Translating Pseudo-Boolean Constraints into SAT, JSAT 2006); the form with a constant on the left is this project's own.
use Rattle.std.specs.Prelude.{◌≡◌, ◌≢◌, ℕ, ◌+◌, ◌<◌, ◌^◌, ℤ, pos, ◌+ℤ◌, ◌≤ℤ◌, unsigned_abs, if◌then◌else◌, List, ◌∷◌, sum_by}
use Rattle.diagram_arena.specs.Table.{Word}
use Rattle.linear_machine.specs.declared.comparison.Comparison.{Comparison}
use Rattle.linear_machine.specs.declared.comparison.Comparison.TheVariants.{Equal, Different, AtMost}

-- the sum of the weights of the bits that are true in the word, where the first bit has the first weight, and so on
abbrev pub sum_of_true : List ℕ → List ℤ → Word → ℤ
sum_of_true (b ∷ bs) (x ∷ xs) w = (if w b then x else pos 0) +ℤ sum_of_true bs xs w
sum_of_true _ _ w = pos 0

-- the number compares so with 0
abbrev pub Compares : Comparison → ℤ → Type 0
Compares Equal x = x ≡ pos 0
Compares Different x = x ≢ pos 0
Compares AtMost x = x ≤ℤ pos 0

-- a constraint on a sum of weights: a constant and the weights of the true bits together compare so with 0
pub record LinearState : Type 0 where
  pub weights : List ℤ
  pub constant : ℤ
  pub comparison : Comparison

-- the sizes of the constant and all weights together are below 2 ^ 126, so that no sum leaves 128 bits
abbrev pub IsSmall : List ℤ → ℤ → Type 0
IsSmall weights constant = (sum_by unsigned_abs weights + unsigned_abs constant) < 2 ^ 126
