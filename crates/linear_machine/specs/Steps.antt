-- How the sum is read bit by bit: what was added so far, until the weights to come can no longer change the answer. This project's own.
use Rattle.std.specs.Prelude.{ℕ, ◌+◌, ℤ, pos, ◌+ℤ◌, int_lt, Bool, true, false, not, ◌&&◌, ◌||◌, if◌then◌else◌, List, [], ◌∷◌, Option, Some, None, drop, slice_index_or}
use Rattle.std.specs.Int.{int_min, int_max}
use Rattle.std.specs.Option.{option_map, option_map_or}
use Rattle.std.specs.Ordering.{int_eq}
use Rattle.bit_machine.specs.Rules.{Rules}
use Rattle.linear_machine.specs.declared.comparison.Comparison.{Comparison}
use Rattle.linear_machine.specs.declared.comparison.Comparison.TheVariants.{Equal, Different, AtMost}
use Rattle.linear_machine.specs.declared.state.State.{State}
use Rattle.linear_machine.specs.declared.state.State.TheVariants.{Open, Settled}
use Rattle.linear_machine.specs.Sums.{LinearState}

-- the least and the greatest sum that some of these weights have
abbrev pub least_sum : List ℤ → ℤ
least_sum [] = pos 0
least_sum (x ∷ xs) = int_min x (pos 0) +ℤ least_sum xs

abbrev pub greatest_sum : List ℤ → ℤ
greatest_sum [] = pos 0
greatest_sum (x ∷ xs) = int_max x (pos 0) +ℤ greatest_sum xs

-- whether all numbers from low to high are 0, or none is
abbrev pub all_zero : ℤ → ℤ → Option Bool
all_zero low high =
    if int_lt (pos 0) low || int_lt high (pos 0) then Some false else if int_eq low (pos 0) && int_eq high (pos 0) then Some true else None

-- whether all numbers from low to high are at most 0, or none is
abbrev pub all_at_most_zero : ℤ → ℤ → Option Bool
all_at_most_zero low high = if int_lt (pos 0) low then Some false else if int_lt (pos 0) high then None else Some true

-- the answer that all numbers from low to high share, where they do
abbrev pub shared_answer : Comparison → ℤ → ℤ → Option Bool
shared_answer Equal low high = all_zero low high
shared_answer Different low high = option_map not (all_zero low high)
shared_answer AtMost low high = all_at_most_zero low high

-- what is kept once the weights added are `sum`, and these are to come
abbrev pub settle : Comparison → List ℤ → ℤ → State
settle comparison rest sum =
    option_map_or Settled (shared_answer comparison (sum +ℤ least_sum rest) (sum +ℤ greatest_sum rest)) (Open sum)

-- whether the number compares so with 0
abbrev pub compares : Comparison → ℤ → Bool
compares Equal x = int_eq x (pos 0)
compares Different x = not (int_eq x (pos 0))
compares AtMost x = not (int_lt (pos 0) x)

abbrev pub step_of : LinearState → ℕ → State → Bool → State
step_of m at (Open sum) value = settle m.comparison (drop (at + 1) m.weights) (sum +ℤ (if value then slice_index_or m.weights at (pos 0) else pos 0))
step_of m at (Settled answer) value = Settled answer

abbrev pub accept_of : LinearState → State → Bool
accept_of m (Open sum) = compares m.comparison sum
accept_of m (Settled answer) = answer

-- the machine of a linear sum
abbrev pub rules_of : LinearState → Rules State
rules_of m = record { start = settle m.comparison m.weights m.constant; step = step_of m; accept = accept_of m }
