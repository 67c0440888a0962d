-- The value of a row of decimal digits.
use Rattle.std.specs.Prelude.{ℕ, ◌≡◌, ◌<◌, ◌+◌, ◌-◌, ◌*◌, List, [], ◌∷◌, length, slice_index}

-- The digits read from the left, after the number that was read so far.
abbrev pub read_on : ℕ → List ℕ → ℕ
read_on n [] = n
read_on n (digit ∷ digits) = read_on (10 * n + (digit - 48)) digits

-- There is a first byte, and it is no zero that another byte follows.
pub record HasPlainStart (text : List ℕ) : Type 0 where
  pub some : 0 < length text
  pub plain : slice_index text 0 ≡ 48 → length text ≡ 1
