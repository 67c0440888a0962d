-- A word of the private helper that sums products; the meaning is in Relations. This project's own: an integer of any
-- size is a number of turns, each 2^127, and a rest.
use Rattle.std.specs.Prelude.{ℤ, pos, ◌+ℤ◌, ◌*ℤ◌, ◌^◌}

-- the integer
abbrev pub total_of : ℤ → ℤ → ℤ
total_of turns rest = (turns *ℤ pos (2 ^ 127)) +ℤ rest
