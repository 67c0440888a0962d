-- Values on one side of a bound. This project's own.
use Rattle.std.specs.Prelude.{Bool, false, ℤ, int_le}
use Rattle.set_meaning.specs.declared.kinds.Value.{Value}
use Rattle.set_meaning.specs.declared.kinds.Value.TheVariants as value
use Rattle.objective_sides.specs.declared.sense.Sense.{Sense}
use Rattle.objective_sides.specs.declared.sense.Sense.TheVariants as sense

-- whether the value is an integer on this side of the bound
abbrev pub is_beyond : Sense → ℤ → Value → Bool
is_beyond sense.AtLeast bound (value.Int x) = int_le bound x
is_beyond sense.AtMost bound (value.Int x) = int_le x bound
is_beyond _ _ _ = false
