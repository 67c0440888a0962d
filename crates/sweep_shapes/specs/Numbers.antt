-- The numbers of a variable's values in its side; words of this crate's private helpers.
use Rattle.std.specs.Prelude.{◌≡◌, ◌↔◌, ℤ, List, Contains}
use Rattle.set_meaning.specs.declared.kinds.Kind.{Kind}
use Rattle.set_meaning.specs.declared.kinds.Value.{Value}
use Rattle.set_meaning.specs.declared.problems.VarId.{VarId}
use Rattle.log_rules.specs.declared.nodes.Node.{Node}
use Rattle.log_rules.specs.Boxes.{Sides}
use Rattle.sweep_sums.specs.Forms.{number_of}
use Rattle.sweep_shapes.specs.Trials.{IsAllowed}

-- the number is that of an initial value of the variable that is in its side
abbrev pub IsNumberWithin : List Kind → List Node → Sides → VarId → ℤ → Type 0
IsNumberWithin kinds table sides v n = (x : Value) × IsAllowed kinds table sides v.0 x × (number_of x ≡ n)

-- the list has just those numbers
abbrev pub AreNumbersWithin : List Kind → List Node → Sides → VarId → List ℤ → Type 0
AreNumbersWithin kinds table sides v numbers = (n : ℤ) → Contains numbers n ↔ IsNumberWithin kinds table sides v n
