-- The relation of which this crate makes diagrams. This project's own.
use Rattle.std.specs.Prelude.{Bool, true, false}
use Rattle.set_meaning.specs.declared.problems.Relation.{Relation}
use Rattle.set_meaning.specs.declared.problems.Relation.TheVariants.{SetCard}

abbrev pub is_shape : Relation → Bool
is_shape SetCard = true
is_shape _ = false
