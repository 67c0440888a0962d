-- Which crate makes the diagram of a relation: each relation is of exactly one of three kinds. This project's own.
use Rattle.std.specs.Prelude.{ℕ, ◌+◌, if◌then◌else◌}
use Rattle.set_meaning.specs.declared.problems.Relation.{Relation}
use Rattle.set_shapes.specs.Shapes.{is_shape as is_set_shape}
use Rattle.card_diagram.specs.Shapes.{is_shape as is_card_shape}
use Rattle.int_channel.specs.Shapes.{is_shape as is_scalar_shape}

-- of how many of the three kinds the relation is: relations of sets, cardinalities, and those of integers and Booleans
abbrev pub kinds_of_relation : Relation → ℕ
kinds_of_relation r = (if is_set_shape r then 1 else 0) + (if is_card_shape r then 1 else 0) + (if is_scalar_shape r then 1 else 0)
