-- The relations that are one linear sum, compared with 0. This project's own.
use Rattle.std.specs.Prelude.{Bool, true, false}
use Rattle.set_meaning.specs.declared.problems.Relation.{Relation}
use Rattle.set_meaning.specs.declared.problems.Relation.TheVariants.{IntEq, IntNe, IntLe, IntLt, IntLinEq, IntLinLe, IntLinNe, IntPlus, BoolEq, BoolLe, BoolLt, BoolNot, BoolClause, Bool2Int}

abbrev pub is_sum : Relation → Bool
is_sum IntEq = true
is_sum IntNe = true
is_sum IntLe = true
is_sum IntLt = true
is_sum IntLinEq = true
is_sum IntLinLe = true
is_sum IntLinNe = true
is_sum IntPlus = true
is_sum BoolEq = true
is_sum BoolLe = true
is_sum BoolLt = true
is_sum BoolNot = true
is_sum BoolClause = true
is_sum Bool2Int = true
is_sum _ = false
