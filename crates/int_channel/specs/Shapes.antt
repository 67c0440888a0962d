-- The relations of which this crate makes diagrams: those that are one linear sum, and those that are a choice. This project's own.
use Rattle.std.specs.Prelude.{Bool, true, false, ◌||◌}
use Rattle.set_meaning.specs.declared.problems.Relation.{Relation}
use Rattle.set_meaning.specs.declared.problems.Relation.TheVariants.{SetIn, IntEq, IntNe, IntLe, IntLt, IntLinEq, IntLinLe, IntLinNe, IntPlus, IntTimes, IntMin, IntMax, IntAbs, ArrayIntElement, BoolEq, BoolLe, BoolLt, BoolNot, BoolAnd, BoolOr, BoolXor, BoolClause, ArrayBoolAnd, ArrayBoolOr, Bool2Int, ArrayBoolElement}

-- one linear sum that is compared with 0
abbrev pub is_sum : Relation → Bool
is_sum IntEq = true
is_sum IntNe = true
is_sum IntLe = true
is_sum IntLt = true
is_sum IntLinEq = true
is_sum IntLinLe = true
is_sum IntLinNe = true
is_sum IntPlus = true
is_sum BoolEq = true
is_sum BoolLe = true
is_sum BoolLt = true
is_sum BoolNot = true
is_sum BoolClause = true
is_sum Bool2Int = true
is_sum _ = false

-- a choice of branches, two facts each
abbrev pub is_choice : Relation → Bool
is_choice SetIn = true
is_choice IntTimes = true
is_choice IntMin = true
is_choice IntMax = true
is_choice IntAbs = true
is_choice ArrayIntElement = true
is_choice BoolAnd = true
is_choice BoolOr = true
is_choice BoolXor = true
is_choice ArrayBoolAnd = true
is_choice ArrayBoolOr = true
is_choice ArrayBoolElement = true
is_choice _ = false

abbrev pub is_shape : Relation → Bool
is_shape relation = is_sum relation || is_choice relation
