-- When a constraint holds: what each relation says of its arguments, one equation a relation, over plain sets,
-- integers and truth values. The table of relations is this project's own, a profile after the FlatZinc builtins of
-- the MiniZinc Handbook.
use Rattle.std.specs.Prelude.{◌≡◌, ◌≢◌, ◌↔◌, ◌⊎◌, pos, ◌+ℤ◌, ◌*ℤ◌, ◌≤ℤ◌, ◌<ℤ◌, Bool, true, false, ◌&&◌, ◌||◌, List, [], ◌∷◌, ◌++◌, length, IsTrue, Option, Some, None, option_to_list, All, Any, Contains, flat_map, filter_map}
use Rattle.std.specs.Ordering.{nat_cmp}
use Rattle.std.specs.List.Sorted.{IsStrictlySortedBy}
use Rattle.set_meaning.specs.declared.kinds.Value.{Value}
use Rattle.set_meaning.specs.declared.problems.VarId.{VarId}
use Rattle.set_meaning.specs.declared.problems.Term.{Term}
use Rattle.set_meaning.specs.declared.problems.Term.TheVariants.{Const, Var}
use Rattle.set_meaning.specs.declared.problems.Arg.{Arg}
use Rattle.set_meaning.specs.declared.problems.Arg.TheVariants.{One, Many}
use Rattle.set_meaning.specs.declared.problems.Relation.{Relation}
use Rattle.set_meaning.specs.declared.problems.Relation.TheVariants.{SetEq, SetNe, SetLt, SetLe, SetSubset, SetSuperset, SetIn, SetUnion, SetIntersect, SetDiff, SetSymdiff, SetCard, ArraySetElement, IntEq, IntNe, IntLe, IntLt, IntLinEq, IntLinLe, IntLinNe, IntPlus, IntTimes, IntMin, IntMax, IntAbs, ArrayIntElement, BoolEq, BoolLe, BoolLt, BoolNot, BoolAnd, BoolOr, BoolXor, BoolClause, ArrayBoolAnd, ArrayBoolOr, Bool2Int, ArrayBoolElement}
use Rattle.set_meaning.specs.declared.problems.Constraint.{Constraint}
use Rattle.set_meaning.specs.Sets.{Has, IsSubset, IsUnion, IsIntersection, IsDifference, IsSymmetricDifference, IsBefore}
use Rattle.set_meaning.specs.Integers.{IsMinimum, IsMaximum, IsAbsoluteValue}
use Rattle.set_meaning.specs.Elements.{IsItem}
use Rattle.set_meaning.specs.Booleans.{IsClause, IsNumberOf}
use Rattle.set_meaning.specs.Arguments.{bool_of_term, bool_of, int_of, set_of, bools_of, ints_of, sets_of, OfTwoArgs, OfThreeArgs, OfTwoBools, OfThreeBools, OfTwoInts, OfThreeInts, OfLinear, OfTwoSets, OfThreeSets}

-- ---- the relations

-- what each relation says of its arguments
unfoldable pub HoldsOf : Relation → List Arg → List Value → Type 0
HoldsOf SetEq args values = OfTwoSets (λ a b. a ≡ b) args values
HoldsOf SetNe args values = OfTwoSets (λ a b. a ≢ b) args values
HoldsOf SetLt args values = OfTwoSets IsBefore args values
HoldsOf SetLe args values = OfTwoSets (λ a b. IsBefore a b ⊎ (a ≡ b)) args values
HoldsOf SetSubset args values = OfTwoSets IsSubset args values
HoldsOf SetSuperset args values = OfTwoSets (λ a b. IsSubset b a) args values
HoldsOf SetIn args values = OfTwoArgs (int_of values) (set_of values) (λ x a. Has a x) args
HoldsOf SetUnion args values = OfThreeSets IsUnion args values
HoldsOf SetIntersect args values = OfThreeSets IsIntersection args values
HoldsOf SetDiff args values = OfThreeSets IsDifference args values
HoldsOf SetSymdiff args values = OfThreeSets IsSymmetricDifference args values
HoldsOf SetCard args values = OfTwoArgs (set_of values) (int_of values) (λ a n. n ≡ pos (length a)) args
HoldsOf ArraySetElement args values = OfThreeArgs (int_of values) (sets_of values) (set_of values) IsItem args
HoldsOf IntEq args values = OfTwoInts (λ a b. a ≡ b) args values
HoldsOf IntNe args values = OfTwoInts (λ a b. a ≢ b) args values
HoldsOf IntLe args values = OfTwoInts (λ a b. a ≤ℤ b) args values
HoldsOf IntLt args values = OfTwoInts (λ a b. a <ℤ b) args values
HoldsOf IntLinEq args values = OfLinear (λ sum k. sum ≡ k) args values
HoldsOf IntLinLe args values = OfLinear (λ sum k. sum ≤ℤ k) args values
HoldsOf IntLinNe args values = OfLinear (λ sum k. sum ≢ k) args values
HoldsOf IntPlus args values = OfThreeInts (λ a b c. (a +ℤ b) ≡ c) args values
HoldsOf IntTimes args values = OfThreeInts (λ a b c. (a *ℤ b) ≡ c) args values
HoldsOf IntMin args values = OfThreeInts IsMinimum args values
HoldsOf IntMax args values = OfThreeInts IsMaximum args values
HoldsOf IntAbs args values = OfTwoInts IsAbsoluteValue args values
HoldsOf ArrayIntElement args values = OfThreeArgs (int_of values) (ints_of values) (int_of values) IsItem args
HoldsOf BoolEq args values = OfTwoBools (λ a b. a ≡ b) args values
HoldsOf BoolLe args values = OfTwoBools (λ a b. (a ≡ false) ⊎ (b ≡ true)) args values
HoldsOf BoolLt args values = OfTwoBools (λ a b. (a ≡ false) × (b ≡ true)) args values
HoldsOf BoolNot args values = OfTwoBools (λ a b. a ≢ b) args values
HoldsOf BoolAnd args values = OfThreeBools (λ a b c. c ≡ (a && b)) args values
HoldsOf BoolOr args values = OfThreeBools (λ a b c. c ≡ (a || b)) args values
HoldsOf BoolXor args values = OfThreeBools (λ a b c. IsTrue c ↔ (a ≢ b)) args values
HoldsOf BoolClause args values = OfTwoArgs (bools_of values) (bools_of values) IsClause args
HoldsOf ArrayBoolAnd args values = OfTwoArgs (bools_of values) (bool_of values) (λ items c. IsTrue c ↔ All IsTrue items) args
HoldsOf ArrayBoolOr args values = OfTwoArgs (bools_of values) (bool_of values) (λ items c. IsTrue c ↔ Any IsTrue items) args
HoldsOf Bool2Int args values = OfTwoArgs (bool_of values) (int_of values) IsNumberOf args
HoldsOf ArrayBoolElement args values = OfThreeArgs (int_of values) (bools_of values) (bool_of values) IsItem args

-- the truth value is there, and is that of the fact
abbrev pub IsTruthOf : Option Bool → Type 0 → Type 0
IsTruthOf (Some b) P = IsTrue b ↔ P
IsTruthOf None P = ⊥

-- the relation is true, or where a truth value is named, this is the relation's
abbrev pub HoldsAs : Option Term → List Value → Type 0 → Type 0
HoldsAs None values P = P
HoldsAs (Some t) values P = IsTruthOf (bool_of_term values t) P

unfoldable pub Holds : Constraint → List Value → Type 0
Holds c values = HoldsAs c.reif values (HoldsOf c.relation c.args values)

-- ---- the variables of a constraint

abbrev pub terms_of : Arg → List Term
terms_of (One t) = t ∷ []
terms_of (Many ts) = ts

abbrev pub variable_of : Term → Option VarId
variable_of (Const v) = None
variable_of (Var x) = Some x

-- the variables that stand in the constraint, in the order of the text
abbrev pub variables_of : Constraint → List VarId
variables_of c = filter_map variable_of (flat_map terms_of c.args ++ option_to_list c.reif)

-- the distinct variables of the constraint, ascending
pub record IsScope (c : Constraint) (scope : List VarId) : Type 0 where
  pub ascending : IsStrictlySortedBy (λ v w. nat_cmp v.0 w.0) scope
  pub members : (v : VarId) → Contains scope v ↔ Contains (variables_of c) v
