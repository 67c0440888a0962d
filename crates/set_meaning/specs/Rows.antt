-- The sorts of terms, and the arguments of each relation, a row for each. The table is this project's own, a profile
-- after the FlatZinc grammar and builtins of the MiniZinc Handbook.
use Rattle.std.specs.Prelude.{◌≡◌, true, false, List, ◌∷◌, length, IsTrue, IfSome, Option, Some, None, slice_get, option_map, option_to_list, All, ⊤}
use Rattle.std.specs.List.{AllZip}
use Rattle.set_meaning.specs.declared.kinds.Value.{Value}
use Rattle.set_meaning.specs.declared.kinds.Value.TheVariants as value
use Rattle.set_meaning.specs.declared.kinds.Kind.{Kind}
use Rattle.set_meaning.specs.declared.kinds.Kind.TheVariants as kind
use Rattle.set_meaning.specs.declared.problems.Term.{Term}
use Rattle.set_meaning.specs.declared.problems.Term.TheVariants.{Const, Var}
use Rattle.set_meaning.specs.declared.problems.Arg.{Arg}
use Rattle.set_meaning.specs.declared.problems.Arg.TheVariants.{One, Many}
use Rattle.set_meaning.specs.declared.problems.Relation.{Relation}
use Rattle.set_meaning.specs.declared.problems.Relation.TheVariants.{SetEq, SetNe, SetLt, SetLe, SetSubset, SetSuperset, SetIn, SetUnion, SetIntersect, SetDiff, SetSymdiff, SetCard, ArraySetElement, IntEq, IntNe, IntLe, IntLt, IntLinEq, IntLinLe, IntLinNe, IntPlus, IntTimes, IntMin, IntMax, IntAbs, ArrayIntElement, BoolEq, BoolLe, BoolLt, BoolNot, BoolAnd, BoolOr, BoolXor, BoolClause, ArrayBoolAnd, ArrayBoolOr, Bool2Int, ArrayBoolElement}
use Rattle.set_meaning.specs.declared.problems.Constraint.{Constraint}
use Rattle.set_meaning.specs.declared.rows.Sort.{Sort}
use Rattle.set_meaning.specs.declared.rows.Sort.TheVariants.{Boolean, Integer, IntegerSet}
use Rattle.set_meaning.specs.declared.rows.Shape.{Shape}
use Rattle.set_meaning.specs.declared.rows.Shape.TheVariants.{OneOf, ManyOf, ConstantOf, ConstantsOf}
use Rattle.set_meaning.specs.declared.rows.Row.{Row}
use Rattle.set_meaning.specs.Sets.{IsAscending}

-- ---- sorts of terms

abbrev pub sort_of_kind : Kind → Sort
sort_of_kind kind.Bool = Boolean
sort_of_kind (kind.Int numbers) = Integer
sort_of_kind (kind.Set universe) = IntegerSet

-- the value is of the sort
abbrev pub IsValueOf : Sort → Value → Type 0
IsValueOf Boolean (value.Bool b) = ⊤
IsValueOf Integer (value.Int x) = ⊤
IsValueOf IntegerSet (value.Set s) = IsAscending s
IsValueOf _ _ = ⊥

-- the term has the sort: a constant of it, or a variable of the problem of such a kind
abbrev pub HasSort : List Kind → Sort → Term → Type 0
HasSort kinds sort (Const v) = IsValueOf sort v
HasSort kinds sort (Var x) = option_map sort_of_kind (slice_get kinds x.0) ≡ Some sort

-- the term has some sort
abbrev pub IsTerm : List Kind → Term → Type 0
IsTerm kinds t = (sort : Sort) × HasSort kinds sort t

-- the term is a constant of the sort
abbrev pub IsConstantOf : Sort → Term → Type 0
IsConstantOf sort (Const v) = IsValueOf sort v
IsConstantOf sort (Var x) = ⊥

-- ---- the arguments of each relation

-- the argument is one term or an array of terms of the sort, or one constant or an array of constants of it
abbrev pub HasShape : List Kind → Shape → Arg → Type 0
HasShape kinds (OneOf sort) (One t) = HasSort kinds sort t
HasShape kinds (ManyOf sort) (Many ts) = All (HasSort kinds sort) ts
HasShape kinds (ConstantOf sort) (One t) = IsConstantOf sort t
HasShape kinds (ConstantsOf sort) (Many ts) = All (IsConstantOf sort) ts
HasShape kinds _ _ = ⊥

abbrev pub plain : Shape → Shape → Option Shape → Row
plain first second third = record { first = first; second = second; third = third; reifiable = false; paired = false }

abbrev pub reifiable : Shape → Shape → Row
reifiable first second = record { first = first; second = second; third = None; reifiable = true; paired = false }

-- constants, as many integers, and one more constant
abbrev pub linear : Row
linear = record { first = ConstantsOf Integer; second = ManyOf Integer; third = Some (ConstantOf Integer); reifiable = true; paired = true }

abbrev pub row_of : Relation → Row
row_of SetEq = reifiable (OneOf IntegerSet) (OneOf IntegerSet)
row_of SetNe = reifiable (OneOf IntegerSet) (OneOf IntegerSet)
row_of SetLt = reifiable (OneOf IntegerSet) (OneOf IntegerSet)
row_of SetLe = reifiable (OneOf IntegerSet) (OneOf IntegerSet)
row_of SetSubset = reifiable (OneOf IntegerSet) (OneOf IntegerSet)
row_of SetSuperset = reifiable (OneOf IntegerSet) (OneOf IntegerSet)
row_of SetIn = reifiable (OneOf Integer) (OneOf IntegerSet)
row_of SetUnion = plain (OneOf IntegerSet) (OneOf IntegerSet) (Some (OneOf IntegerSet))
row_of SetIntersect = plain (OneOf IntegerSet) (OneOf IntegerSet) (Some (OneOf IntegerSet))
row_of SetDiff = plain (OneOf IntegerSet) (OneOf IntegerSet) (Some (OneOf IntegerSet))
row_of SetSymdiff = plain (OneOf IntegerSet) (OneOf IntegerSet) (Some (OneOf IntegerSet))
row_of SetCard = plain (OneOf IntegerSet) (OneOf Integer) None
row_of ArraySetElement = plain (OneOf Integer) (ManyOf IntegerSet) (Some (OneOf IntegerSet))
row_of IntEq = reifiable (OneOf Integer) (OneOf Integer)
row_of IntNe = reifiable (OneOf Integer) (OneOf Integer)
row_of IntLe = reifiable (OneOf Integer) (OneOf Integer)
row_of IntLt = reifiable (OneOf Integer) (OneOf Integer)
row_of IntLinEq = linear
row_of IntLinLe = linear
row_of IntLinNe = linear
row_of IntPlus = plain (OneOf Integer) (OneOf Integer) (Some (OneOf Integer))
row_of IntTimes = plain (OneOf Integer) (OneOf Integer) (Some (OneOf Integer))
row_of IntMin = plain (OneOf Integer) (OneOf Integer) (Some (OneOf Integer))
row_of IntMax = plain (OneOf Integer) (OneOf Integer) (Some (OneOf Integer))
row_of IntAbs = plain (OneOf Integer) (OneOf Integer) None
row_of ArrayIntElement = plain (OneOf Integer) (ManyOf Integer) (Some (OneOf Integer))
row_of BoolEq = reifiable (OneOf Boolean) (OneOf Boolean)
row_of BoolLe = reifiable (OneOf Boolean) (OneOf Boolean)
row_of BoolLt = reifiable (OneOf Boolean) (OneOf Boolean)
row_of BoolNot = plain (OneOf Boolean) (OneOf Boolean) None
row_of BoolAnd = plain (OneOf Boolean) (OneOf Boolean) (Some (OneOf Boolean))
row_of BoolOr = plain (OneOf Boolean) (OneOf Boolean) (Some (OneOf Boolean))
row_of BoolXor = plain (OneOf Boolean) (OneOf Boolean) (Some (OneOf Boolean))
row_of BoolClause = plain (ManyOf Boolean) (ManyOf Boolean) None
row_of ArrayBoolAnd = plain (ManyOf Boolean) (OneOf Boolean) None
row_of ArrayBoolOr = plain (ManyOf Boolean) (OneOf Boolean) None
row_of Bool2Int = plain (OneOf Boolean) (OneOf Integer) None
row_of ArrayBoolElement = plain (OneOf Integer) (ManyOf Boolean) (Some (OneOf Boolean))

-- the shapes of the arguments, in order
abbrev pub shapes_of : Row → List Shape
shapes_of row = row.first ∷ row.second ∷ option_to_list row.third

-- both are arrays, of one length
abbrev pub AreOfOneLength : Arg → Arg → Type 0
AreOfOneLength (Many cs) (Many xs) = length cs ≡ length xs
AreOfOneLength _ _ = ⊥

-- the first two arguments are arrays of one length
abbrev pub ArePaired : List Arg → Type 0
ArePaired (a ∷ b ∷ args) = AreOfOneLength a b
ArePaired _ = ⊥

-- the constraint has the arguments of its relation, and names a truth value only where the relation is reifiable
pub record FitsRow (kinds : List Kind) (c : Constraint) : Type 0 where
  pub args : AllZip (HasShape kinds) (shapes_of (row_of c.relation)) c.args
  pub paired : IsTrue (row_of c.relation).paired → ArePaired c.args
  pub reif : IfSome c.reif (λ t. IsTrue (row_of c.relation).reifiable × HasSort kinds Boolean t)
