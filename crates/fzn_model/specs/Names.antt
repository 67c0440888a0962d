-- The names of constraints. Source: the FlatZinc builtins of the MiniZinc Handbook, in this project's own profile.
use Rattle.std.specs.Prelude.{ℕ, Bool, true, false, ◌||◌, List, [], ◌∷◌, codes, Option, Some, None}
use Rattle.std.specs.List.{find}
use Rattle.std.specs.Option.{option_map, option_or}
use Rattle.std.specs.Str.{bytes_eq}
use Rattle.set_meaning.specs.declared.problems.Relation.{Relation}
use Rattle.set_meaning.specs.declared.problems.Relation.TheVariants as relations
use Rattle.fzn_model.specs.declared.names.ConstraintName.{ConstraintName}

-- all relations
abbrev pub all_relations : List Relation
all_relations =
    relations.SetEq ∷ relations.SetNe ∷ relations.SetLt ∷ relations.SetLe ∷ relations.SetSubset ∷
    relations.SetSuperset ∷ relations.SetIn ∷ relations.SetUnion ∷ relations.SetIntersect ∷ relations.SetDiff ∷
    relations.SetSymdiff ∷ relations.SetCard ∷ relations.ArraySetElement ∷ relations.IntEq ∷ relations.IntNe ∷
    relations.IntLe ∷ relations.IntLt ∷ relations.IntLinEq ∷ relations.IntLinLe ∷ relations.IntLinNe ∷
    relations.IntPlus ∷ relations.IntTimes ∷ relations.IntMin ∷ relations.IntMax ∷ relations.IntAbs ∷
    relations.ArrayIntElement ∷ relations.BoolEq ∷ relations.BoolLe ∷ relations.BoolLt ∷ relations.BoolNot ∷
    relations.BoolAnd ∷ relations.BoolOr ∷ relations.BoolXor ∷ relations.BoolClause ∷ relations.ArrayBoolAnd ∷
    relations.ArrayBoolOr ∷ relations.Bool2Int ∷ relations.ArrayBoolElement ∷ []

-- the name of a relation; each of the element relations has a second one, below
abbrev pub name_of : Relation → List ℕ
name_of relations.SetEq = codes "set_eq"
name_of relations.SetNe = codes "set_ne"
name_of relations.SetLt = codes "set_lt"
name_of relations.SetLe = codes "set_le"
name_of relations.SetSubset = codes "set_subset"
name_of relations.SetSuperset = codes "set_superset"
name_of relations.SetIn = codes "set_in"
name_of relations.SetUnion = codes "set_union"
name_of relations.SetIntersect = codes "set_intersect"
name_of relations.SetDiff = codes "set_diff"
name_of relations.SetSymdiff = codes "set_symdiff"
name_of relations.SetCard = codes "set_card"
name_of relations.ArraySetElement = codes "array_set_element"
name_of relations.IntEq = codes "int_eq"
name_of relations.IntNe = codes "int_ne"
name_of relations.IntLe = codes "int_le"
name_of relations.IntLt = codes "int_lt"
name_of relations.IntLinEq = codes "int_lin_eq"
name_of relations.IntLinLe = codes "int_lin_le"
name_of relations.IntLinNe = codes "int_lin_ne"
name_of relations.IntPlus = codes "int_plus"
name_of relations.IntTimes = codes "int_times"
name_of relations.IntMin = codes "int_min"
name_of relations.IntMax = codes "int_max"
name_of relations.IntAbs = codes "int_abs"
name_of relations.ArrayIntElement = codes "array_int_element"
name_of relations.BoolEq = codes "bool_eq"
name_of relations.BoolLe = codes "bool_le"
name_of relations.BoolLt = codes "bool_lt"
name_of relations.BoolNot = codes "bool_not"
name_of relations.BoolAnd = codes "bool_and"
name_of relations.BoolOr = codes "bool_or"
name_of relations.BoolXor = codes "bool_xor"
name_of relations.BoolClause = codes "bool_clause"
name_of relations.ArrayBoolAnd = codes "array_bool_and"
name_of relations.ArrayBoolOr = codes "array_bool_or"
name_of relations.Bool2Int = codes "bool2int"
name_of relations.ArrayBoolElement = codes "array_bool_element"

-- the other name of an element relation
abbrev pub other_name_of : Relation → Option (List ℕ)
other_name_of relations.ArraySetElement = Some (codes "array_var_set_element")
other_name_of relations.ArrayIntElement = Some (codes "array_var_int_element")
other_name_of relations.ArrayBoolElement = Some (codes "array_var_bool_element")
other_name_of _ = None

abbrev pub is_some_name : List ℕ → Option (List ℕ) → Bool
is_some_name name None = false
is_some_name name (Some other) = bytes_eq other name

-- the relation has this name
abbrev pub is_called : List ℕ → Relation → Bool
is_called name r = bytes_eq (name_of r) name || is_some_name name (other_name_of r)

-- the name of a reifiable relation in its reified form
abbrev pub reified_name_of : Relation → Option (List ℕ)
reified_name_of relations.SetEq = Some (codes "set_eq_reif")
reified_name_of relations.SetNe = Some (codes "set_ne_reif")
reified_name_of relations.SetLt = Some (codes "set_lt_reif")
reified_name_of relations.SetLe = Some (codes "set_le_reif")
reified_name_of relations.SetSubset = Some (codes "set_subset_reif")
reified_name_of relations.SetSuperset = Some (codes "set_superset_reif")
reified_name_of relations.SetIn = Some (codes "set_in_reif")
reified_name_of relations.IntEq = Some (codes "int_eq_reif")
reified_name_of relations.IntNe = Some (codes "int_ne_reif")
reified_name_of relations.IntLe = Some (codes "int_le_reif")
reified_name_of relations.IntLt = Some (codes "int_lt_reif")
reified_name_of relations.IntLinEq = Some (codes "int_lin_eq_reif")
reified_name_of relations.IntLinLe = Some (codes "int_lin_le_reif")
reified_name_of relations.IntLinNe = Some (codes "int_lin_ne_reif")
reified_name_of relations.BoolEq = Some (codes "bool_eq_reif")
reified_name_of relations.BoolLe = Some (codes "bool_le_reif")
reified_name_of relations.BoolLt = Some (codes "bool_lt_reif")
reified_name_of _ = None

abbrev pub is_called_reified : List ℕ → Relation → Bool
is_called_reified name r = is_some_name name (reified_name_of r)

-- the relation of a name, and that of a reified name
unfoldable pub relation_called : List ℕ → Option Relation
relation_called name = find (is_called name) all_relations

unfoldable pub relation_called_reified : List ℕ → Option Relation
relation_called_reified name = find (is_called_reified name) all_relations

abbrev pub plain : Relation → ConstraintName
plain r = record { relation = r; is_reified = false }

abbrev pub reified : Relation → ConstraintName
reified r = record { relation = r; is_reified = true }

-- what the name of a constraint says, if anything
abbrev pub named : List ℕ → Option ConstraintName
named name = option_or (option_map plain (relation_called name)) (option_map reified (relation_called_reified name))
