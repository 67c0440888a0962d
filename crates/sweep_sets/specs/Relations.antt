-- Which relations are of sets alone, and by which rule each is read. This project's own.
use Rattle.std.specs.Prelude.{◌≡◌, ◌↔◌, Bool, true, false, List, map, filter_map, flat_map, Contains, ⊤}
use Rattle.std.specs.List.{AllZip}
use Rattle.set_meaning.specs.declared.kinds.Kind.{Kind}
use Rattle.set_meaning.specs.declared.kinds.Value.{Value}
use Rattle.set_meaning.specs.declared.problems.VarId.{VarId}
use Rattle.set_meaning.specs.declared.problems.Arg.{Arg}
use Rattle.set_meaning.specs.declared.problems.Arg.TheVariants.{One, Many}
use Rattle.set_meaning.specs.declared.problems.Relation.{Relation}
use Rattle.set_meaning.specs.declared.problems.Relation.TheVariants.{SetEq, SetNe, SetLt, SetLe, SetSubset, SetSuperset, SetUnion, SetIntersect, SetDiff, SetSymdiff}
use Rattle.set_meaning.specs.Kinds.{IsAssignment}
use Rattle.set_meaning.specs.Rows.{HasShape, row_of, shapes_of}
use Rattle.set_meaning.specs.Relations.{HoldsOf, terms_of, variable_of}
use Rattle.bit_layout.specs.declared.places.Place.{Place}
use Rattle.sweep_rules.specs.Rules.{accepts}
use Rattle.sweep_rules.specs.SetPlaces.{set_bit, AreSetPlaces}
use Rattle.sweep_sets.specs.declared.rules.Rule.{Rule}
use Rattle.sweep_sets.specs.declared.rules.Rule.TheVariants.{Equal, Subset, Superset, Union, Intersection, Difference, SymmetricDifference, Before, AtMost}
use Rattle.sweep_sets.specs.declared.shapes.SetShape.{SetShape}
use Rattle.sweep_sets.specs.Shapes.{rules_of, HasTruth}

-- relations whose arguments are all sets, two or three terms
abbrev pub is_between_sets : Relation → Bool
is_between_sets SetEq = true
is_between_sets SetNe = true
is_between_sets SetLt = true
is_between_sets SetLe = true
is_between_sets SetSubset = true
is_between_sets SetSuperset = true
is_between_sets SetUnion = true
is_between_sets SetIntersect = true
is_between_sets SetDiff = true
is_between_sets SetSymdiff = true
is_between_sets _ = false

-- the rule, and the truth value that it has where the relation holds
abbrev pub rule_of : Relation → Rule
rule_of SetLt = Before
rule_of SetLe = AtMost
rule_of SetSubset = Subset
rule_of SetSuperset = Superset
rule_of SetUnion = Union
rule_of SetIntersect = Intersection
rule_of SetDiff = Difference
rule_of SetSymdiff = SymmetricDifference
rule_of _ = Equal

abbrev pub rule_truth : Relation → Bool
rule_truth SetNe = false
rule_truth _ = true

-- the arguments are those of the relation, over some variables
abbrev pub FitsRelation : Relation → List Arg → Type 0
FitsRelation relation args = (kinds : List Kind) × AllZip (HasShape kinds) (shapes_of (row_of relation)) args

-- the argument is no array
abbrev pub IsOneTerm : Arg → Type 0
IsOneTerm (One t) = ⊤
IsOneTerm (Many ts) = ⊥

-- each variable of the arguments is listed
abbrev pub AreAmong : List VarId → List Arg → Type 0
AreAmong sets args = (v : VarId) → Contains (filter_map variable_of (flat_map terms_of args)) v → Contains sets v

-- of the bits of set variables, those of the arguments among them, the shape accepts just those of assignments for
-- which the relation has the truth value
abbrev pub IsShapeOf : List Place → Relation → Bool → List Arg → SetShape → Type 0
IsShapeOf places relation truth args shape = (kinds : List Kind) (sets : List VarId) (values : List Value)
    → AreSetPlaces kinds sets places → AllZip (HasShape kinds) (shapes_of (row_of relation)) args → AreAmong sets args → IsAssignment kinds values
    → (accepts (rules_of shape) (map (set_bit values) places) ≡ true) ↔ HasTruth truth (HoldsOf relation args values)
