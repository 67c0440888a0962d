-- Which relations this crate makes diagrams of, and by which machine. This project's own.
use Rattle.std.specs.Prelude.{ℕ, Bool, true, false, ◌||◌, List}
use Rattle.diagram_arena.specs.Table.{Words}
use Rattle.bit_machine.specs.Rules.{accepts}
use Rattle.set_meaning.specs.declared.problems.Relation.{Relation}
use Rattle.set_meaning.specs.declared.problems.Relation.TheVariants.{SetEq, SetNe, SetLt, SetLe, SetSubset, SetSuperset, SetUnion, SetIntersect, SetDiff, SetSymdiff, ArraySetElement}
use Rattle.element_machine.specs.declared.marks.Marks.{Marks}
use Rattle.element_machine.specs.declared.marks.Entry.{Entry}
use Rattle.element_machine.specs.Reading.{by_elements}
use Rattle.set_shapes.specs.declared.machines.SetMachine.{SetMachine}
use Rattle.set_shapes.specs.declared.machines.SetMachine.TheVariants.{Tested, Ordered}
use Rattle.set_shapes.specs.declared.tests_of_elements.ElementTest.{ElementTest}
use Rattle.set_shapes.specs.declared.tests_of_elements.ElementTest.TheVariants.{Equal, Subset, Superset, Union, Intersection, Difference, SymmetricDifference}
use Rattle.set_shapes.specs.Tests.{all_pass}
use Rattle.set_shapes.specs.Orders.{compared}

-- equality and its negation, the order and the order or equality, subset and superset, and the operations on two sets
abbrev pub is_between_sets : Relation → Bool
is_between_sets SetEq = true
is_between_sets SetNe = true
is_between_sets SetLt = true
is_between_sets SetLe = true
is_between_sets SetSubset = true
is_between_sets SetSuperset = true
is_between_sets SetUnion = true
is_between_sets SetIntersect = true
is_between_sets SetDiff = true
is_between_sets SetSymdiff = true
is_between_sets _ = false

-- an index, an array of sets and the set at that place
abbrev pub is_element : Relation → Bool
is_element ArraySetElement = true
is_element _ = false

abbrev pub is_shape : Relation → Bool
is_shape relation = is_between_sets relation || is_element relation

abbrev pub tested : ElementTest → Bool → SetMachine
tested test wanted = Tested (record { test = test; wanted = wanted })

abbrev pub ordered : Bool → SetMachine
ordered equal = Ordered (record { equal = equal })

-- the machine of elements for each of them
abbrev pub machine_of : Relation → SetMachine
machine_of SetEq = tested Equal true
machine_of SetNe = tested Equal false
machine_of SetLt = ordered false
machine_of SetLe = ordered true
machine_of SetSubset = tested Subset true
machine_of SetSuperset = tested Superset true
machine_of SetUnion = tested Union true
machine_of SetIntersect = tested Intersection true
machine_of SetDiff = tested Difference true
machine_of SetSymdiff = tested SymmetricDifference true
machine_of _ = tested Equal true

-- the words that a machine accepts by reading these bits with this table
abbrev pub accepted_by : SetMachine → List Marks → List Entry → List ℕ → Words
accepted_by (Tested m) constants entries bits = accepts (by_elements (all_pass m.test m.wanted) constants entries) bits
accepted_by (Ordered m) constants entries bits = accepts (by_elements (compared m.equal) constants entries) bits
