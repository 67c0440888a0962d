-- Relations of sets that hold where each element passes a test. This project's own.
use Rattle.std.specs.Prelude.{Bool, true, not, ◌&&◌, ◌||◌}
use Rattle.bit_machine.specs.Comparisons.{beq}
use Rattle.element_machine.specs.declared.marks.Marks.{Marks}
use Rattle.element_machine.specs.Rules.{ElementRules}
use Rattle.set_shapes.specs.declared.tests_of_elements.ElementTest.{ElementTest}
use Rattle.set_shapes.specs.declared.tests_of_elements.ElementTest.TheVariants.{Equal, Subset, Superset, Union, Intersection, Difference, SymmetricDifference}

-- whether an element that these sets have passes
abbrev pub passes : ElementTest → Marks → Bool
passes Equal m = beq m.first m.second
passes Subset m = not m.first || m.second
passes Superset m = not m.second || m.first
passes Union m = beq m.third (m.first || m.second)
passes Intersection m = beq m.third (m.first && m.second)
passes Difference m = beq m.third (m.first && not m.second)
passes SymmetricDifference m = beq m.third (not (beq m.first m.second))

-- the machine that keeps whether all elements have passed, and accepts where this is what is wanted
abbrev pub all_pass : ElementTest → Bool → ElementRules Bool
all_pass test wanted = record { start = true; close = λ q m. q && passes test m; accept = λ q. beq q wanted }
