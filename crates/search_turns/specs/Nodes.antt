-- Which nodes a search may make. This project's own.
use Rattle.std.specs.Prelude.{◌⊎◌}
use Rattle.set_meaning.specs.declared.problems.Problem.{Problem}
use Rattle.bit_layout.specs.Order.{LayoutState}
use Rattle.diagram_arena.specs.Table.{Words}
use Rattle.running_boxes.specs.Nodes.{IsOfVariable}
use Rattle.propagation.specs.Nodes.{IsOfPropagation}

-- W is one of the sets of a step on the family of some trail, or a part of the words of some values of one variable
abbrev pub IsOfSearch : Problem → LayoutState → Words → Type 0
IsOfSearch p l W = IsOfPropagation p l W ⊎ IsOfVariable l W
