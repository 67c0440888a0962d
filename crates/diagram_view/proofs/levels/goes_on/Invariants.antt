use Rattle.std.proofs.Common.{◌≡◌, ℕ, ◌<◌, get_or}
use Rattle.diagram_arena.specs.declared.nodes.Ref.{Ref}
use Rattle.diagram_arena.specs.declared.nodes.Ref.TheVariants.{Zero}
use Rattle.diagram_arena.specs.Arena.{table}
use Rattle.diagram_view.specs.Steps.{side}
use Rattle.diagram_view.proofs.levels.goes_on.Given as goal

abbrev pub invariant-loop-r : goal.invariant-loop-r
invariant-loop-r l = (k : ℕ) (d : Ref) → k < l.r-index → side (table l.arena) (get_or l.refs k d) l.bit l.value ≡ Zero
