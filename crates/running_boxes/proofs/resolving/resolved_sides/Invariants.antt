use Rattle.std.proofs.Common.{◌≡◌, ℕ, Bool, ◌++◌, map, drop}
use Rattle.std.specs.List.{All}
use Rattle.set_meaning.specs.declared.kinds.Value.{Value}
use Rattle.diagram_arena.specs.Arena.{table}
use Rattle.node_reclaim.specs.Growth.{Stays, NewAre}
use Rattle.search_rules.specs.Box.{resolvent}
use Rattle.exact_steps.specs.Domains.{family}
use Rattle.running_boxes.specs.Work.{var_of, IsSideOf, IsOfResolved}
use Rattle.running_boxes.proofs.resolving.resolved_sides.Given as goal

abbrev pub invariant-loop-side : goal.invariant-loop-side
invariant-loop-side l = record {
  stays : Stays l.initial.ops l.ops;
  variables : map var_of l.resolved.items ++ map var_of (drop l.side-index l.sides) ≡ map var_of l.sides;
  each : (b : ℕ → Value → Bool) → All (IsSideOf l.layout (table l.initial.ops.arena) b) l.sides
      → All (IsSideOf l.layout (table l.ops.arena) (resolvent (family l.layout (table l.initial.ops.arena) l.running) b l.v.0)) l.resolved.items;
  made : NewAre (table l.initial.ops.arena) (table l.ops.arena) (IsOfResolved l.layout (table l.initial.ops.arena) l.running l.v l.sides);
}
