use Rattle.std.proofs.Common.{◌≡◌, true, take}
use Rattle.std.specs.Prelude.{Contains}
use Rattle.std.specs.HashSet.{contains_by}
use Rattle.diagram_arena.specs.declared.nodes.Ref.{Ref}
use Rattle.diagram_arena.specs.contracts.nodes.RefPartialEq.TheImpl.{eq-value}
use Rattle.diagram_arena.specs.Arena.{table}
use Rattle.diagram_view.specs.Levels.{IsNextLevel}
use Rattle.diagram_view.proofs.levels.next_level.Given as goal

abbrev pub invariant-loop-r : goal.invariant-loop-r
invariant-loop-r l = record {
  level : IsNextLevel (table l.arena) (take l.r-index l.refs) l.bit l.next.items;
  seen : (q : Ref) → contains_by (eq-value.it q) l.seen ≡ true → Contains l.next.items q;
}
