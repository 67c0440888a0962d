-- What is compiled and pinned while boxes are added. Words of private helpers.
use Rattle.std.specs.Prelude.{◌≡◌, List, ◌++◌, All}
use Rattle.set_meaning.specs.declared.problems.Problem.{Problem}
use Rattle.bit_layout.specs.Order.{LayoutState}
use Rattle.diagram_arena.specs.Arena.{table}
use Rattle.node_reclaim.specs.Pool.{PoolState}
use Rattle.node_reclaim.specs.Holders.{AreHeld}
use Rattle.propagators.specs.Compiled.{CompiledState, pinned_by, IsCompiled}
use Rattle.box_clauses.specs.declared.store.StoredBox.{StoredBox}
use Rattle.box_clauses.specs.Boxes.{AreSides}
use Rattle.box_clauses.specs.Stored.{stored_sets}

pub record IsFilled (p : Problem) (l : LayoutState) (s : PoolState) (k : CompiledState)
    (stored : List StoredBox) : Type 0 where
  pub compiled : IsCompiled l p (table s.arena) k
  pub boxes : All (λ (b : StoredBox). AreSides l (table s.arena) b.sides) stored
  pub pinned : AreHeld s (pinned_by k ++ stored_sets stored)
