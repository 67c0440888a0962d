-- What a walk leaves before the sides of its box are held. Words of private helpers.
use Rattle.std.specs.Prelude.{List}
use Rattle.set_meaning.specs.declared.problems.Problem.{Problem}
use Rattle.bit_layout.specs.Order.{LayoutState}
use Rattle.diagram_arena.specs.declared.nodes.Ref.{Ref}
use Rattle.diagram_arena.specs.Table.{Table}
use Rattle.exact_steps.specs.Domains.{family}
use Rattle.domain_trail.specs.Trail.{TrailState}
use Rattle.box_clauses.specs.declared.store.StoredBox.{StoredBox}
use Rattle.search_state.specs.Readings.{IsTrailOf}
use Rattle.search_state.specs.Turns.{IsTurn, HasGoneBack}
use Rattle.running_boxes.specs.Running.{AreRunning}
use Rattle.explain.specs.declared.returning.BackTo.{BackTo}
use Rattle.explain.specs.Walks.{HoldsExcluded, IsNewBox}

-- the walk stopped with this running box, and the trail went back
pub record IsTurned (p : Problem) (l : LayoutState) (t u : Table) (stored : List StoredBox) (old new : TrailState)
    (running : List Ref) (to : BackTo) : Type 0 where
  pub running_is : AreRunning l u running
  pub turn : IsTurn p l t stored old (family l u running) to.var.0 to.level
  pub gone : HasGoneBack l t u stored to.level old new
  pub trail : IsTrailOf p l u stored new
  pub excluded : HoldsExcluded p l t stored (family l u running)
  pub is_new : IsNewBox l t stored (family l u running)
