use Rattle.std.proofs.Common.{List, sym, subst}
use Rattle.std.specs.List.{All}
use Rattle.set_meaning.specs.declared.problems.VarId.{VarId}
use Rattle.diagram_arena.specs.declared.nodes.Ref.{Ref}
use Rattle.diagram_arena.specs.Table.{IsLive}
use Rattle.diagram_arena.specs.Arena.{table}
use Rattle.propagation.specs.Work.{constraint_in, IsStepped, AreStirred}
use Rattle.propagation.proofs.Turns.{turned_same, turned_narrowed, queue_stirred}
use Rattle.propagation.proofs.turning.turn.Goals as goal

pub returns-in-Same-clause-turned : goal.returns-in-Same-clause-turned
returns-in-Same-clause-turned c = turned_same c.args.p.now c.args.layout.now (table c.args.ops.now.arena) (table c.take.new.ops.arena) c.args.boxes.now c.args.unit c.args.trail.now c.take.new.trail c.args.queue.now c.requires.settled (subst (IsStepped c.args.p.now c.args.layout.now (table c.args.ops.now.arena) (table c.take.new.ops.arena) c.args.boxes.now c.args.unit c.args.trail.now c.take.new.trail) c.in-Same.is c.in_ok-take.ensures.stepped)

pub measure-requires : goal.measure-requires
measure-requires c =
    subst (λ (kept : List (VarId × Ref)). All (λ x. IsLive (table c.take.new.ops.arena) x.1) kept) (sym c.as_slice.ensures.value)
    (subst (IsStepped c.args.p.now c.args.layout.now (table c.args.ops.now.arena) (table c.take.new.ops.arena) c.args.boxes.now c.args.unit c.args.trail.now c.take.new.trail) c.in-Narrowed.is c.in_ok-take.ensures.stepped).live

pub returns-in_ok-measure-in-Narrowed-clause-turned : goal.returns-in_ok-measure-in-Narrowed-clause-turned
returns-in_ok-measure-in-Narrowed-clause-turned c =
    turned_narrowed c.args.p.now c.args.layout.now (table c.args.ops.now.arena) (table c.take.new.ops.arena) c.args.boxes.now c.args.unit c.args.trail.now c.take.new.trail c.args.queue.now c.requires.settled (table c.args.ops.now.arena) c.args.compiled.now c.in-Narrowed.kept.items c.stir.new.queue c.requires.ready.compiled c.requires.queue
    (subst (IsStepped c.args.p.now c.args.layout.now (table c.args.ops.now.arena) (table c.take.new.ops.arena) c.args.boxes.now c.args.unit c.args.trail.now c.take.new.trail) c.in-Narrowed.is c.in_ok-take.ensures.stepped)
    (subst (AreStirred c.args.queue.now c.stir.new.queue (constraint_in c.args.unit)) c.as_slice-in-Narrowed.ensures.value c.stir.ensures)

pub returns-in_ok-measure-in-Narrowed-clause-queue : goal.returns-in_ok-measure-in-Narrowed-clause-queue
returns-in_ok-measure-in-Narrowed-clause-queue c = queue_stirred c.args.compiled.now c.args.queue.now c.stir.new.queue c.stir.ensures.scopes c.stir.ensures.long c.requires.queue

pub returns-in-Empty-clause-turned : goal.returns-in-Empty-clause-turned
returns-in-Empty-clause-turned c = (c.requires.known, subst (IsStepped c.args.p.now c.args.layout.now (table c.args.ops.now.arena) (table c.take.new.ops.arena) c.args.boxes.now c.args.unit c.args.trail.now c.take.new.trail) c.in-Empty.is c.in_ok-take.ensures.stepped)
