use Rattle.std.proofs.Common.{List, sym, subst}
use Rattle.std.specs.List.{All}
use Rattle.set_meaning.specs.declared.problems.VarId.{VarId}
use Rattle.diagram_arena.specs.declared.nodes.Ref.{Ref}
use Rattle.diagram_arena.specs.Table.{IsLive}
use Rattle.diagram_arena.specs.Arena.{table}
use Rattle.learn_search.specs.Way.{IsTaken, AreStirred}
use Rattle.learn_search.proofs.Turning.{quiet_turn, narrowed_turn, narrowed_live}
use Rattle.learn_search.proofs.narrowing.turn.Goals as goal

pub returns-in-Quiet-clause-turn : goal.returns-in-Quiet-clause-turn
returns-in-Quiet-clause-turn c =
    quiet_turn c.args.p.now c.args.layout.now (table c.args.ops.now.arena) (table c.take.new.ops.arena) c.args.compiled.now c.args.c.0 c.args.domains.now c.take.new.domains c.args.queue.now c.requires.queue c.requires.settled
    (subst (IsTaken c.args.p.now c.args.layout.now (table c.args.ops.now.arena) (table c.take.new.ops.arena) c.args.c.0 c.args.domains.now c.take.new.domains) c.in-Quiet.is c.in_ok-take.ensures.taken)

pub returns-in-Violated-clause-turn : goal.returns-in-Violated-clause-turn
returns-in-Violated-clause-turn c =
    subst (IsTaken c.args.p.now c.args.layout.now (table c.args.ops.now.arena) (table c.take.new.ops.arena) c.args.c.0 c.args.domains.now c.take.new.domains) c.in-Violated.is c.in_ok-take.ensures.taken

pub measure_each-requires : goal.measure_each-requires
measure_each-requires c =
    subst (λ (kept : List (VarId × Ref)). All (λ x. IsLive (table c.take.new.ops.arena) x.1) kept) (sym c.as_slice.ensures.value)
    (narrowed_live c.args.p.now c.args.layout.now (table c.args.ops.now.arena) (table c.take.new.ops.arena) c.args.c.0 c.args.domains.now c.take.new.domains c.in-Narrowed.kept c.in_ok-take.field-0 c.in-Narrowed.is c.in_ok-take.ensures.taken)

pub returns-in_ok-measure_each-in-Narrowed-clause-turn : goal.returns-in_ok-measure_each-in-Narrowed-clause-turn
returns-in_ok-measure_each-in-Narrowed-clause-turn c =
    narrowed_turn c.args.p.now c.args.layout.now (table c.args.ops.now.arena) (table c.take.new.ops.arena) c.args.compiled.now c.args.c.0 c.args.domains.now c.take.new.domains c.args.queue.now c.requires.queue c.requires.settled
    c.in-Narrowed.kept.items c.flag_each.new.queue c.requires.compiled
    (subst (IsTaken c.args.p.now c.args.layout.now (table c.args.ops.now.arena) (table c.take.new.ops.arena) c.args.c.0 c.args.domains.now c.take.new.domains) c.in-Narrowed.is c.in_ok-take.ensures.taken)
    (subst (AreStirred c.args.queue.now c.flag_each.new.queue c.args.c.0) c.as_slice-in-Narrowed.ensures.value c.flag_each.ensures)
