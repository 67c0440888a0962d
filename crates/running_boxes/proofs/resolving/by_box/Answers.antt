use Rattle.std.proofs.Common.{sym, subst}
use Rattle.std.proofs.lemmas.Result.{IfOk-weaker}
use Rattle.diagram_arena.specs.Arena.{table}
use Rattle.propagators.specs.Compiled.{AreInitialDomains}
use Rattle.running_boxes.specs.Running.{resolvent_of}
use Rattle.running_boxes.specs.Work.{AreResolved, AreChanges}
use Rattle.running_boxes.proofs.Newest.{known_box}
use Rattle.running_boxes.proofs.Arms.{box_sides, box_changes, box_made}
use Rattle.running_boxes.proofs.resolving.by_box.Goals as goal

pub sides-requires : goal.sides-requires
sides-requires c = known_box c.args.p.now c.args.layout.now (table c.args.ops.now.arena) c.args.boxes.now c.args.trail.now c.args.entry c.requires.ready.legal c.requires.newest c.args.b c.requires.reason

pub resolved_sides-requires-clause-start : goal.resolved_sides-requires-clause-start
resolved_sides-requires-clause-start c = subst (AreInitialDomains c.args.layout.now (table c.args.ops.now.arena)) (sym c.start.ensures) c.requires.ready.compiled.start

pub resolved_sides-requires-clause-sides : goal.resolved_sides-requires-clause-sides
resolved_sides-requires-clause-sides c = (box_sides c.laws.ensures c.args.p.now c.args.layout.now c.args.ops.now c.args.compiled.now c.args.trail.now c.args.boxes.now c.args.running.now c.args.entry c.requires.ready c.requires.newest c.args.b c.requires.reason c.sides.result.now c.sides.ensures).each

pub returns-clause-sides : goal.returns-clause-sides
returns-clause-sides c =
    IfOk-weaker c.resolved_sides.result
    (λ resolved. AreResolved c.args.layout.now (table c.args.ops.now.arena) (table c.resolved_sides.new.ops.arena) c.args.running.now c.args.entry.var c.sides.result.now resolved.items)
    (λ resolved. AreChanges c.args.layout.now (table c.args.ops.now.arena) (table c.resolved_sides.new.ops.arena) c.args.running.now (resolvent_of c.args.p.now c.args.layout.now (table c.args.ops.now.arena) c.args.boxes.now c.args.trail.now c.args.entry c.args.running.now) resolved.items)
    (λ resolved are. box_changes c.laws.ensures c.args.p.now c.args.layout.now c.args.ops.now c.args.compiled.now c.args.trail.now c.args.boxes.now c.args.running.now c.args.entry c.requires.ready c.requires.newest c.args.b c.requires.reason c.sides.result.now c.sides.ensures (table c.resolved_sides.new.ops.arena) resolved.items are)
    c.resolved_sides.ensures.resolved

pub returns-clause-made : goal.returns-clause-made
returns-clause-made c = box_made c.laws.ensures c.args.p.now c.args.layout.now c.args.ops.now c.args.compiled.now c.args.trail.now c.args.boxes.now c.args.running.now c.args.entry c.requires.ready c.requires.newest c.args.b c.requires.reason c.sides.result.now c.sides.ensures (table c.resolved_sides.new.ops.arena) c.resolved_sides.ensures.made
