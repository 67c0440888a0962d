use Rattle.std.proofs.Common.{◌≡◌, Err, ap, ◌∙◌, subst}
use Rattle.diagram_arena.specs.declared.nodes.Stop.{Stop}
use Rattle.diagram_arena.specs.declared.nodes.Stop.TheVariants.{Full}
use Rattle.diagram_arena.specs.Arena.{table}
use Rattle.node_reclaim.specs.Holders.{Gains}
use Rattle.pin_lists.proofs.Leaving.{gained_from}
use Rattle.propagators.proofs.Reaching.{held_there, all_compiled, units_reach, stopped_so, left_now, left_so, full_so}
use Rattle.propagators.proofs.compiled.Compiled.new.Goals as goal

pub give_back-requires : goal.give_back-requires
give_back-requires c = held_there c.args.layout.now c.args.p.now c.args.ops.now c.compile.new.ops c.compile.new.pins c.compile.ensures.held.left

pub returns-in-Ok-clause-compiled : goal.returns-in-Ok-clause-compiled
returns-in-Ok-clause-compiled c =
    all_compiled c.args.layout.now c.args.p.now (table c.compile.new.ops.arena) _ c.requires.limits.legal c.requires.layout c.in-Ok.ensures.start c.in-Ok.ensures.scopes c.in-Ok.ensures.diagrams

pub returns-in-Ok-clause-pins : goal.returns-in-Ok-clause-pins
returns-in-Ok-clause-pins c = subst (Gains c.args.ops.now c.compile.new.ops) c.in-Ok.ensures.pinned (gained_from c.args.ops.now c.compile.new.ops c.compile.new.pins c.compile.ensures.held.left.pins)

pub returns-in-Ok-clause-kept : goal.returns-in-Ok-clause-kept
returns-in-Ok-clause-kept c = (left_now c.args.layout.now c.args.p.now c.args.ops.now c.compile.new.ops c.compile.new.pins c.compile.ensures.held.left).kept

pub returns-in-Ok-clause-reach : goal.returns-in-Ok-clause-reach
returns-in-Ok-clause-reach c =
    units_reach c.args.layout.now c.args.p.now (table c.args.ops.now.arena) (table c.compile.new.ops.arena) c.obeys_order.ensures c.compile.ensures.held.left.reduced c.compile.ensures.held.left.sets

pub returns-in-Err-clause-stopped : goal.returns-in-Err-clause-stopped
returns-in-Err-clause-stopped c = stopped_so c.args.layout.now c.args.p.now c.args.ops.now c.compile.new.ops c.give_back.new.ops c.compile.new.pins c.in-Err.stop c.compile.ensures.held c.give_back.ensures

pub returns-in-Err-clause-full : goal.returns-in-Err-clause-full
returns-in-Err-clause-full c e =
    let same : c.in-Err.stop ≡ Full = cc in
    full_so c.compile.new.ops c.give_back.new.ops c.compile.new.pins c.in-Err.stop (λ (f : c.in-Err.stop ≡ Full). c.compile.ensures.full (c.in-Err.is ∙ ap (λ (s : Stop). Err s) f)) c.give_back.ensures same

pub returns-in-Err-clause-reduced : goal.returns-in-Err-clause-reduced
returns-in-Err-clause-reduced c = (left_so c.args.layout.now c.args.p.now c.args.ops.now c.compile.new.ops c.give_back.new.ops c.compile.new.pins c.in-Err.stop c.compile.ensures.held c.give_back.ensures).reduced

pub returns-in-Err-clause-limit : goal.returns-in-Err-clause-limit
returns-in-Err-clause-limit c = (left_so c.args.layout.now c.args.p.now c.args.ops.now c.compile.new.ops c.give_back.new.ops c.compile.new.pins c.in-Err.stop c.compile.ensures.held c.give_back.ensures).limit

pub returns-in-Err-clause-kept : goal.returns-in-Err-clause-kept
returns-in-Err-clause-kept c = (left_so c.args.layout.now c.args.p.now c.args.ops.now c.compile.new.ops c.give_back.new.ops c.compile.new.pins c.in-Err.stop c.compile.ensures.held c.give_back.ensures).kept

pub returns-in-Err-clause-wanted : goal.returns-in-Err-clause-wanted
returns-in-Err-clause-wanted c = (left_so c.args.layout.now c.args.p.now c.args.ops.now c.compile.new.ops c.give_back.new.ops c.compile.new.pins c.in-Err.stop c.compile.ensures.held c.give_back.ensures).sets

pub returns-in-Err-clause-reach : goal.returns-in-Err-clause-reach
returns-in-Err-clause-reach c =
    let left = left_so c.args.layout.now c.args.p.now c.args.ops.now c.compile.new.ops c.give_back.new.ops c.compile.new.pins c.in-Err.stop c.compile.ensures.held c.give_back.ensures in
    units_reach c.args.layout.now c.args.p.now (table c.args.ops.now.arena) (table c.give_back.new.ops.arena) c.obeys_order.ensures left.reduced left.sets
