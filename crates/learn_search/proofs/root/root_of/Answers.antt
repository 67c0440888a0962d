use Rattle.std.proofs.Common.{◌≡◌, Err, ap, ◌∙◌}
use Rattle.diagram_arena.specs.declared.nodes.Stop.{Stop}
use Rattle.diagram_arena.specs.declared.nodes.Stop.TheVariants.{Full}
use Rattle.learn_search.proofs.Spending.{root_itself, compile_leaves, compile_stopped, held_all, spent_pins, spent_leaves, after_stop, leaves_after}
use Rattle.learn_search.proofs.root.root_of.Goals as goal

pub returns-in_err-layout-clause-left : goal.returns-in_err-layout-clause-left
returns-in_err-layout-clause-left c = root_itself c.args.p.now c.args.ops.now c.pool.ensures.pinned_live c.pool.ensures.reduced

pub returns-in-Err-clause-left : goal.returns-in-Err-clause-left
returns-in-Err-clause-left c =
    compile_leaves c.args.p.now c.in_ok-layout.layout c.args.ops.now c.new-2.new.ops c.obeys_order.ensures c.in_ok-layout.ensures.kinds c.new-2.ensures.limit c.new-2.ensures.kept c.new-2.ensures.wanted

pub returns-in-Err-clause-stopped : goal.returns-in-Err-clause-stopped
returns-in-Err-clause-stopped c = compile_stopped c.args.p.now c.in_ok-layout.layout c.args.ops.now c.new-2.new.ops c.in-Err.stop c.obeys_order.ensures c.in_ok-layout.ensures.kinds c.in-Err.ensures.stopped

pub give_back-requires : goal.give_back-requires
give_back-requires c = held_all c.args.p.now c.in_ok-layout.layout c.args.ops.now c.new-2.new.ops c.found.new.ops c.in-Ok.compiled c.found.new.domains c.obeys_order.ensures c.in-Ok.ensures.compiled c.new-2.ensures.reduced (compile_leaves c.args.p.now c.in_ok-layout.layout c.args.ops.now c.new-2.new.ops c.obeys_order.ensures c.in-Ok.ensures.compiled.kinds c.new-2.ensures.limit c.new-2.ensures.kept c.new-2.ensures.wanted) c.in-Ok.ensures.pins c.found.ensures.left

pub returns-in-Ok-found-clause-pins : goal.returns-in-Ok-found-clause-pins
returns-in-Ok-found-clause-pins c = spent_pins c.args.p.now c.in_ok-layout.layout c.args.ops.now c.new-2.new.ops c.found.new.ops c.in-Ok.compiled c.found.new.domains c.obeys_order.ensures c.in-Ok.ensures.compiled c.new-2.ensures.reduced (compile_leaves c.args.p.now c.in_ok-layout.layout c.args.ops.now c.new-2.new.ops c.obeys_order.ensures c.in-Ok.ensures.compiled.kinds c.new-2.ensures.limit c.new-2.ensures.kept c.new-2.ensures.wanted) c.in-Ok.ensures.pins c.found.ensures.left c.give_back.new.ops (c.give_back.ensures.taken_back (λ e. cc))

pub returns-in-Ok-found-clause-left : goal.returns-in-Ok-found-clause-left
returns-in-Ok-found-clause-left c = spent_leaves c.args.p.now c.in_ok-layout.layout c.args.ops.now c.new-2.new.ops c.found.new.ops c.in-Ok.compiled c.found.new.domains c.obeys_order.ensures c.in-Ok.ensures.compiled c.new-2.ensures.reduced (compile_leaves c.args.p.now c.in_ok-layout.layout c.args.ops.now c.new-2.new.ops c.obeys_order.ensures c.in-Ok.ensures.compiled.kinds c.new-2.ensures.limit c.new-2.ensures.kept c.new-2.ensures.wanted) c.in-Ok.ensures.pins c.found.ensures.left c.give_back.new.ops (c.give_back.ensures.taken_back (λ e. cc))

pub give_back-requires-in-Err-found : goal.give_back-requires-in-Err-found
give_back-requires-in-Err-found c = held_all c.args.p.now c.in_ok-layout.layout c.args.ops.now c.new-2.new.ops c.found.new.ops c.in-Ok.compiled c.found.new.domains c.obeys_order.ensures c.in-Ok.ensures.compiled c.new-2.ensures.reduced (compile_leaves c.args.p.now c.in_ok-layout.layout c.args.ops.now c.new-2.new.ops c.obeys_order.ensures c.in-Ok.ensures.compiled.kinds c.new-2.ensures.limit c.new-2.ensures.kept c.new-2.ensures.wanted) c.in-Ok.ensures.pins c.found.ensures.left

pub returns-clause-stopped : goal.returns-clause-stopped
returns-clause-stopped c =
    after_stop c.args.p.now c.in_ok-layout.layout c.args.ops.now c.new-2.new.ops c.found.new.ops c.in-Ok.compiled c.found.new.domains c.obeys_order.ensures c.in-Ok.ensures.compiled c.new-2.ensures.reduced (compile_leaves c.args.p.now c.in_ok-layout.layout c.args.ops.now c.new-2.new.ops c.obeys_order.ensures c.in-Ok.ensures.compiled.kinds c.new-2.ensures.limit c.new-2.ensures.kept c.new-2.ensures.wanted) c.in-Ok.ensures.pins c.found.ensures.left c.give_back-in-Err-found.new.ops c.in-Err-found.stop (λ (f : c.in-Err-found.stop ≡ Full). c.found.ensures.stopped (c.in-Err-found.is ∙ ap (λ (s : Stop). Err s) f))
    c.give_back-in-Err-found.ensures.left c.give_back-in-Err-found.ensures.taken_back

pub returns-clause-left : goal.returns-clause-left
returns-clause-left c = leaves_after c.args.p.now c.in_ok-layout.layout c.args.ops.now c.new-2.new.ops c.found.new.ops c.in-Ok.compiled c.found.new.domains c.obeys_order.ensures c.in-Ok.ensures.compiled c.new-2.ensures.reduced (compile_leaves c.args.p.now c.in_ok-layout.layout c.args.ops.now c.new-2.new.ops c.obeys_order.ensures c.in-Ok.ensures.compiled.kinds c.new-2.ensures.limit c.new-2.ensures.kept c.new-2.ensures.wanted) c.in-Ok.ensures.pins c.found.ensures.left c.give_back-in-Err-found.new.ops c.in-Err-found.stop c.give_back-in-Err-found.ensures.left c.give_back-in-Err-found.ensures.taken_back
