use Rattle.std.proofs.Common.{◌≤◌, ◌+◌, arith}
use Rattle.bit_layout.proofs.Making.{start_fits, starts_step}
use Rattle.bit_layout.proofs.layout.starts_of.Goals as goal

pub overflow_add-start : goal.overflow_add-start
overflow_add-start c =
    let fits : c.loop-kind.start + c.width-start.result ≤ 1048576 =
    start_fits c.args.kinds.now c.loop-kind.kind-index c.kind-item.result c.loop-kind.start c.width-start.result c.requires c.loop-kind-test.true c.kind-item.is c.loop-kind.invariant.1 c.width-start.ensures in
    omega (arith, fits)

pub loop-kind-preserved : goal.loop-kind-preserved
loop-kind-preserved c =
    starts_step c.args.kinds.now c.loop-kind.starts.items c.push.new.self.items c.loop-kind.kind-index c.kind-item.result c.loop-kind.start c.width-start.result c.loop-kind-test.true c.kind-item.is c.width-start.ensures
    c.in_ok-push.ensures.items c.loop-kind.invariant
