use Rattle.std.proofs.Common.{◌≡◌, ◌<◌, ◌+◌, length, refl, ap, sym, ◌∙◌, arith}
use Rattle.bit_layout.proofs.Making.{few_kinds}
use Rattle.diagram_arena.specs.Arena.{table}
use Rattle.branching_tests.proofs.Gathering.{one_more}
use Rattle.branching_tests.proofs.samples.domains.Goals as goal

pub overflow_cast-i : goal.overflow_cast-i
overflow_cast-i c =
    let few = few_kinds c.args.layout.now.kinds c.obeys_order.ensures.limits in
    let same = ap length c.requires.kinds in
    let test = c.loop-i-test.true in
    omega (arith, few, same, test)

pub loop-i-preserved : goal.loop-i-preserved
loop-i-preserved c =
    one_more c.args.layout.now (table c.loop-i.ops.arena) (table c.all_values.new.ops.arena) c.loop-i.i (c.loop-i.i + 1) c.loop-i.domains.items c.push.new.domains.items (record { 0 = c.loop-i.i }) c.in_ok-r.r
    c.all_values.ensures.stays.grows c.loop-i.invariant refl c.in_ok-r.ensures.domain c.in_ok-push.ensures refl
