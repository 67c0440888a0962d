use Rattle.std.proofs.Common.{◌≡◌, ◌≤◌, ◌<◌, ◌+◌, length, get_or, ap, sym, subst, arith}
use Rattle.std.proofs.lemmas.Option.{slice_get-get_or}
use Rattle.bit_layout.proofs.Making.{few_kinds}
use Rattle.diagram_arena.specs.declared.nodes.Ref.TheVariants.{Zero}
use Rattle.diagram_arena.specs.Arena.{table}
use Rattle.learn_search.specs.Way.{AreRowsAt}
use Rattle.learn_search.proofs.Sizes.{more_rows}
use Rattle.learn_search.proofs.rows.rows.Goals as goal

pub overflow_cast-v : goal.overflow_cast-v
overflow_cast-v c =
    let few : length c.args.p.now.kinds ≤ 1048576 = few_kinds c.args.p.now.kinds c.requires.limits.kinds in
    let same : length c.args.layout.now.kinds ≡ length c.args.p.now.kinds = ap length c.requires.layout in
    let long : length c.args.domains.now ≡ length c.args.layout.now.kinds = c.requires.domains.long in
    let within : c.loop-v.v < length c.args.domains.now = c.loop-v-test.true in
    omega (arith, few, same, long, within)

pub row-requires-clause-domain : goal.row-requires-clause-domain
row-requires-clause-domain c =
    c.requires.domains.each (record { 0 = c.loop-v.v }) (get_or c.args.domains.now c.loop-v.v Zero) (slice_get-get_or c.args.domains.now c.loop-v.v Zero c.loop-v-test.true)

pub loop-v-preserved : goal.loop-v-preserved
loop-v-preserved c =
    subst (AreRowsAt c.args.layout.now (table c.args.ops.now.arena) c.args.domains.now (c.loop-v.v + 1)) (sym c.in_ok-push.ensures.items)
    (more_rows c.args.layout.now (table c.args.ops.now.arena) c.args.domains.now c.loop-v.v c.loop-v.rows.items (get_or c.args.domains.now c.loop-v.v Zero) c.in_ok-row.field-0
    (slice_get-get_or c.args.domains.now c.loop-v.v Zero c.loop-v-test.true) c.in_ok-row.ensures c.loop-v.invariant)
