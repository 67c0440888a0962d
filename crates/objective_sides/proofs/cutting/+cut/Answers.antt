use Rattle.std.proofs.Common.{Err, ap, arith, ◌<◌, ◌^◌, get_or}
use Rattle.diagram_ops.proofs.Exits.{passed_on}
use Rattle.objective_sides.proofs.Turns.{at_end, here_next, here_err, here_join, here_cuts}
use Rattle.objective_sides.proofs.cutting.+cut.Goals as goal

pub returns-then-at-bits : goal.returns-then-at-bits
returns-then-at-bits t c = at_end c.args.ops.now c.args.f c.args.bits.now c.args.word.now c.args.at c.args.sense c.laws.ensures c.requires.long c.if-at-bits.true c.requires.over

pub cut-requires : goal.cut-requires
cut-requires t c =
    let within = c.requires.within in
    let more = c.if-at-bits.false in
    let small : get_or c.args.bits.now c.args.at 0 < 2 ^ 32 = omega (arith, c.type_inv.bits c.args.at) in (
      omega (arith, within, more),
      (
        c.requires.long,
        (
          omega (arith, within, more),
          here_next c.args.ops.now c.args.f c.args.bits.now c.args.word.now c.args.at c.args.sense c.laws.ensures c.requires.long c.requires.within c.if-at-bits.false c.requires.over small c.side-side.result c.side-side.ensures,
        ),
      ),
    )

pub returns-in_err-inner : goal.returns-in_err-inner
returns-in_err-inner t c =
    let small : get_or c.args.bits.now c.args.at 0 < 2 ^ 32 = omega (arith, c.type_inv.bits c.args.at) in
    here_err c.args.ops.now c.args.f c.args.bits.now c.args.word.now c.args.at c.args.sense c.laws.ensures c.requires.long c.requires.within c.if-at-bits.false c.requires.over small
    c.cut.new.ops c.side-side.result c.cut.result c.from_residual.result c.side-side.ensures c.cut.ensures c.from_residual.ensures.0
    (passed_on c.from_residual.result c.in_err-inner.field-0.0 _ c.from_residual.ensures.1 (λ e. c.in_err-inner.ensures.full (ap Err e)))

pub join-requires : goal.join-requires
join-requires t c =
    let small : get_or c.args.bits.now c.args.at 0 < 2 ^ 32 = omega (arith, c.type_inv.bits c.args.at) in
    here_join c.args.ops.now c.args.f c.args.bits.now c.args.word.now c.args.at c.args.sense c.laws.ensures c.requires.long c.requires.within c.if-at-bits.false c.requires.over small
    c.cut.new.ops c.side-side.result c.beyond-other.result c.in_ok-inner.inner c.side-side.ensures c.beyond-other.ensures c.in_ok-inner.ensures

pub returns : goal.returns
returns t c =
    let small : get_or c.args.bits.now c.args.at 0 < 2 ^ 32 = omega (arith, c.type_inv.bits c.args.at) in
    here_cuts c.args.ops.now c.args.f c.args.bits.now c.args.word.now c.args.at c.args.sense c.laws.ensures c.requires.long c.requires.within c.if-at-bits.false c.requires.over small
    c.cut.new.ops c.side-side.result c.beyond-other.result c.in_ok-inner.inner c.side-side.ensures c.beyond-other.ensures c.in_ok-inner.ensures
    c.join.new.ops c.join.result c.join.ensures.joins c.join.ensures.stays c.join.ensures.full c.join.ensures.parts
