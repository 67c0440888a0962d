use Rattle.fzn_model.proofs.Rules.{first_next, first_whole}
use Rattle.fzn_model.proofs.declarations.number_among.Goals as goal

pub loop-number-preserved : goal.loop-number-preserved
loop-number-preserved c =
    first_next c.args.numbers.now c.loop-number.number-index _ c.loop-number.first c.number_fault.result c.earlier-first.result c.loop-number-test.true c.loop-number.invariant
    c.number_fault.ensures c.earlier-first.ensures

pub returns : goal.returns
returns c = first_whole c.args.numbers.now c.loop-number.number-index c.loop-number.first c.loop-number-test.false c.loop-number.invariant
