use Rattle.plain_search.proofs.DecideLemmas.{least_begun, least_taken, least_kept, least_of_all}
use Rattle.plain_search.proofs.deciding.least_of.Goals as goal
use Rattle.plain_search.proofs.deciding.least_of.Goals.{then-value-least, else-value-least}

pub loop-value-init : goal.loop-value-init
loop-value-init c = least_begun c.args.set.now c.first_of-least.result c.first_of-least.ensures

pub loop-value-preserved : goal.loop-value-preserved
loop-value-preserved c = elim c.if-value-least.branch [
  | then-value-least w ↦
      least_taken c.args.set.now c.loop-value.value-index c.loop-value.least c.if-value-least.least c.loop-value-test.true
      c.loop-value.invariant w.least-is w.if-value-least.true
  | else-value-least w ↦
      least_kept c.args.set.now c.loop-value.value-index c.loop-value.least c.if-value-least.least c.loop-value.invariant w.least-is
      w.if-value-least.false
]

pub returns : goal.returns
returns c = least_of_all c.args.set.now c.loop-value.value-index c.loop-value.least c.loop-value.invariant c.loop-value-test.false
