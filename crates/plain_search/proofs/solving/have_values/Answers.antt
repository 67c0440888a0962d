use Rattle.std.proofs.Common.{◌<◌, arith}
use Rattle.plain_search.proofs.DecideLemmas.{all_values}
use Rattle.plain_search.proofs.solving.have_values.Goals as goal

pub returns : goal.returns
returns c = all_values c.args.sets.now (λ v lt. let below : v < c.loop-set.set-index = omega arith in c.loop-set.invariant v below)
