use Rattle.std.proofs.Common.{◌≡◌, drop}
use Rattle.plain_steps.specs.Sets.{has}
use Rattle.plain_steps.proofs.set.has.Given as goal

abbrev pub invariant-loop-x : goal.invariant-loop-x
invariant-loop-x l = has l.set l.value ≡ has (drop l.x-index l.set) l.value
