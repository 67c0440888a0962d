use Rattle.std.proofs.Common.{◌≡◌, length}
use Rattle.propagation.proofs.flagging.measure.Given as goal

abbrev pub invariant-loop-v : goal.invariant-loop-v
invariant-loop-v l = length l.sizes.items ≡ length l.initial.sizes.items
