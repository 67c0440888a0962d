use Rattle.std.proofs.Common.{take}
use Rattle.propagation.specs.Work.{AreStirred}
use Rattle.propagation.proofs.flagging.flag_each.Given as goal

abbrev pub invariant-loop-v : goal.invariant-loop-v
invariant-loop-v l = AreStirred l.initial.queue l.queue l.but (take l.v-index l.kept)
