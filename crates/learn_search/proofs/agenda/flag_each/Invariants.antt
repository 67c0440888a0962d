use Rattle.std.proofs.Common.{take}
use Rattle.learn_search.specs.Way.{AreStirred}
use Rattle.learn_search.proofs.agenda.flag_each.Given as goal

abbrev pub invariant-loop-v : goal.invariant-loop-v
invariant-loop-v l = AreStirred l.initial.queue l.queue l.c.0 (take l.v-index l.kept)
