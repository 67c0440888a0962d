use Rattle.std.proofs.Common.{vec_len}
use Rattle.pin_lists.proofs.Counting.{AreLeft}
use Rattle.pin_lists.proofs.lists.PinList.release.Given as goal

abbrev pub invariant-loop-pin : goal.invariant-loop-pin
invariant-loop-pin l = AreLeft l.initial.ops l.initial.pins.items l.ops l.pins.items

abbrev pub decreases-loop-pin : goal.decreases-loop-pin
decreases-loop-pin l = vec_len l.pins
