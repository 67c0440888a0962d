use Rattle.std.proofs.Common.{vec_len}
use Rattle.pin_lists.proofs.lists.PinList.leave.Given as goal

abbrev pub decreases-loop-pin : goal.decreases-loop-pin
decreases-loop-pin l = vec_len l.pins
