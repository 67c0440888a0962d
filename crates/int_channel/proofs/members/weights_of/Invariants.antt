use Rattle.std.proofs.Common.{◌≡◌, map, take}
use Rattle.int_channel.specs.Machines.{weight_of}
use Rattle.int_channel.proofs.members.weights_of.Given as goal

abbrev pub invariant-loop-bit : goal.invariant-loop-bit
invariant-loop-bit l = l.weights.items ≡ map (weight_of l.own) (take l.bit-index l.bits)
