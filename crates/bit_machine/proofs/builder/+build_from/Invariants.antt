use Rattle.std.proofs.Common.{◌-◌, length}
use Rattle.bit_machine.proofs.builder.+build_from.Given as goal

abbrev pub decreases-build_from : goal.decreases-build_from
decreases-build_from g l = length l.bits.now - l.at
