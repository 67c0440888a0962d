use Rattle.std.proofs.Common.{◌-◌, length}
use Rattle.objective_sides.proofs.cutting.+cut.Given as goal

abbrev pub decreases-cut : goal.decreases-cut
decreases-cut l = length l.bits.now - l.at
