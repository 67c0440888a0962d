use Rattle.running_boxes.proofs.Differing.{AreListed}
use Rattle.running_boxes.proofs.listing.sides_of.Given as goal

abbrev pub invariant-loop-i : goal.invariant-loop-i
invariant-loop-i l = AreListed l.start l.running l.i l.sides.items
