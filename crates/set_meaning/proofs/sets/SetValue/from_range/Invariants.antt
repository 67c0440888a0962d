use Rattle.std.proofs.Common.{◌≡◌}
use Rattle.set_meaning.specs.Sets.{integers_from}
use Rattle.set_meaning.proofs.sets.SetValue.from_range.Given as goal

abbrev pub invariant-loop-offset : goal.invariant-loop-offset
invariant-loop-offset l = l.elements.items ≡ integers_from l.lo l.offset
