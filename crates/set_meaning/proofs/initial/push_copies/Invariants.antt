use Rattle.std.proofs.Common.{◌≡◌, ◌++◌, drop}
use Rattle.set_meaning.proofs.initial.push_copies.Given as goal

abbrev pub invariant-loop-set : goal.invariant-loop-set
invariant-loop-set l = l.all.items ++ drop l.set-index l.sets ≡ l.initial.all.items ++ l.sets
