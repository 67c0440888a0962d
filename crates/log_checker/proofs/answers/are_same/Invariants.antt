use Rattle.log_checker.proofs.Sames.{IsLeft}
use Rattle.log_checker.proofs.answers.are_same.Given as goal

abbrev pub invariant-loop-x : goal.invariant-loop-x
invariant-loop-x l = IsLeft l.first l.second l.x-iterator.a.rest.now l.x-iterator.b.rest.now
