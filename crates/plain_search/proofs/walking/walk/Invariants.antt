use Rattle.std.proofs.Common.{length}
use Rattle.plain_search.proofs.WalkLemmas.{IsOnTheWay}
use Rattle.plain_search.proofs.walking.walk.Given as goal

abbrev pub invariant-loop-var : goal.invariant-loop-var
invariant-loop-var g l = IsOnTheWay (g.T.Task.plain l.task) l.fn.trail l.fn.first.items l.trail l.running.items

abbrev pub decreases-loop-var : goal.decreases-loop-var
decreases-loop-var g l = length l.trail.changes.items
