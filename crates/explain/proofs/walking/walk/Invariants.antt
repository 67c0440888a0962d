use Rattle.std.proofs.Common.{length}
use Rattle.explain.proofs.Onward.{IsUnderWay}
use Rattle.explain.proofs.walking.walk.Given as goal

abbrev pub invariant-loop-place : goal.invariant-loop-place
invariant-loop-place l = IsUnderWay l.p l.layout l.fn.ops l.ops l.boxes l.fn.trail l.trail l.fn.running l.running

abbrev pub decreases-loop-place : goal.decreases-loop-place
decreases-loop-place l = length l.trail.entries
