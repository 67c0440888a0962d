use Rattle.std.proofs.Common.{◌≡◌, ◌+◌, ◌≤◌, List, length}
use Rattle.pin_lists.specs.Units.{Moves}
use Rattle.domain_trail.specs.declared.entries.Entry.{Entry}
use Rattle.domain_trail.specs.Trail.{held}
use Rattle.explain.specs.Work.{AreUndone}
use Rattle.explain.proofs.walking.pass.Given as goal

abbrev pub invariant-loop-trail : goal.invariant-loop-trail
invariant-loop-trail l = record {
  undone : (es : List Entry) × AreUndone es l.initial.trail l.trail;
  long : l.place + 1 ≤ length l.trail.entries;
  moved : Moves l.initial.ops l.ops (held l.initial.trail) (held l.trail);
  only : l.ops ≡ record l.initial.ops { counts = l.ops.counts };
}

abbrev pub decreases-loop-trail : goal.decreases-loop-trail
decreases-loop-trail l = length l.trail.entries
