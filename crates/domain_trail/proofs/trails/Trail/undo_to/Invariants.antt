use Rattle.std.proofs.Common.{◌≡◌, length}
use Rattle.pin_lists.specs.Units.{Moves}
use Rattle.domain_trail.specs.Trail.{held, newest_first, back, cut}
use Rattle.domain_trail.proofs.trails.Trail.undo_to.Given as goal

abbrev pub invariant-loop-self : goal.invariant-loop-self
invariant-loop-self l = record {
  left : cut l.level (newest_first l.self) ≡ cut l.level (newest_first l.initial.self);
  restored : back l.level (newest_first l.self) l.self.domains ≡ back l.level (newest_first l.initial.self) l.initial.self.domains;
  moved : Moves l.initial.ops l.ops (held l.initial.self) (held l.self);
  only : l.ops ≡ record l.initial.ops { counts = l.ops.counts };
}

abbrev pub decreases-loop-self : goal.decreases-loop-self
decreases-loop-self l = length l.self.entries
