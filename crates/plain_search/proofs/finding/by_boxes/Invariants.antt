use Rattle.std.proofs.Common.{ℕ, Bool, take}
use Rattle.search_rules.specs.Box.{IsBoxSame}
use Rattle.search_rules.specs.Trail.{IsLearned}
use Rattle.plain_steps.specs.Sets.{family}
use Rattle.plain_search.specs.State.{boxes_of}
use Rattle.plain_search.proofs.finding.by_boxes.Given as goal

abbrev pub invariant-loop-sides : goal.invariant-loop-sides
invariant-loop-sides g l =
    (b : ℕ → ℕ → Bool) → IsLearned (boxes_of (take l.sides-index l.boxes)) b → IsBoxSame b (family l.family)
