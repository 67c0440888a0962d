use Rattle.std.proofs.Common.{◌≡◌, ℕ, ◌-◌, ◌<◌, [], length, get_or}
use Rattle.plain_steps.specs.Task.{Completes}
use Rattle.plain_steps.proofs.step.+completes.Given as goal

abbrev pub decreases-completes : goal.decreases-completes
decreases-completes g l = length l.family.now - l.depth

abbrev pub invariant-loop-x : goal.invariant-loop-x
invariant-loop-x g l =
    record {
      agree : (u : ℕ) → u < l.depth → get_or l.values u 0 ≡ get_or l.fn.values u 0;
      none : (a : ℕ → ℕ) → Completes (g.T.Task.plain l.task) l.constraint l.family l.fn.values l.depth a
          → (k : ℕ) → k < l.x-index → a l.depth ≡ get_or (get_or l.family l.depth []) k 0 → ⊥;
    }
