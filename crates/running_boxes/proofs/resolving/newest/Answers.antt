use Rattle.std.proofs.Common.{◌≡◌, ◌-◌, ℕ, Some, subst}
use Rattle.std.specs.Prelude.{slice_get}
use Rattle.running_boxes.proofs.Newest.{newest_from}
use Rattle.running_boxes.proofs.resolving.newest.Goals as goal

pub returns : goal.returns
returns c = newest_from c.args.trail.now c.entry.result
    (subst (λ (n : ℕ). slice_get c.args.trail.now.entries (n - 1) ≡ Some c.entry.result) c.len.ensures c.entry.ensures)
