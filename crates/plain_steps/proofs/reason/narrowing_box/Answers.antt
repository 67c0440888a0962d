use Rattle.std.proofs.Common.{◌≡◌, ℕ, not, List, subst}
use Rattle.std.specs.List.{filter}
use Rattle.plain_steps.specs.Sets.{has}
use Rattle.plain_steps.proofs.StepLemmas.{narrowing_is}
use Rattle.plain_steps.proofs.reason.narrowing_box.Goals as goal

pub returns : goal.returns
returns g c =
    narrowing_is (g.T.Task.plain c.args.task.now) c.args.constraint c.args.family.now c.in_ok-sides.sides.items c.args.variable
    c.args.kept.now c.in_ok-sides-2.field-0 c.in_ok-sides.ensures c.requires.known c.requires.sets
    (subst (λ (set : List ℕ). c.in_ok-sides-2.field-0 ≡ filter (λ x. not (has c.args.kept.now x)) set) c.set_of.ensures
    c.in_ok-sides-2.ensures)
