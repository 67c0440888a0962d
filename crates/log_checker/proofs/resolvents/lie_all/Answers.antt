use Rattle.std.proofs.Common.{refl, rules, length, ◌<◌, ◌≤◌}
use Rattle.std.specs.Prelude.{IsTrue}
use Rattle.log_checker.specs.Words.{LiesAt}
use Rattle.log_checker.proofs.Boxes.{one_fits}
use Rattle.log_checker.proofs.Fronts.{all_more, all_end}
use Rattle.log_checker.proofs.resolvents.lie_all.Goals as goal

pub lies_at-requires-clause-inside : goal.lies_at-requires-clause-inside
lies_at-requires-clause-inside c = one_fits _ _ _

pub loop-side-preserved : goal.loop-side-preserved
loop-side-preserved c =
    let within : c.loop-side.side-index < length c.args.sides.now = search rules in
    let on : IsTrue c.in_ok-lies_at.field-0 = search rules in
    all_more (λ side. LiesAt c.args.check.now.problem.now.kinds c.args.check.now.earlier.now.table side.0 1 side.1 side.1) c.args.sides.now c.loop-side.side-index _ within c.loop-side.invariant (c.in_ok-lies_at.ensures.0 on)

pub returns : goal.returns
returns c =
    let over : length c.args.sides.now ≤ c.loop-side.side-index = search rules in
    ((λ t. all_end (λ side. LiesAt c.args.check.now.problem.now.kinds c.args.check.now.earlier.now.table side.0 1 side.1 side.1) c.args.sides.now c.loop-side.side-index over c.loop-side.invariant), (λ all. refl))
