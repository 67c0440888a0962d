use Rattle.std.proofs.Common.{refl, rules, length, ◌<◌, ◌≤◌}
use Rattle.log_rules.specs.Boxes.{IsSide}
use Rattle.log_checker.proofs.Fronts.{all_more, all_end}
use Rattle.log_checker.proofs.sides.are_there.Goals as goal

pub loop-side-preserved : goal.loop-side-preserved
loop-side-preserved c =
    let within : c.loop-side.side-index < length c.args.sides.now = search rules in
    all_more (IsSide c.args.check.now.problem.now.kinds c.args.check.now.earlier.now.table) c.args.sides.now c.loop-side.side-index _ within c.loop-side.invariant (c.if-not-is_side.ensures.0 refl)

pub returns : goal.returns
returns c =
    let over : length c.args.sides.now ≤ c.loop-side.side-index = search rules in
    ((λ t. all_end (IsSide c.args.check.now.problem.now.kinds c.args.check.now.earlier.now.table) c.args.sides.now c.loop-side.side-index over c.loop-side.invariant), (λ all. refl))
