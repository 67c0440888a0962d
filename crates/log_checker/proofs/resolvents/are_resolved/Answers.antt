use Rattle.std.proofs.Common.{refl, rules, length, ◌<◌, ◌≤◌}
use Rattle.std.specs.Prelude.{IsTrue}
use Rattle.log_checker.specs.Words.{IsResolvedAt}
use Rattle.log_checker.proofs.Fronts.{all_more, all_end}
use Rattle.log_checker.proofs.resolvents.are_resolved.Goals as goal

pub loop-side-preserved : goal.loop-side-preserved
loop-side-preserved c =
    let within : c.loop-side.side-index < length c.args.named.now = search rules in
    let on : IsTrue c.in_ok-is_resolved_at.field-0 = search rules in
    all_more (λ side. IsResolvedAt c.args.check.now.problem.now.kinds c.args.check.now.earlier.now.table c.args.sides.now c.args.first.now c.args.second.now c.args.pivot side.0) c.args.named.now c.loop-side.side-index _ within c.loop-side.invariant (c.in_ok-is_resolved_at.ensures.0 on)

pub returns : goal.returns
returns c =
    let over : length c.args.named.now ≤ c.loop-side.side-index = search rules in
    ((λ t. all_end (λ side. IsResolvedAt c.args.check.now.problem.now.kinds c.args.check.now.earlier.now.table c.args.sides.now c.args.first.now c.args.second.now c.args.pivot side.0) c.args.named.now c.loop-side.side-index over c.loop-side.invariant), (λ all. refl))
