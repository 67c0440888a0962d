use Rattle.std.proofs.Common.{refl, subst}
use Rattle.std.proofs.lemmas.List.{take_all}
use Rattle.std.proofs.lemmas.List.Elements.{All-more}
use Rattle.std.specs.List.{All}
use Rattle.problem_limits.specs.Limits.{IsWithinLimits}
use Rattle.problem_limits.proofs.problems.all_within_limits.Goals as goal

pub loop-c-preserved : goal.loop-c-preserved
loop-c-preserved c =
    All-more (IsWithinLimits c.args.kinds.now) c.args.constraints.now c.loop-c.c-index c.c-item.result c.loop-c-test.true c.loop-c.invariant
    (subst (IsWithinLimits c.args.kinds.now) c.c-item.is (c.in_ok-is_within_limits.ensures.0 c.if-not-branch.false))

pub returns : goal.returns
returns c =
    let whole = take_all c.loop-c.c-index c.args.constraints.now c.loop-c-test.false in
    let all = subst (All (IsWithinLimits c.args.kinds.now)) whole c.loop-c.invariant in
    (λ t. all, λ h. refl)
