use Rattle.std.proofs.Common.{refl, rules, length, ◌<◌, ◌≤◌}
use Rattle.log_checker.specs.Words.{SideStands}
use Rattle.log_checker.proofs.Fronts.{all_more, all_end}
use Rattle.log_checker.proofs.scopes.all_stand_in.Goals as goal

pub loop-side-preserved : goal.loop-side-preserved
loop-side-preserved c =
    let within : c.loop-side.side-index < length c.args.sides.now = search rules in
    all_more (SideStands c.args.c.now) c.args.sides.now c.loop-side.side-index _ within c.loop-side.invariant (c.if-not-stands_in.ensures.0 refl)

pub returns : goal.returns
returns c =
    let over : length c.args.sides.now ≤ c.loop-side.side-index = search rules in
    ((λ t. all_end (SideStands c.args.c.now) c.args.sides.now c.loop-side.side-index over c.loop-side.invariant), (λ all. refl))
