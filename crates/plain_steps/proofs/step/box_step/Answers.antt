use Rattle.std.proofs.Common.{◌<◌, arith}
use Rattle.plain_steps.proofs.StepLemmas.{two_outside}
use Rattle.plain_steps.proofs.step.box_step.Goals as goal

pub returns-in-Some-next_outside : goal.returns-in-Some-next_outside
returns-in-Some-next_outside c =
    let (from, known, outside, lie) = c.in-Some.ensures in
    let (from2, known2, outside2, lie2) = c.in-Some-next_outside.ensures in
    let less : c.in-Some.one < c.in-Some-next_outside.field-0 = omega arith in
    two_outside c.args.family.now c.args.sides.now c.in-Some.one c.in-Some-next_outside.field-0 c.requires less known2 outside outside2
