use Rattle.std.proofs.Common.{◌≡◌, length, arith}
use Rattle.plain_steps.proofs.StepLemmas.{resolvent_is}
use Rattle.plain_steps.proofs.table.resolvent.Goals as goal

pub returns : goal.returns
returns c =
    let all : c.loop-u.u ≡ length c.args.a.now = omega arith in
    resolvent_is c.args.a.now c.args.b.now c.loop-u.sides.items c.args.variable c.loop-u.u c.loop-u.invariant all c.requires.same
    c.requires.known
