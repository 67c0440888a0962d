use Rattle.std.proofs.Common.{arith}
use Rattle.pin_lists.proofs.Counting.{times-append}
use Rattle.pin_lists.proofs.Leaving.{fewer_held}
use Rattle.trail_tests.proofs.lists.release.Goals as goal

pub release-requires : goal.release-requires
release-requires c = fewer_held c.args.ops.now c.args.list c.args.aside c.requires

pub release-requires-2 : goal.release-requires-2
release-requires-2 c = λ i.
    let h = c.requires i in
    let l = c.release.ensures.lost i in
    let e = times-append i c.args.list c.args.aside in
    omega (arith, h, l, e)
