use Rattle.std.proofs.Common.{arith}
use Rattle.pin_lists.proofs.Counting.{times-append}
use Rattle.trail_tests.proofs.lists.make.Goals as goal

pub returns-in-HoldAll-clause-held : goal.returns-in-HoldAll-clause-held
returns-in-HoldAll-clause-held c = λ i.
    let h = c.requires.held i in
    let m = c.hold_all.ensures.moved i in
    let before = times-append i c.args.list.now c.args.aside.now in
    let after = times-append i c.hold_all.new.self c.args.aside.now in
    omega (arith, h, m, before, after)
