use Rattle.std.proofs.Common.{◌<◌, length, FitsSigned, w64, arith}
use Rattle.std.proofs.lemmas.Int.{to_z-of_z}
use Rattle.sweep_sums.proofs.SumTerms.{adds_none, adds_more, adds_all, room_left}
use Rattle.sweep_sums.proofs.sums.adding.PartialSum.add_terms.Goals as goal

pub loop-term-init : goal.loop-term-init
loop-term-init c = adds_none c.args.self.now

pub add-requires-clause-room : goal.add-requires-clause-room
add-requires-clause-room c =
    let fits : FitsSigned w64 c.args.coefficient = c.ranges.coefficient in
    let within : c.loop-term.term-index < length c.args.terms.now = omega arith in
    room_left c.args.coefficient c.args.terms.now c.loop-term.term-index c.args.self.now c.loop-term.self within c.requires.room (simp to_z-of_z at c.loop-term.invariant)

pub loop-term-preserved : goal.loop-term-preserved
loop-term-preserved c =
    let fits : FitsSigned w64 c.args.coefficient = c.ranges.coefficient in
    let within : c.loop-term.term-index < length c.args.terms.now = omega arith in
    let before = simp to_z-of_z at c.loop-term.invariant in
    let step = simp to_z-of_z at c.in_ok-add.ensures in
    simp to_z-of_z (adds_more c.args.coefficient c.args.terms.now c.loop-term.term-index c.term-item.result c.args.self.now c.loop-term.self c.add.new.self within c.term-item.is before step)

pub returns : goal.returns
returns c =
    let fits : FitsSigned w64 c.args.coefficient = c.ranges.coefficient in
    adds_all c.args.coefficient c.args.terms.now c.loop-term.term-index c.args.self.now c.loop-term.self c.loop-term-test.false (simp to_z-of_z at c.loop-term.invariant)
