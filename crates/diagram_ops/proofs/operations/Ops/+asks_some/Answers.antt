use Rattle.std.proofs.Common.{arith, false, true}
use Rattle.diagram_arena.specs.declared.nodes.Ref.TheVariants.{Zero}
use Rattle.diagram_ops.proofs.Steps.{stays_self}
use Rattle.diagram_ops.proofs.Memos.{answers_put}
use Rattle.diagram_ops.proofs.Exits.{step_at, falls}
use Rattle.diagram_ops.proofs.Insides.{at_true, at_false, answer_some, side_some, sides_none, zero_answers}
use Rattle.diagram_ops.proofs.operations.Ops.+asks_some.Goals as goal

pub asks_some-requires : goal.asks_some-requires
asks_some-requires t c =
    let step = (step_at c.args.self.now c.args.question c.first_bit-bit.result c.sides-on_false.result.0 c.sides-on_false.result.1 c.known.ensures.reduced c.requires.live c.first_bit-bit.ensures c.sides-on_false.ensures) in
    let down = falls c.args.self.now c.args.self.now c.args.question c.first_bit-bit.result c.sides-on_false.result.0 c.sides-on_false.result.1 false step (stays_self c.args.self.now c.known.ensures.reduced) in
    (omega (arith, down, c.decreases), (c.sides-on_false.ensures.live false, c.requires.known))

pub asks_some-requires-in-None : goal.asks_some-requires-in-None
asks_some-requires-in-None t c =
    let step = (step_at c.args.self.now c.args.question c.first_bit-bit.result c.sides-on_false.result.0 c.sides-on_false.result.1 c.known.ensures.reduced c.requires.live c.first_bit-bit.ensures c.sides-on_false.ensures) in
    let down = falls c.args.self.now c.args.self.now c.args.question c.first_bit-bit.result c.sides-on_false.result.0 c.sides-on_false.result.1 true step (stays_self c.args.self.now c.known.ensures.reduced) in
    (omega (arith, down, c.decreases), (c.sides-on_false.ensures.live true, c.in_ok-asks_some-in-None.ensures.known))

pub returns-then-branch-clause-some : goal.returns-then-branch-clause-some
returns-then-branch-clause-some t c =
    side_some _ c.args.question c.first_bit-bit.result c.sides-on_false.result.0 c.sides-on_false.result.1 c.sides-on_false.ensures false
    (at_true c.in_ok-asks_some-in-None.field-0 _ _ c.if-branch.true c.in_ok-asks_some-in-None.ensures.some)

pub returns-then-branch-2-clause-some : goal.returns-then-branch-2-clause-some
returns-then-branch-2-clause-some t c =
    side_some _ c.args.question c.first_bit-bit.result c.sides-on_false.result.0 c.sides-on_false.result.1 c.sides-on_false.ensures true
    (at_true c.in_ok-asks_some-in-None-2.field-0 _ _ c.if-branch-2.true c.in_ok-asks_some-in-None-2.ensures.some)

pub returns-in-Some-clause-some : goal.returns-in-Some-clause-some
returns-in-Some-clause-some t c =
    answer_some _ c.known.ensures.reduced c.args.question c.in-Some.r c.is_zero.result c.in-Some.ensures.found c.is_zero.ensures

pub returns-in_ok-remember-in-None-clause-some : goal.returns-in_ok-remember-in-None-clause-some
returns-in_ok-remember-in-None-clause-some t c =
    sides_none _ c.args.question c.first_bit-bit.result c.sides-on_false.result.0 c.sides-on_false.result.1 c.sides-on_false.ensures
    (at_false c.in_ok-asks_some-in-None.field-0 _ _ c.if-branch.false c.in_ok-asks_some-in-None.ensures.some)
    (at_false c.in_ok-asks_some-in-None-2.field-0 _ _ c.if-branch-2.false c.in_ok-asks_some-in-None-2.ensures.some)

pub returns-in_ok-remember-in-None-clause-known : goal.returns-in_ok-remember-in-None-clause-known
returns-in_ok-remember-in-None-clause-known t c =
    answers_put _ c.asks_some-in-None.new.done.entries c.remember.new.done.entries c.args.question Zero
    c.in_ok-asks_some-in-None-2.ensures.known
    (zero_answers _ c.known.ensures.reduced c.args.question c.requires.live
    (sides_none _ c.args.question c.first_bit-bit.result c.sides-on_false.result.0 c.sides-on_false.result.1 c.sides-on_false.ensures
    (at_false c.in_ok-asks_some-in-None.field-0 _ _ c.if-branch.false c.in_ok-asks_some-in-None.ensures.some)
    (at_false c.in_ok-asks_some-in-None-2.field-0 _ _ c.if-branch-2.false c.in_ok-asks_some-in-None-2.ensures.some)))
    c.in_ok-remember-in-None.ensures
