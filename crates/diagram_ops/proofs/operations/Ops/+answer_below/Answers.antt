use Rattle.std.proofs.Common.{Err, sym, subst, ap, arith, false, true}
use Rattle.node_reclaim.specs.Pool.{PoolState}
use Rattle.node_reclaim.specs.Growth.{Stays}
use Rattle.diagram_ops.proofs.Steps.{stays_self, live_grows}
use Rattle.diagram_ops.proofs.Memos.{answers_grow, answers_put}
use Rattle.diagram_ops.proofs.Exits.{step_at, lo_call, hi_call, both_calls, both_join, both_joined, sofar_same, joined_same, full_same, ends_ok, ends_err, passed_on, not_full, falls}
use Rattle.diagram_ops.proofs.operations.Ops.+answer_below.Goals as goal

pub answer_below-requires : goal.answer_below-requires
answer_below-requires t c =
    let step = (step_at c.args.self.now c.args.question c.first_bit-bit.result c.sides-on_false.result.0 c.sides-on_false.result.1 c.known.ensures.reduced c.requires.live c.first_bit-bit.ensures c.sides-on_false.ensures) in
    let down = falls c.args.self.now c.args.self.now c.args.question c.first_bit-bit.result c.sides-on_false.result.0 c.sides-on_false.result.1 false step (stays_self c.args.self.now c.known.ensures.reduced) in
    (omega (arith, down, c.decreases), (c.sides-on_false.ensures.live false, c.requires.known))

pub returns-in_err-lo-in-None-clause-left : goal.returns-in_err-lo-in-None-clause-left
returns-in_err-lo-in-None-clause-left t c =
    ends_err c.args.self.now c.answer_below.new.self c.args.question c.from_residual.result c.from_residual.ensures.0 c.known.ensures.reduced
    (lo_call c.args.self.now c.answer_below.new.self c.args.question c.first_bit-bit.result c.sides-on_false.result.0 c.sides-on_false.result.1 c.answer_below.result (step_at c.args.self.now c.args.question c.first_bit-bit.result c.sides-on_false.result.0 c.sides-on_false.result.1 c.known.ensures.reduced c.requires.live c.first_bit-bit.ensures c.sides-on_false.ensures) c.answer_below.ensures.left)
    (passed_on c.from_residual.result c.in_err-lo-in-None.field-0.0 _ c.from_residual.ensures.1 (λ e. c.in_err-lo-in-None.ensures.left.full (ap Err e)))

pub answer_below-requires-in-None : goal.answer_below-requires-in-None
answer_below-requires-in-None t c =
    let step = (step_at c.args.self.now c.args.question c.first_bit-bit.result c.sides-on_false.result.0 c.sides-on_false.result.1 c.known.ensures.reduced c.requires.live c.first_bit-bit.ensures c.sides-on_false.ensures) in
    let down = falls c.args.self.now c.answer_below.new.self c.args.question c.first_bit-bit.result c.sides-on_false.result.0 c.sides-on_false.result.1 true step c.answer_below.ensures.left.stays in
    (omega (arith, down, c.decreases), (live_grows _ _ c.answer_below.ensures.left.stays.grows _ (c.sides-on_false.ensures.live true), c.in_ok-lo-in-None.ensures.known))

pub returns-in_err-hi-in-None-clause-left : goal.returns-in_err-hi-in-None-clause-left
returns-in_err-hi-in-None-clause-left t c =
    ends_err c.args.self.now c.answer_below-in-None.new.self c.args.question c.from_residual-in_err-hi-in-None.result c.from_residual-in_err-hi-in-None.ensures.0 c.known.ensures.reduced
    (hi_call c.args.self.now c.answer_below.new.self c.answer_below-in-None.new.self c.args.question c.first_bit-bit.result c.sides-on_false.result.0 c.sides-on_false.result.1 c.in_ok-lo-in-None.lo c.answer_below-in-None.result (step_at c.args.self.now c.args.question c.first_bit-bit.result c.sides-on_false.result.0 c.sides-on_false.result.1 c.known.ensures.reduced c.requires.live c.first_bit-bit.ensures c.sides-on_false.ensures) c.in_ok-lo-in-None.ensures.left c.answer_below-in-None.ensures.left)
    (passed_on c.from_residual-in_err-hi-in-None.result c.in_err-hi-in-None.field-0.0 _ c.from_residual-in_err-hi-in-None.ensures.1 (λ e. c.in_err-hi-in-None.ensures.left.full (ap Err e)))

pub node-requires : goal.node-requires
node-requires t c =
    let both = both_calls c.args.self.now c.answer_below.new.self c.answer_below-in-None.new.self c.args.question c.first_bit-bit.result c.sides-on_false.result.0 c.sides-on_false.result.1 c.in_ok-lo-in-None.lo c.in_ok-hi-in-None.hi (step_at c.args.self.now c.args.question c.first_bit-bit.result c.sides-on_false.result.0 c.sides-on_false.result.1 c.known.ensures.reduced c.requires.live c.first_bit-bit.ensures c.sides-on_false.ensures) c.in_ok-lo-in-None.ensures.left c.in_ok-hi-in-None.ensures.left in
    both_join c.args.self.now c.answer_below-in-None.new.self c.args.question c.first_bit-bit.result c.sides-on_false.result.0 c.sides-on_false.result.1 c.in_ok-lo-in-None.lo c.in_ok-hi-in-None.hi both

pub returns-in_err-r-in-None-clause-left : goal.returns-in_err-r-in-None-clause-left
returns-in_err-r-in-None-clause-left t c =
    let both = both_calls c.args.self.now c.answer_below.new.self c.answer_below-in-None.new.self c.args.question c.first_bit-bit.result c.sides-on_false.result.0 c.sides-on_false.result.1 c.in_ok-lo-in-None.lo c.in_ok-hi-in-None.hi (step_at c.args.self.now c.args.question c.first_bit-bit.result c.sides-on_false.result.0 c.sides-on_false.result.1 c.known.ensures.reduced c.requires.live c.first_bit-bit.ensures c.sides-on_false.ensures) c.in_ok-lo-in-None.ensures.left c.in_ok-hi-in-None.ensures.left in
    ends_err c.args.self.now c.node.new.self c.args.question c.from_residual-in_err-r-in-None.result c.from_residual-in_err-r-in-None.ensures.0 c.known.ensures.reduced
    (sofar_same c.args.self.now c.answer_below-in-None.new.self c.node.new.self _ c.in_err-r-in-None.ensures.err both.sofar)
    (passed_on c.from_residual-in_err-r-in-None.result c.in_err-r-in-None.field-0.0 _ c.from_residual-in_err-r-in-None.ensures.1
    (λ e. full_same c.answer_below-in-None.new.self c.node.new.self c.in_err-r-in-None.ensures.err (c.in_err-r-in-None.ensures.full.0 (ap Err e)).1))

pub returns-in_err-remember-in-None-clause-left : goal.returns-in_err-remember-in-None-clause-left
returns-in_err-remember-in-None-clause-left t c =
    let both = both_calls c.args.self.now c.answer_below.new.self c.answer_below-in-None.new.self c.args.question c.first_bit-bit.result c.sides-on_false.result.0 c.sides-on_false.result.1 c.in_ok-lo-in-None.lo c.in_ok-hi-in-None.hi (step_at c.args.self.now c.args.question c.first_bit-bit.result c.sides-on_false.result.0 c.sides-on_false.result.1 c.known.ensures.reduced c.requires.live c.first_bit-bit.ensures c.sides-on_false.ensures) c.in_ok-lo-in-None.ensures.left c.in_ok-hi-in-None.ensures.left in
    let done = both_joined c.args.self.now c.answer_below-in-None.new.self c.node.new.self c.args.question c.first_bit-bit.result c.sides-on_false.result.0 c.sides-on_false.result.1 c.in_ok-lo-in-None.lo c.in_ok-hi-in-None.hi c.in_ok-r-in-None.r c.node.result c.requires.live both c.node.ensures.stays c.in_ok-r-in-None.ensures.joins c.in_ok-r-in-None.was c.node.ensures.only_new in
    ends_err c.args.self.now c.node.new.self c.args.question c.from_residual-in_err-remember-in-None.result c.from_residual-in_err-remember-in-None.ensures.0 c.known.ensures.reduced
    done.sofar
    (not_full c.from_residual-in_err-remember-in-None.result _ c.from_residual-in_err-remember-in-None.ensures.1)

pub keep-requires : goal.keep-requires
keep-requires t c =
    let both = both_calls c.args.self.now c.answer_below.new.self c.answer_below-in-None.new.self c.args.question c.first_bit-bit.result c.sides-on_false.result.0 c.sides-on_false.result.1 c.in_ok-lo-in-None.lo c.in_ok-hi-in-None.hi (step_at c.args.self.now c.args.question c.first_bit-bit.result c.sides-on_false.result.0 c.sides-on_false.result.1 c.known.ensures.reduced c.requires.live c.first_bit-bit.ensures c.sides-on_false.ensures) c.in_ok-lo-in-None.ensures.left c.in_ok-hi-in-None.ensures.left in
    let done = both_joined c.args.self.now c.answer_below-in-None.new.self c.node.new.self c.args.question c.first_bit-bit.result c.sides-on_false.result.0 c.sides-on_false.result.1 c.in_ok-lo-in-None.lo c.in_ok-hi-in-None.hi c.in_ok-r-in-None.r c.node.result c.requires.live both c.node.ensures.stays c.in_ok-r-in-None.ensures.joins c.in_ok-r-in-None.was c.node.ensures.only_new in
    done.answer

pub returns-in_ok-remember-in-None-clause-left : goal.returns-in_ok-remember-in-None-clause-left
returns-in_ok-remember-in-None-clause-left t c =
    let both = both_calls c.args.self.now c.answer_below.new.self c.answer_below-in-None.new.self c.args.question c.first_bit-bit.result c.sides-on_false.result.0 c.sides-on_false.result.1 c.in_ok-lo-in-None.lo c.in_ok-hi-in-None.hi (step_at c.args.self.now c.args.question c.first_bit-bit.result c.sides-on_false.result.0 c.sides-on_false.result.1 c.known.ensures.reduced c.requires.live c.first_bit-bit.ensures c.sides-on_false.ensures) c.in_ok-lo-in-None.ensures.left c.in_ok-hi-in-None.ensures.left in
    let done = both_joined c.args.self.now c.answer_below-in-None.new.self c.node.new.self c.args.question c.first_bit-bit.result c.sides-on_false.result.0 c.sides-on_false.result.1 c.in_ok-lo-in-None.lo c.in_ok-hi-in-None.hi c.in_ok-r-in-None.r c.node.result c.requires.live both c.node.ensures.stays c.in_ok-r-in-None.ensures.joins c.in_ok-r-in-None.was c.node.ensures.only_new in
    let kept = joined_same c.args.self.now c.node.new.self c.keep.new.self c.args.question c.in_ok-r-in-None.r c.keep.ensures done in
    ends_ok c.args.self.now c.keep.new.self c.args.question c.in_ok-r-in-None.r c.known.ensures.reduced kept.sofar kept.answer

pub returns-in_ok-remember-in-None-clause-known : goal.returns-in_ok-remember-in-None-clause-known
returns-in_ok-remember-in-None-clause-known t c =
    let both = both_calls c.args.self.now c.answer_below.new.self c.answer_below-in-None.new.self c.args.question c.first_bit-bit.result c.sides-on_false.result.0 c.sides-on_false.result.1 c.in_ok-lo-in-None.lo c.in_ok-hi-in-None.hi (step_at c.args.self.now c.args.question c.first_bit-bit.result c.sides-on_false.result.0 c.sides-on_false.result.1 c.known.ensures.reduced c.requires.live c.first_bit-bit.ensures c.sides-on_false.ensures) c.in_ok-lo-in-None.ensures.left c.in_ok-hi-in-None.ensures.left in
    let done = both_joined c.args.self.now c.answer_below-in-None.new.self c.node.new.self c.args.question c.first_bit-bit.result c.sides-on_false.result.0 c.sides-on_false.result.1 c.in_ok-lo-in-None.lo c.in_ok-hi-in-None.hi c.in_ok-r-in-None.r c.node.result c.requires.live both c.node.ensures.stays c.in_ok-r-in-None.ensures.joins c.in_ok-r-in-None.was c.node.ensures.only_new in
    let kept = joined_same c.args.self.now c.node.new.self c.keep.new.self c.args.question c.in_ok-r-in-None.r c.keep.ensures done in
    let grown = subst (λ (p : PoolState). Stays c.answer_below-in-None.new.self p) (sym c.keep.ensures) c.node.ensures.stays in
    answers_put _ c.answer_below-in-None.new.done.entries c.remember.new.done.entries c.args.question c.in_ok-r-in-None.r
    (answers_grow _ _ c.answer_below-in-None.new.done.entries grown.grows c.in_ok-hi-in-None.ensures.known) kept.answer c.in_ok-remember-in-None.ensures
