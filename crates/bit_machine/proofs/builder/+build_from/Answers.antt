use Rattle.std.proofs.Common.{Err, refl, ap, arith, slice_index_or}
use Rattle.bit_machine.proofs.Steps.{step_at}
use Rattle.bit_machine.proofs.Exits.{lo_call, hi_call, both_calls, both_join, both_joined, sofar_same, full_same, ends_ok, ends_err, passed_on, not_full, known_grows, known_puts}
use Rattle.bit_machine.proofs.builder.+build_from.Goals as goal

pub returns-in_err-lo-in-None-clause-left : goal.returns-in_err-lo-in-None-clause-left
returns-in_err-lo-in-None-clause-left g t c =
    ends_err c.args.ops.now c.build_from.new.ops (g.M.Machine.rules c.args.machine.now) c.args.bits.now c.args.at c.args.state c.from_residual.result c.from_residual.ensures.0
    (lo_call c.args.ops.now c.build_from.new.ops (g.M.Machine.rules c.args.machine.now) c.args.bits.now c.args.at c.args.state (slice_index_or c.args.bits.now c.args.at 0) c.step-on_false.result c.step-on_true.result c.build_from.result
    (step_at (g.M.Machine.rules c.args.machine.now) c.args.bits.now c.args.at c.args.state (slice_index_or c.args.bits.now c.args.at 0) c.step-on_false.result c.step-on_true.result c.requires.ascend c.in-None.ensures.more refl (omega (arith, c.type_inv.bits c.args.at)) c.step-on_false.ensures.state c.step-on_true.ensures.state) c.build_from.ensures.left)
    (passed_on c.from_residual.result c.in_err-lo-in-None.field-0.0 _ c.from_residual.ensures.1 (λ e. c.in_err-lo-in-None.ensures.left.full (ap Err e)))

pub returns-in_err-hi-in-None-clause-left : goal.returns-in_err-hi-in-None-clause-left
returns-in_err-hi-in-None-clause-left g t c =
    ends_err c.args.ops.now c.build_from-in-None.new.ops (g.M.Machine.rules c.args.machine.now) c.args.bits.now c.args.at c.args.state c.from_residual-in_err-hi-in-None.result c.from_residual-in_err-hi-in-None.ensures.0
    (hi_call c.args.ops.now c.build_from.new.ops c.build_from-in-None.new.ops (g.M.Machine.rules c.args.machine.now) c.args.bits.now c.args.at c.args.state (slice_index_or c.args.bits.now c.args.at 0) c.step-on_false.result c.step-on_true.result c.in_ok-lo-in-None.lo c.build_from-in-None.result
    (step_at (g.M.Machine.rules c.args.machine.now) c.args.bits.now c.args.at c.args.state (slice_index_or c.args.bits.now c.args.at 0) c.step-on_false.result c.step-on_true.result c.requires.ascend c.in-None.ensures.more refl (omega (arith, c.type_inv.bits c.args.at)) c.step-on_false.ensures.state c.step-on_true.ensures.state)
    c.in_ok-lo-in-None.ensures.left c.build_from-in-None.ensures.left)
    (passed_on c.from_residual-in_err-hi-in-None.result c.in_err-hi-in-None.field-0.0 _ c.from_residual-in_err-hi-in-None.ensures.1 (λ e. c.in_err-hi-in-None.ensures.left.full (ap Err e)))

pub node-requires : goal.node-requires
node-requires g t c =
    let both = both_calls c.args.ops.now c.build_from.new.ops c.build_from-in-None.new.ops (g.M.Machine.rules c.args.machine.now) c.args.bits.now c.args.at c.args.state (slice_index_or c.args.bits.now c.args.at 0) c.step-on_false.result c.step-on_true.result c.in_ok-lo-in-None.lo c.in_ok-hi-in-None.hi
    (step_at (g.M.Machine.rules c.args.machine.now) c.args.bits.now c.args.at c.args.state (slice_index_or c.args.bits.now c.args.at 0) c.step-on_false.result c.step-on_true.result c.requires.ascend c.in-None.ensures.more refl (omega (arith, c.type_inv.bits c.args.at)) c.step-on_false.ensures.state c.step-on_true.ensures.state)
    c.in_ok-lo-in-None.ensures.left c.in_ok-hi-in-None.ensures.left in
    both_join c.args.ops.now c.build_from-in-None.new.ops (g.M.Machine.rules c.args.machine.now) c.args.bits.now c.args.at c.args.state (slice_index_or c.args.bits.now c.args.at 0) c.step-on_false.result c.step-on_true.result c.in_ok-lo-in-None.lo c.in_ok-hi-in-None.hi both

pub returns-in_err-r-in-None-clause-left : goal.returns-in_err-r-in-None-clause-left
returns-in_err-r-in-None-clause-left g t c =
    let both = both_calls c.args.ops.now c.build_from.new.ops c.build_from-in-None.new.ops (g.M.Machine.rules c.args.machine.now) c.args.bits.now c.args.at c.args.state (slice_index_or c.args.bits.now c.args.at 0) c.step-on_false.result c.step-on_true.result c.in_ok-lo-in-None.lo c.in_ok-hi-in-None.hi
    (step_at (g.M.Machine.rules c.args.machine.now) c.args.bits.now c.args.at c.args.state (slice_index_or c.args.bits.now c.args.at 0) c.step-on_false.result c.step-on_true.result c.requires.ascend c.in-None.ensures.more refl (omega (arith, c.type_inv.bits c.args.at)) c.step-on_false.ensures.state c.step-on_true.ensures.state)
    c.in_ok-lo-in-None.ensures.left c.in_ok-hi-in-None.ensures.left in
    ends_err c.args.ops.now c.node.new.self (g.M.Machine.rules c.args.machine.now) c.args.bits.now c.args.at c.args.state c.from_residual-in_err-r-in-None.result c.from_residual-in_err-r-in-None.ensures.0
    (sofar_same c.args.ops.now c.build_from-in-None.new.ops c.node.new.self _ c.in_err-r-in-None.ensures.err both.sofar)
    (passed_on c.from_residual-in_err-r-in-None.result c.in_err-r-in-None.field-0.0 _ c.from_residual-in_err-r-in-None.ensures.1
    (λ e. full_same c.build_from-in-None.new.ops c.node.new.self c.in_err-r-in-None.ensures.err (c.in_err-r-in-None.ensures.full.0 (ap Err e)).1))

pub returns-in_err-remember-in-None-clause-left : goal.returns-in_err-remember-in-None-clause-left
returns-in_err-remember-in-None-clause-left g t c =
    let both = both_calls c.args.ops.now c.build_from.new.ops c.build_from-in-None.new.ops (g.M.Machine.rules c.args.machine.now) c.args.bits.now c.args.at c.args.state (slice_index_or c.args.bits.now c.args.at 0) c.step-on_false.result c.step-on_true.result c.in_ok-lo-in-None.lo c.in_ok-hi-in-None.hi
    (step_at (g.M.Machine.rules c.args.machine.now) c.args.bits.now c.args.at c.args.state (slice_index_or c.args.bits.now c.args.at 0) c.step-on_false.result c.step-on_true.result c.requires.ascend c.in-None.ensures.more refl (omega (arith, c.type_inv.bits c.args.at)) c.step-on_false.ensures.state c.step-on_true.ensures.state)
    c.in_ok-lo-in-None.ensures.left c.in_ok-hi-in-None.ensures.left in
    let done = both_joined c.args.ops.now c.build_from-in-None.new.ops c.node.new.self (g.M.Machine.rules c.args.machine.now) c.args.bits.now c.args.at c.args.state (slice_index_or c.args.bits.now c.args.at 0) c.step-on_false.result c.step-on_true.result c.in_ok-lo-in-None.lo c.in_ok-hi-in-None.hi c.in_ok-r-in-None.r c.node.result
    both c.node.ensures.stays c.in_ok-r-in-None.ensures.joins c.in_ok-r-in-None.was c.node.ensures.only_new in
    ends_err c.args.ops.now c.node.new.self (g.M.Machine.rules c.args.machine.now) c.args.bits.now c.args.at c.args.state c.from_residual-in_err-remember-in-None.result c.from_residual-in_err-remember-in-None.ensures.0
    done.sofar
    (not_full c.from_residual-in_err-remember-in-None.result _ c.from_residual-in_err-remember-in-None.ensures.1)

pub returns-in_ok-remember-in-None-clause-left : goal.returns-in_ok-remember-in-None-clause-left
returns-in_ok-remember-in-None-clause-left g t c =
    let both = both_calls c.args.ops.now c.build_from.new.ops c.build_from-in-None.new.ops (g.M.Machine.rules c.args.machine.now) c.args.bits.now c.args.at c.args.state (slice_index_or c.args.bits.now c.args.at 0) c.step-on_false.result c.step-on_true.result c.in_ok-lo-in-None.lo c.in_ok-hi-in-None.hi
    (step_at (g.M.Machine.rules c.args.machine.now) c.args.bits.now c.args.at c.args.state (slice_index_or c.args.bits.now c.args.at 0) c.step-on_false.result c.step-on_true.result c.requires.ascend c.in-None.ensures.more refl (omega (arith, c.type_inv.bits c.args.at)) c.step-on_false.ensures.state c.step-on_true.ensures.state)
    c.in_ok-lo-in-None.ensures.left c.in_ok-hi-in-None.ensures.left in
    let done = both_joined c.args.ops.now c.build_from-in-None.new.ops c.node.new.self (g.M.Machine.rules c.args.machine.now) c.args.bits.now c.args.at c.args.state (slice_index_or c.args.bits.now c.args.at 0) c.step-on_false.result c.step-on_true.result c.in_ok-lo-in-None.lo c.in_ok-hi-in-None.hi c.in_ok-r-in-None.r c.node.result
    both c.node.ensures.stays c.in_ok-r-in-None.ensures.joins c.in_ok-r-in-None.was c.node.ensures.only_new in
    ends_ok c.args.ops.now c.node.new.self (g.M.Machine.rules c.args.machine.now) c.args.bits.now c.args.at c.args.state c.in_ok-r-in-None.r done.sofar done.built

pub returns-in_ok-remember-in-None-clause-known : goal.returns-in_ok-remember-in-None-clause-known
returns-in_ok-remember-in-None-clause-known g t c =
    let both = both_calls c.args.ops.now c.build_from.new.ops c.build_from-in-None.new.ops (g.M.Machine.rules c.args.machine.now) c.args.bits.now c.args.at c.args.state (slice_index_or c.args.bits.now c.args.at 0) c.step-on_false.result c.step-on_true.result c.in_ok-lo-in-None.lo c.in_ok-hi-in-None.hi
    (step_at (g.M.Machine.rules c.args.machine.now) c.args.bits.now c.args.at c.args.state (slice_index_or c.args.bits.now c.args.at 0) c.step-on_false.result c.step-on_true.result c.requires.ascend c.in-None.ensures.more refl (omega (arith, c.type_inv.bits c.args.at)) c.step-on_false.ensures.state c.step-on_true.ensures.state)
    c.in_ok-lo-in-None.ensures.left c.in_ok-hi-in-None.ensures.left in
    let done = both_joined c.args.ops.now c.build_from-in-None.new.ops c.node.new.self (g.M.Machine.rules c.args.machine.now) c.args.bits.now c.args.at c.args.state (slice_index_or c.args.bits.now c.args.at 0) c.step-on_false.result c.step-on_true.result c.in_ok-lo-in-None.lo c.in_ok-hi-in-None.hi c.in_ok-r-in-None.r c.node.result
    both c.node.ensures.stays c.in_ok-r-in-None.ensures.joins c.in_ok-r-in-None.was c.node.ensures.only_new in
    known_puts _ (g.M.Machine.rules c.args.machine.now) c.args.bits.now g.M.State.PartialEq.eq c.build_from-in-None.new.built.entries c.remember.new.built.entries c.args.at c.args.state c.in_ok-r-in-None.r
    g.met.M.Machine.identical
    (known_grows _ _ (g.M.Machine.rules c.args.machine.now) c.args.bits.now g.M.State.PartialEq.eq c.build_from-in-None.new.built.entries c.node.ensures.stays.grows c.in_ok-hi-in-None.ensures.known)
    done.built c.in_ok-remember-in-None.ensures
