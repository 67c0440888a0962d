use Rattle.std.proofs.Common.{subst}
use Rattle.bit_machine.specs.Built.{BuiltFrom}
use Rattle.bit_machine.proofs.Exits.{built_asks, built_reach}
use Rattle.bit_machine.proofs.builder.build.Goals as goal

pub returns-clause-asks : goal.returns-clause-asks
returns-clause-asks g c set all =
    let rules = g.M.Machine.rules c.args.machine.now in
    built_asks c.args.ops.now c.build_from.new.ops rules c.args.bits.now c.build_from.result
    (subst (λ q. BuiltFrom c.args.ops.now c.build_from.new.ops rules c.args.bits.now 0 q c.build_from.result) c.start.ensures.state c.build_from.ensures.left) set all

pub returns-clause-reach : goal.returns-clause-reach
returns-clause-reach g c set all =
    let rules = g.M.Machine.rules c.args.machine.now in
    built_reach c.args.ops.now c.build_from.new.ops rules c.args.bits.now c.build_from.result
    (subst (λ q. BuiltFrom c.args.ops.now c.build_from.new.ops rules c.args.bits.now 0 q c.build_from.result) c.start.ensures.state c.build_from.ensures.left) set all
