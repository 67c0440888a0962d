use Rattle.std.proofs.Common.{subst}
use Rattle.linear_machine.specs.Steps.{rules_of}
use Rattle.int_channel.specs.Machines.{IsMachineOf}
use Rattle.int_channel.proofs.machines.sum_beside.Goals as goal

pub returns-clause-machine : goal.returns-clause-machine
returns-clause-machine c =
    let m = c.in_ok-machine.machine in
    subst (λ bs. IsMachineOf c.args.layout.now c.args.relation c.args.args.now bs m.first (rules_of m.second)) c.as_slice.ensures.value c.in_ok-machine.ensures.machine
