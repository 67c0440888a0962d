use Rattle.propagators.proofs.Leaving.{accepts_initial}
use Rattle.propagators.proofs.initial.machine_of.Goals as goal

pub returns : goal.returns
returns c =
    accepts_initial c.values_fit_together.ensures c.args.layout.now c.args.variables.now c.in_ok-bits.bits.items c.as_slice.result.now _ c.obeys_order.ensures c.requires.known c.in_ok-bits.ensures c.as_slice.ensures.value
    c.in_ok-machine.ensures.valid c.in_ok-machine.ensures.places c.in_ok-machine.ensures.accepts
