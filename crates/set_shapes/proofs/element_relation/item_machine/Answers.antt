use Rattle.set_shapes.proofs.ElementEnds.{element_lent}
use Rattle.set_shapes.proofs.element_relation.item_machine.Goals as goal

pub returns : goal.returns
returns c =
    let m = c.in_ok-machine.machine in
    element_lent c.args.layout.now c.args.args.now c.in_ok-bits.bits.items c.as_slice.result.now m.first m.second c.as_slice.ensures.value c.in_ok-machine.ensures
