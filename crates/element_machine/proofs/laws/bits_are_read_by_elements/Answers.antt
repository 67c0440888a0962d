use Rattle.element_machine.proofs.Elements.{accepts-by_elements}
use Rattle.element_machine.proofs.laws.bits_are_read_by_elements.Goals as goal

pub returns : goal.returns
returns g c = accepts-by_elements
