use Rattle.set_meaning.proofs.Orders.{equal_lists}
use Rattle.set_meaning.proofs.sets.SetValue.is_equal.Goals as goal

pub returns : goal.returns
returns c = equal_lists _ _ _ _ _ c.eq.ensures c.elements.ensures.same c.elements-2.ensures.same
