use Rattle.set_meaning.proofs.Orders.{before_is}
use Rattle.set_meaning.proofs.sets.SetValue.is_before.Goals as goal

pub returns : goal.returns
returns c = before_is _ _ _ _ _ c.lt.ensures c.elements.ensures.same c.elements-2.ensures.same
