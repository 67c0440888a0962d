use Rattle.log_checker.proofs.Sames.{same_sets}
use Rattle.log_checker.proofs.answers.have_same.Goals as goal

pub returns : goal.returns
returns c = same_sets _ _ _ _ _ c.eq.ensures c.elements.ensures.same c.elements-2.ensures.same
