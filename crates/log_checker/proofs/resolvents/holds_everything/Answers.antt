use Rattle.log_checker.proofs.Boxes.{everything_all}
use Rattle.log_checker.proofs.resolvents.holds_everything.Goals as goal

pub returns : goal.returns
returns c = everything_all _ _ (λ word. c.walks_go_to_children.ensures.everything _ word) _ _ c.requires.sides c.in_ok-yes.ensures
