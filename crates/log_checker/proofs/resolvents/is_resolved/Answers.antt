use Rattle.log_checker.proofs.Boxes.{resolved_all}
use Rattle.log_checker.proofs.resolvents.is_resolved.Goals as goal

pub returns : goal.returns
returns c =
    rw c.both.ensures (resolved_all _ _ (λ word. c.walks_go_to_children.ensures.everything _ word) _ _ _ _ _ _ c.requires.first c.requires.second c.in_ok-at_first.ensures c.in_ok-at_second.ensures)
