use Rattle.fzn_model.specs.State.{naming_of}
use Rattle.fzn_model.proofs.Founds.{found_one}
use Rattle.fzn_model.proofs.expressions.found_in_part.Goals as goal

pub returns : goal.returns
returns c =
    found_one (naming_of c.args.declared.now) c.args.shape c.args.start c.args.part.now c.in_ok-seen.seen c.past_limit.result
    c.saturating_add-elements.result c.in_ok-seen.ensures c.saturating_add-elements.ensures c.past_limit.ensures
