use Rattle.std.proofs.Common.{◌∙◌, ap}
use Rattle.set_meaning.specs.Sets.{ascending_set}
use Rattle.log_checker.proofs.Ascending.{ascending_is}
use Rattle.log_checker.proofs.values.set_of.Goals as goal

pub returns : goal.returns
returns c = c.in_ok-set.ensures.exact ∙ ap ascending_set c.items.ensures ∙ ascending_is _ c.requires.ascending
