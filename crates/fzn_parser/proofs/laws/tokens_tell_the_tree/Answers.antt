-- Trees and ends of tokens.
use Rattle.fzn_parser.proofs.Endings.{same_tree, some_end}
use Rattle.fzn_parser.proofs.OneEnd.{one_end}
use Rattle.fzn_parser.proofs.laws.tokens_tell_the_tree.Goals as goal

pub returns-clause-unambiguous : goal.returns-clause-unambiguous
returns-clause-unambiguous c = same_tree

pub returns-clause-one_end : goal.returns-clause-one_end
returns-clause-one_end c = one_end

pub returns-clause-some_end : goal.returns-clause-some_end
returns-clause-some_end c = some_end
