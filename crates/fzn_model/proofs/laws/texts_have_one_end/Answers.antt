-- Ends of texts and trees.
use Rattle.fzn_model.proofs.OneEnd as ends
use Rattle.fzn_model.proofs.laws.texts_have_one_end.Goals as goal

pub returns-clause-one_end : goal.returns-clause-one_end
returns-clause-one_end c = ends.of_text c.tokens_are_told_by_the_text.ensures.one_end c.tokens_tell_the_tree.ensures.one_end

pub returns-clause-of_trees : goal.returns-clause-of_trees
returns-clause-of_trees c = ends.of_tree
