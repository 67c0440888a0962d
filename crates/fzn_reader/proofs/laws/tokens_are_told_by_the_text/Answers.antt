-- The laws of the scan.
use Rattle.fzn_reader.proofs.Ends.{some_end}
use Rattle.fzn_reader.proofs.Scans.{one_end, in_order, forms}
use Rattle.fzn_reader.proofs.laws.tokens_are_told_by_the_text.Goals as goal

pub returns-clause-one_end : goal.returns-clause-one_end
returns-clause-one_end c = one_end

pub returns-clause-in_order : goal.returns-clause-in_order
returns-clause-in_order c = in_order

pub returns-clause-forms : goal.returns-clause-forms
returns-clause-forms c = forms

pub returns-clause-some_end : goal.returns-clause-some_end
returns-clause-some_end c = some_end
