-- Both forms of the grammar are one language.
use Rattle.fzn_parser.proofs.Endings.{models, begun}
use Rattle.fzn_parser.proofs.laws.what_is_to_come.Goals as goal

pub returns-clause-models : goal.returns-clause-models
returns-clause-models c = models

pub returns-clause-begun : goal.returns-clause-begun
returns-clause-begun c = begun
