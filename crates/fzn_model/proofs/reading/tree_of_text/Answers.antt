use Rattle.std.proofs.Common.{sym, subst}
use Rattle.fzn_model.specs.Told.{IsTold}
use Rattle.fzn_model.proofs.Telling.{told_lexical}
use Rattle.fzn_model.proofs.reading.tree_of_text.Goals as goal

pub returns-in-Err-clause-told : goal.returns-in-Err-clause-told
returns-in-Err-clause-told c = subst (IsTold c.args.text.now) (sym c.of_lexical.ensures) (told_lexical c.args.text.now c.in-Err.fault c.in-Err.ensures.fault)
