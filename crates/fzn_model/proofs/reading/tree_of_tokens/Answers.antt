use Rattle.std.proofs.Common.{sym, subst}
use Rattle.fzn_model.specs.Told.{IsTold}
use Rattle.fzn_model.proofs.Telling.{told_syntax}
use Rattle.fzn_model.proofs.reading.tree_of_tokens.Goals as goal

pub returns-in-Err-clause-told : goal.returns-in-Err-clause-told
returns-in-Err-clause-told c =
    subst (IsTold c.args.text.now) (sym c.of_syntax.ensures)
    (told_syntax c.args.text.now c.args.tokens.now c.in-Err.fault c.requires
    (λ f first. c.trees_are_in_order.ensures.fault_within c.args.text.now c.args.tokens.now f c.requires first) c.in-Err.ensures.fault)
