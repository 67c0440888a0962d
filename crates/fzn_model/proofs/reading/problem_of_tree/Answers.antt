use Rattle.std.proofs.Common.{sym, subst}
use Rattle.fzn_model.specs.Told.{IsTold}
use Rattle.fzn_model.proofs.Telling.{told_model}
use Rattle.fzn_model.proofs.reading.problem_of_tree.Goals as goal

pub returns-in-Err-clause-told : goal.returns-in-Err-clause-told
returns-in-Err-clause-told c =
    subst (IsTold c.args.text.now) (sym c.of_model.ensures)
    (told_model c.args.text.now c.args.tree.now c.in-Err.fault c.requires
    (c.trees_are_in_order.ensures.within c.args.text.now c.requires.tokens c.args.tree.now c.requires.scanned c.requires.spelled.spelled)
    c.in-Err.ensures.fault)
