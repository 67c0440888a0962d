use Rattle.std.proofs.Common.{sym, subst, List}
use Rattle.fzn_parser.specs.declared.tree.Number.{Number}
use Rattle.fzn_parser.specs.declared.tree.SetForm.{SetForm}
use Rattle.fzn_model.specs.Items.{numbers_of}
use Rattle.fzn_model.specs.FirstFault.{IsFirstOf}
use Rattle.fzn_model.specs.DeclarationRules.{HasNumberFault}
use Rattle.fzn_model.proofs.Rules.{first_of_two}
use Rattle.fzn_model.proofs.declarations.number_in_set.Goals as goal

pub returns-in-Range : goal.returns-in-Range
returns-in-Range c =
    subst (λ (s : SetForm). IsFirstOf (HasNumberFault (numbers_of s)) c.earlier.result) (sym c.in-Range.is)
    (first_of_two c.in-Range.low c.in-Range.high c.number_fault.result c.number_fault-in-Range.result c.earlier.result c.number_fault.ensures c.number_fault-in-Range.ensures
    c.earlier.ensures)

pub returns-in-List : goal.returns-in-List
returns-in-List c =
    subst (λ (s : SetForm). IsFirstOf (HasNumberFault (numbers_of s)) c.number_among.result) (sym c.in-List.is)
    (subst (λ (xs : List Number). IsFirstOf (HasNumberFault xs) c.number_among.result) c.items.ensures c.number_among.ensures)
