use Rattle.std.proofs.Common.{sym, subst}
use Rattle.fzn_parser.specs.declared.tree.TypeForm.{TypeForm}
use Rattle.fzn_model.specs.Items.{numbers_in_type}
use Rattle.fzn_model.specs.FirstFault.{IsFirstOf}
use Rattle.fzn_model.specs.DeclarationRules.{HasNumberFault}
use Rattle.fzn_model.proofs.declarations.number_in_type.Goals as goal

pub returns-in-Within : goal.returns-in-Within
returns-in-Within c =
    subst (λ (t : TypeForm). IsFirstOf (HasNumberFault (numbers_in_type t)) c.number_in_set.result) (sym c.in-Within.is) c.number_in_set.ensures

pub returns-in-SetWithin : goal.returns-in-SetWithin
returns-in-SetWithin c =
    let r = c.number_in_set-in-SetWithin in
    subst (λ (t : TypeForm). IsFirstOf (HasNumberFault (numbers_in_type t)) r.result) (sym c.in-SetWithin.is) r.ensures
