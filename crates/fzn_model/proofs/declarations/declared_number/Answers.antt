use Rattle.std.proofs.Common.{sym, subst}
use Rattle.fzn_parser.specs.declared.tree.Form.{Form}
use Rattle.fzn_model.specs.Items.{numbers_in_type}
use Rattle.fzn_model.specs.FaultsOf.{declared_numbers}
use Rattle.fzn_model.specs.FirstFault.{IsFirstOf}
use Rattle.fzn_model.specs.DeclarationRules.{HasNumberFault}
use Rattle.fzn_model.proofs.Rules.{first_behind, first_with}
use Rattle.fzn_model.proofs.declarations.declared_number.Goals as goal

pub returns-in-Param : goal.returns-in-Param
returns-in-Param c =
    let r = c.number_in_type in
    subst (λ (f : Form). IsFirstOf (HasNumberFault (declared_numbers f)) r.result) (sym c.in-Param.is)
    (first_behind (numbers_in_type c.in-Param.sort.form) r.result r.ensures)

pub returns-in-Variable : goal.returns-in-Variable
returns-in-Variable c =
    let r = c.number_in_type-in-Variable in
    subst (λ (f : Form). IsFirstOf (HasNumberFault (declared_numbers f)) r.result) (sym c.in-Variable.is)
    (first_behind (numbers_in_type c.in-Variable.sort.form) r.result r.ensures)

pub returns-in-Array : goal.returns-in-Array
returns-in-Array c =
    let r = c.number_in_type-in-Array in
    subst (λ (f : Form). IsFirstOf (HasNumberFault (declared_numbers f)) c.earlier.result) (sym c.in-Array.is)
    (first_with (numbers_in_type c.in-Array.sort.form) c.in-Array.length r.result c.number_fault.result c.earlier.result r.ensures c.number_fault.ensures c.earlier.ensures)
