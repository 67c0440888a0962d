use Rattle.std.proofs.Common.{sym, subst, IfOk}
use Rattle.fzn_parser.specs.declared.tree.Form.{Form}
use Rattle.fzn_model.specs.FaultsOf.{IsDomain}
use Rattle.fzn_model.specs.DeclarationRules.{AreBounds}
use Rattle.fzn_model.proofs.declarations.domain_in.Goals as goal

pub returns-in-Variable : goal.returns-in-Variable
returns-in-Variable c = subst (λ (f : Form). IfOk c.domain_of.result (AreBounds (IsDomain f))) (sym c.in-Variable.is) c.domain_of.ensures
