use Rattle.std.proofs.Common.{sym, subst, IfOk}
use Rattle.fzn_parser.specs.declared.tree.Form.{Form}
use Rattle.fzn_model.specs.FaultsOf.{IsUniverse}
use Rattle.fzn_model.specs.DeclarationRules.{AreBounds}
use Rattle.fzn_model.proofs.declarations.universe_in.Goals as goal

pub returns-in-Variable : goal.returns-in-Variable
returns-in-Variable c = subst (λ (f : Form). IfOk c.universe_of.result (AreBounds (IsUniverse f))) (sym c.in-Variable.is) c.universe_of.ensures
