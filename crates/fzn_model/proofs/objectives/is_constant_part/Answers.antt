use Rattle.std.proofs.Common.{◌↔◌, IsTrue, List, ℕ, sym, subst}
use Rattle.fzn_parser.specs.declared.tree.BasicForm.{BasicForm}
use Rattle.fzn_model.specs.Entities.{arg_named, arg_of_part}
use Rattle.fzn_model.specs.State.{naming_of}
use Rattle.fzn_model.specs.Objectives.{IsIntegerConstant}
use Rattle.fzn_model.proofs.objectives.is_constant_part.Goals as goal

pub returns-in-Name : goal.returns-in-Name
returns-in-Name c =
    let r = c.is_constant_name in
    subst (λ (p : BasicForm). IsTrue r.result ↔ IsIntegerConstant (arg_of_part (naming_of c.args.declared.now) p)) (sym c.in-Name.is)
    (subst (λ (n : List ℕ). IsTrue r.result ↔ IsIntegerConstant (arg_named (naming_of c.args.declared.now) n)) c.items.ensures r.ensures)
