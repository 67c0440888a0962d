use Rattle.std.proofs.Common.{◌≡◌, Some, sym, ap, ◌∙◌, subst, arith}
use Rattle.std.specs.Prelude.{IsTrue}
use Rattle.std.specs.Option.{option_map}
use Rattle.std.proofs.lemmas.Result.{IfOk-weaker}
use Rattle.fzn_model.specs.ConstraintFaults.{OfMade}
use Rattle.fzn_model.specs.FirstFault.{IsFirstOf}
use Rattle.fzn_model.specs.ProblemOf.{constraint_named}
use Rattle.fzn_model.specs.State.{naming_of}
use Rattle.fzn_model.specs.Shared.{constraint_in}
use Rattle.fzn_model.proofs.ConstraintRules.{good_first}
use Rattle.fzn_model.proofs.constraints.fault_of_arguments.Goals as goal

pub returns-in-Some : goal.returns-in-Some
returns-in-Some c =
    let kinds = c.args.so_far.now.kinds.items in
    let made = constraint_named (naming_of c.args.so_far.now.declared) c.args.name.now c.args.args.now in
    let is : made ≡ Some (constraint_in c.in-Some.made) = sym c.in_ok-constraint_named.ensures ∙ ap (option_map constraint_in) c.in-Some.is in
    let good : IsTrue c.args.is_good = grind arith in
    IfOk-weaker c.fault_of_made.result _ _
    (λ r h. good_first (IsTrue c.args.is_good) c.args.at kinds made r good (subst (λ m. IsFirstOf (OfMade c.args.at kinds m) r) (sym is) h))
    (rw c.as_slice.ensures.value at c.fault_of_made.ensures)
