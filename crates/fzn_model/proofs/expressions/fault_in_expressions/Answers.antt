use Rattle.std.proofs.Common.{◌≡◌, ℕ, subst, sym}
use Rattle.std.proofs.Math.Path.{fun_ext}
use Rattle.std.proofs.lemmas.Result.{IfOk-weaker}
use Rattle.fzn_model.specs.Entities.{Naming, naming_after}
use Rattle.fzn_model.specs.FaultsOf.{InExpressions}
use Rattle.fzn_model.specs.PartFaults.{OfItem}
use Rattle.fzn_model.specs.State.{naming_of}
use Rattle.fzn_model.proofs.PartFirsts.{same_faults}
use Rattle.fzn_model.proofs.OfItems.{IsDeclaredIn, rules_from, rules_to}
use Rattle.fzn_model.proofs.expressions.fault_in_expressions.Goals as goal

pub returns : goal.returns
returns c =
    let naming : Naming = naming_of c.args.so_far.now.declared in
    let start : ℕ = c.args.so_far.now.counts.elements in
    let same : naming ≡ naming_after c.args.before.now = fun_ext c.requires.naming in
    let declared : IsDeclaredIn naming c.args.before.now = subst (λ n. IsDeclaredIn n c.args.before.now) (sym same) c.requires.declared in
    IfOk-weaker c.fault_in_form.result _ _
    (λ r h. same_faults (OfItem naming start c.args.item.now.form) (InExpressions c.args.before.now c.args.item.now) r
    (rules_from naming start c.args.before.now c.args.item.now same declared c.requires.elements)
    (rules_to naming start c.args.before.now c.args.item.now same declared c.requires.elements) h)
    (rw c.from-start.ensures at c.fault_in_form.ensures)
