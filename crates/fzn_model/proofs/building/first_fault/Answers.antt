-- The first of the faults of all rules.
use Rattle.std.proofs.Common.{◌⊎◌, sym, subst}
use Rattle.fzn_model.proofs.building.first_fault.Goals as goal
use Rattle.fzn_model.specs.declared.faults.ModelFault.{ModelFault}
use Rattle.fzn_model.specs.FaultsOf.{InConstraint, InDeclaration, InExpressions, InObjective, IsFaultAfter}
use Rattle.fzn_model.specs.FirstFault.{IsFirstOf}
use Rattle.fzn_model.proofs.Firsts.{either_first}

pub returns : goal.returns
returns c =
    let behind = either_first (InConstraint c.args.before.now c.args.item.now) (InObjective c.args.before.now c.args.item.now) _ _
    c.in_ok-at_constraint.ensures c.fault_in_objective-in_objective.ensures in
    let last = subst (λ o. IsFirstOf (λ (f : ModelFault). InConstraint c.args.before.now c.args.item.now f ⊎ InObjective c.args.before.now c.args.item.now f) o)
    (sym c.earlier-behind.ensures) behind in
    let declared = either_first (InDeclaration c.args.before.now c.args.item.now) (λ f. InConstraint c.args.before.now c.args.item.now f ⊎ InObjective c.args.before.now c.args.item.now f) _ _
    c.in_ok-in_declaration.ensures last in
    let middle = subst (λ o. IsFirstOf (λ (f : ModelFault). InDeclaration c.args.before.now c.args.item.now f ⊎ InConstraint c.args.before.now c.args.item.now f ⊎ InObjective c.args.before.now c.args.item.now f) o)
    (sym c.earlier.ensures) declared in
    subst (λ o. IsFirstOf (IsFaultAfter c.args.before.now c.args.item.now) o) (sym c.earlier-2.ensures)
    (either_first (InExpressions c.args.before.now c.args.item.now)
    (λ f. InDeclaration c.args.before.now c.args.item.now f ⊎ InConstraint c.args.before.now c.args.item.now f ⊎ InObjective c.args.before.now c.args.item.now f) _ _
    c.in_ok-in_expressions.ensures middle)
