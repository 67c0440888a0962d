use Rattle.std.proofs.Common.{◌≡◌, Some, ap, ◌∙◌}
use Rattle.std.specs.Prelude.{IsTrue}
use Rattle.std.proofs.lemmas.Result.{IfOk-weaker}
use Rattle.fzn_parser.specs.declared.tree.Form.TheVariants as forms
use Rattle.fzn_model.specs.Items.{expressions_in}
use Rattle.fzn_model.specs.ConstraintFaults.{before_of}
use Rattle.fzn_model.proofs.ConstraintItems.{constraint_item, given_item, state_is}
use Rattle.fzn_model.proofs.GoodArguments.{good_is_short}
use Rattle.fzn_model.proofs.constraints.fault_at_constraint.Goals as goal

pub fault_of_constraint-requires-clause-short : goal.fault_of_constraint-requires-clause-short
fault_of_constraint-requires-clause-short c = λ good.
    rw c.items-in-Constraint.ensures
    (good_is_short c.args.before.now c.args.item.now (c.requires.good.0 good) c.in-Constraint.args (ap expressions_in c.in-Constraint.is))

pub returns-in-Constraint : goal.returns-in-Constraint
returns-in-Constraint c =
    IfOk-weaker c.fault_of_constraint.result _ _
    (λ r h. constraint_item c.args.before.now c.args.item.now c.in-Constraint.name c.in-Constraint.args c.in-Constraint.anns (before_of c.args.so_far.now)
    (IsTrue c.args.is_good) r (state_is c.args.before.now c.args.so_far.now c.requires.state) c.in-Constraint.is c.requires.good h)
    (rw (c.items.ensures, c.items-in-Constraint.ensures) at c.fault_of_constraint.ensures)

pub returns-in-Some : goal.returns-in-Some
returns-in-Some c =
    let form : c.args.item.now.form ≡ forms.Variable c.in-Variable.sort c.in-Variable.name c.in-Variable.anns (Some c.in-Some.value)
    = c.in-Variable.is ∙ ap (λ value. forms.Variable c.in-Variable.sort c.in-Variable.name c.in-Variable.anns value) c.in-Some.is in
    given_item c.args.before.now c.args.item.now c.in-Variable.sort c.in-Variable.name c.in-Variable.anns c.in-Some.value (before_of c.args.so_far.now)
    (IsTrue c.args.is_good) c.fault_of_counts.result (state_is c.args.before.now c.args.so_far.now c.requires.state) form c.requires.good
    (rw c.from_ref-expressions.ensures.value at c.fault_of_counts.ensures)
