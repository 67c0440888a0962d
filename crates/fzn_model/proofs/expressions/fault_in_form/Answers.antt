use Rattle.std.proofs.Common.{None, refl, sym, subst}
use Rattle.std.proofs.lemmas.Result.{IfOk-weaker}
use Rattle.std.specs.Option.{option_map}
use Rattle.fzn_parser.specs.declared.tree.Expr.TheVariants as exprs
use Rattle.fzn_parser.specs.declared.tree.Form.TheVariants as forms
use Rattle.fzn_model.specs.Entities.{sort_of}
use Rattle.fzn_model.specs.Shapes.{array_shape}
use Rattle.fzn_model.specs.FirstFault.{IsFirstOf}
use Rattle.fzn_model.specs.PartFaults.{IsFound, OfArray, OfAsked, OfItem}
use Rattle.fzn_model.specs.State.{naming_of}
use Rattle.fzn_model.proofs.PartFirsts.{first_single, some_none}
use Rattle.fzn_model.proofs.Founds.{plain_item}
use Rattle.fzn_model.proofs.expressions.fault_in_form.Goals as goal

pub returns-in-Predicate : goal.returns-in-Predicate
returns-in-Predicate c =
    let naming = naming_of c.args.declared.now in
    rw c.in-Predicate.is (plain_item naming c.args.start forms.Predicate None refl (some_none (OfAsked naming)))

pub returns-in-Param : goal.returns-in-Param
returns-in-Param c =
    let naming = naming_of c.args.declared.now in
    IfOk-weaker c.fault_in_value.result _ _
    (λ r h. subst (λ form. IsFirstOf (OfItem naming c.args.start form) r) (sym c.in-Param.is)
    (plain_item naming c.args.start (forms.Param c.in-Param.sort c.in-Param.name c.in-Param.anns c.in-Param.value) r refl h))
    (rw (c.constant_asked.ensures, c.sort_of.ensures) at c.fault_in_value.ensures)

pub returns-in-Variable : goal.returns-in-Variable
returns-in-Variable c = rw c.in-Variable.is (rw (c.one_asked.ensures, c.sort_of-in-Variable.ensures) at c.fault_in_given.ensures)

pub returns-in_ok-found-in-Array : goal.returns-in_ok-found-in-Array
returns-in_ok-found-in-Array c =
    let naming = naming_of c.args.declared.now in
    let found : IsFound (OfArray naming (option_map (array_shape c.in-Array.is_var) (sort_of c.in-Array.sort.form)) c.in-Array.items_at c.in-Array.items) naming 0 c.in-Array.items
    c.in_ok-found-in-Array.found
    = rw (c.array_asked-shape.ensures, c.sort_of-in-Array.ensures, c.items.ensures) at c.in_ok-found-in-Array.ensures in
    rw c.in-Array.is
    (plain_item naming c.args.start
    (forms.Array c.in-Array.length c.in-Array.is_var c.in-Array.sort c.in-Array.name c.in-Array.anns c.in-Array.items_at c.in-Array.items)
    c.in_ok-found-in-Array.found.fault refl
    (first_single (OfAsked naming) (option_map (array_shape c.in-Array.is_var) (sort_of c.in-Array.sort.form), exprs.List c.in-Array.items_at c.in-Array.items)
    c.in_ok-found-in-Array.found.fault found.fault))

pub returns-in-Constraint : goal.returns-in-Constraint
returns-in-Constraint c =
    rw c.in-Constraint.is (rw (c.items-in-Constraint.ensures, c.items-in-Constraint-2.ensures) at c.fault_in_arguments.ensures)

pub returns-in-Solve : goal.returns-in-Solve
returns-in-Solve c =
    let naming = naming_of c.args.declared.now in
    IfOk-weaker c.fault_in_goal.result _ _
    (λ r h. subst (λ form. IsFirstOf (OfItem naming c.args.start form) r) (sym c.in-Solve.is)
    (plain_item naming c.args.start (forms.Solve c.in-Solve.anns c.in-Solve.goal) r refl h))
    c.fault_in_goal.ensures
