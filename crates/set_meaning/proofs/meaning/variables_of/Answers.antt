use Rattle.std.proofs.Common.{◌++◌, ap, ◌∙◌}
use Rattle.std.specs.List.{filter_map}
use Rattle.set_meaning.specs.Relations.{variable_of}
use Rattle.set_meaning.proofs.Variables.{argument_pushed, reif_pushed, items_of_option}
use Rattle.set_meaning.proofs.meaning.variables_of.Goals as goal

pub loop-arg-preserved : goal.loop-arg-preserved
loop-arg-preserved c =
    argument_pushed _ _ c.arg-item.result _ _ c.loop-arg-test.true c.arg-item.is c.loop-arg.invariant
    (c.in_ok-push_variables.ensures ∙ ap (λ ts. c.loop-arg.variables.items ++ filter_map variable_of ts) c.terms.ensures)

pub returns : goal.returns
returns c =
    let gathered = reif_pushed c.items-arg-items.result.now c.args.c.now.reif c.loop-arg.arg-index _ _ _ c.loop-arg-test.false c.loop-arg.invariant
    (items_of_option _ _ c.as_slice.ensures) c.in_ok-push_variables-2.ensures in
    rw c.items-arg-items.ensures at gathered
