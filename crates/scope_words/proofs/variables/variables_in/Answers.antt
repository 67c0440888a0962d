use Rattle.std.proofs.Common.{◌++◌, ap, ◌∙◌}
use Rattle.std.specs.List.{filter_map}
use Rattle.set_meaning.specs.Relations.{variable_of}
use Rattle.set_meaning.proofs.Variables.{argument_pushed}
use Rattle.scope_words.proofs.variables.variables_in.Goals as goal

pub loop-arg-preserved : goal.loop-arg-preserved
loop-arg-preserved c =
    argument_pushed _ _ c.arg-item.result _ _ c.loop-arg-test.true c.arg-item.is c.loop-arg.invariant
    (c.in_ok-push_variables.ensures ∙ ap (λ ts. c.loop-arg.variables.items ++ filter_map variable_of ts) c.terms.ensures)
