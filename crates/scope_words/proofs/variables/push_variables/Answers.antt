use Rattle.std.proofs.Common.{ap, ◌∙◌}
use Rattle.set_meaning.proofs.Variables.{variable_pushed, constant_passed}
use Rattle.scope_words.proofs.variables.push_variables.Goals as goal
use Rattle.scope_words.proofs.variables.push_variables.Goals.{in-Var+in_ok-push, in_default}

pub loop-term-preserved : goal.loop-term-preserved
loop-term-preserved c =
    elim c.match-term.branch [
      | in-Var+in_ok-push w ↦ ap (λ v. v.items) w.variables-is ∙ variable_pushed _ _ _ w.in-Var.variable _ _ _ c.loop-term-test.true c.term-item.is w.in-Var.is c.loop-term.invariant w.in_ok-push.ensures.items
      | in_default w ↦ ap (λ v. v.items) w.variables-is ∙ constant_passed _ _ _ w.in_default.field-0 _ _ c.loop-term-test.true c.term-item.is w.in_default.is c.loop-term.invariant
    ]
