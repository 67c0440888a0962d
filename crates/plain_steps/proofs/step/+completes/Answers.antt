use Rattle.std.proofs.Common.{get_or, sym, ap, ◌∙◌, arith}
use Rattle.plain_steps.proofs.StepLemmas.{all_answer, try_found, try_none, scoped}
use Rattle.plain_steps.proofs.step.+completes.Goals as goal

pub returns-then-depth-family-clause-answer : goal.returns-then-depth-family-clause-answer
returns-then-depth-family-clause-answer g t c =
    all_answer (g.T.Task.plain c.args.task.now) c.args.constraint c.args.family.now c.args.values.now c.args.depth (omega arith)
    (omega arith) c.requires.zeros c.holds.result c.holds.ensures

pub returns-then-completes-clause-answer : goal.returns-then-completes-clause-answer
returns-then-completes-clause-answer g t c =
    let (a, done) = c.if-completes.ensures.answer in (
      a,
      try_found (g.T.Task.plain c.args.task.now) c.args.constraint c.args.family.now c.args.values.now c.loop-x.values
          c.set_of-x-items.result.now c.args.depth c.loop-x.x-index a c.set_of-x-items.ensures (omega arith) (omega arith)
          c.loop-x.invariant.agree (omega arith) done,
    )

pub returns-clause-answer : goal.returns-clause-answer
returns-clause-answer g t c a done =
    try_none (g.T.Task.plain c.args.task.now) c.args.constraint c.args.family.now c.args.values.now c.set_of-x-items.result.now
    c.args.depth c.loop-x.x-index a c.set_of-x-items.ensures (omega arith) (omega arith)
    (scoped (g.T.Task.plain c.args.task.now) c.args.constraint c.args.depth (sym c.speaks_of.ensures ∙ c.if-not-speaks_of.false) (omega arith))
    (λ k lt same. c.loop-x.invariant.none a done k lt (same ∙ ap (λ xs. get_or xs k 0) c.set_of-x-items.ensures)) done
