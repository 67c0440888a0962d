use Rattle.std.proofs.Common.{rules, sym, subst, length, get_or, ◌≡◌, ◌<◌, ◌≤◌}
use Rattle.set_meaning.specs.Solutions.{Covers}
use Rattle.log_checker.proofs.Fronts.{all_more, all_end}
use Rattle.log_checker.proofs.Verdicts.{never}
use Rattle.log_checker.proofs.answers.is_covered.Goals as goal

pub loop-answer-preserved : goal.loop-answer-preserved
loop-answer-preserved c =
    let within : c.loop-answer.answer-index < length c.args.answers.now = search rules in
    let at : c.answer-item.result ≡ get_or c.args.answers.now c.loop-answer.answer-index c.answer-item.result = search rules in
    all_more (λ a. Covers c.args.problem.now a c.args.values.now → ⊥) c.args.answers.now c.loop-answer.answer-index c.answer-item.result within c.loop-answer.invariant
    (λ h. never (c.if-covers.ensures.1 (subst (λ a. Covers c.args.problem.now a c.args.values.now) (sym c.items.ensures)
    (subst (λ a. Covers c.args.problem.now a c.args.values.now) (sym at) h))))

pub returns : goal.returns
returns c =
    let over : length c.args.answers.now ≤ c.loop-answer.answer-index = search rules in (
      (λ f. absurd (never f)),
      (λ h. absurd (all_end (λ a. Covers c.args.problem.now a c.args.values.now → ⊥) c.args.answers.now c.loop-answer.answer-index over c.loop-answer.invariant h.0 h.1 h.2
          (subst (λ a. Covers c.args.problem.now a c.args.values.now) (sym h.3) h.4))),
    )
