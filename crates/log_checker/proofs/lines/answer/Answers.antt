use Rattle.std.proofs.Common.{refl, rules, sym, subst, ap, ◌∙◌, ◌≡◌, false, map}
use Rattle.std.specs.Prelude.{IsTrue}
use Rattle.log_rules.specs.declared.reasons.Reason.TheVariants as reason
use Rattle.log_rules.specs.Boxes.{AreSides}
use Rattle.log_rules.specs.States.{value_in}
use Rattle.log_checker.specs.Body.{log_of}
use Rattle.log_checker.proofs.Verdicts.{is_first, one_more, all_kept, answer_children, answer_boxes, answer_rest, never, new_test, box_test, off_test}
use Rattle.log_checker.proofs.lines.answer.Goals as goal

pub returns-then-not-is_next_box : goal.returns-then-not-is_next_box
returns-then-not-is_next_box c = is_first _ _ _ reason.Number c.requires.before (λ h. never (c.if-not-is_next_box.ensures.1 h))

pub returns-then-not-are_sides : goal.returns-then-not-are_sides
returns-then-not-are_sides c =
    is_first _ _ _ reason.Sides (answer_children _ _ _ _ _ (one_more _ _ _ reason.Number c.requires.before (c.if-not-is_next_box.ensures.0 refl))) (λ h. never (c.if-not-are_sides.ensures.1 (subst (AreSides c.args.check.now.problem.now.kinds c.args.check.now.earlier.now.table) (sym c.items.ensures) h.sides)))

pub returns-then-not-branch : goal.returns-then-not-branch
returns-then-not-branch c =
    let off : c.in_ok-is_new_answer.field-0 ≡ false = search rules in
    is_first _ _ _ reason.Answer (answer_boxes _ _ _ _ _ (one_more _ _ _ reason.Sides (answer_children _ _ _ _ _ (one_more _ _ _ reason.Number c.requires.before (c.if-not-is_next_box.ensures.0 refl))) (record { sides = subst (AreSides c.args.check.now.problem.now.kinds c.args.check.now.earlier.now.table) c.items.ensures (c.if-not-are_sides.ensures.0 refl); pivot = tt }))) (λ h. off_test c.in_ok-is_new_answer.field-0 _ off (new_test c.args.check.now.problem.now (log_of c.args.check.now.earlier.now) c.args.number c.args.values.now c.as_slice.result.now c.args.sides.now c.in_ok-is_new_answer.field-0 (c.as_slice.ensures.value ∙ c.in_ok-answer.ensures ∙ ap (map value_in) c.items-2.ensures) c.in_ok-is_new_answer.ensures) h)

pub returns-then-not-branch-2 : goal.returns-then-not-branch-2
returns-then-not-branch-2 c =
    let on : IsTrue c.in_ok-is_new_answer.field-0 = search rules in
    let off : c.in_ok-is_answer_box.field-0 ≡ false = search rules in
    is_first _ _ _ reason.AnswerBox (one_more _ _ _ reason.Answer (answer_boxes _ _ _ _ _ (one_more _ _ _ reason.Sides (answer_children _ _ _ _ _ (one_more _ _ _ reason.Number c.requires.before (c.if-not-is_next_box.ensures.0 refl))) (record { sides = subst (AreSides c.args.check.now.problem.now.kinds c.args.check.now.earlier.now.table) c.items.ensures (c.if-not-are_sides.ensures.0 refl); pivot = tt }))) ((new_test c.args.check.now.problem.now (log_of c.args.check.now.earlier.now) c.args.number c.args.values.now c.as_slice.result.now c.args.sides.now c.in_ok-is_new_answer.field-0 (c.as_slice.ensures.value ∙ c.in_ok-answer.ensures ∙ ap (map value_in) c.items-2.ensures) c.in_ok-is_new_answer.ensures).0 on)) (λ h. off_test c.in_ok-is_answer_box.field-0 _ off (box_test c.args.check.now.problem.now (log_of c.args.check.now.earlier.now) c.args.number c.args.values.now c.as_slice-2.result.now c.args.sides.now c.items-3.result.now c.in_ok-is_answer_box.field-0 (c.as_slice-2.ensures.value ∙ c.in_ok-answer.ensures ∙ ap (map value_in) c.items-2.ensures) c.items-3.ensures c.in_ok-is_answer_box.ensures) h)

pub returns : goal.returns
returns c =
    let on : IsTrue c.in_ok-is_new_answer.field-0 = search rules in
    let whole : IsTrue c.in_ok-is_answer_box.field-0 = search rules in
    all_kept _ _ _ (answer_rest _ _ _ _ _ (one_more _ _ _ reason.AnswerBox (one_more _ _ _ reason.Answer (answer_boxes _ _ _ _ _ (one_more _ _ _ reason.Sides (answer_children _ _ _ _ _ (one_more _ _ _ reason.Number c.requires.before (c.if-not-is_next_box.ensures.0 refl))) (record { sides = subst (AreSides c.args.check.now.problem.now.kinds c.args.check.now.earlier.now.table) c.items.ensures (c.if-not-are_sides.ensures.0 refl); pivot = tt }))) ((new_test c.args.check.now.problem.now (log_of c.args.check.now.earlier.now) c.args.number c.args.values.now c.as_slice.result.now c.args.sides.now c.in_ok-is_new_answer.field-0 (c.as_slice.ensures.value ∙ c.in_ok-answer.ensures ∙ ap (map value_in) c.items-2.ensures) c.in_ok-is_new_answer.ensures).0 on)) ((box_test c.args.check.now.problem.now (log_of c.args.check.now.earlier.now) c.args.number c.args.values.now c.as_slice-2.result.now c.args.sides.now c.items-3.result.now c.in_ok-is_answer_box.field-0 (c.as_slice-2.ensures.value ∙ c.in_ok-answer.ensures ∙ ap (map value_in) c.items-2.ensures) c.items-3.ensures c.in_ok-is_answer_box.ensures).0 whole)))
