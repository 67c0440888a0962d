use Rattle.std.proofs.Common.{refl, sym, subst}
use Rattle.log_rules.specs.declared.reasons.Reason.TheVariants as reason
use Rattle.log_rules.specs.Boxes.{AreSides}
use Rattle.log_checker.specs.Body.{log_of}
use Rattle.log_checker.proofs.Verdicts.{is_first, one_more, last_rule, resolvent_children, resolvent_axiom, resolvent_rest, resolved_test, is_there, not_there, never}
use Rattle.log_checker.proofs.lines.resolvent.Goals as goal

pub returns-then-not-is_next_box : goal.returns-then-not-is_next_box
returns-then-not-is_next_box c = is_first _ _ _ reason.Number c.requires.before (λ h. never (c.if-not-is_next_box.ensures.1 h))

pub returns-then-not-are_sides_on : goal.returns-then-not-are_sides_on
returns-then-not-are_sides_on c =
    is_first _ _ _ reason.Sides (resolvent_children _ _ _ _ _ _ _ (one_more _ _ _ reason.Number c.requires.before (c.if-not-is_next_box.ensures.0 refl)))
    (λ h. never (c.if-not-are_sides_on.ensures.1 (subst (AreSides c.args.check.now.problem.now.kinds c.args.check.now.earlier.now.table) (sym c.items.ensures) h.sides, h.pivot)))

pub is_resolved-requires-clause-first : goal.is_resolved-requires-clause-first
is_resolved-requires-clause-first c = c.requires.ready.kept.sides _ _ c.in-Some.ensures.some

pub is_resolved-requires-clause-second : goal.is_resolved-requires-clause-second
is_resolved-requires-clause-second c = c.requires.ready.kept.sides _ _ c.in-Some-box_at.ensures.some

pub returns-in_ok-resolved-in-Some-box_at : goal.returns-in_ok-resolved-in-Some-box_at
returns-in_ok-resolved-in-Some-box_at c =
    last_rule _ _ _ reason.Resolvent _ _ c.unless.ensures
    (one_more _ _ _ reason.Boxes (resolvent_axiom _ _ _ _ _ _ _ (one_more _ _ _ reason.Sides (resolvent_children _ _ _ _ _ _ _ (one_more _ _ _ reason.Number c.requires.before (c.if-not-is_next_box.ensures.0 refl))) (let h = c.if-not-are_sides_on.ensures.0 refl in record { sides = subst (AreSides c.args.check.now.problem.now.kinds c.args.check.now.earlier.now.table) c.items.ensures h.0; pivot = h.1 }))) (is_there _ _ c.in-Some.ensures.some, is_there _ _ c.in-Some-box_at.ensures.some))
    (resolved_test c.args.check.now.problem.now (log_of c.args.check.now.earlier.now) c.args.number c.args.left c.args.right c.args.pivot c.args.sides.now c.in-Some.first.now c.in-Some-box_at.second.now _ _ c.items-in-Some-box_at.ensures
    c.in-Some.ensures.some c.in-Some-box_at.ensures.some c.in_ok-resolved-in-Some-box_at.ensures)
    (λ k. resolvent_rest _ _ _ _ _ _ _ k)

pub returns-in-None-box_at : goal.returns-in-None-box_at
returns-in-None-box_at c = is_first _ _ _ reason.Boxes (resolvent_axiom _ _ _ _ _ _ _ (one_more _ _ _ reason.Sides (resolvent_children _ _ _ _ _ _ _ (one_more _ _ _ reason.Number c.requires.before (c.if-not-is_next_box.ensures.0 refl))) (let h = c.if-not-are_sides_on.ensures.0 refl in record { sides = subst (AreSides c.args.check.now.problem.now.kinds c.args.check.now.earlier.now.table) c.items.ensures h.0; pivot = h.1 }))) (λ h. not_there _ c.in-None-box_at.ensures.none h.1)

pub returns-in-None : goal.returns-in-None
returns-in-None c = is_first _ _ _ reason.Boxes (resolvent_axiom _ _ _ _ _ _ _ (one_more _ _ _ reason.Sides (resolvent_children _ _ _ _ _ _ _ (one_more _ _ _ reason.Number c.requires.before (c.if-not-is_next_box.ensures.0 refl))) (let h = c.if-not-are_sides_on.ensures.0 refl in record { sides = subst (AreSides c.args.check.now.problem.now.kinds c.args.check.now.earlier.now.table) c.items.ensures h.0; pivot = h.1 }))) (λ h. not_there _ c.in-None.ensures.none h.0)
