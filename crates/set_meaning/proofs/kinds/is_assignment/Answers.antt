use Rattle.std.proofs.Common.{sym, ◌∙◌, inl, inr, refl}
use Rattle.set_meaning.specs.Kinds.{IsAssignment}
use Rattle.set_meaning.proofs.Members.{same_length, assignment_goes_on, assignment_fails, empty_assignment, never, not_so}
use Rattle.set_meaning.proofs.kinds.is_assignment.Goals as goal

pub returns-then-kinds-values : goal.returns-then-kinds-values
returns-then-kinds-values c = not_so _ (λ h. c.if-kinds-values.true (same_length c.args.kinds.now c.args.values.now h))

pub loop-kind-preserved : goal.loop-kind-preserved
loop-kind-preserved c =
    assignment_goes_on c.args.kinds.now c.args.values.now c.in-Some.kind.now c.in-Some.value.now _ _ _ _ c.in-Some.ensures.steps.0 c.in-Some.ensures.steps.1
    (c.if-not-in_kind.ensures.0 refl) c.loop-kind.invariant

pub returns-then-not-in_kind : goal.returns-then-not-in_kind
returns-then-not-in_kind c =
    not_so _ (λ h. assignment_fails c.in-Some.kind.now c.in-Some.value.now _ _ _ _ c.in-Some.ensures.steps.0 c.in-Some.ensures.steps.1
    (λ inside. never (c.if-not-in_kind.ensures.1 inside)) (c.loop-kind.invariant.1.1 h))

pub returns : goal.returns
returns c =
    let same = c.loop-kind.invariant.0 in
    let whole : IsAssignment c.args.kinds.now c.args.values.now = elim c.in-None.ensures.steps [
      | inl a ↦ c.loop-kind.invariant.1.0 (empty_assignment _ _ a.1.0 (sym same ∙ a.1.0))
      | inr b ↦ c.loop-kind.invariant.1.0 (empty_assignment _ _ (same ∙ b.1.0) b.1.0)
    ] in
    (λ _. whole, λ _. refl)
