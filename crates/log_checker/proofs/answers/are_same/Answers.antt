use Rattle.std.proofs.Common.{◌≡◌, sym, ◌∙◌, inl, inr, refl}
use Rattle.log_checker.proofs.Sames.{goes_on, parts_here, nothing_left, never}
use Rattle.log_checker.proofs.answers.are_same.Goals as goal

pub loop-x-preserved : goal.loop-x-preserved
loop-x-preserved c =
    goes_on c.args.first.now c.args.second.now c.in-Some.x.now c.in-Some.y.now _ _ _ _ c.in-Some.ensures.steps.0 c.in-Some.ensures.steps.1
    (c.if-not-is_same.ensures.0 refl) c.loop-x.invariant

pub returns-then-not-is_same : goal.returns-then-not-is_same
returns-then-not-is_same c = (
  (λ f. absurd (never f)),
  (λ h. absurd (parts_here c.in-Some.x.now c.in-Some.y.now _ _ _ _ c.in-Some.ensures.steps.0 c.in-Some.ensures.steps.1
      (λ same. never (c.if-not-is_same.ensures.1 same)) (c.loop-x.invariant.1.1 h))),
)

pub returns : goal.returns
returns c =
    let same = c.loop-x.invariant.0 in
    let whole : c.args.first.now ≡ c.args.second.now = elim c.in-None.ensures.steps [
      | inl a ↦ c.loop-x.invariant.1.0 (nothing_left _ _ a.1.0 (sym same ∙ a.1.0))
      | inr b ↦ c.loop-x.invariant.1.0 (nothing_left _ _ (same ∙ b.1.0) b.1.0)
    ] in
    (λ _. whole, λ _. refl)
