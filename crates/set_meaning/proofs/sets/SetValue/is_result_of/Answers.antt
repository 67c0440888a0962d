use Rattle.std.proofs.Common.{refl, subst}
use Rattle.std.specs.List.{All}
use Rattle.set_meaning.specs.Operations.{AgreesAt}
use Rattle.set_meaning.proofs.Members.{result_agrees, result_from_parts, not_so, never}
use Rattle.set_meaning.proofs.sets.SetValue.is_result_of.Goals as goal

pub returns-then-not-all_agree : goal.returns-then-not-all_agree
returns-then-not-all_agree c =
    not_so _ (λ h. never (c.if-not-all_agree.ensures.1 (λ k d within. result_agrees c.args.operation c.args.a.now c.args.b.now c.args.self.now h _)))

pub returns-then-not-all_agree-2 : goal.returns-then-not-all_agree-2
returns-then-not-all_agree-2 c =
    not_so _ (λ h. never (c.if-not-all_agree-2.ensures.1 (λ k d within. result_agrees c.args.operation c.args.a.now c.args.b.now c.args.self.now h _)))

pub returns : goal.returns
returns c =
    let P = AgreesAt c.args.operation c.args.a.now c.args.b.now c.args.self.now in
    let in_a : All P c.args.a.now = subst (All P) c.elements.ensures.same (c.if-not-all_agree.ensures.0 refl) in
    let in_b : All P c.args.b.now = subst (All P) c.elements-2.ensures.same (c.if-not-all_agree-2.ensures.0 refl) in (
      λ yes. result_from_parts c.args.operation c.args.a.now c.args.b.now c.args.self.now in_a in_b (subst (All P) c.elements-3.ensures.same (c.all_agree-3.ensures.0 yes)),
      λ h. c.all_agree-3.ensures.1 (λ k d within. result_agrees c.args.operation c.args.a.now c.args.b.now c.args.self.now h _),
    )
