use Rattle.std.proofs.Common.{refl, rules, sym, ◌∙◌, ap, ℤ}
use Rattle.set_meaning.specs.declared.kinds.Value.TheVariants as value
use Rattle.log_rules.specs.Boxes.{word_at}
use Rattle.std.specs.Int.{w64}
use Rattle.std.specs.Prelude.{FitsSigned}
use Rattle.std.proofs.lemmas.Int.{to_z-of_z}
use Rattle.log_checker.proofs.AnswerLaws.{fit_good, fit_walk, good_from}
use Rattle.log_checker.proofs.Verdicts.{never}
use Rattle.log_checker.proofs.answers.is_fit.Goals as goal

pub returns-then-is_as_good : goal.returns-then-is_as_good
returns-then-is_as_good c =
    let b : FitsSigned w64 c.args.bound = search rules in
    let x : FitsSigned w64 c.args.x = search rules in
    fit_good c.args.check.now.layout.now.kinds c.args.check.now.earlier.now.table c.args.o.0 c.args.node c.args.bound c.args.x c.args.greatest
    (good_from _ _ _ _ c.args.greatest (to_z-of_z w64 c.args.bound b) (to_z-of_z w64 c.args.x x) (c.if-is_as_good.ensures.0 refl))

pub returns : goal.returns
returns c =
    let b : FitsSigned w64 c.args.bound = search rules in
    let x : FitsSigned w64 c.args.x = search rules in
    fit_walk c.args.check.now.layout.now.kinds c.args.check.now.earlier.now.table c.args.o.0 c.args.node c.args.bound c.args.x c.args.greatest c.as_slice.result.now _
    (λ good. never (c.if-is_as_good.ensures.1 (good_from _ _ _ _ c.args.greatest (sym (to_z-of_z w64 c.args.bound b)) (sym (to_z-of_z w64 c.args.x x)) good)))
    (c.as_slice.ensures.value ∙ c.in_ok-word.ensures.word ∙ ap (λ (z : ℤ). word_at c.args.check.now.layout.now.kinds c.args.o.0 (value.Int z)) (to_z-of_z w64 c.args.x x)) c.walk-accepted.ensures
