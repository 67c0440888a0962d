use Rattle.std.proofs.Common.{rules, ◌↔◌, ℤ, subst}
use Rattle.std.specs.Prelude.{IsTrue}
use Rattle.std.specs.Int.{w64}
use Rattle.std.specs.Prelude.{FitsSigned}
use Rattle.std.proofs.lemmas.Int.{to_z-of_z}
use Rattle.log_checker.specs.Words.{NoneIsBeyond}
use Rattle.log_checker.proofs.AnswerLaws.{none_better, no_bound}
use Rattle.log_checker.proofs.answers.none_is_better.Goals as goal

pub returns-in_ok-yes-in-Some : goal.returns-in_ok-yes-in-Some
returns-in_ok-yes-in-Some c =
    let b : FitsSigned w64 c.in-Some.bound = search rules in
    none_better c.args.check.now.problem.now.kinds c.args.check.now.earlier.now.table c.args.sides.now c.args.values.now c.args.o c.in-Some.bound c.args.greatest c.in_ok-yes-in-Some.yes c.in-Some.ensures
    (subst (λ (z : ℤ). IsTrue c.in_ok-yes-in-Some.yes ↔ NoneIsBeyond c.args.check.now.problem.now.kinds c.args.check.now.earlier.now.table c.args.sides.now c.args.o z c.args.greatest) (to_z-of_z w64 c.in-Some.bound b) c.in_ok-yes-in-Some.ensures)

pub returns-in-None : goal.returns-in-None
returns-in-None c = no_bound c.args.check.now.problem.now.kinds c.args.check.now.earlier.now.table c.args.sides.now c.args.values.now c.args.o c.args.greatest c.in-None.ensures
