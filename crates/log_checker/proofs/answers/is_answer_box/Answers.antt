use Rattle.std.proofs.Common.{sym, subst, ◌↔◌}
use Rattle.std.specs.Prelude.{IsTrue}
use Rattle.set_meaning.specs.declared.problems.Goal.{Goal}
use Rattle.log_rules.specs.Boxes.{side_of}
use Rattle.log_rules.specs.Rules.{IsBoxOf}
use Rattle.log_checker.proofs.AnswerLaws.{only_box, least_box, greatest_box}
use Rattle.log_checker.proofs.answers.is_answer_box.Goals as goal

pub returns-in_ok-yes-in-Satisfy : goal.returns-in_ok-yes-in-Satisfy
returns-in_ok-yes-in-Satisfy c =
    subst (λ (g : Goal). IsTrue c.in_ok-yes-in-Satisfy.yes ↔ IsBoxOf c.args.check.now.problem.now.kinds g c.args.values.now (side_of c.args.check.now.problem.now.kinds c.args.check.now.earlier.now.table c.args.sides.now))
    (sym c.in-Satisfy.is) (only_box c.args.check.now.problem.now.kinds c.args.check.now.earlier.now.table c.args.sides.now c.args.values.now _ c.requires.solution.assignment c.in_ok-yes-in-Satisfy.ensures)

pub returns-in_ok-yes-in-Minimize : goal.returns-in_ok-yes-in-Minimize
returns-in_ok-yes-in-Minimize c =
    subst (λ (g : Goal). IsTrue c.in_ok-yes-in-Minimize.yes ↔ IsBoxOf c.args.check.now.problem.now.kinds g c.args.values.now (side_of c.args.check.now.problem.now.kinds c.args.check.now.earlier.now.table c.args.sides.now))
    (sym c.in-Minimize.is) (least_box c.args.check.now.problem.now.kinds c.args.check.now.earlier.now.table c.args.sides.now c.args.values.now c.in-Minimize.o _ c.in_ok-yes-in-Minimize.ensures)

pub returns-in_ok-yes-in-Maximize : goal.returns-in_ok-yes-in-Maximize
returns-in_ok-yes-in-Maximize c =
    subst (λ (g : Goal). IsTrue c.in_ok-yes-in-Maximize.yes ↔ IsBoxOf c.args.check.now.problem.now.kinds g c.args.values.now (side_of c.args.check.now.problem.now.kinds c.args.check.now.earlier.now.table c.args.sides.now))
    (sym c.in-Maximize.is) (greatest_box c.args.check.now.problem.now.kinds c.args.check.now.earlier.now.table c.args.sides.now c.args.values.now c.in-Maximize.o _ c.in_ok-yes-in-Maximize.ensures)
