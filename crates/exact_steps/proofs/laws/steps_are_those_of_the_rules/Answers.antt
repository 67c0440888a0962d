use Rattle.exact_steps.proofs.Constraints.{rule_extends, extends_rule, rule_violated, violated_rule, rule_narrowed, rule_satisfiable, rule_left, left_rule}
use Rattle.exact_steps.proofs.laws.steps_are_those_of_the_rules.Goals as goal

pub returns-clause-extends : goal.returns-clause-extends
returns-clause-extends g a condition c l scope t now r domains ok known is are k v x = (
  rule_extends (g.P.Rules.problem a.args.problem.now) c l scope (g.C.Condition.holds condition) t now r domains ok known is are k v x,
  extends_rule (g.P.Rules.problem a.args.problem.now) c l scope (g.C.Condition.holds condition) t now r domains ok known is are k v x,
)

pub returns-clause-violated : goal.returns-clause-violated
returns-clause-violated g a condition c l scope t now r domains ok known is are k = (
  rule_violated (g.P.Rules.problem a.args.problem.now) c l scope (g.C.Condition.holds condition) t now r domains ok known is are k,
  violated_rule (g.P.Rules.problem a.args.problem.now) c l scope (g.C.Condition.holds condition) t now r domains ok known is are k,
)

pub returns-clause-narrowed : goal.returns-clause-narrowed
returns-clause-narrowed g a condition c l scope t now new r s domains v ok known is are k =
    rule_narrowed (g.P.Rules.problem a.args.problem.now) c l scope (g.C.Condition.holds condition) t now r domains ok known is are k new v s

pub returns-clause-satisfiable : goal.returns-clause-satisfiable
returns-clause-satisfiable g a condition c l scope t now r domains ok known is are k =
    rule_satisfiable (g.P.Rules.problem a.args.problem.now) c l scope (g.C.Condition.holds condition) t now r domains ok known is are k

pub returns-clause-left : goal.returns-clause-left
returns-clause-left g a condition c l scope t now r domains ok known is are k = (
  rule_left (g.P.Rules.problem a.args.problem.now) c l scope (g.C.Condition.holds condition) t now r domains ok known is are k,
  left_rule (g.P.Rules.problem a.args.problem.now) c l scope (g.C.Condition.holds condition) t now r domains ok known is are k,
)
