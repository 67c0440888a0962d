-- A problem over sets, integers and Booleans as a problem of search_rules. This project's own.
use Rattle.std.specs.Prelude.{length}
use Rattle.set_meaning.specs.declared.kinds.Value.{Value}
use Rattle.set_meaning.specs.declared.problems.Problem.{Problem}
use Rattle.set_meaning.specs.Solutions.{Covers}
use Rattle.search_rules.specs.Problem as rules
use Rattle.problem_rules.specs.Branching.{IsDecision}
use Rattle.problem_rules.specs.Parts.{initial_set, values_at, values_of, is_scoped, HoldsAt}
use Rattle.problem_rules.specs.Posing.{initial_listed, scoped_known, holds_reads}

-- The variables in file order with their initial values, the constraints in file order, the branching rule, and whether an answer
-- covers a solution by the goal. Three fields are facts, with their proofs: the initial values are listed, a constraint speaks of
-- variables of the problem, and whether it holds depends on these alone.
abbrev pub problem_of : Problem → rules.Problem Value
problem_of p = record {
  variables = length p.kinds;
  initial = initial_set p.kinds;
  values = values_at p.kinds;
  listed = initial_listed p.kinds;
  constraints = length p.constraints;
  scope = is_scoped p;
  scoped = scoped_known p;
  holds = HoldsAt p;
  reads = holds_reads p;
  decides = IsDecision p.kinds;
  covers = λ answer solution. Covers p (values_of p answer) (values_of p solution);
}
