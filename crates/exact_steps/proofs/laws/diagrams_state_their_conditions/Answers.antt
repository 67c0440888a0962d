use Rattle.exact_steps.proofs.Constraints.{stated_diagram}
use Rattle.exact_steps.proofs.laws.diagrams_state_their_conditions.Goals as goal

pub returns : goal.returns
returns g c condition l scope t r ok known is = stated_diagram l scope (g.C.Condition.holds condition) t r ok known is
