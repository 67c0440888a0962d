use Rattle.exact_steps.proofs.Constraints.{extends_to, extends_from, violated_to, violated_from, step_to, news_to}
use Rattle.exact_steps.proofs.laws.steps_of_a_condition.Goals as goal

pub returns-clause-extends : goal.returns-clause-extends
returns-clause-extends g c condition l scope t r f ok known is v x = (extends_to l scope (g.C.Condition.holds condition) t r ok known is f v x, extends_from l scope (g.C.Condition.holds condition) t r ok known is f v x)

pub returns-clause-violated : goal.returns-clause-violated
returns-clause-violated g c condition l scope t r f ok known is = (violated_to l scope (g.C.Condition.holds condition) t r ok known is f, violated_from l scope (g.C.Condition.holds condition) t r ok known is f)

pub returns-clause-step : goal.returns-clause-step
returns-clause-step g c condition l scope t new r f result ok known is = step_to l scope (g.C.Condition.holds condition) t r ok known is f new result

pub returns-clause-parts : goal.returns-clause-parts
returns-clause-parts g c condition l scope t new r f ok known is = news_to l scope (g.C.Condition.holds condition) t r ok known is f t new
