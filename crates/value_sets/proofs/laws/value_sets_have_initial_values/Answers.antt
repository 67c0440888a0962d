use Rattle.std.proofs.Common.{sym}
use Rattle.std.proofs.Math.Path.{fun_ext}
use Rattle.exact_steps.specs.Domains.{values_in, is_initial}
use Rattle.exact_steps.proofs.Values.{same_truth}
use Rattle.value_sets.proofs.Deciding.{only_initial}
use Rattle.value_sets.proofs.laws.value_sets_have_initial_values.Goals as goal

pub returns-clause-set : goal.returns-clause-set
returns-clause-set g c condition l v t r ok known is = c.diagrams_of_variables_are_domains.ensures.own condition l v t r ok known is

pub returns-clause-initial : goal.returns-clause-initial
returns-clause-initial g c = only_initial

pub returns-clause-all : goal.returns-clause-all
returns-clause-all g c l t v r all = fun_ext (λ x. same_truth (values_in l t v r x) (is_initial l v x) (only_initial l t v r x) (all x))
