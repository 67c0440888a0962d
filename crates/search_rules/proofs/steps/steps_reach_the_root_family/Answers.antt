use Rattle.std.proofs.Common.{inl}
use Rattle.search_rules.proofs.StepLemmas.{steps_reach_root, steps_keep}
use Rattle.search_rules.proofs.steps.steps_reach_the_root_family.Goals as goal

pub returns-clause-root : goal.returns-clause-root
returns-clause-root g c = steps_reach_root (g.P.Rules.problem c.args.problem.now)

pub returns-clause-refuted : goal.returns-clause-refuted
returns-clause-refuted g c cs f steps v known none =
    inl (v, known, λ x root. none x (steps_keep root.family steps root.initial root.left v x root.has))
