use Rattle.search_rules.proofs.WalkLemmas.{conflict_excludes, narrowing_excludes}
use Rattle.search_moves.proofs.Sets.{conflict_violates, reason_excludes}
use Rattle.search_moves.proofs.excluding.reasons_exclude_what_violates.Goals as goal

pub returns-clause-conflict : goal.returns-clause-conflict
returns-clause-conflict g c = conflict_violates (g.P.Rules.problem c.args.problem.now)

pub returns-clause-narrowing : goal.returns-clause-narrowing
returns-clause-narrowing g c constraint f v s a narrowed =
    narrowing_excludes (g.P.Rules.problem c.args.problem.now) constraint f v s narrowed a

pub returns-clause-conflicts : goal.returns-clause-conflicts
returns-clause-conflicts g c boxes f b a conflict = conflict_excludes conflict a

pub returns-clause-reasons : goal.returns-clause-reasons
returns-clause-reasons g c = reason_excludes (g.P.Rules.problem c.args.problem.now)
