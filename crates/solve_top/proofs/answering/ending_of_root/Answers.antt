use Rattle.solve_top.proofs.Searches.{root_ends}
use Rattle.solve_top.proofs.answering.ending_of_root.Goals as goal

pub tell_root-requires : goal.tell_root-requires
tell_root-requires g c = record { limits = c.problems_of_texts_keep_limits.ensures c.requires.problem }

pub returns-clause-ends : goal.returns-clause-ends
returns-clause-ends g c = root_ends _ c.args.p _ _ c.requires c.tell_root.ensures.ends
