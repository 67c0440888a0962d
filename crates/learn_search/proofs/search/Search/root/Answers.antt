use Rattle.learn_search.proofs.Spending.{root_itself}
use Rattle.learn_search.proofs.search.Search.root.Goals as goal

pub returns-then-is_some-clause-kept : goal.returns-then-is_some-clause-kept
returns-then-is_some-clause-kept g c = rw (← c.self.view_is) (root_itself c.self.inside.problem c.self.inside.ops c.pool.ensures.pinned_live c.pool.ensures.reduced).kept

pub returns-in-Ok-clause-kept : goal.returns-in-Ok-clause-kept
returns-in-Ok-clause-kept g c = rw (← c.self.view_is) c.in-Ok.ensures.left.kept

pub returns-in-Ok-clause-wanted : goal.returns-in-Ok-clause-wanted
returns-in-Ok-clause-wanted g c = rw (← c.self.view_is) c.in-Ok.ensures.left.wanted

pub returns-in-Err-clause-kept : goal.returns-in-Err-clause-kept
returns-in-Err-clause-kept g c = rw (← c.self.view_is) c.in-Err.ensures.left.kept

pub returns-in-Err-clause-wanted : goal.returns-in-Err-clause-wanted
returns-in-Err-clause-wanted g c = rw (← c.self.view_is) c.in-Err.ensures.left.wanted

pub returns-in-Err-clause-stopped : goal.returns-in-Err-clause-stopped
returns-in-Err-clause-stopped g c = rw (← c.self.view_is) (c.end_of-end.ensures.pins _ _ _ c.in-Err.ensures.stopped)
