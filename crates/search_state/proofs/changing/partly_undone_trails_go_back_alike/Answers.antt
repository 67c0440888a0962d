use Rattle.search_state.proofs.Ways.{undone_further}
use Rattle.search_state.proofs.changing.partly_undone_trails_go_back_alike.Goals as goal

pub returns-clause-itself : goal.returns-clause-itself
returns-clause-itself c s k new below undone = undone

pub returns-clause-further : goal.returns-clause-further
returns-clause-further c = undone_further
