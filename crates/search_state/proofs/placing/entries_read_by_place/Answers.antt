use Rattle.search_state.proofs.Places.{read_next, read_split}
use Rattle.search_state.proofs.placing.entries_read_by_place.Goals as goal

pub returns-clause-next : goal.returns-clause-next
returns-clause-next c = read_next

pub returns-clause-split : goal.returns-clause-split
returns-clause-split c = read_split
