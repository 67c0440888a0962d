use Rattle.search_state.proofs.Changes.{boxes_added, entries_among_more}
use Rattle.search_state.proofs.Legal.{readable_with}
use Rattle.search_state.proofs.changing.added_boxes_read_as_stored.Goals as goal

pub returns-clause-boxes : goal.returns-clause-boxes
returns-clause-boxes c = boxes_added

pub returns-clause-entries : goal.returns-clause-entries
returns-clause-entries c l t stored added s are = entries_among_more l t stored added s.entries are.entries

pub returns-clause-readable : goal.returns-clause-readable
returns-clause-readable c = readable_with
