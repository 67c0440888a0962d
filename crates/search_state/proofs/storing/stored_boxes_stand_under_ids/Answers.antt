use Rattle.search_state.specs.Readings.{boxes_of}
use Rattle.search_state.proofs.Stores.{under_stored, stored_under, learned_stored}
use Rattle.search_state.proofs.storing.stored_boxes_stand_under_ids.Goals as goal

pub returns-clause-stored : goal.returns-clause-stored
returns-clause-stored c = under_stored

pub returns-clause-each : goal.returns-clause-each
returns-clause-each c = stored_under

pub returns-clause-learned : goal.returns-clause-learned
returns-clause-learned c l t stored b h = learned_stored (boxes_of l t stored) b h
