use Rattle.search_state.proofs.Stores.{speaks}
use Rattle.search_state.proofs.storing.stored_boxes_speak_of_variables.Goals as goal

pub returns : goal.returns
returns c = speaks
