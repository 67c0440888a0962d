use Rattle.search_rules.proofs.BoxLemmas.{box_step_is}
use Rattle.search_rules.proofs.boxes.box_step_is_the_step_outside.Goals as goal

pub returns : goal.returns
returns g c = box_step_is
