use Rattle.search_rules.proofs.BoxLemmas.{resolvent_lies}
use Rattle.search_rules.proofs.boxes.resolvent_lies_in_its_boxes.Goals as goal

pub returns : goal.returns
returns g c = resolvent_lies
