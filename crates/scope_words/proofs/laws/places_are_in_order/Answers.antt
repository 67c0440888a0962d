use Rattle.scope_words.proofs.PlaceLists.{places_ascend}
use Rattle.scope_words.proofs.laws.places_are_in_order.Goals as goal

pub returns : goal.returns
returns c = places_ascend
