use Rattle.sweep_scopes.proofs.Own.{places_counted, own_word, same_words}
use Rattle.sweep_scopes.proofs.laws.set_places_have_words.Goals as goal

pub returns : goal.returns
returns c = record { counted = places_counted; word = own_word; same = same_words }
