use Rattle.scope_words.proofs.Words.{words_depend, words_once}
use Rattle.scope_words.proofs.laws.conditions_have_one_set.Goals as goal

pub returns-clause-depends : goal.returns-clause-depends
returns-clause-depends g c condition l scope set bits allowed ok are words all = words_depend l scope (g.C.Condition.holds condition) set bits allowed ok are words all

pub returns-clause-once : goal.returns-clause-once
returns-clause-once g c condition l scope first second w one other = words_once l scope (g.C.Condition.holds condition) first second one other w
