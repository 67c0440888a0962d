use Rattle.std.proofs.Common.{◌≡◌, ◌++◌, take}
use Rattle.std.specs.List.{filter_map}
use Rattle.set_meaning.specs.Relations.{variable_of}
use Rattle.scope_words.proofs.variables.push_variables.Given as goal

abbrev pub invariant-loop-term : goal.invariant-loop-term
invariant-loop-term l = l.variables.items ≡ l.initial.variables.items ++ filter_map variable_of (take l.term-index l.terms)
