use Rattle.std.proofs.Common.{◌≡◌, take}
use Rattle.std.specs.List.{filter_map, flat_map}
use Rattle.set_meaning.specs.Relations.{variable_of, terms_of}
use Rattle.scope_words.proofs.variables.variables_in.Given as goal

abbrev pub invariant-loop-arg : goal.invariant-loop-arg
invariant-loop-arg l = l.variables.items ≡ filter_map variable_of (flat_map terms_of (take l.arg-index l.args))
