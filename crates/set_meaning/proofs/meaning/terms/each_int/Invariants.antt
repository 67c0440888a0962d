use Rattle.std.proofs.Common.{◌≡◌, ◌++◌, drop}
use Rattle.std.specs.Prelude.{option_map}
use Rattle.set_meaning.specs.Arguments.{int_of_term, each_of}
use Rattle.set_meaning.proofs.meaning.terms.each_int.Given as goal

abbrev pub invariant-loop-term : goal.invariant-loop-term
invariant-loop-term l = each_of (int_of_term l.values) l.terms ≡ option_map (λ xs. l.numbers.items ++ xs) (each_of (int_of_term l.values) (drop l.term-index l.terms))
