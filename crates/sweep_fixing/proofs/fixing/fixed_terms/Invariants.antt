use Rattle.std.proofs.Common.{◌≡◌, ◌++◌, map, drop}
use Rattle.sweep_fixing.specs.Fixing.{fixed_term}
use Rattle.sweep_fixing.proofs.fixing.fixed_terms.Given as goal

abbrev pub invariant-loop-term : goal.invariant-loop-term
invariant-loop-term l = l.new.items ++ map (fixed_term l.v l.x) (drop l.term-index l.terms) ≡ map (fixed_term l.v l.x) l.terms
