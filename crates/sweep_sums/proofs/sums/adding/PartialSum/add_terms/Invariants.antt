use Rattle.std.proofs.Common.{map, take}
use Rattle.sweep_sums.specs.SumTables.{Adds, times}
use Rattle.sweep_sums.proofs.sums.adding.PartialSum.add_terms.Given as goal

abbrev pub invariant-loop-term : goal.invariant-loop-term
invariant-loop-term l = Adds (map (times l.coefficient) (take l.term-index l.terms)) l.fn.self l.self
