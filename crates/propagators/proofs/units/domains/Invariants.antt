use Rattle.propagators.proofs.Holding.{DomainsSo}
use Rattle.propagators.proofs.units.domains.Given as goal

abbrev pub invariant-loop-v : goal.invariant-loop-v
invariant-loop-v l = DomainsSo l.layout l.p l.initial.ops l.ops l.start.items l.pins l.v
