use Rattle.propagators.proofs.Holding.{ConstraintsSo}
use Rattle.propagators.proofs.units.constraints.Given as goal

abbrev pub invariant-loop-c : goal.invariant-loop-c
invariant-loop-c l = ConstraintsSo l.layout l.p l.initial.ops l.ops l.start l.pins l.scopes.items l.diagrams.items l.c-index
