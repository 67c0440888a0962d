use Rattle.plain_steps.specs.Sets.{IsTable, resolved}
use Rattle.plain_steps.proofs.table.resolvent.Given as goal

abbrev pub invariant-loop-u : goal.invariant-loop-u
invariant-loop-u l = IsTable (resolved l.a l.b l.variable) l.u l.sides.items
