use Rattle.std.proofs.Common.{take}
use Rattle.sweep_sums.specs.SumTables.{Adds, products}
use Rattle.sweep_sums.proofs.sums.adding.PartialSum.add_products.Given as goal

abbrev pub invariant-loop-i : goal.invariant-loop-i
invariant-loop-i l = Adds (products (take l.i l.coefficients) (take l.i l.terms)) l.fn.self l.self
