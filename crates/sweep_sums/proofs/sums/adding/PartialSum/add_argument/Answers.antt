use Rattle.std.proofs.Common.{OnOk, map, subst, FitsSigned, w64}
use Rattle.std.proofs.lemmas.Int.{to_z-of_z}
use Rattle.sweep_sums.specs.SumTables.{Adds, times}
use Rattle.sweep_sums.proofs.sums.adding.PartialSum.add_argument.Goals as goal

pub returns : goal.returns
returns c =
    let fits : FitsSigned w64 c.args.coefficient = c.ranges.coefficient in
    subst (λ ts. OnOk c.add_terms.result (Adds (map (times c.args.coefficient) ts) c.args.self.now c.add_terms.new.self)) c.terms.ensures (simp to_z-of_z at c.add_terms.ensures)
