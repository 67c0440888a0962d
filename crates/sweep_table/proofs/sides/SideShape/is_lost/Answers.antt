use Rattle.std.proofs.Common.{◌≡◌, ◌==◌, false, sym, subst, eqb-true}
use Rattle.sweep_rules.specs.Rules.{run}
use Rattle.sweep_table.specs.Sides.{side_rules}
use Rattle.sweep_table.proofs.Walking.{none_lost}
use Rattle.sweep_table.proofs.sides.SideShape.is_lost.Goals as goal

pub returns : goal.returns
returns c = λ yes at rest.
    let s = c.args.self.now in
    subst (λ n. (run (side_rules s.table.now s.root s.places.items) at n rest == 1) ≡ false) (sym (eqb-true c.args.state 0 yes)) (none_lost s.table.now s.root s.places.items at rest)
