use Rattle.std.proofs.Common.{◌≡◌, false, sym, subst}
use Rattle.sweep_rules.specs.Rules.{run}
use Rattle.sweep_values.specs.Domains.{domain_rules, is_every}
use Rattle.sweep_values.proofs.Reading.{nothing_lost}
use Rattle.sweep_values.proofs.domain.DomainShape.is_lost.Goals as goal

pub returns-in-Nothing : goal.returns-in-Nothing
returns-in-Nothing c = λ lost at rest.
    let s = c.args.self.now in
    subst (λ q. is_every (run (domain_rules s.offsets.items s.width s.free) at q rest) ≡ false) (sym c.in-Nothing.is) (nothing_lost s.offsets.items s.width s.free at rest)
