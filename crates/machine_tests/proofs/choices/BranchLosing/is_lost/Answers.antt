use Rattle.std.proofs.Common.{◌≡◌, ℕ, ◌+◌, ◌==◌, ◌&&◌, refl, sym, subst}
use Rattle.std.specs.Prelude.{if◌then◌else◌}
use Rattle.std.proofs.lemmas.Bool.{eqb-true}
use Rattle.bit_machine.specs.Rules.{Rules}
use Rattle.choice_machine.specs.Choices.{IsLost}
use Rattle.choice_machine.proofs.Losses.{stuck_lost}
use Rattle.machine_tests.proofs.choices.BranchLosing.is_lost.Goals as goal

-- the rules of the branch at a place
abbrev branch : ℕ → Rules ℕ
branch place = record {
  start = 0;
  step = λ at q v. if q == 2 then 2 else (if q == 0 then (if at == place then (if v then 1 else 2) else (if v then 2 else 0)) else (if (at == 1000 + place) && v then 3 else q));
  accept = λ q. q == 3;
}

pub returns : goal.returns
returns c h =
    subst (λ q. IsLost (branch c.args.self.now.place) c.args._at q) (sym (eqb-true c.args.state 2 h)) (stuck_lost (branch c.args.self.now.place) 2 (λ at v. refl) refl c.args._at)
