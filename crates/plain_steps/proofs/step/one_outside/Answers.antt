use Rattle.std.proofs.Common.{◌≡◌, ℕ, true, false, not, [], List, get_or, subst}
use Rattle.std.specs.List.{filter}
use Rattle.search_rules.specs.Family.{Meets}
use Rattle.plain_steps.specs.Sets.{has}
use Rattle.plain_steps.proofs.StepLemmas.{one_apart, box_narrows}
use Rattle.plain_steps.proofs.step.one_outside.Goals as goal

pub returns-then-not-meets : goal.returns-then-not-meets
returns-then-not-meets c =
    one_apart c.args.family.now c.args.sides.now c.args.one c.requires.same c.requires.known c.requires.outside
    (subst (λ (side : List ℕ). (x : ℕ) → has (get_or c.args.family.now c.args.one []) x ≡ true → has side x ≡ false) c.set_of-2.ensures
    (subst (λ (set : List ℕ). (x : ℕ) → has set x ≡ true → has c.set_of-2.result.now x ≡ false) c.set_of.ensures c.if-not-meets.ensures))

pub returns : goal.returns
returns c =
    box_narrows c.args.family.now c.args.sides.now c.args.one c.in_ok-without.field-0 c.requires.same c.requires.known c.requires.outside
    (subst (λ (side : List ℕ). Meets (has (get_or c.args.family.now c.args.one [])) (has side)) c.set_of-2.ensures
    (subst (λ (set : List ℕ). Meets (has set) (has c.set_of-2.result.now)) c.set_of.ensures c.if-not-meets.ensures))
    c.requires.others
    (subst (λ (side : List ℕ). c.in_ok-without.field-0 ≡ filter (λ x. not (has side x)) (get_or c.args.family.now c.args.one [])) c.set_of-4.ensures
    (subst (λ (set : List ℕ). c.in_ok-without.field-0 ≡ filter (λ x. not (has c.set_of-4.result.now x)) set) c.set_of-3.ensures
    c.in_ok-without.ensures))
