use Rattle.std.proofs.Common.{rules, ◌≡◌, ◌<◌, true, false, pos, length, get_or, refl, sym, ◌∙◌, FitsSigned, arith}
use Rattle.std.specs.Int.{w128}
use Rattle.std.proofs.lemmas.Int.{to_z-of_z}
use Rattle.sweep_sums.specs.Reaching.{IsWanted}
use Rattle.sweep_sums.proofs.Reached.{none_more, none_of_all}
use Rattle.sweep_sums.proofs.reaching.some_wanted.Goals as goal

pub loop-total-preserved : goal.loop-total-preserved
loop-total-preserved c =
    let totals = c.args.totals.now in
    let i = c.loop-total.total-index in
    let fits : FitsSigned w128 (get_or totals i (pos 0)) = search rules in
    let told = simp to_z-of_z at c.is_wanted.ensures in
    none_more (IsWanted c.args.sum.now c.args.truth) totals i (pos 0) c.loop-total-test.true
    (λ h. let yes = told.1 h in let clash : false ≡ true = sym c.if-is_wanted.false ∙ yes in absurd (cc)) c.loop-total.invariant

pub returns : goal.returns
returns c = (
  λ yes. let clash : false ≡ true = yes in absurd (cc),
  λ some. absurd (none_of_all (IsWanted c.args.sum.now c.args.truth) c.args.totals.now c.loop-total.total-index c.loop-total-test.false c.loop-total.invariant some),
)
