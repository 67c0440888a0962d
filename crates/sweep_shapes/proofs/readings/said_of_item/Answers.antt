use Rattle.std.proofs.Common.{rules, ℤ, FitsSigned, w64, subst}
use Rattle.std.proofs.lemmas.Int.{to_z-of_z}
use Rattle.sweep_shapes.specs.Readings.{IsItemAt, IsNoPlace}
use Rattle.sweep_shapes.proofs.ReadElements.{read_item, item_missing}
use Rattle.sweep_shapes.proofs.readings.said_of_item.Goals as goal

pub returns-in_ok-read-in-Some-item_at : goal.returns-in_ok-read-in-Some-item_at
returns-in_ok-read-in-Some-item_at c =
    let fits : FitsSigned w64 c.in-Some.place = search rules in
    let at = subst (λ (p : ℤ). IsItemAt c.in-Some.items.now p c.in-Some-item_at.item.now) (to_z-of_z w64 c.in-Some.place fits) c.in-Some-item_at.ensures in
    read_item c.args.kinds.now c.args.c.now c.in_ok-read-in-Some-item_at.read c.args.variables.now c.args.equality c.in-Some.place c.in-Some.items.now c.in-Some-item_at.item.now c.in-Some.x.now
    c.requires.relation c.requires.fits c.requires.scope c.requires.asks c.in-Some.ensures at c.in_ok-read-in-Some-item_at.ensures

pub returns-in-None-item_at : goal.returns-in-None-item_at
returns-in-None-item_at c =
    let fits : FitsSigned w64 c.in-Some.place = search rules in
    let missing = subst (λ (p : ℤ). IsNoPlace c.in-Some.items.now p) (to_z-of_z w64 c.in-Some.place fits) c.in-None-item_at.ensures in
    item_missing c.args.kinds.now c.args.c.now c.args.equality c.in-Some.place c.in-Some.items.now c.in-Some.x.now c.requires.relation c.requires.asks c.in-Some.ensures missing
