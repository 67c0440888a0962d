use Rattle.std.proofs.Common.{rules, ◌<◌, [], ◌∷◌, length, subst, FitsSigned, w64, arith}
use Rattle.std.proofs.lemmas.Int.{to_z-of_z}
use Rattle.sweep_sums.specs.SumTables.{Adds, times}
use Rattle.sweep_sums.proofs.SumTerms.{adds_none, adds_product, adds_products, room_for_product}
use Rattle.sweep_sums.proofs.sums.adding.PartialSum.add_products.Goals as goal

pub loop-i-init : goal.loop-i-init
loop-i-init c = adds_none c.args.self.now

pub add-requires-clause-room : goal.add-requires-clause-room
add-requires-clause-room c =
    let within : c.loop-i.i < length c.args.terms.now = omega arith in
    room_for_product c.args.coefficients.now c.args.terms.now c.loop-i.i c.args.self.now c.loop-i.self within c.requires.room c.loop-i.invariant

pub loop-i-preserved : goal.loop-i-preserved
loop-i-preserved c =
    let fits : FitsSigned w64 c.constant_of.result = search rules in
    let within : c.loop-i.i < length c.args.terms.now = omega arith in
    let here : Adds (times c.constant_of.result c.index-terms-i.result ∷ []) c.loop-i.self c.add.new.self = simp to_z-of_z at c.in_ok-add.ensures in
    let step = subst (λ k. Adds (times k c.index-terms-i.result ∷ []) c.loop-i.self c.add.new.self) c.constant_of.ensures.value here in
    adds_product c.args.coefficients.now c.args.terms.now c.loop-i.i c.index-coefficients-i.result c.index-terms-i.result c.args.self.now c.loop-i.self c.add.new.self c.requires.paired within
    c.index-coefficients-i.is c.index-terms-i.is c.loop-i.invariant step

pub returns : goal.returns
returns c = adds_products c.args.coefficients.now c.args.terms.now c.loop-i.i c.args.self.now c.loop-i.self c.requires.paired c.loop-i-test.false c.loop-i.invariant
