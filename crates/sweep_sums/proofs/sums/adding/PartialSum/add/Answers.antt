use Rattle.std.proofs.Common.{rules, ◌≡◌, ◌+ℤ◌, ◌*ℤ◌, FitsSigned, w64, ap, ◌∙◌, arith}
use Rattle.std.specs.Int.{w128}
use Rattle.std.proofs.lemmas.Int.{to_z-of_z, fits_signed_from_abs}
use Rattle.sweep_sums.proofs.SumTerms.{abs_add, adds_constant}
use Rattle.sweep_sums.proofs.sums.adding.PartialSum.add.Goals as goal

pub returns-in-Const : goal.returns-in-Const
returns-in-Const c =
    let fits_c : FitsSigned w64 c.args.coefficient = c.ranges.coefficient in
    let fits_n : FitsSigned w64 c.number_of.result = search rules in
    let fits_a : FitsSigned w128 c.args.self.now.constant = search rules in
    let fits_p : FitsSigned w128 c.product.result = search rules in
    let value : c.product.result ≡ (c.args.coefficient *ℤ c.number_of.result) = simp to_z-of_z at c.product.ensures.value in
    let size = c.product.ensures.size in
    let room = c.requires.room in
    let most = abs_add c.args.self.now.constant c.product.result in
    let fits_sum : FitsSigned w128 (c.args.self.now.constant +ℤ c.product.result) = fits_signed_from_abs w128 (c.args.self.now.constant +ℤ c.product.result) (omega (arith, most, room, size)) in
    simp to_z-of_z (adds_constant c.args.coefficient c.args.term.now c.in-Const.value c.args.self.now c.product.result c.in-Const.is (value ∙ ap (λ x. c.args.coefficient *ℤ x) c.number_of.ensures.value) size)
