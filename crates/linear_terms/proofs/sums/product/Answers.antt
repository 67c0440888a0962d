use Rattle.std.proofs.Common.{rules, ◌≡◌, ◌*ℤ◌, ◌∙◌, ap, unsigned_abs, FitsSigned, w64}
use Rattle.std.specs.Int.{w128}
use Rattle.std.proofs.lemmas.Int.{to_z-of_z, unsigned_abs-mul}
use Rattle.set_meaning.proofs.Products.{product_fits}
use Rattle.linear_terms.proofs.sums.product.Goals as goal

pub returns-clause-size : goal.returns-clause-size
returns-clause-size c =
    let fits_a : FitsSigned w64 c.args.a = c.ranges.a in
    let fits_b : FitsSigned w64 c.args.b = c.ranges.b in
    let first : c.from.result ≡ c.args.a = simp to_z-of_z at c.from.ensures in
    let second : c.from-2.result ≡ c.args.b = simp to_z-of_z at c.from-2.ensures in
    let fits_first : FitsSigned w128 c.from.result = search rules in
    let fits_second : FitsSigned w128 c.from-2.result = search rules in
    let fits : FitsSigned w128 (c.from.result *ℤ c.from-2.result) = product_fits c.args.a c.args.b c.from.result c.from-2.result fits_a fits_b first second in
    simp to_z-of_z (ap (λ x. unsigned_abs (x *ℤ c.from-2.result)) first ∙ ap (λ x. unsigned_abs (c.args.a *ℤ x)) second ∙ unsigned_abs-mul c.args.a c.args.b)

pub returns-clause-value : goal.returns-clause-value
returns-clause-value c =
    let fits_a : FitsSigned w64 c.args.a = c.ranges.a in
    let fits_b : FitsSigned w64 c.args.b = c.ranges.b in
    let first : c.from.result ≡ c.args.a = simp to_z-of_z at c.from.ensures in
    let second : c.from-2.result ≡ c.args.b = simp to_z-of_z at c.from-2.ensures in
    let fits_first : FitsSigned w128 c.from.result = search rules in
    let fits_second : FitsSigned w128 c.from-2.result = search rules in
    let fits : FitsSigned w128 (c.from.result *ℤ c.from-2.result) = product_fits c.args.a c.args.b c.from.result c.from-2.result fits_a fits_b first second in
    simp to_z-of_z (ap (λ x. x *ℤ c.from-2.result) first ∙ ap (λ x. c.args.a *ℤ x) second)
