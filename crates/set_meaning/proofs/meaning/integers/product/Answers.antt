use Rattle.std.proofs.Common.{◌≡◌, FitsSigned, w64, rules, ◌*ℤ◌}
use Rattle.std.specs.Int.{w128}
use Rattle.std.proofs.lemmas.Int.{to_z-of_z}
use Rattle.set_meaning.proofs.Products.{product_within, product_fits}
use Rattle.set_meaning.proofs.meaning.integers.product.Goals as goal

pub returns-clause-low : goal.returns-clause-low
returns-clause-low c =
    let fits_a : FitsSigned w64 c.args.a = c.ranges.a in
    let fits_b : FitsSigned w64 c.args.b = c.ranges.b in
    let first : c.from.result ≡ c.args.a = simp to_z-of_z at c.from.ensures in
    let second : c.from-2.result ≡ c.args.b = simp to_z-of_z at c.from-2.ensures in
    let fits_first : FitsSigned w128 c.from.result = search rules in
    let fits_second : FitsSigned w128 c.from-2.result = search rules in
    let fits : FitsSigned w128 (c.from.result *ℤ c.from-2.result) = product_fits c.args.a c.args.b c.from.result c.from-2.result fits_a fits_b first second in
    simp to_z-of_z (product_within c.args.a c.args.b c.from.result c.from-2.result fits_a fits_b first second).low

pub returns-clause-high : goal.returns-clause-high
returns-clause-high c =
    let fits_a : FitsSigned w64 c.args.a = c.ranges.a in
    let fits_b : FitsSigned w64 c.args.b = c.ranges.b in
    let first : c.from.result ≡ c.args.a = simp to_z-of_z at c.from.ensures in
    let second : c.from-2.result ≡ c.args.b = simp to_z-of_z at c.from-2.ensures in
    let fits_first : FitsSigned w128 c.from.result = search rules in
    let fits_second : FitsSigned w128 c.from-2.result = search rules in
    let fits : FitsSigned w128 (c.from.result *ℤ c.from-2.result) = product_fits c.args.a c.args.b c.from.result c.from-2.result fits_a fits_b first second in
    simp to_z-of_z (product_within c.args.a c.args.b c.from.result c.from-2.result fits_a fits_b first second).high
