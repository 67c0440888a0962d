use Rattle.std.proofs.Common.{pos, ◌+ℤ◌, get_or, FitsSigned, arith}
use Rattle.std.specs.Int.{w128}
use Rattle.std.proofs.lemmas.Int.{to_z-of_z, fits_signed_from_abs}
use Rattle.linear_terms.proofs.Adding.{abs_add, size_of_one, sum_of_set}
use Rattle.linear_terms.proofs.sums.add.Goals as goal

pub returns-clause-sums : goal.returns-clause-sums
returns-clause-sums c w =
    let xs = c.args.weights.now in
    let k = c.place_of-place.result in
    let x = get_or xs k (pos 0) in
    let room = c.requires.room in
    let one = size_of_one xs k in
    let both = abs_add x c.args.amount in
    let fits_amount : FitsSigned w128 c.args.amount = c.ranges.amount in
    let fits_x : FitsSigned w128 x = fits_signed_from_abs w128 x (omega arith) in
    let fits_sum : FitsSigned w128 (x +ℤ c.args.amount) = fits_signed_from_abs w128 (x +ℤ c.args.amount) (omega arith) in
    simp to_z-of_z (sum_of_set c.args.bits.now xs k c.args.bit c.args.amount w c.requires.long c.place_of-place.ensures.within c.place_of-place.ensures.here)
