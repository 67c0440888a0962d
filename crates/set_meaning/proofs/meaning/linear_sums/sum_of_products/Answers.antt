use Rattle.std.proofs.Common.{◌≡◌, suc, length, FitsSigned, w64, rules, ◌+ℤ◌, ◌*ℤ◌, ap, arith}
use Rattle.std.specs.Int.{w128}
use Rattle.std.proofs.lemmas.Int.{to_z-of_z, ints}
use Rattle.set_meaning.specs.Sums.{total_of}
use Rattle.set_meaning.proofs.Products.{sum_goes_on}
use Rattle.set_meaning.proofs.meaning.linear_sums.sum_of_products.Goals as goal

pub loop-c-preserved : goal.loop-c-preserved
loop-c-preserved c =
    let fits_c : FitsSigned w64 c.in-Some.c.now = search rules in
    let fits_x : FitsSigned w64 c.in-Some.x.now = search rules in
    let is : c.product.result ≡ (c.in-Some.c.now *ℤ c.in-Some.x.now) = simp to_z-of_z at c.product.ensures.product in
    let fits : FitsSigned w128 c.product.result = search rules in
    let more : total_of c.plus-sum.result.turns c.plus-sum.result.rest ≡ (total_of c.loop-c.sum.turns c.loop-c.sum.rest +ℤ c.product.result) = simp to_z-of_z at c.plus-sum.ensures.total in
    let first : length c.loop-c.c-iterator.a.rest.now ≡ suc (length c.next.new.self.a.rest.now) = ap length c.in-Some.ensures.steps.0 in
    let second : length c.loop-c.c-iterator.b.rest.now ≡ suc (length c.next.new.self.b.rest.now) = ap length c.in-Some.ensures.steps.1 in
    let before = c.loop-c.invariant in
    let same : length c.loop-c.c-iterator.a.rest.now ≡ length c.loop-c.c-iterator.b.rest.now = before.same in
    record {
      same = omega arith;
      sum = sum_goes_on _ _ _ _ _ _ _ _ _ _ c.in-Some.ensures.steps.0 c.in-Some.ensures.steps.1 is more before.sum;
      down = omega (arith, ints, before.down, c.plus-sum.ensures.down);
      up = omega (arith, ints, before.up, c.plus-sum.ensures.up);
    }
