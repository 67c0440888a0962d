use Rattle.std.proofs.Common.{rules, ◌≡◌, ◌<◌, ◌≤◌, ◌+◌, ◌*◌, ◌^◌, ◌++◌, ℤ, pos, ◌+ℤ◌, ◌*ℤ◌, unsigned_abs, List, length, get_or, refl, FitsSigned, w64, arith}
use Rattle.std.specs.Int.{w128}
use Rattle.std.proofs.lemmas.Int.{to_z-of_z}
use Rattle.sweep_sums.specs.Reaching.{reached_from}
use Rattle.sweep_sums.proofs.Reached.{pushed_more, pushed_all, pushed_within}
use Rattle.sweep_sums.proofs.reaching.push_all.Goals as goal

pub loop-x-preserved : goal.loop-x-preserved
loop-x-preserved c =
    let xs = c.args.numbers.now in
    let i = c.loop-x.x-index in
    let within : i < length xs = omega arith in
    let fits_w : FitsSigned w64 c.args.weight = c.ranges.weight in
    let fits_s : FitsSigned w128 c.args.sum = c.ranges.sum in
    let fits_x : FitsSigned w64 (get_or xs i (pos 0)) = search rules in
    let fits_t : FitsSigned w128 c.plus_product-total.result = search rules in
    let value : c.plus_product-total.result ≡ c.args.sum +ℤ (c.args.weight *ℤ get_or xs i (pos 0)) = simp to_z-of_z at c.plus_product-total.ensures.value in
    let small : unsigned_abs c.plus_product-total.result ≤ 2 ^ 100 + (c.args.at + 1) * 2 ^ 115 = c.plus_product-total.ensures.within in
    let pushed = simp to_z-of_z at c.in_ok-push.ensures.items in
    let before = simp to_z-of_z at c.loop-x.invariant.pushed in
    simp to_z-of_z (record {
      pushed = pushed_more c.args.weight xs i (get_or xs i (pos 0)) (pos 0) c.args.sum c.plus_product-total.result (c.args.next.now.items ++ reached_from c.args.weight xs c.args.sum) c.loop-x.next.items
          c.push.new.self.items within refl value pushed before;
      within = pushed_within (c.args.at + 1) c.loop-x.next.items c.push.new.self.items c.plus_product-total.result pushed small c.loop-x.invariant.within;
    })

pub returns-clause-pushed : goal.returns-clause-pushed
returns-clause-pushed c =
    let fits_w : FitsSigned w64 c.args.weight = c.ranges.weight in
    let fits_s : FitsSigned w128 c.args.sum = c.ranges.sum in
    pushed_all c.args.weight c.args.numbers.now c.loop-x.x-index c.args.sum (c.args.next.now.items ++ reached_from c.args.weight c.args.numbers.now c.args.sum) c.loop-x.next.items c.loop-x-test.false
    (simp to_z-of_z at c.loop-x.invariant.pushed)
