use Rattle.std.proofs.Common.{◌∙◌, ap, length, sum_by, unsigned_abs, pos, arith, length-append}
use Rattle.std.proofs.lemmas.List.Sums.{sum_by_push}
use Rattle.linear_terms.proofs.sums.zeros.Goals as goal

pub loop-i-preserved : goal.loop-i-preserved
loop-i-preserved c =
    let sizes = sum_by_push unsigned_abs c.loop-i.zeros.items (pos 0) in
    let none = c.loop-i.invariant.none in
    let long = c.loop-i.invariant.long in
    let is = c.in_ok-push.ensures.items in
    record {
      none = ap (sum_by unsigned_abs) is ∙ omega (arith, sizes, none);
      long = ap length is ∙ length-append c.loop-i.zeros.items _ ∙ omega (arith, long);
    }
