use Rattle.std.proofs.Common.{◌≡◌, ◌≤◌, length, ap, arith}
use Rattle.std.proofs.lemmas.Bool.Decides.{nat_tests}
use Rattle.scope_words.proofs.Bits.{bits_once}
use Rattle.scope_words.proofs.variables.have_few_bits.Goals as goal

pub returns : goal.returns
returns c = (
  (λ few others theirs.
      let own : length c.in_ok-bits.bits.items ≤ 2048 = let long = c.len.ensures in grind (arith, nat_tests, few, long) in
      let same : length c.in_ok-bits.bits.items ≡ length others
      = ap length (bits_once c.args.layout.now c.args.variables.now c.in_ok-bits.bits.items others c.in_ok-bits.ensures theirs) in
      omega (arith, own, same)),
  (λ few.
      let own = few c.in_ok-bits.bits.items c.in_ok-bits.ensures in
      let long = c.len.ensures in
      grind (arith, nat_tests, own, long)),
)
