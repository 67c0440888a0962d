use Rattle.std.proofs.Common.{◌≡◌, ◌≤◌, ap, arith, rules}
use Rattle.std.proofs.lemmas.Int.{to_z-of_z}
use Rattle.std.specs.Prelude.{FitsSigned}
use mir.Syntax.{w64}
use Rattle.set_meaning.specs.Sets.{Has}
use Rattle.bit_layout.specs.Words.{span, bit_width, least, distance}
use Rattle.bit_layout.proofs.Numbers.{narrow_width}
use Rattle.bit_layout.proofs.Elements.{least_is_least, offset_within}
use Rattle.bit_layout.proofs.words.int_word.Goals as goal

pub distance-requires-clause-up : goal.distance-requires-clause-up
unfolding Has
distance-requires-clause-up c =
    let low : FitsSigned w64 c.least.result = search rules in
    let fits : FitsSigned w64 c.args.x = c.ranges.x in
    simp to_z-of_z (rw c.least.ensures (least_is_least c.args.numbers.now c.args.x c.requires.ascending c.requires.in_kind))

pub distance-requires-clause-near : goal.distance-requires-clause-near
unfolding Has
distance-requires-clause-near c =
    let low : FitsSigned w64 c.least.result = search rules in
    let fits : FitsSigned w64 c.args.x = c.ranges.x in
    let within : distance (least c.args.numbers.now) c.args.x ≤ span c.args.numbers.now = offset_within c.args.numbers.now c.args.x c.requires.ascending c.requires.in_kind in
    let narrow : span c.args.numbers.now ≤ 65535 = c.requires.narrow in
    simp to_z-of_z (rw c.least.ensures (omega (arith, within, narrow)))

pub binary-requires : goal.binary-requires
binary-requires c =
    let narrow : bit_width (span c.args.numbers.now) ≤ 16 = narrow_width (span c.args.numbers.now) c.requires.narrow in
    let same : bit_width c.span.result ≡ bit_width (span c.args.numbers.now) = ap bit_width c.span.ensures in
    omega (arith, narrow, same, c.bit_width.ensures)
