use Rattle.std.proofs.Common.{◌≡◌, ◌≤◌, length, arith, rules}
use Rattle.std.proofs.lemmas.Int.{to_z-of_z}
use Rattle.std.specs.Prelude.{FitsSigned}
use mir.Syntax.{w64}
use Rattle.bit_layout.specs.Words.{span, bit_width}
use Rattle.bit_layout.proofs.Numbers.{narrow_width}
use Rattle.bit_layout.proofs.Elements.{ends_in_order}
use Rattle.bit_layout.proofs.KindWords.{no_number_above, number_at, no_number_at}
use Rattle.bit_layout.proofs.words.int_of.Goals as goal

pub number_of-requires : goal.number_of-requires
number_of-requires c =
    let narrow : bit_width (span c.args.numbers.now) ≤ 16 = narrow_width (span c.args.numbers.now) c.requires.narrow in
    let long : length c.args.word.now ≡ bit_width (span c.args.numbers.now) = c.requires.long in
    omega (arith, narrow, long)

pub above-requires-clause-up : goal.above-requires-clause-up
above-requires-clause-up c =
    let low : FitsSigned w64 c.least.result = search rules in
    let high : FitsSigned w64 c.greatest.result = search rules in
    simp to_z-of_z (rw (c.least.ensures, c.greatest.ensures) (ends_in_order c.elements-elements.result.now c.elements-elements.ensures.ascending))

pub returns-in-None-clause-none : goal.returns-in-None-clause-none
returns-in-None-clause-none c =
    let low : FitsSigned w64 c.least.result = search rules in
    let high : FitsSigned w64 c.greatest.result = search rules in
    let far = simp to_z-of_z at c.in-None.ensures.none in
    no_number_above c.args.numbers.now c.elements-elements.result.now c.args.word.now c.number_of.result c.least.result c.greatest.result c.elements-elements.ensures.same c.elements-elements.ensures.ascending
    c.requires.long c.number_of.ensures.digits c.number_of.ensures.below c.least.ensures c.greatest.ensures far

pub returns-in-Some-clause-some : goal.returns-in-Some-clause-some
returns-in-Some-clause-some c =
    let low : FitsSigned w64 c.least.result = search rules in
    let fits : FitsSigned w64 c.in-Some.x = search rules in
    let at = simp to_z-of_z at c.in-Some.ensures.some in
    let has = simp to_z-of_z at c.has.ensures in
    number_at c.args.numbers.now c.elements-elements.result.now c.args.word.now c.number_of.result c.least.result c.in-Some.x _ c.has.result c.int_if.result c.elements-elements.ensures.same
    c.elements-elements.ensures.ascending c.requires.long c.number_of.ensures.digits c.least.ensures at (to_z-of_z w64 c.in-Some.x fits) has c.int_if.ensures.some

pub returns-in-Some-clause-none : goal.returns-in-Some-clause-none
returns-in-Some-clause-none c =
    let low : FitsSigned w64 c.least.result = search rules in
    let fits : FitsSigned w64 c.in-Some.x = search rules in
    let at = simp to_z-of_z at c.in-Some.ensures.some in
    let has = simp to_z-of_z at c.has.ensures in
    no_number_at c.args.numbers.now c.elements-elements.result.now c.args.word.now c.number_of.result c.least.result c.in-Some.x c.has.result c.int_if.result c.elements-elements.ensures.same
    c.elements-elements.ensures.ascending c.requires.long c.number_of.ensures.digits c.number_of.ensures.below c.least.ensures at has c.int_if.ensures.none
