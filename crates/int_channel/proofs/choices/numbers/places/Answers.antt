use Rattle.std.proofs.Common.{ℤ, pos, get_or, rules, to_z, of_z, FitsSigned, w64}
use Rattle.std.proofs.lemmas.Int.{to_z-of_z}
use Rattle.int_channel.specs.Choices.{IsPlace}
use Rattle.int_channel.proofs.ChoiceLoops.{kept_more, all_kept}
use Rattle.int_channel.proofs.choices.numbers.places.Goals as goal

pub loop-number-preserved : goal.loop-number-preserved
loop-number-preserved c =
    let numbers = c.args.numbers.now in
    let i = c.loop-number.number-index in
    let x = get_or numbers i (pos 0) in
    let fits : FitsSigned w64 x = search rules in
    let P : ℤ → Type 0 = λ (n : ℤ). IsPlace c.args.length n in
    kept_more P numbers i (to_z w64 (of_z w64 x)) c.is_place.result c.loop-number.places.items c.push_if.new.numbers.items c.loop-number-test.true (to_z-of_z w64 x fits) c.in_ok-push_if.ensures c.is_place.ensures
    c.loop-number.invariant

pub returns : goal.returns
returns c =
    let P : ℤ → Type 0 = λ (n : ℤ). IsPlace c.args.length n in
    all_kept P c.args.numbers.now c.loop-number.number-index c.loop-number.places.items c.loop-number-test.false c.loop-number.invariant
