use Rattle.std.proofs.Common.{ℤ, pos, get_or, rules, to_z, of_z, FitsSigned, w64}
use Rattle.std.proofs.lemmas.Int.{to_z-of_z}
use Rattle.set_meaning.specs.Sets.{Has}
use Rattle.int_channel.proofs.ChoiceLoops.{kept_more, all_kept}
use Rattle.int_channel.proofs.choices.members.shared_with_set.Goals as goal

pub loop-number-preserved : goal.loop-number-preserved
loop-number-preserved c =
    let numbers = c.args.numbers.now in
    let i = c.loop-number.number-index in
    let x = get_or numbers i (pos 0) in
    let fits : FitsSigned w64 x = search rules in
    let P : ℤ → Type 0 = λ (n : ℤ). Has c.args.set.now n in
    kept_more P numbers i (to_z w64 (of_z w64 x)) c.has.result c.loop-number.shared.items c.push_if.new.numbers.items c.loop-number-test.true (to_z-of_z w64 x fits) c.in_ok-push_if.ensures c.has.ensures
    c.loop-number.invariant

pub returns : goal.returns
returns c =
    let P : ℤ → Type 0 = λ (n : ℤ). Has c.args.set.now n in
    all_kept P c.args.numbers.now c.loop-number.number-index c.loop-number.shared.items c.loop-number-test.false c.loop-number.invariant
