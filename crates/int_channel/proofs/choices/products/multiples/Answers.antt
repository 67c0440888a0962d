use Rattle.std.proofs.Common.{◌≡◌, ℤ, pos, ◌*ℤ◌, List, [], ◌∷◌, get_or, rules, to_z, of_z, FitsSigned, w64}
use Rattle.std.proofs.lemmas.Int.{to_z-of_z}
use Rattle.set_meaning.specs.declared.kinds.Value.{Value}
use Rattle.int_channel.specs.Choices.{number_of_term}
use Rattle.int_channel.proofs.ChoiceLoops.{one_choice_more, all_choices}
use Rattle.int_channel.proofs.choices.products.multiples.Goals as goal

pub loop-number-preserved : goal.loop-number-preserved
loop-number-preserved c = λ kinds.
    let a = c.args.a.now in
    let b = c.args.b.now in
    let third = c.args.c.now in
    let numbers = c.args.numbers.now in
    let i = c.loop-number.number-index in
    let n = get_or numbers i (pos 0) in
    let fits : FitsSigned w64 n = search rules in
    let Q : ℤ → List Value → Type 0 = λ n values. (n *ℤ number_of_term values b) ≡ number_of_term values third in
    one_choice_more kinds (a ∷ b ∷ third ∷ []) a numbers Q i (to_z w64 (of_z w64 n)) c.loop-number.branches.items c.push.new.self.items c.in_ok-multiple.field-0 c.loop-number-test.true
    (to_z-of_z w64 n fits) c.in_ok-push.ensures.items (c.loop-number.invariant kinds) (c.in_ok-multiple.ensures kinds)

pub returns : goal.returns
returns c = λ kinds.
    let a = c.args.a.now in
    let b = c.args.b.now in
    let third = c.args.c.now in
    let Q : ℤ → List Value → Type 0 = λ n values. (n *ℤ number_of_term values b) ≡ number_of_term values third in
    all_choices kinds (a ∷ b ∷ third ∷ []) a c.args.numbers.now Q c.loop-number.number-index c.loop-number.branches.items c.loop-number-test.false (c.loop-number.invariant kinds)
