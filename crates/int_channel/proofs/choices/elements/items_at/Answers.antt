use Rattle.std.proofs.Common.{◌≡◌, ℤ, pos, List, [], ◌∷◌, ◌++◌, map, get_or, rules, to_z, of_z, FitsSigned, w64}
use Rattle.std.proofs.lemmas.Int.{to_z-of_z}
use Rattle.set_meaning.specs.declared.kinds.Value.{Value}
use Rattle.set_meaning.specs.Elements.{IsItem}
use Rattle.int_channel.specs.Choices.{number_of_term}
use Rattle.int_channel.proofs.ChoiceLoops.{one_choice_more, all_choices}
use Rattle.int_channel.proofs.choices.elements.items_at.Goals as goal

pub loop-number-preserved : goal.loop-number-preserved
loop-number-preserved c = λ kinds.
    let place = c.args.place.now in
    let items = c.args.items.now in
    let item = c.args.item.now in
    let places = c.args.places.now in
    let i = c.loop-number.number-index in
    let n = get_or places i (pos 0) in
    let fits : FitsSigned w64 n = search rules in
    let Q : ℤ → List Value → Type 0 = λ n values. IsItem n (map (number_of_term values) items) (number_of_term values item) in
    one_choice_more kinds (place ∷ items ++ item ∷ []) place places Q i (to_z w64 (of_z w64 n)) c.loop-number.branches.items c.push.new.self.items c.in_ok-item_at.field-0 c.loop-number-test.true
    (to_z-of_z w64 n fits) c.in_ok-push.ensures.items (c.loop-number.invariant kinds) (c.in_ok-item_at.ensures kinds)

pub returns : goal.returns
returns c = λ kinds.
    let place = c.args.place.now in
    let items = c.args.items.now in
    let item = c.args.item.now in
    let Q : ℤ → List Value → Type 0 = λ n values. IsItem n (map (number_of_term values) items) (number_of_term values item) in
    all_choices kinds (place ∷ items ++ item ∷ []) place c.args.places.now Q c.loop-number.number-index c.loop-number.branches.items c.loop-number-test.false (c.loop-number.invariant kinds)
