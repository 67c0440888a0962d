use Rattle.std.proofs.Common.{◌≡◌, ◌↔◌, ℤ, List, [], ◌∷◌, length, Contains, sym, subst, ◌∙◌}
use Rattle.std.specs.List.{All}
use Rattle.set_meaning.specs.declared.problems.Arg.TheVariants.{One, Many}
use Rattle.set_meaning.specs.declared.problems.Relation.TheVariants.{ArrayIntElement, ArrayBoolElement}
use Rattle.problem_limits.specs.Limits.{IsSmallNumber}
use Rattle.int_channel.specs.Choices.{IsPlace}
use Rattle.int_channel.proofs.ChoiceArguments.{small_place}
use Rattle.int_channel.proofs.ChoiceBranches.{of_arguments}
use Rattle.int_channel.proofs.ChoiceProducts.{all_among}
use Rattle.int_channel.proofs.ChoiceElements.{int_elements, bool_elements}
use Rattle.int_channel.proofs.choices.elements.element.Goals as goal

pub numbers_of-requires-clause-term : goal.numbers_of-requires-clause-term
numbers_of-requires-clause-term c =
    let terms = c.place_items_and_term-terms.result in
    (small_place c.args.args.now terms.place.now terms.item.now terms.items.now c.place_items_and_term-terms.ensures c.requires.small).0

pub items_at-requires-clause-small : goal.items_at-requires-clause-small
items_at-requires-clause-small c =
    let all : All IsSmallNumber c.as_slice.result.now = subst (All IsSmallNumber) (sym c.as_slice.ensures.value) c.in_ok-numbers.ensures.small in
    all_among IsSmallNumber c.as_slice.result.now c.as_slice-2.result.now all (λ n h. ((c.in_ok-places.ensures n).0 (subst (λ (ps : List ℤ). Contains ps n) c.as_slice-2.ensures.value h)).0)

pub items_at-requires-clause-place : goal.items_at-requires-clause-place
items_at-requires-clause-place c =
    let terms = c.place_items_and_term-terms.result in
    (small_place c.args.args.now terms.place.now terms.item.now terms.items.now c.place_items_and_term-terms.ensures c.requires.small).0

pub items_at-requires-clause-items : goal.items_at-requires-clause-items
items_at-requires-clause-items c =
    let terms = c.place_items_and_term-terms.result in
    (small_place c.args.args.now terms.place.now terms.item.now terms.items.now c.place_items_and_term-terms.ensures c.requires.small).1

pub items_at-requires-clause-item : goal.items_at-requires-clause-item
items_at-requires-clause-item c =
    let terms = c.place_items_and_term-terms.result in
    (small_place c.args.args.now terms.place.now terms.item.now terms.items.now c.place_items_and_term-terms.ensures c.requires.small).2

pub returns-clause-integers : goal.returns-clause-integers
returns-clause-integers c =
    let terms = c.place_items_and_term-terms.result in
    let kinds = c.args.kinds.now in
    let bs = c.in_ok-branches.branches.items in
    let numbers = c.as_slice.result.now in
    let places = c.as_slice-2.result.now in
    let kept : (n : ℤ) → Contains places n ↔ (Contains numbers n × IsPlace (length terms.items.now) n) =
    subst (λ (ps : List ℤ). (n : ℤ) → Contains ps n ↔ (Contains numbers n × IsPlace (length terms.items.now) n)) (sym c.as_slice-2.ensures.value) c.in_ok-places.ensures in
    of_arguments kinds ArrayIntElement c.args.args.now (One terms.place.now ∷ Many terms.items.now ∷ One terms.item.now ∷ []) bs c.place_items_and_term-terms.ensures
    (int_elements kinds terms.place.now terms.item.now terms.items.now numbers places bs (c.as_slice.ensures.value ∙ c.in_ok-numbers.ensures.numbers) kept (c.in_ok-branches.ensures kinds))

pub returns-clause-booleans : goal.returns-clause-booleans
returns-clause-booleans c =
    let terms = c.place_items_and_term-terms.result in
    let kinds = c.args.kinds.now in
    let bs = c.in_ok-branches.branches.items in
    let numbers = c.as_slice.result.now in
    let places = c.as_slice-2.result.now in
    let kept : (n : ℤ) → Contains places n ↔ (Contains numbers n × IsPlace (length terms.items.now) n) =
    subst (λ (ps : List ℤ). (n : ℤ) → Contains ps n ↔ (Contains numbers n × IsPlace (length terms.items.now) n)) (sym c.as_slice-2.ensures.value) c.in_ok-places.ensures in
    of_arguments kinds ArrayBoolElement c.args.args.now (One terms.place.now ∷ Many terms.items.now ∷ One terms.item.now ∷ []) bs c.place_items_and_term-terms.ensures
    (bool_elements kinds terms.place.now terms.item.now terms.items.now numbers places bs (c.as_slice.ensures.value ∙ c.in_ok-numbers.ensures.numbers) kept (c.in_ok-branches.ensures kinds))
