use Rattle.std.proofs.Common.{◌≡◌, ◌<◌, pos, ◌+ℤ◌, ◌-ℤ◌, [], ◌∷◌, length, to_z, of_z, w64, arith}
use Rattle.std.proofs.lemmas.Int.{ints}
use Rattle.set_meaning.specs.declared.problems.Arg.TheVariants.{One, Many}
use Rattle.set_meaning.specs.declared.problems.Relation.TheVariants.{ArrayBoolAnd}
use Rattle.int_channel.proofs.ChoiceBranches.{branch, for_arguments}
use Rattle.int_channel.proofs.ChoiceArrays.{all_branches, few_items}
use Rattle.int_channel.proofs.choices.arrays.all_true.Goals as goal

pub returns : goal.returns
returns c =
    let items = c.items_and_term-read.result.items.now in
    let t = c.items_and_term-read.result.term.now in
    let p = c.in_ok-low.low in
    let q = c.in_ok-high.high in
    let few : length items < 4194304 = few_items c.args.args.now items t c.items_and_term-read.ensures c.requires.few in
    let n : to_z w64 (length items) ≡ pos (length items) = omega (arith, ints) in
    let base : to_z w64 (of_z w64 (pos 1 -ℤ to_z w64 (length items))) ≡ pos 1 -ℤ pos (length items) = omega (arith, ints) in
    for_arguments ArrayBoolAnd c.args.args.now (Many items ∷ One t ∷ []) c.in_ok-branches.branches.items (branch p q ∷ []) c.items_and_term-read.ensures c.in_ok-branches.ensures.items
    (all_branches items t (to_z w64 (length items)) (to_z w64 (of_z w64 (pos 1 -ℤ to_z w64 (length items)))) p q n base c.in_ok-low.ensures c.in_ok-high.ensures)
