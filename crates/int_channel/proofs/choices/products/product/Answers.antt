use Rattle.std.proofs.Common.{[], ◌∷◌, ◌∙◌}
use Rattle.set_meaning.specs.declared.problems.Arg.TheVariants.{One}
use Rattle.set_meaning.specs.declared.problems.Relation.TheVariants.{IntTimes}
use Rattle.int_channel.proofs.ChoiceBranches.{of_arguments}
use Rattle.int_channel.proofs.ChoiceProducts.{product_branches, product_branches_turned}
use Rattle.int_channel.proofs.choices.products.product.Goals as goal

pub returns-then-len : goal.returns-then-len
returns-then-len c =
    let terms = c.three_terms-terms.result in
    let kinds = c.args.kinds.now in
    let bs = c.in_ok-turned.turned.items in
    of_arguments kinds IntTimes c.args.args.now (One terms.first.now ∷ One terms.second.now ∷ One terms.third.now ∷ []) bs c.three_terms-terms.ensures.args
    (product_branches_turned kinds terms.first.now terms.second.now terms.third.now c.as_slice.result.now bs (c.as_slice.ensures.value ∙ c.in_ok-second.ensures.numbers) (c.in_ok-turned.ensures kinds))

pub returns : goal.returns
returns c =
    let terms = c.three_terms-terms.result in
    let kinds = c.args.kinds.now in
    let bs = c.in_ok-branches.branches.items in
    of_arguments kinds IntTimes c.args.args.now (One terms.first.now ∷ One terms.second.now ∷ One terms.third.now ∷ []) bs c.three_terms-terms.ensures.args
    (product_branches kinds terms.first.now terms.second.now terms.third.now c.as_slice-else-len.result.now bs (c.as_slice-else-len.ensures.value ∙ c.in_ok-first.ensures.numbers) (c.in_ok-branches.ensures kinds))
