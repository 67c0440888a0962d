use Rattle.std.proofs.Common.{[], ◌∷◌}
use Rattle.set_meaning.specs.declared.problems.Arg.TheVariants.{One}
use Rattle.set_meaning.specs.declared.problems.Relation.TheVariants.{IntAbs}
use Rattle.int_channel.proofs.ChoiceBranches.{branch, for_arguments}
use Rattle.int_channel.proofs.ChoiceIntegers.{absolute_branches}
use Rattle.int_channel.proofs.choices.integers.absolute_value.Goals as goal

pub returns : goal.returns
returns c =
    let terms = c.two_terms-terms.result in
    let p = c.in_ok-at_least_zero.at_least_zero in
    let q = c.in_ok-same.same in
    let r = c.in_ok-at_most_zero.at_most_zero in
    let s = c.in_ok-opposite.opposite in
    for_arguments IntAbs c.args.args.now (One terms.first.now ∷ One terms.second.now ∷ []) c.in_ok-branches.branches.items (branch p q ∷ branch r s ∷ []) c.two_terms-terms.ensures.args c.in_ok-branches.ensures.items
    (absolute_branches terms.first.now terms.second.now p q r s c.in_ok-at_least_zero.ensures c.in_ok-same.ensures c.in_ok-at_most_zero.ensures c.in_ok-opposite.ensures)
