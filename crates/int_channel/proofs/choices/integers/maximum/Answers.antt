use Rattle.std.proofs.Common.{[], ◌∷◌}
use Rattle.set_meaning.specs.declared.problems.Arg.TheVariants.{One}
use Rattle.set_meaning.specs.declared.problems.Relation.TheVariants.{IntMax}
use Rattle.int_channel.proofs.ChoiceBranches.{branch, for_arguments}
use Rattle.int_channel.proofs.ChoiceIntegers.{maximum_branches}
use Rattle.int_channel.proofs.choices.integers.maximum.Goals as goal

pub returns : goal.returns
returns c =
    let terms = c.three_terms-terms.result in
    let p = c.in_ok-second_is_less.second_is_less in
    let q = c.in_ok-is_first.is_first in
    let r = c.in_ok-first_is_less.first_is_less in
    let s = c.in_ok-is_second.is_second in
    for_arguments IntMax c.args.args.now (One terms.first.now ∷ One terms.second.now ∷ One terms.third.now ∷ []) c.in_ok-branches.branches.items (branch p q ∷ branch r s ∷ []) c.three_terms-terms.ensures.args c.in_ok-branches.ensures.items
    (maximum_branches terms.first.now terms.second.now terms.third.now p q r s c.in_ok-second_is_less.ensures c.in_ok-is_first.ensures c.in_ok-first_is_less.ensures c.in_ok-is_second.ensures)
