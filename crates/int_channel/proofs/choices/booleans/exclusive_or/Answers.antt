use Rattle.std.proofs.Common.{[], ◌∷◌}
use Rattle.set_meaning.specs.declared.problems.Arg.TheVariants.{One}
use Rattle.set_meaning.specs.declared.problems.Relation.TheVariants.{BoolXor}
use Rattle.int_channel.proofs.ChoiceBranches.{branch, for_arguments}
use Rattle.int_channel.proofs.ChoiceBooleans.{xor_branches}
use Rattle.int_channel.proofs.choices.booleans.exclusive_or.Goals as goal

pub returns : goal.returns
returns c =
    let terms = c.three_terms-terms.result in
    let p = c.in_ok-none.none in
    let q = c.trivial.result in
    let r = c.in_ok-two.two in
    let s = c.trivial-2.result in
    for_arguments BoolXor c.args.args.now (One terms.first.now ∷ One terms.second.now ∷ One terms.third.now ∷ []) c.in_ok-branches.branches.items (branch p q ∷ branch r s ∷ []) c.three_terms-terms.ensures.args c.in_ok-branches.ensures.items
    (xor_branches terms.first.now terms.second.now terms.third.now p q r s c.in_ok-none.ensures c.trivial.ensures c.in_ok-two.ensures c.trivial-2.ensures)
