use Rattle.std.proofs.Common.{[], ◌∷◌}
use Rattle.set_meaning.specs.declared.problems.Arg.TheVariants.{One}
use Rattle.set_meaning.specs.declared.problems.Relation.TheVariants.{BoolAnd}
use Rattle.int_channel.proofs.ChoiceBranches.{branch, for_arguments}
use Rattle.int_channel.proofs.ChoiceBooleans.{and_branches}
use Rattle.int_channel.proofs.choices.booleans.conjunction.Goals as goal

pub returns : goal.returns
returns c =
    let terms = c.three_terms-terms.result in
    let p = c.in_ok-low.low in
    let q = c.in_ok-high.high in
    for_arguments BoolAnd c.args.args.now (One terms.first.now ∷ One terms.second.now ∷ One terms.third.now ∷ []) c.in_ok-branches.branches.items (branch p q ∷ []) c.three_terms-terms.ensures.args c.in_ok-branches.ensures.items
    (and_branches terms.first.now terms.second.now terms.third.now p q c.in_ok-low.ensures c.in_ok-high.ensures)
