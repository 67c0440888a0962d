use Rattle.std.proofs.Common.{◌≡◌, ◌↔◌, ℤ, List, [], ◌∷◌, Contains, sym, subst, ◌∙◌}
use Rattle.std.specs.List.{All}
use Rattle.set_meaning.specs.declared.problems.Arg.TheVariants.{One}
use Rattle.set_meaning.specs.declared.problems.Relation.TheVariants.{SetIn}
use Rattle.set_meaning.specs.Sets.{Has}
use Rattle.problem_limits.specs.Limits.{IsSmallNumber}
use Rattle.int_channel.specs.Choices.{elements_of}
use Rattle.int_channel.proofs.ChoiceBranches.{of_arguments}
use Rattle.int_channel.proofs.ChoiceProducts.{all_among}
use Rattle.int_channel.proofs.ChoiceMembers.{member_branches}
use Rattle.int_channel.proofs.choices.members.membership.Goals as goal

pub members-requires-clause-numbers : goal.members-requires-clause-numbers
members-requires-clause-numbers c =
    let all : All IsSmallNumber c.as_slice.result.now = subst (All IsSmallNumber) (sym c.as_slice.ensures.value) c.in_ok-numbers.ensures.small in
    all_among IsSmallNumber c.as_slice.result.now c.as_slice-2.result.now all (λ n h. ((c.in_ok-shared.ensures n).0 (subst (λ (ns : List ℤ). Contains ns n) c.as_slice-2.ensures.value h)).0)

pub returns : goal.returns
returns c =
    let a = c.two_terms-terms.result.first.now in
    let b = c.two_terms-terms.result.second.now in
    let kinds = c.args.kinds.now in
    let bs = c.in_ok-branches.branches.items in
    let numbers = c.as_slice.result.now in
    let shared = c.as_slice-2.result.now in
    let kept : (n : ℤ) → Contains shared n ↔ (Contains numbers n × Has (elements_of kinds b) n) =
    subst (λ (ns : List ℤ). (n : ℤ) → Contains ns n ↔ (Contains numbers n × Has (elements_of kinds b) n)) (sym c.as_slice-2.ensures.value) c.in_ok-shared.ensures in
    of_arguments kinds SetIn c.args.args.now (One a ∷ One b ∷ []) bs c.two_terms-terms.ensures.args
    (member_branches kinds a b numbers shared bs (c.as_slice.ensures.value ∙ c.in_ok-numbers.ensures.numbers) kept c.in_ok-branches.ensures) c.requires.fits
