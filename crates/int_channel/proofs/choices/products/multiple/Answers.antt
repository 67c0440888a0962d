use Rattle.std.proofs.Common.{◌≡◌, ℤ, ◌*ℤ◌, [], ◌∷◌, to_z, of_z, FitsSigned, w64, subst}
use Rattle.std.proofs.lemmas.Int.{to_z-of_z}
use Rattle.int_channel.specs.Choices.{number_of_term, IsBranchWhere}
use Rattle.int_channel.proofs.ChoiceBranches.{branch}
use Rattle.int_channel.proofs.ChoiceProducts.{factor_branch}
use Rattle.int_channel.proofs.choices.products.multiple.Goals as goal

pub returns : goal.returns
returns c = λ kinds.
    let a = c.args.a.now in
    let b = c.args.b.now in
    let third = c.args.c.now in
    let n = c.args.number in
    let fits : FitsSigned w64 n = c.ranges.number in
    let p = c.in_ok-first.first in
    let q = c.in_ok-second.second in
    subst (λ (n : ℤ). IsBranchWhere kinds (a ∷ b ∷ third ∷ []) (λ values. (number_of_term values a ≡ n) × ((n *ℤ number_of_term values b) ≡ number_of_term values third)) (branch p q)) (to_z-of_z w64 n fits)
    (factor_branch kinds a b third (to_z w64 (of_z w64 n)) p q c.in_ok-first.ensures c.in_ok-second.ensures)
