use Rattle.std.proofs.Common.{◌≡◌, ℤ, [], ◌∷◌, to_z, of_z, FitsSigned, w64, sym, subst}
use Rattle.std.proofs.lemmas.Int.{to_z-of_z}
use Rattle.set_meaning.specs.declared.problems.Term.{Term}
use Rattle.set_meaning.specs.declared.problems.Term.TheVariants.{Const, Var}
use Rattle.int_channel.specs.declared.forms.Atom.{Atom}
use Rattle.int_channel.specs.declared.forms.Atom.TheVariants.{Member}
use Rattle.int_channel.specs.Choices.{number_of_term, IsAtomWhere, IsBranchWhere, MayHave, TermHas}
use Rattle.int_channel.proofs.ChoiceBranches.{branch}
use Rattle.int_channel.proofs.ChoiceMembers.{constant_branch, variable_branch}
use Rattle.int_channel.proofs.choices.members.member.Goals as goal

pub returns-in-Const : goal.returns-in-Const
returns-in-Const c =
    let kinds = c.args.kinds.now in
    let term = c.args.term.now in
    let n = c.args.number in
    let fits : FitsSigned w64 n = c.ranges.number in
    let p = c.in_ok-first.first in
    let q = c.trivial.result in
    let v = c.in-Const.field-0 in
    let may : MayHave kinds n (Const v) = subst (MayHave kinds n) c.in-Const.is c.requires.may in
    let first : IsAtomWhere (term ∷ []) (λ values. number_of_term values term ≡ n) p =
    subst (λ (n : ℤ). IsAtomWhere (term ∷ []) (λ values. number_of_term values term ≡ n) p) (to_z-of_z w64 n fits) c.in_ok-first.ensures in
    subst (λ (s : Term). IsBranchWhere kinds (term ∷ s ∷ []) (λ values. (number_of_term values term ≡ n) × TermHas values s n) (branch p q)) (sym c.in-Const.is)
    (constant_branch kinds term v n p q may first c.trivial.ensures)

pub returns-in-Var : goal.returns-in-Var
returns-in-Var c =
    let kinds = c.args.kinds.now in
    let term = c.args.term.now in
    let n = c.args.number in
    let fits : FitsSigned w64 n = c.ranges.number in
    let p = c.in_ok-first.first in
    let x = c.in-Var.set in
    let may : MayHave kinds n (Var x) = subst (MayHave kinds n) c.in-Var.is c.requires.may in
    let first : IsAtomWhere (term ∷ []) (λ values. number_of_term values term ≡ n) p =
    subst (λ (n : ℤ). IsAtomWhere (term ∷ []) (λ values. number_of_term values term ≡ n) p) (to_z-of_z w64 n fits) c.in_ok-first.ensures in
    let here : IsBranchWhere kinds (term ∷ Var x ∷ []) (λ values. (number_of_term values term ≡ n) × TermHas values (Var x) n) (branch p (Member x n)) = variable_branch kinds term x n p may first in
    subst (λ (s : Term). IsBranchWhere kinds (term ∷ s ∷ []) (λ values. (number_of_term values term ≡ n) × TermHas values s n) (branch p (Member x (to_z w64 (of_z w64 n))))) (sym c.in-Var.is)
    (subst (λ (m : ℤ). IsBranchWhere kinds (term ∷ Var x ∷ []) (λ values. (number_of_term values term ≡ n) × TermHas values (Var x) n) (branch p (Member x m))) (sym (to_z-of_z w64 n fits)) here)
