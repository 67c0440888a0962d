-- The faults at the name of a constraint: of its arguments, and behind a name without faults.
use Rattle.std.proofs.Common.{◌≡◌, ◌⊎◌, ℕ, ◌+◌, ◌<◌, List, [], ◌∷◌, ◌++◌, Option, ap, subst, inl, inr, arith, append_assoc}
use Rattle.std.specs.Prelude.{sum_by}
use Rattle.std.proofs.lemmas.List.{append-nil}
use Rattle.set_meaning.specs.declared.kinds.Kind.{Kind}
use Rattle.set_meaning.specs.declared.problems.VarId.{VarId}
use Rattle.set_meaning.specs.declared.problems.Constraint.{Constraint}
use Rattle.set_meaning.specs.Relations.{IsScope}
use Rattle.fzn_model.specs.declared.faults.ModelFault.{ModelFault}
use Rattle.fzn_model.specs.Lists.{sum_after}
use Rattle.fzn_model.specs.FaultsOf.{bits_at}
use Rattle.fzn_model.specs.FirstFault.{AreNone, IsFirstOf, first_told}
use Rattle.fzn_model.specs.ConstraintFaults.{IsWide, OfGood, OfMade}
use Rattle.fzn_model.proofs.Firsts.{either_first}
use Rattle.fzn_model.proofs.PartFirsts.{same_faults}
use Rattle.fzn_model.proofs.Scopes.{one_scope}

-- where the arguments have no fault, the faults are those of the constraint
pub good_first : (IsGood : Type 0) (at : ℕ) (kinds : List Kind) (made : Option Constraint) (r : Option ModelFault) → IsGood
    → IsFirstOf (OfMade at kinds made) r → IsFirstOf (OfGood IsGood at kinds made) r
good_first IsGood at kinds made r good first =
    same_faults (OfMade at kinds made) (OfGood IsGood at kinds made) r (λ f h. (good, h)) (λ f h. h.1) first

-- where a scope is too wide, any is, since there is one
pub wide_by : (kinds : List Kind) (c : Constraint) (scope : List VarId) → IsScope c scope → IsWide kinds c → 2048 < sum_by (bits_at kinds) scope
wide_by kinds c scope h wide = subst (λ s. 2048 < sum_by (bits_at kinds) s) (one_scope c wide.0 scope wide.1 h) wide.2

-- behind a name without faults
pub well_named : (N P Q : ModelFault → Type 0) (a b : Option ModelFault) → AreNone N → IsFirstOf P a → IsFirstOf Q b
    → IsFirstOf (λ f. N f ⊎ P f ⊎ Q f) (first_told a b)
well_named N P Q a b none p q =
    same_faults (λ f. P f ⊎ Q f) (λ f. N f ⊎ P f ⊎ Q f) (first_told a b)
    (λ f h. inr h) (λ f h. elim h [ inl n ↦ absurd (none f n) | inr rest ↦ rest ])
    (either_first P Q a b p q)

-- the sum over one more item
pub sum_after_push : {A : Type 0} (f : List A → A → ℕ) (before xs : List A) (x : A)
    → sum_after f before (xs ++ x ∷ []) ≡ sum_after f before xs + f (before ++ xs) x
sum_after_push f before [] x = let e = ap (λ b. f b x) (append-nil before) in omega (arith, e)
sum_after_push f before (y ∷ ys) x =
    let e = sum_after_push f (before ++ y ∷ []) ys x in
    let m = ap (λ b. f b x) (append_assoc before (y ∷ []) ys) in
    omega (arith, e, m)
