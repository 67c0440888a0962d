-- Families of single values.
use Rattle.std.proofs.Common.{◌≡◌, ℕ, Bool, true, List, [], ◌∷◌, sym, subst, inl, inr}
use Rattle.std.specs.List.{AllByRecursion}
use Rattle.std.proofs.lemmas.Bool.{cases_lt, both_ways}
use Rattle.search_rules.specs.Family.{Leaves, AllLie, IsWithin}
use Rattle.search_rules.specs.Problem.{Problem, IsSingle, IsSolution, IsCovered}
use Rattle.search_rules.specs.Box.{IsBoxSame}
use Rattle.search_rules.specs.Trail.{Stored, IsStored}
use Rattle.search_moves.specs.Answers.{HasBox, SpeaksOfVariables}

pub in_no_box : {X : Type 0} (p : Problem X) (b f : ℕ → X → Bool) (a : ℕ → X) → AllLie f p.initial → IsSingle p f a
    → SpeaksOfVariables p b → IsBoxSame b f → IsWithin b a → ⊥
in_no_box {X} p b f a initial single speaks same within = elim same [
  | inl two ↦ outside two.one two.one_outside
  | inr one ↦ outside one.one one.outside
]
  where
    outside : (v : ℕ) → Leaves (f v) (b v) → ⊥
    outside v (x, has, out) = elim (cases_lt v p.variables) [
      | inl known ↦ both_ways (b v x) out (subst (λ y. b v y ≡ true) (sym (single.only v x known has)) (within v))
      | inr beyond ↦ both_ways (b v x) out (speaks v beyond x (initial v x has))
    ]

pub not_covered : {X : Type 0} (p : Problem X) (answers : List (ℕ → X)) (boxes : List (Stored X)) (a : ℕ → X) → IsSolution p a
    → AllByRecursion (HasBox p boxes) answers → ((b : ℕ → X → Bool) → IsStored boxes b → IsWithin b a → ⊥)
    → IsCovered p answers a → ⊥
not_covered p [] boxes a solution have outside covered = covered
not_covered p (y ∷ ys) boxes a solution have outside (inl covers) =
    outside have.0.sides have.0.stored (have.0.holds a solution covers)
not_covered p (y ∷ ys) boxes a solution have outside (inr later) = not_covered p ys boxes a solution have.1 outside later
