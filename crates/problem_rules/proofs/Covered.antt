-- What answers cover, here and in the problem.
use Rattle.std.proofs.Common.{◌≡◌, ℕ, zero, suc, ◌<◌, ◌⊎◌, List, [], ◌∷◌, length, map, refl, sym, subst, inl, inr, arith}
use Rattle.std.specs.Prelude.{Any, slice_index_or}
use Rattle.set_meaning.specs.declared.kinds.Value.{Value}
use Rattle.set_meaning.specs.declared.problems.Problem.{Problem}
use Rattle.set_meaning.specs.Solutions.{Covers, IsCovered}
use Rattle.search_rules.specs.Problem as rules
use Rattle.problem_rules.specs.Parts.{values_of}
use Rattle.problem_rules.specs.Posed.{problem_of}

any_head : {X : Type 0} (P : X → Type 0) (x : X) (xs : List X) → P x → Any P (x ∷ xs)
any_head P x xs h = (0, x, omega arith, refl, h)

any_tail : {X : Type 0} (P : X → Type 0) (x : X) (xs : List X) → Any P xs → Any P (x ∷ xs)
any_tail P x xs h = (suc h.0, h.1, let within : h.0 < length xs = h.2 in omega arith, h.3, h.4)

any_at : {X : Type 0} (P : X → Type 0) (y : X) (xs : List X) (k : ℕ) (x : X) → k < length (y ∷ xs) → slice_index_or (y ∷ xs) k x ≡ x → P x → P y ⊎ Any P xs
any_at P y xs zero x within at h = inl (subst P (sym at) h)
any_at P y xs (suc k) x within at h = inr (k, x, omega (arith, within), at, h)

none_any : {X : Type 0} (P : X → Type 0) → Any P [] → ⊥
none_any P h = let within : h.0 < 0 = h.2 in omega arith

pub covered_to : (p : Problem) (answers : List (ℕ → Value)) (a : ℕ → Value) → rules.IsCovered (problem_of p) answers a → IsCovered p (map (values_of p) answers) (values_of p a)
covered_to p [] a h = absurd h
covered_to p (y ∷ ys) a h = elim h [
  | inl here ↦ any_head (λ answer. Covers p answer (values_of p a)) (values_of p y) (map (values_of p) ys) here
  | inr later ↦ any_tail (λ answer. Covers p answer (values_of p a)) (values_of p y) (map (values_of p) ys) (covered_to p ys a later)
]

pub covered_from : (p : Problem) (answers : List (ℕ → Value)) (a : ℕ → Value) → IsCovered p (map (values_of p) answers) (values_of p a) → rules.IsCovered (problem_of p) answers a
covered_from p [] a h = none_any (λ answer. Covers p answer (values_of p a)) h
covered_from p (y ∷ ys) a h = elim (any_at (λ answer. Covers p answer (values_of p a)) (values_of p y) (map (values_of p) ys) h.0 h.1 h.2 h.3 h.4) [
  | inl here ↦ inl here
  | inr later ↦ inr (covered_from p ys a later)
]
