-- What each term of a list stands for, gathered term by term.
use Rattle.std.proofs.Common.{◌≡◌, ℕ, suc, ◌+◌, ◌<◌, ◌≤◌, ◌⊎◌, List, [], ◌∷◌, ◌++◌, length, get_or, drop, refl, sym, ap, ◌∙◌, inl, inr, arith, zero, false, add-one, append_assoc, append-nil}
use Rattle.std.proofs.Math.Seq.{drop-cons}
use Rattle.std.proofs.lemmas.List.{drop_all}
use Rattle.std.specs.Prelude.{Option, Some, None, option_map, is_some, IsSome}
use Rattle.std.specs.List.{All}
use Rattle.set_meaning.specs.declared.problems.Term.{Term}
use Rattle.set_meaning.specs.Arguments.{each_of, cons_some}

-- what the terms from the i-th on give
from_here : {X : Type 0} (f : Term → Option X) (terms : List Term) (i : ℕ) (t : Term) → i < length terms → t ≡ get_or terms i t
    → each_of f (drop i terms) ≡ cons_some (f t) (each_of f (drop (i + 1) terms))
from_here f terms i t within at =
    ap (each_of f) (drop-cons terms i t within ∙ ap (λ u. u ∷ drop (suc i) terms) (sym at)) ∙ ap (λ n. cons_some (f t) (each_of f (drop n terms))) (sym (add-one i))

-- one more term stands for something
pub one_more : {X : Type 0} (f : Term → Option X) (terms : List Term) (i : ℕ) (t : Term) (x : X) (before after : List X) → i < length terms → t ≡ get_or terms i t
    → Some x ≡ f t → after ≡ before ++ x ∷ [] → each_of f terms ≡ option_map (λ xs. before ++ xs) (each_of f (drop i terms))
    → each_of f terms ≡ option_map (λ xs. after ++ xs) (each_of f (drop (i + 1) terms))
one_more f terms i t x before after within at is push so_far =
    so_far ∙ ap (option_map (λ xs. before ++ xs)) (from_here f terms i t within at ∙ ap (λ o. cons_some o (each_of f (drop (i + 1) terms))) (sym is))
    ∙ moved (each_of f (drop (i + 1) terms)) ∙ ap (λ ys. option_map (λ xs. ys ++ xs) (each_of f (drop (i + 1) terms))) (sym push)
  where
    moved : (o : Option (List _)) → option_map (λ xs. before ++ xs) (cons_some (Some x) o) ≡ option_map (λ xs. (before ++ x ∷ []) ++ xs) o
    moved None = refl
    moved (Some xs) = ap Some (sym (append_assoc before (x ∷ []) xs))

-- a term stands for nothing
pub one_missing : {X : Type 0} (f : Term → Option X) (terms : List Term) (i : ℕ) (t : Term) (before : List X) → i < length terms → t ≡ get_or terms i t
    → None ≡ f t → each_of f terms ≡ option_map (λ xs. before ++ xs) (each_of f (drop i terms)) → each_of f terms ≡ None
one_missing f terms i t before within at is so_far =
    so_far ∙ ap (option_map (λ xs. before ++ xs)) (from_here f terms i t within at ∙ ap (λ o. cons_some o (each_of f (drop (i + 1) terms))) (sym is))

-- all terms were read
pub all_read : {X : Type 0} (f : Term → Option X) (terms : List Term) (i : ℕ) (before : List X) → length terms ≤ i
    → each_of f terms ≡ option_map (λ xs. before ++ xs) (each_of f (drop i terms)) → each_of f terms ≡ Some before
all_read f terms i before all so_far =
    so_far ∙ ap (λ ts. option_map (λ xs. before ++ xs) (each_of f ts)) (drop_all i terms all) ∙ ap Some (append-nil before)

-- ---- terms that all stand for something

all_cons : {X : Type 0} (P : X → Type 0) (x : X) (xs : List X) → P x → All P xs → All P (x ∷ xs)
all_cons P x xs here later zero d within = here
all_cons P x xs here later (suc k) d within = later k d (omega arith)

all_tail : {X : Type 0} (P : X → Type 0) (x : X) (xs : List X) → All P (x ∷ xs) → All P xs
all_tail P x xs all k d within = all (suc k) d (omega arith)

-- either they all do, or the list of what they stand for is not there
some_or_missing : {X : Type 0} (f : Term → Option X) (terms : List Term) → All (λ t. IsSome (f t)) terms ⊎ (each_of f terms ≡ None)
some_or_missing f [] = inl (λ k d within. absurd (omega arith))
some_or_missing f (t ∷ ts) = by_first (f t) refl (some_or_missing f ts)
  where
    by_first : (o : Option _) → f t ≡ o → All (λ u. IsSome (f u)) ts ⊎ (each_of f ts ≡ None) → All (λ u. IsSome (f u)) (t ∷ ts) ⊎ (each_of f (t ∷ ts) ≡ None)
    by_first None is rest = inr (ap (λ o. cons_some o (each_of f ts)) is)
    by_first (Some x) is (inl all) = inl (all_cons (λ u. IsSome (f u)) t ts (ap is_some is) all)
    by_first (Some x) is (inr missing) = inr (ap (λ o. cons_some o (each_of f ts)) is ∙ ap (cons_some (Some x)) missing)

pub missing : {X : Type 0} (f : Term → Option X) (terms : List Term) → (All (λ t. IsSome (f t)) terms → ⊥) → each_of f terms ≡ None
missing f terms none = elim (some_or_missing f terms) [ inl all ↦ absurd (none all) | inr gone ↦ gone ]

pub all_there : {X : Type 0} (f : Term → Option X) (terms : List Term) → All (λ t. IsSome (f t)) terms → (xs : List X) × (each_of f terms ≡ Some xs)
all_there f [] all = ([], refl)
all_there f (t ∷ ts) all = by_first (f t) refl (all 0 t (omega arith)) (all_there f ts (all_tail (λ u. IsSome (f u)) t ts all))
  where
    by_first : (o : Option _) → f t ≡ o → IsSome (f t) → (xs : List _) × (each_of f ts ≡ Some xs) → (xs : List _) × (each_of f (t ∷ ts) ≡ Some xs)
    by_first None is some rest = let e : is_some (f t) ≡ false = ap is_some is in cc
    by_first (Some x) is some rest = (x ∷ rest.0, ap (λ o. cons_some o (each_of f ts)) is ∙ ap (cons_some (Some x)) rest.1)
