-- What holds of the terms of all arguments, of all terms and of a scope.
use Rattle.std.proofs.Common.{◌≡◌, ◌↔◌, ℕ, ◌≤◌, Bool, true, false, IsTrue, List, [], ◌∷◌, ◌++◌, length, sym, ap, ◌∙◌, subst, arith}
use Rattle.std.specs.Prelude.{Contains, sum_by}
use Rattle.std.specs.List.{All, flat_map}
use Rattle.std.proofs.lemmas.List.Elements.{All-append, All-nil, All-cons, All-head, All-tail, All-contains, Contains-append_left, Contains-append_right, Contains-push}
use Rattle.set_meaning.specs.declared.kinds.Kind.{Kind}
use Rattle.set_meaning.specs.declared.kinds.Kind.TheVariants as kind
use Rattle.set_meaning.specs.declared.problems.VarId.{VarId}
use Rattle.set_meaning.specs.declared.problems.Term.{Term}
use Rattle.set_meaning.specs.declared.problems.Arg.{Arg}
use Rattle.set_meaning.specs.declared.problems.Dim.{Dim}
use Rattle.set_meaning.specs.declared.problems.Shown.{Shown}
use Rattle.set_meaning.specs.Problems.{IsDim, IsShown}
use Rattle.set_meaning.specs.Rows.{IsTerm}
use Rattle.set_meaning.specs.declared.problems.Constraint.{Constraint}
use Rattle.set_meaning.specs.Relations.{IsScope, terms_of}
use Rattle.bit_layout.specs.Words.{IsLeastWidth, bit_width, span}
use Rattle.bit_layout.specs.Limits.{counted_bits}
use Rattle.problem_limits.specs.Limits.{IsSmallTerm, IsWithinLimits, width_in}
use Rattle.problem_limits.specs.Parts.{AreSmallIn, HasSomeSort}
use Rattle.problem_limits.proofs.Scopes.{one_scope}

pub few_bits : ((n : ℕ) → IsLeastWidth n (bit_width n)) → (numbers : List _) → span numbers ≤ 65535 → counted_bits (kind.Int numbers) ≤ 16
few_bits law numbers h =
    let w : bit_width (span numbers) ≤ 16 = (law (span numbers)).least 16 (omega arith) in
    omega arith

-- where one scope is narrow, each is
pub each_scope : (kinds : List Kind) (c : Constraint) (vs : List VarId) → IsScope c vs → sum_by (width_in kinds) vs ≤ 2048
    → (scope : List VarId) → IsScope c scope → sum_by (width_in kinds) scope ≤ 2048
each_scope kinds c vs is h scope k = subst (λ s. sum_by (width_in kinds) s ≤ 2048) (one_scope c vs scope is k) h

-- ---- parts of a joined list

members : {A : Type 0} (P : A → Type 0) (xs : List A) → ((x : A) → Contains xs x → P x) → All P xs
members P [] h = All-nil P
members P (x ∷ xs) h =
    All-cons P x xs (h x (Contains-append_left (x ∷ []) xs x (Contains-push [] x)))
    (members P xs (λ y k. h y (Contains-append_right (x ∷ []) xs y k)))

front : {A : Type 0} (P : A → Type 0) (xs ys : List A) → All P (xs ++ ys) → All P xs
front P xs ys h = members P xs (λ x k. All-contains P (xs ++ ys) x h (Contains-append_left xs ys x k))

back : {A : Type 0} (P : A → Type 0) (xs ys : List A) → All P (xs ++ ys) → All P ys
back P xs ys h = members P ys (λ y k. All-contains P (xs ++ ys) y h (Contains-append_right xs ys y k))

pub all_in_parts : {A B : Type 0} (P : B → Type 0) (f : A → List B) (xs : List A) → All (λ x. All P (f x)) xs → All P (flat_map f xs)
all_in_parts P f [] h = All-nil P
all_in_parts P f (x ∷ xs) h =
    All-append P (f x) (flat_map f xs) (All-head (λ x. All P (f x)) x xs h) (all_in_parts P f xs (All-tail (λ x. All P (f x)) x xs h))

pub parts_of_all : {A B : Type 0} (P : B → Type 0) (f : A → List B) (xs : List A) → All P (flat_map f xs) → All (λ x. All P (f x)) xs
parts_of_all P f [] h = All-nil (λ x. All P (f x))
parts_of_all P f (x ∷ xs) h =
    All-cons (λ x. All P (f x)) x xs (front P (f x) (flat_map f xs) h) (parts_of_all P f xs (back P (f x) (flat_map f xs) h))

pub small_arguments : (args : List Arg) → All AreSmallIn args ↔ All IsSmallTerm (flat_map terms_of args)
unfolding AreSmallIn
small_arguments args = (λ h. all_in_parts IsSmallTerm terms_of args h, λ h. parts_of_all IsSmallTerm terms_of args h)

-- ---- answers of tests

pub refused : (P : Type 0) → (P → ⊥) → IsTrue false ↔ P
refused P h = (λ f. absurd (cc), λ p. absurd (h p))

-- where the first part is a test's and does not hold
pub without_small : (kinds : List Kind) (c : Constraint) (args : List Arg) (b : Bool) → args ≡ c.args → IsTrue b ↔ All AreSmallIn args → b ≡ false
    → IsWithinLimits kinds c → ⊥
without_small kinds c args b e told refused within =
    let small : All AreSmallIn c.args = (small_arguments c.args).1 within.constants in
    let t : b ≡ true = told.1 (subst (λ (xs : List Arg). All AreSmallIn xs) (sym e) small) in
    cc

pub within_by : (kinds : List Kind) (c : Constraint) (args others : List Arg) (a b narrow : Bool) → args ≡ c.args → IsTrue a ↔ All AreSmallIn args → a ≡ true
    → others ≡ c.args → IsTrue b ↔ (length (flat_map terms_of others) ≤ 4194304) → b ≡ true
    → IsTrue narrow ↔ ((vs : List VarId) → IsScope c vs → sum_by (width_in kinds) vs ≤ 2048)
    → IsTrue narrow ↔ IsWithinLimits kinds c
within_by kinds c args others a b narrow e small p f few q scope = (
  λ n. record {
    constants = (small_arguments c.args).0 (subst (λ (xs : List Arg). All AreSmallIn xs) e (small.0 p));
    terms = subst (λ (xs : List Arg). length (flat_map terms_of xs) ≤ 4194304) f (few.0 q);
    scope = scope.0 n;
  },
  λ within. scope.1 within.scope,
)

-- ---- shown items

sorted_terms : (kinds : List Kind) (terms : List Term) → All (HasSomeSort kinds) terms ↔ All (IsTerm kinds) terms
unfolding HasSomeSort
sorted_terms kinds terms = (λ h. h, λ h. h)

pub without_terms : (kinds : List Kind) (item : Shown) (terms : List Term) (b : Bool) → terms ≡ item.terms → IsTrue b ↔ All (HasSomeSort kinds) terms → b ≡ false
    → IsShown kinds item → ⊥
without_terms kinds item terms b e told refused shown =
    let sorted : All (HasSomeSort kinds) item.terms = (sorted_terms kinds item.terms).1 shown.terms in
    let t : b ≡ true = told.1 (subst (λ (xs : List Term). All (HasSomeSort kinds) xs) (sym e) sorted) in
    cc

pub shown_by : (kinds : List Kind) (item : Shown) (terms others : List Term) (dims more : List Dim) (a b r : Bool) → terms ≡ item.terms
    → IsTrue a ↔ All (HasSomeSort kinds) terms → a ≡ true → dims ≡ item.dims → IsTrue b ↔ All IsDim dims → b ≡ true
    → more ≡ item.dims → others ≡ item.terms → IsTrue r ↔ (more ≡ [] → length others ≡ 1) → IsTrue r ↔ IsShown kinds item
shown_by kinds item terms others dims more a b r e sorted p f right q g h told = (
  λ t. record {
    terms = (sorted_terms kinds item.terms).0 (subst (λ (xs : List Term). All (HasSomeSort kinds) xs) e (sorted.0 p));
    dims = subst (λ (ds : List Dim). All IsDim ds) f (right.0 q);
    scalar = λ none. ap length (sym h) ∙ told.0 t (g ∙ none);
  },
  λ shown. told.1 (λ none. ap length h ∙ shown.scalar (sym g ∙ none)),
)
