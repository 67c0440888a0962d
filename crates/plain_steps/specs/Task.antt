-- A problem over explicit lists of values, as the problem that the rules of the search are about.
-- Source: this project's own.
use Rattle.std.specs.Prelude.{◌≡◌, ℕ, ◌<◌, ◌≤◌, ◌==◌, nat_lt, Bool, true, false, cond, ◌&&◌, List, [], ◌∷◌, length, slice_index_or, refl}
use Rattle.std.proofs.Common.{sym, ◌∙◌, inl, inr, subst}
use Rattle.std.proofs.lemmas.Bool.{ltb-true, and_parts, or_cases, eqb-true, lt-ltb, cond-true, both_ways}
use Rattle.std.proofs.Math.Path.{fun_ext}
use Rattle.search_rules.specs.Problem.{Problem, IsAmong, Extends}
use Rattle.plain_steps.specs.Sets.{has, family}

-- the initial sets, and the constraints: their number, the variables that each speaks of, and when values satisfy it
pub record Plain : Type 0 where
  pub sets : List (List ℕ)
  pub count : ℕ
  pub scope : ℕ → ℕ → Bool
  pub holds : ℕ → (ℕ → ℕ) → Bool

-- the constraint speaks of this variable of the problem
abbrev pub is_scoped : Plain → ℕ → ℕ → Bool
is_scoped p c v = p.scope c v && nat_lt v (length p.sets)

-- the values of the scope's variables, and 0 for all others
abbrev pub masked : Plain → ℕ → (ℕ → ℕ) → ℕ → ℕ
masked p c a = λ v. cond (is_scoped p c v) (a v) 0

pub among_from_has : (xs : List ℕ) (x : ℕ) → has xs x ≡ true → IsAmong x xs
among_from_has [] x is = absurd (both_ways false refl is)
among_from_has (y ∷ ys) x is = elim (or_cases (x == y) (has ys x) is) [
  | inl here ↦ inl (eqb-true x y here)
  | inr there ↦ inr (among_from_has ys x there)
]

pub listed_from_family : (sets : List (List ℕ)) (v x : ℕ) → v < length sets → family sets v x ≡ true
    → IsAmong x (slice_index_or sets v [])
listed_from_family sets v x lt is =
    among_from_has (slice_index_or sets v []) x
    (sym (cond-true (nat_lt v (length sets)) (has (slice_index_or sets v []) x) true (lt-ltb v (length sets) lt)) ∙ is)

pub masked_same : (p : Plain) (c : ℕ) (a b : ℕ → ℕ) → ((v : ℕ) → is_scoped p c v ≡ true → a v ≡ b v) → masked p c a ≡ masked p c b
masked_same p c a b same = fun_ext (λ v. at v (is_scoped p c v) (same v))
  where
    at : (v : ℕ) (s : Bool) → (s ≡ true → a v ≡ b v) → cond s (a v) 0 ≡ cond s (b v) 0
    at v true equal = equal refl
    at v false equal = refl

-- The branching rule: the first variable with more than one value keeps its least one.
pub record Decides (f : ℕ → ℕ → Bool) (v : ℕ) (s : ℕ → Bool) : Type 0 where
  pub first : (u x y : ℕ) → u < v → f u x ≡ true → f u y ≡ true → x ≡ y
  pub value : ℕ
  pub there : f v value ≡ true
  pub least : (y : ℕ) → f v y ≡ true → value ≤ y
  pub kept : s ≡ has (value ∷ [])

-- the search stops at its first answer, so no answer covers anything
abbrev pub problem_of : Plain → Problem ℕ
problem_of p = record {
  variables = length p.sets;
  initial = family p.sets;
  values = λ v. slice_index_or p.sets v [];
  listed = listed_from_family p.sets;
  constraints = p.count;
  scope = is_scoped p;
  scoped = λ c v is. ltb-true v (length p.sets) (and_parts (p.scope c v) (nat_lt v (length p.sets)) is).1;
  holds = λ c a. p.holds c (masked p c a) ≡ true;
  reads = λ c a b same is. subst (λ m. p.holds c m ≡ true) (masked_same p c a b same) is;
  decides = Decides;
  covers = λ answer a. ⊥;
}

-- `a` has these values of the scope's variables below `depth`, values in the family from there on, and satisfies `c`
pub record Completes (p : Plain) (c : ℕ) (f : List (List ℕ)) (values : List ℕ) (depth : ℕ) (a : ℕ → ℕ) : Type 0 where
  pub front : (u : ℕ) → u < depth → is_scoped p c u ≡ true → a u ≡ slice_index_or values u 0
  pub rest : (u : ℕ) → (u < depth → ⊥) → is_scoped p c u ≡ true → family f u (a u) ≡ true
  pub holds : p.holds c (masked p c a) ≡ true

-- some values of the scope's variables, each in the family, satisfy the constraint
pub record IsSatisfiable (p : Plain) (c : ℕ) (f : List (List ℕ)) : Type 0 where
  pub values : ℕ → ℕ
  pub inside : (u : ℕ) → is_scoped p c u ≡ true → family f u (values u) ≡ true
  pub holds : p.holds c (masked p c values) ≡ true

-- of the first `n` values of the variable's set, the list has exactly those that extend
pub record IsExtending (p : Plain) (c : ℕ) (f : List (List ℕ)) (v n : ℕ) (kept : List ℕ) : Type 0 where
  pub sound : (x : ℕ) → has kept x ≡ true → Extends (problem_of p) c (family f) v x
  pub whole : (k : ℕ) → k < n → Extends (problem_of p) c (family f) v (slice_index_or (slice_index_or f v []) k 0)
      → has kept (slice_index_or (slice_index_or f v []) k 0) ≡ true
