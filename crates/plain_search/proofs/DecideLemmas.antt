-- Where each variable has one value: a solution. Where one has more: a decision.
use Rattle.std.proofs.Common.{◌≡◌, ◌≢◌, ℕ, ◌+◌, ◌<◌, ◌≤◌, true, false, eqb, List, [], ◌∷◌, length, get_or, map, reverse, refl, sym, ◌∙◌, subst, inl, inr, arith}
use Rattle.std.proofs.lemmas.Bool.{cases_lt, cases_eq, or_cases, eqb-true, eq-eqb, ne_eqb, or_left, or_from, both_ways}
use Rattle.std.proofs.lemmas.List.{get_or-map, length-map, length-reverse}
use Rattle.search_rules.specs.Family.{Lies, Leaves, HasValue, AllLie}
use Rattle.search_rules.specs.Trail.{IsPart}
use Rattle.plain_steps.specs.Sets.{has, family}
use Rattle.search_rules.specs.Problem.{IsSingle, IsSolution}
use Rattle.plain_steps.specs.Task.{Decides, Plain, masked_same, problem_of, IsSatisfiable}
use Rattle.plain_steps.proofs.SetLemmas.{has_at, has_place}
use Rattle.plain_steps.proofs.StepLemmas.{family-at, family-past, scoped_below}
use Rattle.plain_search.specs.State.{entry_of, entries_of}
use Rattle.plain_search.specs.Moves.{IsSolved, IsLone, HasTwo, IsLeast}
use Rattle.plain_search.specs.declared.trail.Change.{Change}
use Rattle.plain_search.specs.declared.trail.Trail.{Trail}

pub length-entries : (es : List Change) → length (entries_of es) ≡ length es
length-entries es = length-map (reverse es) entry_of ∙ length-reverse es

-- the only value of a one-element list
pub only_value : (x y : ℕ) → has (x ∷ []) y ≡ true → y ≡ x
only_value x y is = elim (or_cases (eqb y x) false is) [
  | inl same ↦ eqb-true y x same
  | inr never ↦ absurd (both_ways false refl never)
]

pub value_first : (xs : List ℕ) → HasValue (has xs) → has xs (get_or xs 0 0) ≡ true
value_first [] (x, is) = absurd (both_ways false refl is)
value_first (y ∷ ys) value = or_left (eqb y y) (has ys y) (eq-eqb y y refl)

pub set_value : (f : List (List ℕ)) (v : ℕ) → v < length f → HasValue (family f v) → HasValue (has (get_or f v []))
set_value f v lt (x, is) = (x, sym (family-at f v x lt) ∙ is)

-- the first value of each variable
abbrev pub firsts : List (List ℕ) → List ℕ
firsts f = map (λ set. get_or set 0 0) f

pub firsts-at : (f : List (List ℕ)) (v : ℕ) → v < length f → get_or (firsts f) v 0 ≡ get_or (get_or f v []) 0 0
firsts-at f v lt = get_or-map (λ set. get_or set 0 0) f v [] 0 lt

-- the single values are those of the assignment
pub singles : (p : Plain) (f : List (List ℕ)) → length f ≡ length p.sets → ((v : ℕ) → HasValue (family f v))
    → ((v : ℕ) → v < length f → IsLone (get_or f v [])) → IsSingle (problem_of p) (family f) (λ v. get_or (firsts f) v 0)
singles p f long values lone = record {
  within = λ v. elim (cases_lt v (length f)) [
    | inl lt ↦ family-at f v (get_or (firsts f) v 0) lt ∙ first_there v lt
    | inr past ↦ family-past f v (get_or (firsts f) v 0) past
  ];
  only = λ v x known is.
      let lt : v < length f = omega arith in
      lone v lt x (get_or (firsts f) v 0) (sym (family-at f v x lt) ∙ is) (first_there v lt);
}
  where
    first_there : (v : ℕ) → v < length f → has (get_or f v []) (get_or (firsts f) v 0) ≡ true
    first_there v lt =
        subst (λ x. has (get_or f v []) x ≡ true) (sym (firsts-at f v lt)) (value_first (get_or f v []) (set_value f v lt (values v)))

-- single values of a family in which each constraint can be satisfied are a solution
pub single_solution : (p : Plain) (f : List (List ℕ)) (a : ℕ → ℕ) → AllLie (family f) (family p.sets)
    → IsSingle (problem_of p) (family f) a → ((c : ℕ) → c < p.count → IsSatisfiable p c f) → IsSolution (problem_of p) a
single_solution p f a within single satisfiable = record {
  initial = λ v. within v (a v) (single.within v);
  holds = λ c known.
      let can : IsSatisfiable p c f = satisfiable c known in
      subst (λ (m : ℕ → ℕ). p.holds c m ≡ true)
      (masked_same p c can.values a
      (λ v in_scope. single.only v (can.values v) (scoped_below p c v in_scope) (can.inside v in_scope)))
      can.holds;
}

pub solved : (p : Plain) (at : Trail) → length at.domains.items ≡ length p.sets → AllLie (family at.domains.items) (family p.sets)
    → ((v : ℕ) → HasValue (family at.domains.items v))
    → ((v : ℕ) → v < length at.domains.items → IsLone (get_or at.domains.items v []))
    → ((c : ℕ) → c < p.count → IsSatisfiable p c at.domains.items) → IsSolved p at (firsts at.domains.items)
solved p at long within values lone satisfiable =
    let single = singles p at.domains.items long values lone in
    record {
      solution = record {
        one_each = length-map at.domains.items (λ set. get_or set 0 0) ∙ long;
        solve = single_solution p at.domains.items (λ v. get_or (firsts at.domains.items) v 0) within single satisfiable;
      };
      single = single;
    }

-- a set that lies in one value has no two; one that does not has two
pub lone : (s : List ℕ) (x : ℕ) → Lies (has s) (has (x ∷ [])) → IsLone s
lone s x lies y z one other = only_value x y (lies y one) ∙ sym (only_value x z (lies z other))

pub two : (s : List ℕ) → Leaves (has s) (has (get_or s 0 0 ∷ [])) → HasTwo s
two s leaves = record {
  one = leaves.0;
  other = get_or s 0 0;
  one_there = leaves.1;
  other_there = value_first s (leaves.0, leaves.1);
  apart = λ same.
      both_ways (has (get_or s 0 0 ∷ []) leaves.0) leaves.2 (or_left (eqb leaves.0 (get_or s 0 0)) false (eq-eqb leaves.0 (get_or s 0 0) same));
}

pub two_value : (s : List ℕ) → HasTwo s → HasValue (has s)
two_value s both = (both.one, both.one_there)

pub first_among : (s : List ℕ) → HasValue (has s) → has s (get_or s 0 0) ≡ true
first_among s value = value_first s value

-- the least of the first `n` values of a list that has some
pub record LeastSoFar (xs : List ℕ) (n x : ℕ) : Type 0 where
  pub there : HasValue (has xs) → has xs x ≡ true
  pub least : (k : ℕ) → k < n → x ≤ get_or xs k 0

pub least_begun : (xs : List ℕ) (x : ℕ) → x ≡ get_or xs 0 0 → LeastSoFar xs 0 x
least_begun xs x is = record {
  there = λ value. subst (λ y. has xs y ≡ true) (sym is) (value_first xs value);
  least = λ k lt. absurd (omega arith);
}

pub least_taken : (xs : List ℕ) (i before now : ℕ) → i < length xs → LeastSoFar xs i before → now ≡ get_or xs i 0
    → get_or xs i 0 < before → LeastSoFar xs (i + 1) now
least_taken xs i before now lt so_far is less = record {
  there = λ value. has_at xs i now lt is;
  least = λ k below. elim (cases_eq k i) [
    | inl same ↦ subst (λ j. now ≤ get_or xs j 0) (sym same) (omega arith)
    | inr apart ↦
        let earlier : k < i = omega arith in
        let low : before ≤ get_or xs k 0 = so_far.least k earlier in
        omega arith
  ];
}

pub least_kept : (xs : List ℕ) (i before now : ℕ) → LeastSoFar xs i before → now ≡ before → before ≤ get_or xs i 0
    → LeastSoFar xs (i + 1) now
least_kept xs i before now so_far is low = record {
  there = λ value. subst (λ y. has xs y ≡ true) (sym is) (so_far.there value);
  least = λ k below. elim (cases_eq k i) [
    | inl same ↦ subst (λ j. now ≤ get_or xs j 0) (sym same) (omega arith)
    | inr apart ↦
        let earlier : k < i = omega arith in
        let lower : before ≤ get_or xs k 0 = so_far.least k earlier in
        omega arith
  ];
}

pub least_of_all : (xs : List ℕ) (n x : ℕ) → LeastSoFar xs n x → length xs ≤ n → HasValue (has xs) → IsLeast xs x
least_of_all xs n x so_far all value = record {
  there = so_far.there value;
  least = λ y is.
      let (k, lt, same) = has_place xs y is in
      let low : x ≤ get_or xs k 0 = so_far.least k (omega arith) in
      omega arith;
}

-- a value of a set with two is a part of it
pub value_part : (f : List (List ℕ)) (v x : ℕ) → v < length f → HasTwo (get_or f v []) → has (get_or f v []) x ≡ true
    → IsPart (has (x ∷ [])) (family f v)
value_part f v x lt both there = record {
  lies = λ y is. family-at f v y lt ∙ subst (λ z. has (get_or f v []) z ≡ true) (sym (only_value x y is)) there;
  proper = elim (cases_eq both.one x) [
    | inr apart ↦ (both.one, family-at f v both.one lt ∙ both.one_there, other_than both.one apart)
    | inl same ↦ (
      both.other,
      family-at f v both.other lt ∙ both.other_there,
      other_than both.other (λ too. both.apart (same ∙ sym too)),
    )
  ];
  has_value = (x, or_left (eqb x x) false (eq-eqb x x refl));
}
  where
    other_than : (y : ℕ) → y ≢ x → has (x ∷ []) y ≡ false
    other_than y apart = or_from (eqb y x) false (ne_eqb y x apart) refl

-- the branching rule's decision
pub decision : (f : List (List ℕ)) (v x : ℕ) → v < length f → IsLeast (get_or f v []) x
    → ((u : ℕ) → u < v → IsLone (get_or f u [])) → Decides (family f) v (has (x ∷ []))
decision f v x lt least lone = record {
  first = λ u y z below one other.
      let under : u < length f = omega arith in
      lone u below y z (sym (family-at f u y under) ∙ one) (sym (family-at f u z under) ∙ other);
  value = x;
  there = family-at f v x lt ∙ least.there;
  least = λ y is. least.least y (sym (family-at f v y lt) ∙ is);
  kept = refl;
}

pub all_values : (sets : List (List ℕ)) → ((v : ℕ) → v < length sets → 0 < length (get_or sets v [])) → (v : ℕ) → HasValue (family sets v)
all_values sets some v = elim (cases_lt v (length sets)) [
  | inl lt ↦ (
    get_or (get_or sets v []) 0 0,
    family-at sets v (get_or (get_or sets v []) 0 0) lt ∙ has_at (get_or sets v []) 0 (get_or (get_or sets v []) 0 0) (some v lt) refl,
  )
  | inr past ↦ (0, family-past sets v 0 past)
]
