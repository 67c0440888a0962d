-- How many of some ascending numbers lie between two bounds.
use Rattle.std.proofs.Common.{◌≡◌, ◌⊎◌, ℕ, zero, suc, ◌+◌, ◌-◌, ◌<◌, ◌≤◌, ◌==◌, nat_lt, Bool, true, false, cond, ◌||◌, List, [], ◌∷◌, length, get_or, refl, sym, ap, ◌∙◌, subst, inl, inr, arith}
use Rattle.std.specs.List.{list_any}
use Rattle.std.specs.List.Sorted.{IsPartitionPoint, IsNonDecreasing, IsNonDecreasingBy}
use Rattle.std.proofs.lemmas.Bool.{cases_lt, cases_order, ltb-true, ltb-false, lt-ltb, ne_eqb, eq-eqb, eqb-true}
use Rattle.std.proofs.lemmas.Bool.Decides.{nat_tests}
use Rattle.std.proofs.lemmas.List.Sorted.{IsNonDecreasingBy-from_default}
use Rattle.sweep_values.specs.Domains.{below, IsBelowAll, Rises}

-- whether the number is listed
abbrev pub has : List ℕ → ℕ → Bool
has xs k = list_any (λ y. y == k) xs

abbrev bit : Bool → ℕ
bit v = cond v 1 0

-- ---- one bound more

first_part : (x k : ℕ) → cond (nat_lt x (k + 1)) 1 0 ≡ cond (nat_lt x k) 1 0 + cond (x == k) 1 0
first_part x k = elim (cases_order x k) [
  | inl e ↦ ap (λ v. cond v 1 0) (less_true x (k + 1) (omega (arith, e))) ∙ sym (add (ap (λ v. cond v 1 0) (less_false x k (omega (arith, e)))) (ap (λ v. cond v 1 0) (eq-eqb x k e)))
  | inr (inl less) ↦ ap (λ v. cond v 1 0) (less_true x (k + 1) (omega (arith, less))) ∙ sym (add (ap (λ v. cond v 1 0) (less_true x k less)) (ap (λ v. cond v 1 0) (ne_eqb x k (λ e. omega (arith, less, e)))))
  | inr (inr more) ↦ ap (λ v. cond v 1 0) (less_false x (k + 1) (omega (arith, more))) ∙ sym (add (ap (λ v. cond v 1 0) (less_false x k (omega (arith, more)))) (ap (λ v. cond v 1 0) (ne_eqb x k (λ e. omega (arith, more, e)))))
]
  where
    less_true : (m n : ℕ) → m < n → nat_lt m n ≡ true
    less_true m n h = lt-ltb m n h

    less_false : (m n : ℕ) → n ≤ m → nat_lt m n ≡ false
    less_false m n h = grind (arith, nat_tests)

    add : {a b c d : ℕ} → a ≡ c → b ≡ d → a + b ≡ c + d
    add p q = λ i. p i + q i

-- what is above all is not listed
none_listed : (x : ℕ) (ys : List ℕ) → IsBelowAll x ys → has ys x ≡ false
none_listed x [] h = refl
none_listed x (y ∷ ys) h =
    let less : x < y = ltb-true x y h.0 in
    ap (λ v. v || has ys x) (ne_eqb y x (λ e. omega (arith, less, e))) ∙ none_listed x ys h.1

one_more : (xs : List ℕ) (k : ℕ) → Rises xs → below xs (k + 1) ≡ below xs k + cond (has xs k) 1 0
one_more [] k up = refl
one_more (x ∷ xs) k up =
    let rest = one_more xs k up.1 in
    let first = first_part x k in
    by (x == k) refl rest first
  where
    by : (v : Bool) → (x == k) ≡ v → below xs (k + 1) ≡ below xs k + cond (has xs k) 1 0 → cond (nat_lt x (k + 1)) 1 0 ≡ cond (nat_lt x k) 1 0 + cond (x == k) 1 0
        → cond (nat_lt x (k + 1)) 1 0 + below xs (k + 1) ≡ cond (nat_lt x k) 1 0 + below xs k + cond ((x == k) || has xs k) 1 0
    by true e rest first =
        let is : x ≡ k = eqb-true x k e in
        let none : has xs k ≡ false = subst (λ n. has xs n ≡ false) is (none_listed x xs up.0) in
        let r : below xs (k + 1) ≡ below xs k + 0 = rest ∙ ap (λ v. below xs k + cond v 1 0) none in
        let f : bit (nat_lt x (k + 1)) ≡ bit (nat_lt x k) + 1 = first ∙ ap (λ v. cond (nat_lt x k) 1 0 + cond v 1 0) e in
        let g : bit ((x == k) || has xs k) ≡ 1 = ap (λ v. cond (v || has xs k) 1 0) e in
        omega (arith, r, f, g)
    by false e rest first =
        let f : bit (nat_lt x (k + 1)) ≡ bit (nat_lt x k) + 0 = first ∙ ap (λ v. cond (nat_lt x k) 1 0 + cond v 1 0) e in
        let g : bit ((x == k) || has xs k) ≡ bit (has xs k) = ap (λ v. cond (v || has xs k) 1 0) e in
        omega (arith, rest, f, g)

-- ---- many bounds

abbrev hits : List ℕ → ℕ → ℕ → ℕ
hits xs first zero = 0
hits xs first (suc count) = bit (has xs first) + hits xs (first + 1) count

between : (xs : List ℕ) (first count : ℕ) → Rises xs → below xs (first + count) ≡ below xs first + hits xs first count
between xs first zero up = ap (below xs) (omega arith) ∙ zero_more (below xs first)
  where
    zero_more : (n : ℕ) → n ≡ n + 0
    zero_more n = omega arith
between xs first (suc count) up =
    let rest = between xs (first + 1) count up in
    let one = one_more xs first up in
    let e : below xs (first + suc count) ≡ below xs (first + 1 + count) = ap (below xs) (omega arith) in
    omega (arith, rest, one, e)

hits_few : (xs : List ℕ) (first count : ℕ) → hits xs first count ≤ count
hits_few xs first zero = omega arith
hits_few xs first (suc count) =
    let rest = hits_few xs (first + 1) count in
    elim (has xs first) as (λ v. bit v + hits xs (first + 1) count ≤ suc count) [ true ↦ omega (arith, rest) | false ↦ omega (arith, rest) ]

first_of : (xs : List ℕ) (first count : ℕ) (v : Bool) → bit v + hits xs (first + 1) count ≡ suc count → (v ≡ true) × (hits xs (first + 1) count ≡ count)
first_of xs first count true e = (refl, omega (arith, e))
first_of xs first count false e = let few = hits_few xs (first + 1) count in absurd (omega (arith, e, few))

none_of : (xs : List ℕ) (first count : ℕ) (v : Bool) → bit v + hits xs (first + 1) count ≡ 0 → (v ≡ false) × (hits xs (first + 1) count ≡ 0)
none_of xs first count true e = absurd (omega (arith, e))
none_of xs first count false e = (refl, omega (arith, e))

here_is : (xs : List ℕ) (first : ℕ) → has xs (first + 0) ≡ has xs first
here_is xs first = let e : first + 0 ≡ first = omega arith in ap (has xs) e

next_is : (xs : List ℕ) (first k : ℕ) → has xs (first + suc k) ≡ has xs (first + 1 + k)
next_is xs first k = let e : first + suc k ≡ first + 1 + k = omega arith in ap (has xs) e

all_hit : (xs : List ℕ) (first count k : ℕ) → hits xs first count ≡ count → k < count → has xs (first + k) ≡ true
all_hit xs first zero k all within = absurd (omega (arith, within))
all_hit xs first (suc count) zero all within = here_is xs first ∙ (first_of xs first count (has xs first) all).0
all_hit xs first (suc count) (suc k) all within = next_is xs first k ∙ all_hit xs (first + 1) count k (first_of xs first count (has xs first) all).1 (omega (arith, within))

none_hit : (xs : List ℕ) (first count k : ℕ) → hits xs first count ≡ 0 → k < count → has xs (first + k) ≡ false
none_hit xs first zero k all within = absurd (omega (arith, within))
none_hit xs first (suc count) zero all within = here_is xs first ∙ (none_of xs first count (has xs first) all).0
none_hit xs first (suc count) (suc k) all within = next_is xs first k ∙ none_hit xs (first + 1) count k (none_of xs first count (has xs first) all).1 (omega (arith, within))

-- how many lie between, and what follows where all do, or none does
pub record Counts (xs : List ℕ) (first count n : ℕ) : Type 0 where
  pub few : n ≤ count
  pub all : n ≡ count → (k : ℕ) → k < count → has xs (first + k) ≡ true
  pub none : n ≡ 0 → (k : ℕ) → k < count → has xs (first + k) ≡ false

pub counts : (xs : List ℕ) (first count : ℕ) → Rises xs → Counts xs first count (below xs (first + count) - below xs first)
counts xs first count up =
    let e = between xs first count up in
    let n : below xs (first + count) - below xs first ≡ hits xs first count = omega (arith, e) in
    let few = hits_few xs first count in
    record {
      few = omega (arith, n, few);
      all = λ h k within. all_hit xs first count k (sym n ∙ h) within;
      none = λ h k within. none_hit xs first count k (sym n ∙ h) within;
    }

-- ---- the count by binary search

at_front : (x : ℕ) (ys : List ℕ) (j : ℕ) → IsBelowAll x ys → j < length ys → x ≤ get_or ys j 0
at_front x [] j h within = absurd (omega (arith, within))
at_front x (y ∷ ys) zero h within = let less : x < y = ltb-true x y h.0 in omega (arith, less)
at_front x (y ∷ ys) (suc j) h within = at_front x ys j h.1 (omega (arith, within))

rises_at : (xs : List ℕ) (i j : ℕ) → Rises xs → i ≤ j → j < length xs → get_or xs i 0 ≤ get_or xs j 0
rises_at [] i j up order within = absurd (omega (arith, within))
rises_at (x ∷ xs) zero zero up order within = omega arith
rises_at (x ∷ xs) zero (suc j) up order within = at_front x xs j up.0 (omega (arith, within))
rises_at (x ∷ xs) (suc i) zero up order within = absurd (omega (arith, order))
rises_at (x ∷ xs) (suc i) (suc j) up order within = rises_at xs i j up.1 (omega (arith, order)) (omega (arith, within))

pub not_falling : (xs : List ℕ) → Rises xs → IsNonDecreasingBy (λ x. x) xs
not_falling xs up = IsNonDecreasingBy-from_default (λ x. x) xs 0 (λ i j. rises_at xs i j up)

pub below_point : (xs : List ℕ) (k i : ℕ) → i ≤ length xs → IsPartitionPoint (λ y. nat_lt y k ≡ true) (λ y. nat_lt y k ≡ false) xs i → below xs k ≡ i
below_point [] k zero within h = refl
below_point [] k (suc i) within h = absurd (omega (arith, within))
below_point (x ∷ xs) k zero within h =
    let first : bit (nat_lt x k) ≡ 0 = ap (λ v. cond v 1 0) (h.1 0 0 (omega arith) (omega arith)) in
    let rest = below_point xs k zero (omega arith) ((λ j d low high. absurd (omega (arith, high))), (λ j d low high. h.1 (suc j) d (omega arith) (omega (arith, high)))) in
    omega (arith, first, rest)
below_point (x ∷ xs) k (suc i) within h =
    let first : bit (nat_lt x k) ≡ 1 = ap (λ v. cond v 1 0) (h.0 0 0 (omega arith) (omega arith)) in
    let rest = below_point xs k i (omega (arith, within)) ((λ j d low high. h.0 (suc j) d (omega arith) (omega (arith, high))), (λ j d low high. h.1 (suc j) d (omega (arith, low)) (omega (arith, high)))) in
    omega (arith, first, rest)
