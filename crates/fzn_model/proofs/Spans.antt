-- How far the integers of a range reach, and which of them are large.
use Rattle.std.proofs.Common.{◌≡◌, ◌⊎◌, ◌↔◌, ℕ, zero, suc, ◌+◌, ◌-◌, ◌<◌, ◌≤◌, Bool, true, false, cond, IsTrue, List, [], ◌∷◌, length, get_or, ℤ, pos, negsuc, ◌+ℤ◌, ◌-ℤ◌, Some, refl, sym, ap, ◌∙◌, subst, inl, inr, arith, add-one, Any}
use Rattle.std.specs.Prelude.{◌<ℤ◌, ◌≤ℤ◌, int_lt, unsigned_abs, slice_get, unwrap_or}
use Rattle.std.proofs.lemmas.Int.{ints}
use Rattle.std.proofs.lemmas.Option.{get_or_from_slice_get}
use Rattle.set_meaning.specs.Sets.{integers_from, integers_between, count_between}
use Rattle.bit_layout.specs.Words.{distance, greatest, span}
use Rattle.fzn_model.specs.Extents.{IsExtent}
use Rattle.fzn_model.specs.FaultsOf.{IsLargeElement}
use Rattle.fzn_model.proofs.Ranges.{length-integers_from}

-- ---- spans

last_of_range : (x : ℤ) (m : ℕ) → slice_get (integers_from x (suc m)) m ≡ Some (x +ℤ pos m)
last_of_range x zero = let e : x ≡ x +ℤ pos 0 = omega (arith, ints) in ap Some e
last_of_range x (suc m) =
    let e : (x +ℤ pos 1) +ℤ pos m ≡ x +ℤ pos (suc m) = omega (arith, ints) in
    last_of_range (x +ℤ pos 1) m ∙ ap Some e

greatest_of_range : (x : ℤ) (m : ℕ) → greatest (integers_from x (suc m)) ≡ x +ℤ pos m
greatest_of_range x m =
    let whole : length (integers_from x (suc m)) ≡ suc m = length-integers_from x (suc m) in
    let len : length (integers_from x (suc m)) - 1 ≡ m = omega arith in
    ap (λ i. unwrap_or (slice_get (integers_from x (suc m)) i) (pos 0)) len ∙ ap (λ o. unwrap_or o (pos 0)) (last_of_range x m)

span_of_range : (x : ℤ) (m : ℕ) → span (integers_from x (suc m)) ≡ m
span_of_range x m =
    let e : (x +ℤ pos m) -ℤ x ≡ pos m = omega (arith, ints) in
    ap (distance x) (greatest_of_range x m) ∙ ap unsigned_abs e

-- ---- large elements

any_cases : {X : Type 0} (P : X → Type 0) (x : X) (xs : List X) (k : ℕ) (y : X) → k < length (x ∷ xs) → get_or (x ∷ xs) k y ≡ y → P y → P x ⊎ Any P xs
any_cases P x xs zero y within at h = inl (subst P (sym at) h)
any_cases P x xs (suc k) y within at h = inr (k, y, omega arith, at, h)

pub Any-cases : {X : Type 0} (P : X → Type 0) (x : X) (xs : List X) → Any P (x ∷ xs) → P x ⊎ Any P xs
Any-cases P x xs h = any_cases P x xs h.0 h.1 h.2 h.3 h.4

pub Any-none : {X : Type 0} (P : X → Type 0) → Any P [] → ⊥
Any-none P h = let none : h.0 < 0 = h.2 in omega arith

-- an integer between two ends that is large
record LargeBetween (lo hi : ℤ) : Type 0 where
  at : ℤ
  above : lo ≤ℤ at
  below : at ≤ℤ hi
  large : IsLargeElement at

large_between : (x : ℤ) (n : ℕ) (hi : ℤ) → (x +ℤ pos n) ≡ (hi +ℤ pos 1) → Any IsLargeElement (integers_from x n) → LargeBetween x hi
large_between x zero hi e h = absurd (Any-none IsLargeElement h)
large_between x (suc n) hi e h =
    elim (Any-cases IsLargeElement x (integers_from (x +ℤ pos 1) n) h) [
      | inl here ↦ record { at = x; above = omega (arith, ints); below = omega (arith, ints); large = here }
      | inr later ↦
          let b = large_between (x +ℤ pos 1) n hi (omega (arith, ints)) later in
          record { at = b.at; above = omega (arith, ints, b.above); below = b.below; large = b.large }
    ]

above_large : (n : ℕ) (hi : ℤ) → pos n ≤ℤ hi → 1000000 < n → IsLargeElement hi
above_large n (pos b) q h = omega (arith, ints)
above_large n (negsuc b) q h = absurd (omega (arith, ints))

below_large : (n : ℕ) (lo : ℤ) → lo ≤ℤ negsuc n → 1000000 < suc n → IsLargeElement lo
below_large n (pos b) q h = absurd (omega (arith, ints))
below_large n (negsuc b) q h = omega (arith, ints)

some_end : (lo hi z : ℤ) → lo ≤ℤ z → z ≤ℤ hi → IsLargeElement z → IsLargeElement lo ⊎ IsLargeElement hi
some_end lo hi (pos n) p q h = inr (above_large n hi q h)
some_end lo hi (negsuc n) p q h = inl (below_large n lo p h)

-- ---- the extent of a range

pub empty_range : (lo hi : ℤ) → hi <ℤ lo → integers_between lo hi ≡ []
empty_range lo hi h = let e : int_lt hi lo ≡ true = grind (arith, ints) in ap (λ b. integers_from lo (cond b 0 (unsigned_abs (hi -ℤ lo) + 1))) e

empty_extent : IsExtent [] (record { count = 0; span = 0; has_large = false })
empty_extent = record { counted = refl; spanned = refl; large = (λ h. absurd (cc), λ h. absurd (Any-none IsLargeElement h)) }

pub no_extent : (lo hi : ℤ) → hi <ℤ lo → IsExtent (integers_between lo hi) (record { count = 0; span = 0; has_large = false })
no_extent lo hi h = let P : List ℤ → Type 0 = λ xs. IsExtent xs (record { count = 0; span = 0; has_large = false }) in subst P (sym (empty_range lo hi h)) empty_extent

pos-unsigned_abs : (z : ℤ) → pos 0 ≤ℤ z → pos (unsigned_abs z) ≡ z
pos-unsigned_abs (pos n) h = refl
pos-unsigned_abs (negsuc n) h = absurd (omega (arith, ints))

count_up : (lo hi : ℤ) → lo ≤ℤ hi → count_between lo hi ≡ suc (unsigned_abs (hi -ℤ lo))
count_up lo hi h =
    let e : int_lt hi lo ≡ false = grind (arith, ints) in
    ap (λ b. cond b 0 (unsigned_abs (hi -ℤ lo) + 1)) e ∙ add-one (unsigned_abs (hi -ℤ lo))

-- the range of suc m integers from lo on, whose last is hi
extent_from : (lo hi : ℤ) (m : ℕ) (b : Bool) → (lo +ℤ pos m) ≡ hi → IsTrue b ↔ (IsLargeElement lo ⊎ IsLargeElement hi)
    → IsExtent (integers_from lo (suc m)) (record { count = suc m; span = m; has_large = b })
extent_from lo hi m b e l =
    let xs : List ℤ = integers_from lo (suc m) in
    let whole : length xs ≡ suc m = length-integers_from lo (suc m) in
    let last : get_or xs m hi ≡ hi = get_or_from_slice_get xs m hi hi (last_of_range lo m ∙ ap Some e) in
    record {
      counted = sym whole;
      spanned = sym (span_of_range lo m);
      large = (
        λ t. elim (l.0 t) [
          | inl low ↦ (0, lo, omega arith, refl, low)
          | inr high ↦ (m, hi, omega arith, last, high)
        ],
        λ h.
            let w = large_between lo (suc m) hi (omega (arith, ints)) h in
            l.1 (some_end lo hi w.at w.above w.below w.large),
      );
    }

pub range_extent : (lo hi : ℤ) (b : Bool) → lo ≤ℤ hi → IsTrue b ↔ (IsLargeElement lo ⊎ IsLargeElement hi)
    → IsExtent (integers_between lo hi) (record { count = count_between lo hi; span = unsigned_abs (hi -ℤ lo); has_large = b })
range_extent lo hi b h l =
    let m : ℕ = unsigned_abs (hi -ℤ lo) in
    let abs : pos m ≡ hi -ℤ lo = pos-unsigned_abs (hi -ℤ lo) (omega (arith, ints)) in
    let end : (lo +ℤ pos m) ≡ hi = omega (arith, ints) in
    let P : ℕ → Type 0 = λ n. IsExtent (integers_from lo n) (record { count = n; span = m; has_large = b }) in
    subst P (sym (count_up lo hi h)) (extent_from lo hi m b end l)
