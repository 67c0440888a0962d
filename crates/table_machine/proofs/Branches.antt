-- Ascending lists of numbers that are one but for their last digits: how many there are, and how the next digit cuts them.
use Rattle.std.proofs.Common.{◌≡◌, ℕ, zero, suc, ◌+◌, ◌-◌, ◌*◌, ◌/◌, ◌%◌, ◌^◌, ◌<◌, ◌≤◌, ◌↔◌, ◌⊎◌, Bool, true, false, not, List, length, get_or, take, drop, sym, ap, ◌∙◌, subst, inl, inr, arith, Contains}
use Rattle.std.specs.List.{position_or_len}
use Rattle.std.specs.List.Sorted.{IsPartitionedBy}
use Rattle.std.proofs.lemmas.Bool.{cases_lt, cases_order, not-true, not_from_false, false_from_ne_true, both_ways}
use Rattle.std.proofs.lemmas.List.{get_or-take, get_or-drop, length-drop, length-take-le, get_or_default}
use Rattle.std.proofs.lemmas.List.Elements.{Contains-get_or}
use Rattle.std.proofs.lemmas.List.Sums.{fails_before_first, passes_at_first}
use Rattle.std.proofs.lemmas.Nat.{pow_pos, shr_split, mod_below, mod_low}
use Rattle.bit_layout.specs.Words.{digit}
use Rattle.table_machine.proofs.Numbers.{digit_up, still_alike, last_digits, digits_apart, worth}

pub record IsBranch (r : ℕ) (xs : List ℕ) : Type 0 where
  pub rises : (i j : ℕ) → i < j → j < length xs → get_or xs i 0 < get_or xs j 0
  pub alike : (i j : ℕ) → i < length xs → j < length xs → get_or xs i 0 / 2 ^ r ≡ get_or xs j 0 / 2 ^ r

-- one of the numbers has these last r digits
abbrev pub Ends : List ℕ → ℕ → ℕ → Type 0
Ends xs r m = (x : ℕ) × Contains xs x × (x % 2 ^ r ≡ m)

-- ---- counting

rises_by : (r : ℕ) (xs : List ℕ) → IsBranch r xs → (i d : ℕ) → i + d < length xs → get_or xs i 0 + d ≤ get_or xs (i + d) 0
rises_by r xs b i zero within = let e : i + 0 ≡ i = omega arith in let P : ℕ → Type 0 = λ j. get_or xs i 0 + 0 ≤ get_or xs j 0 in subst P (sym e) (omega arith)
rises_by r xs b i (suc d) within =
    let so_far : get_or xs i 0 + d ≤ get_or xs (i + d) 0 = rises_by r xs b i d (omega (arith, within)) in
    let step : get_or xs (i + d) 0 < get_or xs (i + suc d) 0 = b.rises (i + d) (i + suc d) (omega arith) within in
    omega (arith, so_far, step)

-- two of them are less than 2 ^ r apart
near : (r m n : ℕ) → m / 2 ^ r ≡ n / 2 ^ r → n < m / 2 ^ r * 2 ^ r + 2 ^ r
near r m n alike =
    let e : n / 2 ^ r * 2 ^ r + n % 2 ^ r ≡ n = shr_split n r in
    let low : n % 2 ^ r < 2 ^ r = mod_below n (2 ^ r) (pow_pos r) in
    let f : m / 2 ^ r * 2 ^ r ≡ n / 2 ^ r * 2 ^ r = ap (λ q. q * 2 ^ r) alike in
    omega (arith, e, low, f)

base : (r m : ℕ) → m / 2 ^ r * 2 ^ r ≤ m
base r m = let e : m / 2 ^ r * 2 ^ r + m % 2 ^ r ≡ m = shr_split m r in omega (arith, e)

-- there are at most 2 ^ r of them
pub branch_count : (r : ℕ) (xs : List ℕ) → IsBranch r xs → length xs ≤ 2 ^ r
branch_count r xs b =
    elim (cases_lt 0 (length xs)) [
      | inr none ↦ omega (arith, none)
      | inl some ↦
          let last : ℕ = length xs - 1 in
          let within : 0 + last < length xs = omega arith in
          let up : get_or xs 0 0 + last ≤ get_or xs (0 + last) 0 = rises_by r xs b 0 last within in
          let close : get_or xs (0 + last) 0 < get_or xs 0 0 / 2 ^ r * 2 ^ r + 2 ^ r = near r (get_or xs 0 0) (get_or xs (0 + last) 0) (b.alike 0 (0 + last) some within) in
          let low : get_or xs 0 0 / 2 ^ r * 2 ^ r ≤ get_or xs 0 0 = base r (get_or xs 0 0) in
          omega (arith, up, close, low, some)
    ]

-- where there are so many, each ending stands
pub branch_full : (r : ℕ) (xs : List ℕ) → IsBranch r xs → length xs ≡ 2 ^ r → (m : ℕ) → m < 2 ^ r → Ends xs r m
branch_full r xs b full m small =
    let within : m < length xs = omega (arith, full, small) in
    let first : ℕ = get_or xs 0 0 in
    let here : ℕ = get_or xs m 0 in
    let after : ℕ = length xs - 1 - m in
    let inside : m + after < length xs = omega arith in
    let start : 0 + m < length xs = omega arith in
    let up : get_or xs 0 0 + m ≤ get_or xs (0 + m) 0 = rises_by r xs b 0 m start in
    let zero_first : 0 + m ≡ m = omega arith in
    let from : first + m ≤ here = let P : ℕ → Type 0 = λ i. first + m ≤ get_or xs i 0 in subst P zero_first up in
    let on : here + after ≤ get_or xs (m + after) 0 = rises_by r xs b m after inside in
    let some : 0 < length xs = omega arith in
    let close : get_or xs (m + after) 0 < first / 2 ^ r * 2 ^ r + 2 ^ r = near r first (get_or xs (m + after) 0) (b.alike 0 (m + after) some inside) in
    let low : first / 2 ^ r * 2 ^ r ≤ first = base r first in
    let is : here ≡ first / 2 ^ r * 2 ^ r + m = omega (arith, from, on, close, low, full) in
    (here, Contains-get_or xs m 0 within, ap (λ n. n % 2 ^ r) is ∙ mod_low (first / 2 ^ r) r m small)

-- ---- cutting

abbrev pub point : ℕ → List ℕ → ℕ
point r xs = position_or_len (λ n. digit n r) xs

digits_rise : (r : ℕ) (xs : List ℕ) → IsBranch (suc r) xs → (i j : ℕ) → i ≤ j → j < length xs → digit (get_or xs i 0) r ≡ true → digit (get_or xs j 0) r ≡ true
digits_rise r xs b i j le within one =
    elim (cases_order i j) [
      | inl same ↦ let P : ℕ → Type 0 = λ k. digit (get_or xs k 0) r ≡ true in subst P same one
      | inr (inl less) ↦
          let up : get_or xs i 0 < get_or xs j 0 = b.rises i j less within in
          digit_up (get_or xs i 0) (get_or xs j 0) r (b.alike i j (omega (arith, less, within)) within) (omega (arith, up)) one
      | inr (inr more) ↦ absurd (omega (arith, le, more))
    ]

-- a search by halves finds the point
pub branch_parted : (r : ℕ) (xs : List ℕ) → IsBranch (suc r) xs → IsPartitionedBy (λ n. not (digit n r)) xs
branch_parted r xs b i j d le within at =
    let inside : i < length xs = omega (arith, le, within) in
    not_from_false (digit (get_or xs i d) r) (false_from_ne_true (digit (get_or xs i d) r) (λ one.
    let P : ℕ → Type 0 = λ n. digit n r ≡ true in
    let first : digit (get_or xs i 0) r ≡ true = subst P (get_or_default xs i d 0 inside) one in
    let second : digit (get_or xs j 0) r ≡ true = digits_rise r xs b i j le within first in
    let third : digit (get_or xs j d) r ≡ true = subst P (get_or_default xs j 0 d within) second in
    both_ways (digit (get_or xs j d) r) (not-true (digit (get_or xs j d) r) at) third))

pub before_point : (r : ℕ) (xs : List ℕ) (i : ℕ) → i < point r xs → digit (get_or xs i 0) r ≡ false
before_point r xs i h = fails_before_first (λ n. digit n r) xs i 0 h

pub from_point : (r : ℕ) (xs : List ℕ) → IsBranch (suc r) xs → (i : ℕ) → point r xs ≤ i → i < length xs → digit (get_or xs i 0) r ≡ true
from_point r xs b i h within =
    digits_rise r xs b (point r xs) i h within (passes_at_first (λ n. digit n r) xs 0 (omega (arith, h, within)))

-- the part on this side of the point
abbrev pub side : ℕ → List ℕ → Bool → List ℕ
side r xs true = drop (point r xs) xs
side r xs false = take (point r xs) xs

pub side_branch : (r : ℕ) (xs : List ℕ) (v : Bool) → point r xs ≤ length xs → IsBranch (suc r) xs → IsBranch r (side r xs v)
side_branch r xs true short b =
    let k : ℕ = point r xs in
    let long : length (drop k xs) ≡ length xs - k = length-drop k xs in
    let at : (i : ℕ) → get_or (drop k xs) i 0 ≡ get_or xs (k + i) 0 = λ i. get_or-drop k xs i 0 in
    record {
      rises = λ i j less within.
          let up : get_or xs (k + i) 0 < get_or xs (k + j) 0 = b.rises (k + i) (k + j) (omega (arith, less)) (omega (arith, long, within)) in
          omega (arith, up, at i, at j);
      alike = λ i j p q.
          let inside : k + i < length xs = omega (arith, long, p) in
          let also : k + j < length xs = omega (arith, long, q) in
          ap (λ n. n / 2 ^ r) (at i) ∙ still_alike (get_or xs (k + i) 0) (get_or xs (k + j) 0) r true (b.alike (k + i) (k + j) inside also)
          (from_point r xs b (k + i) (omega arith) inside) (from_point r xs b (k + j) (omega arith) also) ∙ ap (λ n. n / 2 ^ r) (sym (at j));
    }
side_branch r xs false short b =
    let k : ℕ = point r xs in
    let long : length (take k xs) ≡ k = length-take-le k xs short in
    let at : (i : ℕ) → i < k → get_or (take k xs) i 0 ≡ get_or xs i 0 = λ i h. get_or-take k xs i 0 h in
    record {
      rises = λ i j less within.
          let second : j < k = omega (arith, long, within) in
          let first : i < k = omega (arith, less, second) in
          let up : get_or xs i 0 < get_or xs j 0 = b.rises i j less (omega (arith, second, short)) in
          omega (arith, up, at i first, at j second);
      alike = λ i j p q.
          let first : i < k = omega (arith, long, p) in
          let second : j < k = omega (arith, long, q) in
          ap (λ n. n / 2 ^ r) (at i first) ∙ still_alike (get_or xs i 0) (get_or xs j 0) r false (b.alike i j (omega (arith, first, short)) (omega (arith, second, short)))
          (before_point r xs i first) (before_point r xs j second) ∙ ap (λ n. n / 2 ^ r) (sym (at j second));
    }

-- what is on this side of the point, and what of it has this digit
pub in_side : (r : ℕ) (xs : List ℕ) (v : Bool) (x : ℕ) → point r xs ≤ length xs → IsBranch (suc r) xs → Contains (side r xs v) x → Contains xs x × (digit x r ≡ v)
in_side r xs true x short b h =
    let k : ℕ = point r xs in
    let long : length (drop k xs) ≡ length xs - k = length-drop k xs in
    let i : ℕ = h.0 in
    let there : i < length (drop k xs) = h.1 in
    let inside : k + i < length xs = omega (arith, long, there) in
    let is : get_or xs (k + i) 0 ≡ x = sym (get_or-drop k xs i 0) ∙ get_or_default (drop k xs) i 0 x there ∙ h.2 in
    let P : ℕ → Type 0 = λ n. Contains xs n × (digit n r ≡ true) in
    subst P is (Contains-get_or xs (k + i) 0 inside, from_point r xs b (k + i) (omega arith) inside)
in_side r xs false x short b h =
    let k : ℕ = point r xs in
    let long : length (take k xs) ≡ k = length-take-le k xs short in
    let i : ℕ = h.0 in
    let there : i < length (take k xs) = h.1 in
    let inside : i < k = omega (arith, long, there) in
    let is : get_or xs i 0 ≡ x = sym (get_or-take k xs i 0 inside) ∙ get_or_default (take k xs) i 0 x there ∙ h.2 in
    let P : ℕ → Type 0 = λ n. Contains xs n × (digit n r ≡ false) in
    subst P is (Contains-get_or xs i 0 (omega (arith, inside, short)), before_point r xs i inside)

pub is_in_side : (r : ℕ) (xs : List ℕ) (v : Bool) (x : ℕ) → point r xs ≤ length xs → IsBranch (suc r) xs → Contains xs x → digit x r ≡ v → Contains (side r xs v) x
is_in_side r xs v x short b h is =
    let i : ℕ = h.0 in
    let within : i < length xs = h.1 in
    let at : get_or xs i 0 ≡ x = get_or_default xs i 0 x within ∙ h.2 in
    let here : digit (get_or xs i 0) r ≡ v = ap (λ n. digit n r) at ∙ is in
    by_place v i within at here (cases_lt i (point r xs))
  where
    by_place : (v : Bool) (i : ℕ) → i < length xs → get_or xs i 0 ≡ x → digit (get_or xs i 0) r ≡ v → (i < point r xs) ⊎ (point r xs ≤ i) → Contains (side r xs v) x
    by_place true i within at here (inl before) = absurd (both_ways (digit (get_or xs i 0) r) (before_point r xs i before) here)
    by_place false i within at here (inr after) = absurd (both_ways (digit (get_or xs i 0) r) here (from_point r xs b i after within))
    by_place false i within at here (inl before) =
        let k : ℕ = point r xs in
        let long : length (take k xs) ≡ k = length-take-le k xs short in
        (i, omega (arith, long, before), get_or-take k xs i x before ∙ get_or_default xs i x 0 within ∙ at)
    by_place true i within at here (inr after) =
        let k : ℕ = point r xs in
        let long : length (drop k xs) ≡ length xs - k = length-drop k xs in
        let place : k + (i - k) ≡ i = omega (arith, after) in
        (i - k, omega (arith, long, within, after), get_or-drop k xs (i - k) x ∙ ap (λ j. get_or xs j x) place ∙ get_or_default xs i x 0 within ∙ at)

-- endings of a side are endings of the whole, behind the digit
pub side_ends : (r : ℕ) (xs : List ℕ) (v : Bool) (m : ℕ) → point r xs ≤ length xs → IsBranch (suc r) xs → m < 2 ^ r → Ends (side r xs v) r m ↔ Ends xs (suc r) (worth r v + m)
side_ends r xs v m short b small = (
  λ h. let there = in_side r xs v h.0 short b h.1 in (h.0, there.0, last_digits h.0 r v there.1 ∙ ap (λ n. worth r v + n) h.2),
  λ h. let told = digits_apart h.0 r v m small h.2 in (h.0, is_in_side r xs v h.0 short b h.1 told.0, told.1),
)
