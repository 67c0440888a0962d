-- Weights of bits, added up.
use Rattle.std.proofs.Common.{◌≡◌, ℕ, zero, suc, ◌+◌, ◌<◌, ◌≤◌, Bool, true, false, cond, ℤ, pos, negsuc, ◌+ℤ◌, ◌*ℤ◌, unsigned_abs, List, [], ◌∷◌, sum_by, drop, length, set, get_or, Contains, Ok, Err, refl, ap, sym, ◌∙◌, subst, inl, inr, arith}
use Rattle.std.specs.List.Sorted.{IsStrictlyIncreasing, IsBinarySearchResult}
use Rattle.std.specs.Ordering.{nat_cmp}
use Rattle.std.proofs.lemmas.Int.{ints}
use Rattle.std.proofs.lemmas.Bool.{cases_order}
use Rattle.std.proofs.lemmas.List.Sums.{sum_by-cons, sum_by-set}
use Rattle.std.proofs.lemmas.List.Sorted.{searched}
use Rattle.diagram_arena.specs.Table.{Word}
use Rattle.set_meaning.specs.declared.kinds.Kind.{Kind}
use Rattle.linear_machine.specs.Sums.{sum_of_true}
use Rattle.linear_terms.specs.Weights.{worth, weigh}

-- ---- a bit and its place

pub rising : (xs : List ℕ) → IsStrictlyIncreasing xs → (i j : ℕ) → i ≤ j → j < length xs → get_or xs i 0 ≤ get_or xs j 0
rising xs up i zero low high = let e : i ≡ 0 = omega (arith, low) in let P : ℕ → Type 0 = λ k. get_or xs k 0 ≤ get_or xs 0 0 in subst P (sym e) (omega arith)
rising xs up i (suc j) low high =
    elim (cases_order i (suc j)) [
      | inl same ↦ let P : ℕ → Type 0 = λ k. get_or xs k 0 ≤ get_or xs (suc j) 0 in subst P (sym same) (omega arith)
      | inr (inl less) ↦
          let before = rising xs up i j (omega (arith, less)) (omega (arith, high)) in
          let e : j + 1 ≡ suc j = omega arith in
          let step : get_or xs j 0 < get_or xs (j + 1) 0 = up j (omega (arith, high)) in
          let P : ℕ → Type 0 = λ k. get_or xs j 0 < get_or xs k 0 in
          let next = subst P e step in
          omega (arith, before, next)
      | inr (inr more) ↦ absurd (omega (arith, low, more))
    ]

default : (xs : List ℕ) (i d : ℕ) → i < length xs → get_or xs i 0 ≡ get_or xs i d
default [] i d within = absurd (omega (arith, within))
default (x ∷ xs) zero d within = refl
default (x ∷ xs) (suc i) d within = default xs i d (omega (arith, within))

pub bit_is_found : (xs : List ℕ) (x i : ℕ) → IsStrictlyIncreasing xs → IsBinarySearchResult (λ y. nat_cmp y x) xs (Ok i) → (i < length xs) × (get_or xs i 0 ≡ x)
bit_is_found xs x i up found = searched xs x (Ok i) found (rising xs up)

pub bit_is_there : (xs : List ℕ) (x i : ℕ) → IsStrictlyIncreasing xs → IsBinarySearchResult (λ y. nat_cmp y x) xs (Err i) → Contains xs x → ⊥
bit_is_there xs x i up found h =
    let s = searched xs x (Err i) found (rising xs up) in
    let k : ℕ = h.0 in
    let within : k < length xs = h.1 in
    let here : get_or xs k 0 ≡ x = default xs k x within ∙ h.2 in
    elim (cases_order k i) [
      | inl same ↦ let above = s.2 k (omega (arith, same)) within in omega (arith, above, here)
      | inr (inl less) ↦ let below = s.1 k less in omega (arith, below, here)
      | inr (inr more) ↦ let above = s.2 k (omega (arith, more)) within in omega (arith, above, here)
    ]

-- ---- one weight changed

pub abs_add : (m n : ℤ) → unsigned_abs (m +ℤ n) ≤ unsigned_abs m + unsigned_abs n
abs_add m n = grind (arith, ints)

pub size_of_one : (xs : List ℤ) (k : ℕ) → unsigned_abs (get_or xs k (pos 0)) ≤ sum_by unsigned_abs xs
size_of_one [] k = omega arith
size_of_one (x ∷ xs) zero = let e = sum_by-cons unsigned_abs x xs in omega arith
size_of_one (x ∷ xs) (suc k) = let e = sum_by-cons unsigned_abs x xs in let h = size_of_one xs k in omega arith

pub size_of_set : (xs : List ℤ) (k : ℕ) (amount : ℤ) → k < length xs → sum_by unsigned_abs (set xs k (get_or xs k (pos 0) +ℤ amount)) ≤ sum_by unsigned_abs xs + unsigned_abs amount
size_of_set xs k amount within =
    let e = sum_by-set unsigned_abs xs k (get_or xs k (pos 0) +ℤ amount) (pos 0) within in
    let a = abs_add (get_or xs k (pos 0)) amount in
    omega arith

pub sum_of_set : (bits : List ℕ) (xs : List ℤ) (k bit : ℕ) (amount : ℤ) (w : Word) → length xs ≡ length bits → k < length bits → get_or bits k 0 ≡ bit
    → sum_of_true bits (set xs k (get_or xs k (pos 0) +ℤ amount)) w ≡ sum_of_true bits xs w +ℤ cond (w bit) amount (pos 0)
sum_of_set [] xs k bit amount w long within here = absurd (omega (arith, within))
sum_of_set (b ∷ bs) [] k bit amount w long within here = absurd (omega (arith, long))
sum_of_set (b ∷ bs) (x ∷ xs) zero bit amount w long within here =
    let P : ℕ → Type 0 = λ c. (cond (w b) (x +ℤ amount) (pos 0) +ℤ sum_of_true bs xs w) ≡ (cond (w b) x (pos 0) +ℤ sum_of_true bs xs w) +ℤ cond (w c) amount (pos 0) in
    subst P here (both (w b) x amount (sum_of_true bs xs w))
  where
    both : (v : Bool) (x amount rest : ℤ) → cond v (x +ℤ amount) (pos 0) +ℤ rest ≡ (cond v x (pos 0) +ℤ rest) +ℤ cond v amount (pos 0)
    both true x amount rest = omega (arith, ints)
    both false x amount rest = omega (arith, ints)
sum_of_set (b ∷ bs) (x ∷ xs) (suc k) bit amount w long within here =
    let h = sum_of_set bs xs k bit amount w (omega (arith, long)) (omega (arith, within)) here in
    omega (arith, ints, h)

-- ---- no weights

pub no_sizes : (bits : List ℕ) (xs : List ℤ) (w : Word) → sum_by unsigned_abs xs ≡ 0 → sum_of_true bits xs w ≡ pos 0
no_sizes [] xs w none = refl
no_sizes (b ∷ bs) [] w none = refl
no_sizes (b ∷ bs) (x ∷ xs) w none =
    let e = sum_by-cons unsigned_abs x xs in
    let h = no_sizes bs xs w (omega (arith, e, none)) in
    let is : x ≡ pos 0 = zero_size x (omega (arith, e, none)) in
    ap (λ y. cond (w b) y (pos 0) +ℤ sum_of_true bs xs w) is ∙ either (w b) (sum_of_true bs xs w) ∙ h
  where
    zero_size : (x : ℤ) → unsigned_abs x ≡ 0 → x ≡ pos 0
    zero_size (pos n) h = ap pos h
    zero_size (negsuc n) h = absurd (omega (arith, h))

    either : (v : Bool) (rest : ℤ) → cond v (pos 0) (pos 0) +ℤ rest ≡ rest
    either true rest = omega (arith, ints)
    either false rest = omega (arith, ints)

-- ---- the bits of one variable

pub weigh_turn : (k : Kind) (own : List ℕ) (i behind : ℕ) (w : Word) → i < length own → behind + i + 1 ≡ length own
    → weigh k (drop i own) w ≡ cond (w (get_or own i 0)) (worth k behind) 0 + weigh k (drop (i + 1) own) w
weigh_turn k [] i behind w within all = absurd (omega (arith, within))
weigh_turn k (b ∷ bs) zero behind w within all =
    let e : length bs ≡ behind = omega (arith, all) in
    ap (λ n. cond (w b) (worth k n) 0 + weigh k bs w) e
weigh_turn k (b ∷ bs) (suc i) behind w within all =
    let e : suc (i + 1) ≡ suc i + 1 = omega arith in
    weigh_turn k bs i behind w (omega (arith, within)) (omega (arith, all)) ∙ ap (λ n. cond (w (get_or bs i 0)) (worth k behind) 0 + weigh k (drop n (b ∷ bs)) w) e

times_plus : (c : ℤ) (m n : ℕ) → c *ℤ pos (m + n) ≡ (c *ℤ pos m) +ℤ (c *ℤ pos n)
times_plus c m n = omega (arith, ints)

-- what one bit adds
pub bit_turn : (v : Bool) (coefficient amount : ℤ) (worth here rest : ℕ) (before after whole : ℤ) → here ≡ cond v worth 0 + rest → amount ≡ coefficient *ℤ pos worth → after ≡ before +ℤ cond v amount (pos 0)
    → (before +ℤ (coefficient *ℤ pos here)) ≡ whole → (after +ℤ (coefficient *ℤ pos rest)) ≡ whole
bit_turn true coefficient amount worth here rest before after whole split is more so_far =
    let d : coefficient *ℤ pos here ≡ (coefficient *ℤ pos worth) +ℤ (coefficient *ℤ pos rest) = ap (λ n. coefficient *ℤ pos n) split ∙ times_plus coefficient worth rest in
    omega (arith, ints)
bit_turn false coefficient amount worth here rest before after whole split is more so_far =
    let e : here ≡ rest = omega (arith, split) in
    let d : coefficient *ℤ pos here ≡ coefficient *ℤ pos rest = ap (λ n. coefficient *ℤ pos n) e in
    omega (arith, ints)

pub weigh_none : (k : Kind) (own : List ℕ) (i : ℕ) (w : Word) → length own ≤ i → weigh k (drop i own) w ≡ 0
weigh_none k [] zero w all = refl
weigh_none k [] (suc i) w all = refl
weigh_none k (b ∷ bs) zero w all = absurd (omega (arith, all))
weigh_none k (b ∷ bs) (suc i) w all = weigh_none k bs i w (omega (arith, all))

pub nothing_left : (c x y : ℤ) (n : ℕ) → n ≡ 0 → (x +ℤ (c *ℤ pos n)) ≡ y → x ≡ y
nothing_left c x y n none is =
    let e : c *ℤ pos n ≡ pos 0 = ap (λ m. c *ℤ pos m) none ∙ times_zero c in
    omega (arith, ints)
  where
    times_zero : (c : ℤ) → c *ℤ pos 0 ≡ pos 0
    times_zero c = omega (arith, ints)
