-- Numbers in binary: one digit more.
use Rattle.std.proofs.Common.{◌≡◌, ℕ, zero, suc, ◌+◌, ◌*◌, ◌/◌, ◌%◌, ◌^◌, ◌<◌, ◌≤◌, Bool, true, false, cond, List, [], ◌∷◌, length, refl, ap, ◌∙◌, subst, arith}
use Rattle.std.proofs.lemmas.Bool.{eqb-true, eqb-false, eq-eqb}
use Rattle.std.proofs.lemmas.Nat.{pow-add, pow_pos, shr-shr, shr_split, mod_below, mod-pow-add, le-div}
use Rattle.bit_layout.specs.Words.{digit, number}

pub double : (k : ℕ) → 2 ^ suc k ≡ 2 * 2 ^ k
double k = let e : suc k ≡ 1 + k = omega arith in ap (λ m. 2 ^ m) e ∙ pow-add 2 1 k

-- the digits but the last r, by those but the last r + 1
pub over_half : (n r : ℕ) → n / 2 ^ r ≡ 2 * (n / 2 ^ suc r) + (n / 2 ^ r) % 2
over_half n r =
    let e : n / 2 ^ r / 2 ≡ n / 2 ^ (r + 1) = shr-shr n r 1 in
    let f : r + 1 ≡ suc r = omega arith in
    let g : n / 2 ^ r / 2 ≡ n / 2 ^ suc r = e ∙ ap (λ m. n / 2 ^ m) f in
    omega (arith, g)

pub digit_one : (n r : ℕ) → digit n r ≡ true → (n / 2 ^ r) % 2 ≡ 1
digit_one n r h = eqb-true ((n / 2 ^ r) % 2) 1 h

pub digit_zero : (n r : ℕ) → digit n r ≡ false → (n / 2 ^ r) % 2 ≡ 0
digit_zero n r h =
    let other = eqb-false ((n / 2 ^ r) % 2) 1 h in
    zero_or_one ((n / 2 ^ r) % 2) (omega arith) other
  where
    zero_or_one : (d : ℕ) → d < 2 → (d ≡ 1 → ⊥) → d ≡ 0
    zero_or_one zero p q = refl
    zero_or_one (suc zero) p q = absurd (q refl)
    zero_or_one (suc (suc d)) p q = absurd (omega (arith, p))

-- a quotient does not fall
pub quotient_up : (m n r : ℕ) → m ≤ n → m / 2 ^ r ≤ n / 2 ^ r
quotient_up m n r le =
    let e : m / 2 ^ r * 2 ^ r + m % 2 ^ r ≡ m = shr_split m r in
    le-div (m / 2 ^ r) n (2 ^ r) (pow_pos r) (omega (arith, e, le))

-- of numbers that are one but for their last r + 1 digits, a greater one has no lesser digit there
pub digit_up : (m n r : ℕ) → m / 2 ^ suc r ≡ n / 2 ^ suc r → m ≤ n → digit m r ≡ true → digit n r ≡ true
digit_up m n r alike le one =
    let a = over_half m r in
    let b = over_half n r in
    let up = quotient_up m n r le in
    let d = digit_one m r one in
    eq-eqb ((n / 2 ^ r) % 2) 1 (omega (arith, a, b, up, d, alike))

-- where they have one digit there too, they are one but for their last r
pub still_alike : (m n r : ℕ) (v : Bool) → m / 2 ^ suc r ≡ n / 2 ^ suc r → digit m r ≡ v → digit n r ≡ v → m / 2 ^ r ≡ n / 2 ^ r
still_alike m n r true alike p q =
    let a = over_half m r in
    let b = over_half n r in
    let d = digit_one m r p in
    let e = digit_one n r q in
    omega (arith, a, b, d, e, alike)
still_alike m n r false alike p q =
    let a = over_half m r in
    let b = over_half n r in
    let d = digit_zero m r p in
    let e = digit_zero n r q in
    omega (arith, a, b, d, e, alike)

-- the worth of the first of r + 1 digits
abbrev pub worth : ℕ → Bool → ℕ
worth r v = cond v (2 ^ r) 0

pub more_digits : (n r : ℕ) → n % 2 ^ suc r ≡ ((n / 2 ^ r) % 2) * 2 ^ r + n % 2 ^ r
more_digits n r =
    let e : 1 + r ≡ suc r = omega arith in
    let P : ℕ → Type 0 = λ m. n % 2 ^ m ≡ ((n / 2 ^ r) % 2) * 2 ^ r + n % 2 ^ r in
    subst P e (mod-pow-add n 1 r)

pub last_digits : (n r : ℕ) (v : Bool) → digit n r ≡ v → n % 2 ^ suc r ≡ worth r v + n % 2 ^ r
last_digits n r true h =
    let d = digit_one n r h in
    more_digits n r ∙ ap (λ m. m * 2 ^ r + n % 2 ^ r) d ∙ once (2 ^ r) (n % 2 ^ r)
  where
    once : (p x : ℕ) → 1 * p + x ≡ p + x
    once p x = omega arith
last_digits n r false h =
    let d = digit_zero n r h in
    more_digits n r ∙ ap (λ m. m * 2 ^ r + n % 2 ^ r) d ∙ none (2 ^ r) (n % 2 ^ r)
  where
    none : (p x : ℕ) → 0 * p + x ≡ 0 + x
    none p x = omega arith

-- the first digit and the others are told by the number
pub digits_apart : (n r : ℕ) (v : Bool) (m : ℕ) → m < 2 ^ r → n % 2 ^ suc r ≡ worth r v + m → (digit n r ≡ v) × (n % 2 ^ r ≡ m)
digits_apart n r v m small e = by_digit (digit n r) refl
  where
    low : n % 2 ^ r < 2 ^ r
    low = mod_below n (2 ^ r) (pow_pos r)

    told : (d v : Bool) → digit n r ≡ d → n % 2 ^ suc r ≡ worth r v + m → (d ≡ v) × (n % 2 ^ r ≡ m)
    told true true is e = let f = last_digits n r true is in (refl, omega (arith, e, f))
    told false false is e = let f = last_digits n r false is in (refl, omega (arith, e, f))
    told true false is e = let f = last_digits n r true is in let l : n % 2 ^ r < 2 ^ r = low in absurd (omega (arith, e, f, small, l))
    told false true is e = let f = last_digits n r false is in let l : n % 2 ^ r < 2 ^ r = low in absurd (omega (arith, e, f, small, l))

    by_digit : (d : Bool) → digit n r ≡ d → (digit n r ≡ v) × (n % 2 ^ r ≡ m)
    by_digit d is = let t = told d v is e in (is ∙ t.0, t.1)

pub number_below : (bs : List Bool) → number bs < 2 ^ length bs
number_below [] = omega arith
number_below (true ∷ bs) = let h = number_below bs in let d : 2 ^ suc (length bs) ≡ 2 * 2 ^ length bs = double (length bs) in omega (arith, h, d)
number_below (false ∷ bs) = let h = number_below bs in let d : 2 ^ suc (length bs) ≡ 2 * 2 ^ length bs = double (length bs) in omega (arith, h, d)
