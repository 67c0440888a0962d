-- Numbers in binary.
use Rattle.std.proofs.Common.{◌≡◌, ℕ, zero, suc, ◌+◌, ◌-◌, ◌*◌, ◌/◌, ◌%◌, ◌^◌, ◌<◌, ◌≤◌, ◌==◌, Bool, true, false, cond, List, [], ◌∷◌, ◌++◌, length, take, get_or, append_assoc, refl, sym, ap, ◌∙◌, subst, inl, inr, arith}
use Rattle.std.specs.Prelude.{nat_lt}
use Rattle.std.proofs.lemmas.Bool.{ltb-true, ltb-false, cases_lt, cases_order}
use Rattle.std.proofs.lemmas.Nat.{pow-add, pow_below, mod-pow-add, mod_low, leading_length}
use Rattle.std.proofs.lemmas.List.{length-append, length-take-le, take_more, take_all}
use Rattle.std.specs.Int.{from_bool}
use lib.Count.{count_leading_zeros}
use Rattle.bit_layout.specs.Words.{IsLeastWidth, first_above, bit_width, digit, binary, number}

-- ---- powers of two

pub double : (k : ℕ) → 2 ^ suc k ≡ 2 * 2 ^ k
double k = let e : suc k ≡ 1 + k = omega arith in ap (λ m. 2 ^ m) e ∙ pow-add 2 1 k

pub below_power : (n : ℕ) → n < 2 ^ n
below_power zero = omega arith
below_power (suc n) = let h : n < 2 ^ n = below_power n in let d : 2 ^ suc n ≡ 2 * 2 ^ n = double n in omega (arith, h, d)

pub power_up : (i j : ℕ) → i ≤ j → 2 ^ i ≤ 2 ^ j
power_up i j h =
    elim (cases_order i j) [
      | inl e ↦ let P : ℕ → Type 0 = λ m. 2 ^ i ≤ 2 ^ m in subst P e (omega arith)
      | inr (inl less) ↦ let p : 2 ^ i < 2 ^ j = pow_below i j less in omega arith
      | inr (inr more) ↦ absurd (omega arith)
    ]

-- ---- widths

first_above-holds : (n w tries : ℕ) → n < 2 ^ (w + tries) → n < 2 ^ first_above n w tries
first_above-holds n w zero h = let P : ℕ → Type 0 = λ m. n < 2 ^ m in let e : w + 0 ≡ w = omega arith in subst P e h
first_above-holds n w (suc tries) h =
    let P : ℕ → Type 0 = λ m. n < 2 ^ m in
    let e : w + suc tries ≡ (w + 1) + tries = omega arith in
    elim (nat_lt n (2 ^ w)) as (λ b. nat_lt n (2 ^ w) ≡ b → n < 2 ^ cond b w (first_above n (w + 1) tries)) [
      | true ↦ λ t. ltb-true n (2 ^ w) t
      | false ↦ λ f. first_above-holds n (w + 1) tries (subst P e h)
    ] refl

not_before : (n w u : ℕ) → ((m : ℕ) → m < w → 2 ^ m ≤ n) → n < 2 ^ u → w ≤ u
not_before n w u below h =
    elim (cases_lt u w) [
      | inl less ↦ absurd (let p : 2 ^ u ≤ n = below u less in omega arith)
      | inr le ↦ le
    ]

-- where no power below is above n
first_above-least : (n w tries u : ℕ) → ((m : ℕ) → m < w → 2 ^ m ≤ n) → n < 2 ^ u → first_above n w tries ≤ u
first_above-least n w zero u below h = not_before n w u below h
first_above-least n w (suc tries) u below h =
    elim (nat_lt n (2 ^ w)) as (λ b. nat_lt n (2 ^ w) ≡ b → cond b w (first_above n (w + 1) tries) ≤ u) [
      | true ↦ λ t. not_before n w u below h
      | false ↦ λ f. first_above-least n (w + 1) tries u (λ m less. elim (cases_order m w) [
        | inl e ↦ let P : ℕ → Type 0 = λ x. 2 ^ x ≤ n in subst P (sym e) (ltb-false n (2 ^ w) f)
        | inr (inl before) ↦ below m before
        | inr (inr after) ↦ absurd (omega arith)
      ]) h
    ] refl

pub bit_width_is_least : (n : ℕ) → IsLeastWidth n (bit_width n)
unfolding bit_width
bit_width_is_least n = record {
  holds = first_above-holds n 0 n (let P : ℕ → Type 0 = λ m. n < 2 ^ m in let e : n ≡ 0 + n = omega arith in subst P e (below_power n));
  least = λ u h. first_above-least n 0 n u (λ m none. absurd (omega arith)) h;
}

pub least_width_is : (n w : ℕ) → IsLeastWidth n w → w ≡ bit_width n
least_width_is n w h =
    let b = bit_width_is_least n in
    let p : w ≤ bit_width n = h.least (bit_width n) b.holds in
    let q : bit_width n ≤ w = b.least w h.holds in
    omega arith

-- what is left of 32 digits
pub width_by_leading : (n : ℕ) → n < 2 ^ 32 → 32 - count_leading_zeros 32 n ≡ bit_width n
width_by_leading n h =
    let r = leading_length 32 n h in
    let known : count_leading_zeros 32 n + r.0 ≡ 32 = r.1 in
    let half : 2 ^ r.0 ≤ 2 * n + 1 = r.3 in
    let e : 32 - count_leading_zeros 32 n ≡ r.0 = omega arith in
    e ∙ least_width_is n r.0 record {
      holds = r.2;
      least = λ u above. elim (cases_lt u r.0) [
        | inr le ↦ le
        | inl less ↦ absurd (
            let up : 2 ^ suc u ≤ 2 ^ r.0 = power_up (suc u) r.0 (omega arith) in
            let d : 2 ^ suc u ≡ 2 * 2 ^ u = double u in
            omega (arith, up, d, half, above))
      ];
    }

-- a number of at most 65,535 has at most 16 digits
pub narrow_width : (n : ℕ) → n ≤ 65535 → bit_width n ≤ 16
narrow_width n h = (bit_width_is_least n).least 16 (omega arith)

-- ---- digits

pub length-binary : (w n : ℕ) → length (binary w n) ≡ w
length-binary zero n = refl
length-binary (suc w) n = let h : length (binary w n) ≡ w = length-binary w n in omega (arith, h)

worth : (r p : ℕ) → r < 2 → cond (r == 1) p 0 ≡ r * p
worth zero p h = omega arith
worth (suc zero) p h = omega arith
worth (suc (suc r)) p h = absurd (omega arith)

pub number-binary : (w n : ℕ) → number (binary w n) ≡ n % 2 ^ w
number-binary zero n = omega arith
number-binary (suc w) n =
    let rest : number (binary w n) ≡ n % 2 ^ w = number-binary w n in
    let long : length (binary w n) ≡ w = length-binary w n in
    let r : ℕ = (n / 2 ^ w) % 2 in
    let here : cond (digit n w) (2 ^ length (binary w n)) 0 ≡ r * 2 ^ w = ap (λ m. cond (digit n w) (2 ^ m) 0) long ∙ worth r (2 ^ w) (omega arith) in
    let split : n % 2 ^ (1 + w) ≡ (n / 2 ^ w % 2 ^ 1) * 2 ^ w + n % 2 ^ w = mod-pow-add n 1 w in
    let e : 1 + w ≡ suc w = omega arith in
    let P : ℕ → Type 0 = λ m. n % 2 ^ m ≡ r * 2 ^ w + n % 2 ^ w in
    let whole : n % 2 ^ suc w ≡ r * 2 ^ w + n % 2 ^ w = subst P e split in
    ap (λ m. m + number (binary w n)) here ∙ ap (λ m. r * 2 ^ w + m) rest ∙ sym whole

pub number-below : (bs : List Bool) → number bs < 2 ^ length bs
number-below [] = omega arith
number-below (true ∷ bs) = let h = number-below bs in let d : 2 ^ suc (length bs) ≡ 2 * 2 ^ length bs = double (length bs) in omega (arith, h, d)
number-below (false ∷ bs) = let h = number-below bs in let d : 2 ^ suc (length bs) ≡ 2 * 2 ^ length bs = double (length bs) in omega (arith, h, d)

-- digits of one length are those of one number
pub same_digits : (xs ys : List Bool) → length xs ≡ length ys → number xs ≡ number ys → xs ≡ ys
same_digits [] [] long e = refl
same_digits [] (y ∷ ys) long e = absurd (omega (arith, long))
same_digits (x ∷ xs) [] long e = absurd (omega (arith, long))
same_digits (true ∷ xs) (true ∷ ys) long e =
    let l : length xs ≡ length ys = omega (arith, long) in
    let p : 2 ^ length xs ≡ 2 ^ length ys = ap (λ m. 2 ^ m) l in
    ap (λ bs. true ∷ bs) (same_digits xs ys l (omega (arith, e, p)))
same_digits (false ∷ xs) (false ∷ ys) long e =
    let l : length xs ≡ length ys = omega (arith, long) in
    ap (λ bs. false ∷ bs) (same_digits xs ys l (omega (arith, e)))
same_digits (true ∷ xs) (false ∷ ys) long e =
    let l : length xs ≡ length ys = omega (arith, long) in
    let p : 2 ^ length xs ≡ 2 ^ length ys = ap (λ m. 2 ^ m) l in
    let below : number ys < 2 ^ length ys = number-below ys in
    absurd (omega (arith, e, p, below))
same_digits (false ∷ xs) (true ∷ ys) long e =
    let l : length xs ≡ length ys = omega (arith, long) in
    let p : 2 ^ length xs ≡ 2 ^ length ys = ap (λ m. 2 ^ m) l in
    let below : number xs < 2 ^ length xs = number-below xs in
    absurd (omega (arith, e, p, below))

small_mod : (n w : ℕ) → n < 2 ^ w → n % 2 ^ w ≡ n
small_mod n w h = let e : 0 * 2 ^ w + n ≡ n = omega arith in ap (λ m. m % 2 ^ w) (sym e) ∙ mod_low 0 w n h

pub number-of_binary : (w n : ℕ) → n < 2 ^ w → number (binary w n) ≡ n
number-of_binary w n h = number-binary w n ∙ small_mod n w h

pub binary-number : (bs : List Bool) → binary (length bs) (number bs) ≡ bs
binary-number bs =
    same_digits (binary (length bs) (number bs)) bs (length-binary (length bs) (number bs)) (number-of_binary (length bs) (number bs) (number-below bs))

pub same_number : (w m n : ℕ) → m < 2 ^ w → n < 2 ^ w → binary w m ≡ binary w n → m ≡ n
same_number w m n p q e = sym (number-of_binary w m p) ∙ ap number e ∙ number-of_binary w n q

-- one more digit
pub number-push : (xs : List Bool) (b : Bool) → number (xs ++ b ∷ []) ≡ 2 * number xs + cond b 1 0
number-push [] true = omega arith
number-push [] false = omega arith
number-push (x ∷ xs) b =
    let rest : number (xs ++ b ∷ []) ≡ 2 * number xs + cond b 1 0 = number-push xs b in
    let long : length (xs ++ b ∷ []) ≡ suc (length xs) = let l = length-append xs (b ∷ []) in omega (arith, l) in
    let power : 2 ^ length (xs ++ b ∷ []) ≡ 2 * 2 ^ length xs = ap (λ m. 2 ^ m) long ∙ double (length xs) in
    head x power rest
  where
    head : (x : Bool) → 2 ^ length (xs ++ b ∷ []) ≡ 2 * 2 ^ length xs → number (xs ++ b ∷ []) ≡ 2 * number xs + cond b 1 0
        → cond x (2 ^ length (xs ++ b ∷ [])) 0 + number (xs ++ b ∷ []) ≡ 2 * (cond x (2 ^ length xs) 0 + number xs) + cond b 1 0
    head true power rest = omega (arith, power, rest)
    head false power rest = omega (arith, rest)

-- a step of a loop that reads digits
pub number_step : (word : List Bool) (i n r : ℕ) → i < length word → r ≡ from_bool (get_or word i false) → n ≡ number (take i word) → 2 * n + r ≡ number (take (i + 1) word)
number_step word i n r within read so_far =
    let b : Bool = get_or word i false in
    let e : take (i + 1) word ≡ take i word ++ b ∷ [] = take_more word i false within in
    ap (λ m. 2 * n + m) (read ∙ from_bool_is b) ∙ ap (λ m. 2 * m + cond b 1 0) so_far ∙ sym (number-push (take i word) b) ∙ ap number (sym e)
  where
    from_bool_is : (b : Bool) → from_bool b ≡ cond b 1 0
    from_bool_is true = refl
    from_bool_is false = refl

pub digit_small : (b : Bool) (r : ℕ) → r ≡ from_bool b → r ≤ 1
digit_small true r e = omega (arith, e)
digit_small false r e = omega (arith, e)

pub number_small : (word : List Bool) (i n : ℕ) → i ≤ length word → length word ≤ 16 → n ≡ number (take i word) → n < 65536
number_small word i n within short e =
    let long : length (take i word) ≤ 16 = let l = length-take-le i word within in omega (arith, l, short) in
    let below : number (take i word) < 2 ^ length (take i word) = number-below (take i word) in
    let up : 2 ^ length (take i word) ≤ 2 ^ 16 = power_up (length (take i word)) 16 long in
    omega (arith, e, below, up)

-- what the loop has read at its end
pub number_read : (word : List Bool) (i n : ℕ) → length word ≤ i → n ≡ number (take i word) → n ≡ number word
number_read word i n whole e = e ∙ ap number (take_all i word whole)

pub digits_read : (word : List Bool) (n : ℕ) → n ≡ number word → binary (length word) n ≡ word
digits_read word n e = ap (binary (length word)) e ∙ binary-number word

pub below_read : (word : List Bool) (n : ℕ) → n ≡ number word → n < 2 ^ length word
below_read word n e = let P : ℕ → Type 0 = λ m. m < 2 ^ length word in subst P (sym e) (number-below word)

-- a step of a loop that writes digits
pub digits_step : (width number place : ℕ) (digits pushed : List Bool) → 0 < place → pushed ≡ digits ++ digit number (place - 1) ∷ [] → digits ++ binary place number ≡ binary width number
    → pushed ++ binary (place - 1) number ≡ binary width number
digits_step width number zero digits pushed some push left = absurd (omega arith)
digits_step width number (suc place) digits pushed some push left =
    let e : suc place - 1 ≡ place = omega arith in
    let P : ℕ → Type 0 = λ m. pushed ≡ digits ++ digit number m ∷ [] in
    let here : pushed ≡ digits ++ digit number place ∷ [] = subst P e push in
    ap (λ m. pushed ++ binary m number) e ∙ ap (λ ds. ds ++ binary place number) here ∙ append_assoc digits (digit number place ∷ []) (binary place number) ∙ left
