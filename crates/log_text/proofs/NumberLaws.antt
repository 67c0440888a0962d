-- Decimal numbers: what `read_on` reads, and which words are the decimal spelling of a number.
use Rattle.std.proofs.Common.{ℕ, ℤ, ◌≡◌, ◌≤◌, ◌<◌, ◌+◌, ◌-◌, ◌*◌, ◌^◌, List, [], ◌∷◌, true, length, get_or, drop, drop-cons, arith, rules, subst, sym, lit<, pos, negsuc, suc, zero, ap, ◌∙◌}
use Rattle.std.specs.Prelude.{unsigned_abs, IfSome, IfNone, Option, Some, None}
use Rattle.std.specs.Fmt.{decimal, signed_decimal}
use Rattle.std.specs.Str.{all_ascii_digits}
use Rattle.std.proofs.lemmas.Str.Parse.{IsNumeralModel, numerals_by_fold}
use Rattle.std.proofs.lemmas.Fmt.{digits_decimal, digits_value-decimal, decimal-digits_value, first_decimal, decimal_digit, decimal_nonempty, decimal_injective}
use Rattle.log_text.specs.Decimal.{read_on, HasPlainStart}

pub own : IsNumeralModel (λ ds. all_ascii_digits ds ≡ true) (read_on 0)
own = numerals_by_fold _ (search rules) read_on (search rules)

-- reading on never makes the number less
pub read_on_grows : (ds : List ℕ) (n : ℕ) → n ≤ read_on n ds
read_on_grows [] n = omega arith
read_on_grows (d ∷ ds) n = omega (arith, read_on_grows ds (10 * n + (d - 48)))

-- digits without a leading zero are the spelling of their value
pub spells : (word : List ℕ) (n limit : ℕ) → HasPlainStart word → all_ascii_digits word ≡ true → read_on 0 word ≡ n → n ≤ limit → limit ≤ 2 ^ 40 → word ≡ decimal n
spells word n limit plain ds is within small =
    let fits : read_on 0 word < 2 ^ 64 = omega (arith, is, within, small) in
    let e : decimal (read_on 0 word) ≡ word = decimal-digits_value own word ds plain.some plain.plain fits in
    let P : ℕ → Type 0 = λ m. word ≡ decimal m in
    subst P is (sym e)

-- the spelling of a number has no leading zero
pub plain_decimal : (n : ℕ) → n < 2 ^ 64 → HasPlainStart (decimal n)
plain_decimal zero small = record { some = decimal_nonempty 0 (lit< tt); plain = λ _. ap length (decimal_digit 0 (lit< tt)) }
plain_decimal (suc n) small = record { some = decimal_nonempty (suc n) small; plain = λ h. absurd (omega (arith, h, first_decimal (suc n) (omega arith) small)) }

-- what is no row of digits, or one of a number past the limit, or has a leading zero, is the spelling of no number up
-- to the limit
pub no_number : (word : List ℕ) (limit : ℕ) → limit ≤ 2 ^ 40 → (all_ascii_digits word ≡ true → limit < read_on 0 word) → (n : ℕ) → n ≤ limit → word ≡ decimal n → ⊥
no_number word limit small past n within is =
    let fits : n < 2 ^ 64 = omega (arith, small, within) in
    let P : List ℕ → Type 0 = λ w. all_ascii_digits w ≡ true in
    let above : limit < read_on 0 word = past (subst P (sym is) (digits_decimal own n fits)) in
    let value : read_on 0 word ≡ n = ap (read_on 0) is ∙ digits_value-decimal own n fits in
    omega (arith, above, value, within)

pub no_plain_start : (word : List ℕ) (limit : ℕ) → limit ≤ 2 ^ 40 → (HasPlainStart word → ⊥) → (n : ℕ) → n ≤ limit → word ≡ decimal n → ⊥
no_plain_start word limit small not_plain n within is =
    let fits : n < 2 ^ 64 = omega (arith, small, within) in
    let P : List ℕ → Type 0 = λ w. HasPlainStart w in
    not_plain (subst P (sym is) (plain_decimal n fits))

pub number_some : (word : List ℕ) (limit : ℕ) (r : Option ℕ) → HasPlainStart word → limit ≤ 2 ^ 40 → IfSome r (λ n. (n ≤ limit) × (all_ascii_digits word ≡ true) × (read_on 0 word ≡ n)) → IfSome r (λ n. (n ≤ limit) × (word ≡ decimal n))
number_some word limit None plain small h = tt
number_some word limit (Some n) plain small h = (h.0, spells word n limit plain h.1 h.2 h.0 small)

pub number_none : (word : List ℕ) (limit : ℕ) (r : Option ℕ) → limit ≤ 2 ^ 40 → IfNone r (all_ascii_digits word ≡ true → limit < read_on 0 word) → IfNone r ((n : ℕ) → n ≤ limit → word ≡ decimal n → ⊥)
number_none word limit None small h = no_number word limit small h
number_none word limit (Some n) small h = tt

-- the spelling of a number begins with no minus sign
pub no_minus : (n : ℕ) (rest : List ℕ) → n < 2 ^ 64 → decimal n ≡ 45 ∷ rest → ⊥
no_minus n rest fits is =
    let P : List ℕ → Type 0 = λ w. all_ascii_digits w ≡ true in
    let h : all_ascii_digits (45 ∷ rest) ≡ true = subst P is (digits_decimal own n fits) in
    cc

-- behind a minus sign stands the spelling of a number above zero, or no integer is spelled
pub after_minus_none : (word size : List ℕ) (limit : ℕ) → limit ≤ 2 ^ 40 → word ≡ 45 ∷ size → ((n : ℕ) → 0 < n → n ≤ limit → size ≡ decimal n → ⊥) → (z : ℤ) → unsigned_abs z ≤ limit → word ≡ signed_decimal z → ⊥
after_minus_none word size limit small signed none (pos n) within is = no_minus n size (omega (arith, small, within)) (sym is ∙ signed)
after_minus_none word size limit small signed none (negsuc n) within is = none (suc n) (omega arith) within (cc)

pub zero_only : (size : List ℕ) (limit : ℕ) → limit ≤ 2 ^ 40 → size ≡ decimal 0 → (n : ℕ) → 0 < n → n ≤ limit → size ≡ decimal n → ⊥
zero_only size limit small zero_is n above within is =
    let e : 0 ≡ n = decimal_injective 0 n (lit< tt) (omega (arith, small, within)) (sym zero_is ∙ is) in
    omega arith

-- without a minus sign a word spells no negative integer
pub no_minus_none : (word : List ℕ) (limit : ℕ) → ((rest : List ℕ) → word ≡ 45 ∷ rest → ⊥) → ((n : ℕ) → n ≤ limit → word ≡ decimal n → ⊥) → (z : ℤ) → unsigned_abs z ≤ limit → word ≡ signed_decimal z → ⊥
no_minus_none word limit unsigned none (pos n) within is = none n within is
no_minus_none word limit unsigned none (negsuc n) within is = unsigned (decimal (suc n)) is

-- where the digits so far are past the limit, so are all of them
pub past_limit : (ds : List ℕ) (i v d limit : ℕ) → i < length ds → read_on v (drop i ds) ≡ read_on 0 ds → d ≡ get_or ds i 0 - 48 → limit < 10 * v + d → limit < read_on 0 ds
past_limit ds i v d limit below is digit past =
    let split : drop i ds ≡ get_or ds i 0 ∷ drop (suc i) ds = drop-cons ds i 0 below in
    let e : read_on v (drop i ds) ≡ read_on (10 * v + (get_or ds i 0 - 48)) (drop (suc i) ds) = ap (read_on v) split in
    omega (arith, read_on_grows (drop (suc i) ds) (10 * v + (get_or ds i 0 - 48)), e, is, past, digit)
