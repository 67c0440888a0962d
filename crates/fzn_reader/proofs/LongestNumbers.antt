-- The longest number at the front of a text.
use Rattle.std.proofs.Common.{◌≡◌, ℕ, ◌+◌, ◌-◌, ◌<◌, ◌≤◌, Bool, true, false, ◌&&◌, cond, eqb, ltb, List, [], ◌∷◌, length, take, drop, get_or, zero, suc, Option, Some, None, sym, refl, ap, ◌∙◌, subst, arith, length-drop}
use Rattle.std.specs.List.{prefix_len}
use Rattle.std.specs.Option.{option_map}
use Rattle.std.specs.Str.Parse.{digits_value}
use Rattle.std.proofs.lemmas.List.Sums.{prefix_len-le-length}
use Rattle.std.proofs.lemmas.Bool.{lt-ltb}
use Rattle.fzn_reader.specs.declared.pieces.Piece.{Piece}
use Rattle.fzn_reader.specs.declared.pieces.Piece.TheVariants as pieces
use Rattle.fzn_reader.specs.declared.tokens.TokenKind.TheVariants as kinds
use Rattle.fzn_reader.specs.Numbers.{is_digit_in, are_digits, Numeral, integer, float, no_digits, base_of, number_in, without_digits, is_float_ending, is_float, decimal_of, number_of_base, number_of}
use Rattle.fzn_reader.specs.Pieces.{IsLongestBy, BeginsNoneBy, int_kind, piece_of_number, unsigned_piece, number_piece}
use Rattle.fzn_reader.specs.Front.{IsLongestFront}
use Rattle.fzn_reader.proofs.Runs.{are_digits-front, are_digits-long}
use Rattle.fzn_reader.proofs.Exponents.{without_digits-take, begins_with_digit-take}

abbrev run_of : List ℕ → ℕ
run_of bytes = prefix_len (is_digit_in 10) bytes

-- ---- decimal numbers

is_float-front : (text : List ℕ) (m : ℕ) → 0 < run_of text → run_of text ≤ m → is_float (take m text) ≡ is_float_ending (take (m - run_of text) (drop (run_of text) text))
is_float-front text m some h =
    ap (λ x. x && is_float_ending (without_digits (take m text))) (begins_with_digit-take text m h ∙ lt-ltb 0 (run_of text) some) ∙ ap is_float_ending (without_digits-take text m h)

is_float-none : (text : List ℕ) (m : ℕ) → run_of text ≡ 0 → is_float (take m text) ≡ false
is_float-none text m none =
    ap (λ x. x && is_float_ending (without_digits (take m text))) (begins_with_digit-take text m (omega arith) ∙ ap (λ n. ltb 0 n) none)

base_of-front : (text : List ℕ) (m : ℕ) → base_of text ≡ None → base_of (take m text) ≡ None
base_of-front text zero h = refl
base_of-front [] (suc m) h = refl
base_of-front (a ∷ text) (suc zero) h = refl
base_of-front (a ∷ []) (suc (suc m)) h = refl
base_of-front (a ∷ b ∷ text) (suc (suc m)) h = h

decimal_front : (text : List ℕ) (m : ℕ) → base_of text ≡ None → number_of (take m text) ≡ decimal_of (take m text)
decimal_front text m h = ap (λ x. number_of_base x (take m text)) (base_of-front text m h)

decimal_of-parts : (bytes : List ℕ) (digits is : Bool) → are_digits 10 bytes ≡ digits → is_float bytes ≡ is → decimal_of bytes ≡ cond digits (Some (integer (digits_value 10 bytes))) (cond is (Some float) None)
decimal_of-parts bytes digits is d f = λ k. cond (d k) (Some (integer (digits_value 10 bytes))) (cond (f k) (Some float) None)

decimal_digits : (text : List ℕ) (m : ℕ) → base_of text ≡ None → 0 < m → m ≤ run_of text → number_of (take m text) ≡ Some (integer (digits_value 10 (take m text)))
decimal_digits text m base some short =
    decimal_front text m base ∙ decimal_of-parts (take m text) true (is_float (take m text)) (are_digits-front 10 text m some short) refl

decimal_beyond : (text : List ℕ) (m : ℕ) (is : Bool) → base_of text ≡ None → 0 < run_of text → run_of text < m → m ≤ length text → is_float_ending (take (m - run_of text) (drop (run_of text) text)) ≡ is → number_of (take m text) ≡ cond is (Some float) None
decimal_beyond text m is base some long w ending =
    decimal_front text m base ∙ decimal_of-parts (take m text) false is (are_digits-long 10 text m long w) (is_float-front text m some (omega arith) ∙ ending)

unsigned_form : (negative : Bool) (bytes : List ℕ) (n : Option Numeral) → number_of bytes ≡ n → unsigned_piece negative bytes ≡ option_map (piece_of_number negative) n
unsigned_form negative bytes n h = ap (option_map (piece_of_number negative)) h

pub decimal_none : (negative : Bool) (text : List ℕ) → base_of text ≡ None → run_of text ≡ 0 → BeginsNoneBy (unsigned_piece negative) text
decimal_none negative text base none = record {
  none = λ m some w. unsigned_form negative (take m text) None (decimal_front text m base ∙ decimal_of-parts (take m text) false false (are_digits-long 10 text m (omega arith) w) (is_float-none text m none));
}

pub decimal_integer : (negative : Bool) (text : List ℕ) (digits : ℕ) → base_of text ≡ None → digits ≡ run_of text → 0 < digits → IsLongestFront is_float_ending (drop digits text) 0 → IsLongestBy (unsigned_piece negative) text digits (pieces.Token (int_kind negative (digits_value 10 (take digits text))))
decimal_integer negative text digits base are some ending = record {
  some = some;
  within = omega (arith, prefix_len-le-length (is_digit_in 10) text);
  form = unsigned_form negative (take digits text) (Some (integer (digits_value 10 (take digits text)))) (decimal_digits text digits base some (omega arith));
  longest = λ m long w. unsigned_form negative (take m text) None (longer m long w);
}
  where
    longer : (m : ℕ) → digits < m → m ≤ length text → number_of (take m text) ≡ None
    longer m long w =
        let here : IsLongestFront is_float_ending (drop (run_of text) text) 0 = subst (λ (k : ℕ). IsLongestFront is_float_ending (drop k text) 0) are ending in
        decimal_beyond text m false base (omega arith) (omega arith) w (here.longest (m - run_of text) (omega arith) (omega (arith, length-drop (run_of text) text)))

pub decimal_float : (negative : Bool) (text : List ℕ) (digits n : ℕ) → base_of text ≡ None → digits ≡ run_of text → 0 < digits → 0 < n → IsLongestFront is_float_ending (drop digits text) n → IsLongestBy (unsigned_piece negative) text (digits + n) (pieces.Token kinds.Float)
decimal_float negative text digits n base are some more ending = record {
  some = omega arith;
  within = omega (arith, here.within, prefix_len-le-length (is_digit_in 10) text, length-drop (run_of text) text);
  form = unsigned_form negative (take (digits + n) text) (Some float) (decimal_beyond text (digits + n) true base (omega arith) (omega arith) (omega (arith, here.within, prefix_len-le-length (is_digit_in 10) text, length-drop (run_of text) text)) (ap (λ k. is_float_ending (take k (drop (run_of text) text))) size ∙ here.form more));
  longest = λ m long w. unsigned_form negative (take m text) None (decimal_beyond text m false base (omega arith) (omega arith) w (here.longest (m - run_of text) (omega arith) (omega (arith, length-drop (run_of text) text))));
}
  where
    here : IsLongestFront is_float_ending (drop (run_of text) text) n
    here = subst (λ (k : ℕ). IsLongestFront is_float_ending (drop k text) n) are ending

    size : digits + n - run_of text ≡ n
    size = omega arith

-- ---- numbers behind `0x` and `0o`

number_in-front : (base : ℕ) (bytes : List ℕ) (m : ℕ) → 0 < m → m ≤ prefix_len (is_digit_in base) bytes → number_in base (take m bytes) ≡ Some (integer (digits_value base (take m bytes)))
number_in-front base bytes zero some h = absurd (omega arith)
number_in-front base [] (suc m) some h = absurd (omega arith)
number_in-front base (b ∷ bytes) (suc m) some h = ap (λ v. cond v (Some (integer (digits_value base (b ∷ take m bytes)))) None) (are_digits-front base (b ∷ bytes) (suc m) some h)

number_in-long : (base : ℕ) (bytes : List ℕ) (m : ℕ) → prefix_len (is_digit_in base) bytes < m → m ≤ length bytes → number_in base (take m bytes) ≡ None
number_in-long base bytes zero h w = absurd (omega arith)
number_in-long base [] (suc m) h w = absurd (omega arith)
number_in-long base (b ∷ bytes) (suc m) h w = ap (λ v. cond v (Some (integer (digits_value base (b ∷ take m bytes)))) None) (are_digits-long base (b ∷ bytes) (suc m) h w)

-- what is behind the prefix
pub number_behind : (text : List ℕ) (base m : ℕ) → base_of text ≡ Some base → number_of (take (suc (suc m)) text) ≡ number_in base (take m (drop 2 text))
number_behind [] base m h = absurd (cc)
number_behind (a ∷ []) base m h = absurd (cc)
number_behind (a ∷ b ∷ text) base m h = ap (λ x. number_of_base x (a ∷ b ∷ take m text)) h

pub has_prefix : (text : List ℕ) (base : ℕ) → base_of text ≡ Some base → 2 ≤ length text
has_prefix [] base h = absurd (cc)
has_prefix (a ∷ []) base h = absurd (cc)
has_prefix (a ∷ b ∷ text) base h = omega arith

longer_based : (negative : Bool) (text : List ℕ) (base m : ℕ) → base_of text ≡ Some base → 2 + prefix_len (is_digit_in base) (drop 2 text) < m → m ≤ length text → unsigned_piece negative (take m text) ≡ None
longer_based negative text base zero is long w = absurd (omega arith)
longer_based negative text base (suc zero) is long w = absurd (omega arith)
longer_based negative text base (suc (suc m)) is long w =
    unsigned_form negative (take (suc (suc m)) text) None (number_behind text base m is ∙ number_in-long base (drop 2 text) m (omega arith) (omega (arith, length-drop 2 text)))

pub based_none : (negative : Bool) (text : List ℕ) (base : ℕ) → base_of text ≡ Some base → prefix_len (is_digit_in base) (drop 2 text) ≡ 0 → IsLongestBy (unsigned_piece negative) text 2 pieces.NoDigits
based_none negative text base is none = record {
  some = omega arith;
  within = has_prefix text base is;
  form = unsigned_form negative (take 2 text) (Some no_digits) (number_behind text base 0 is);
  longest = λ m long w. longer_based negative text base m is (omega arith) w;
}

pub based_found : (negative : Bool) (text : List ℕ) (base n : ℕ) → base_of text ≡ Some base → n ≡ prefix_len (is_digit_in base) (drop 2 text) → 0 < n → IsLongestBy (unsigned_piece negative) text (n + 2) (pieces.Token (int_kind negative (digits_value base (take n (drop 2 text)))))
based_found negative text base n is are some =
    let two : suc (suc n) ≡ n + 2 = omega arith in
    subst (λ (k : ℕ). IsLongestBy (unsigned_piece negative) text k (pieces.Token (int_kind negative (digits_value base (take n (drop 2 text)))))) two (record {
      some = omega arith;
      within = omega (arith, has_prefix text base is, prefix_len-le-length (is_digit_in base) (drop 2 text), length-drop 2 text);
      form = unsigned_form negative (take (suc (suc n)) text) (Some (integer (digits_value base (take n (drop 2 text))))) (number_behind text base n is ∙ number_in-front base (drop 2 text) n some (omega arith));
      longest = λ m long w. longer_based negative text base m is (omega arith) w;
    })

-- ---- a `-`

minus_front : (bytes : List ℕ) (m : ℕ) (p : Option Piece) → unsigned_piece true (take m bytes) ≡ p → number_piece (take (suc m) (45 ∷ bytes)) ≡ p
minus_front bytes m p h = h

pub minus_found : (text : List ℕ) (n : ℕ) (piece : Piece) → 0 < length text → get_or text 0 0 ≡ 45 → IsLongestBy (unsigned_piece true) (drop 1 text) n piece → IsLongestBy number_piece text (n + 1) piece
minus_found [] n piece more minus h = absurd (omega arith)
minus_found (b ∷ bytes) n piece more minus h =
    let one : suc n ≡ n + 1 = omega arith in
    let here : IsLongestBy number_piece (45 ∷ bytes) (suc n) piece = record {
      some = omega arith;
      within = omega (arith, h.within);
      form = minus_front bytes n (Some piece) h.form;
      longest = longer;
    } in
    subst (λ (k : ℕ). IsLongestBy number_piece (b ∷ bytes) k piece) one (subst (λ (x : ℕ). IsLongestBy number_piece (x ∷ bytes) (suc n) piece) (sym minus) here)
  where
    longer : (m : ℕ) → suc n < m → m ≤ suc (length bytes) → number_piece (take m (45 ∷ bytes)) ≡ None
    longer zero long w = absurd (omega arith)
    longer (suc m) long w = h.longest m (omega arith) (omega arith)

pub minus_none : (text : List ℕ) → 0 < length text → get_or text 0 0 ≡ 45 → BeginsNoneBy (unsigned_piece true) (drop 1 text) → BeginsNoneBy number_piece text
minus_none [] more minus h = absurd (omega arith)
minus_none (b ∷ bytes) more minus h =
    subst (λ (x : ℕ). BeginsNoneBy number_piece (x ∷ bytes)) (sym minus) (record { none = none })
  where
    none : (m : ℕ) → 0 < m → m ≤ suc (length bytes) → number_piece (take m (45 ∷ bytes)) ≡ None
    none zero some w = absurd (omega arith)
    none (suc zero) some w = refl
    none (suc (suc m)) some w = h.none (suc m) (omega arith) (omega arith)

pub unsigned_front : (text : List ℕ) → (0 < length text → eqb (get_or text 0 0) 45 ≡ false) → (m : ℕ) → 0 < m → number_piece (take m text) ≡ unsigned_piece false (take m text)
unsigned_front text h zero some = absurd (omega arith)
unsigned_front [] h (suc m) some = refl
unsigned_front (b ∷ text) h (suc m) some = ap (λ v. cond v (unsigned_piece true (take m text)) (unsigned_piece false (b ∷ take m text))) (h (omega arith))
