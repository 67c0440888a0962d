-- The longest exponent at the front of a text, and the longest ending of a float.
use Rattle.std.proofs.Common.{◌≡◌, ℕ, ◌+◌, ◌-◌, ◌<◌, ◌≤◌, Bool, true, false, ◌&&◌, ◌||◌, cond, eqb, ltb, List, [], ◌∷◌, length, take, drop, get_or, zero, suc, sym, refl, ap, ◌∙◌, subst, arith, length-drop}
use Rattle.std.specs.List.{prefix_len}
use Rattle.std.proofs.lemmas.List.{length-take-le}
use Rattle.std.proofs.lemmas.List.Sums.{prefix_len-le-length}
use Rattle.std.proofs.lemmas.Bool.{lt-ltb}
use Rattle.fzn_reader.specs.Numbers.{is_digit_in, are_digits, without_sign, is_exponent_letter, is_exponent, is_exponent_or_nothing, without_digits, begins_with_digit, is_float_ending}
use Rattle.fzn_reader.specs.Front.{IsLongestFront, sign_len}
use Rattle.fzn_reader.proofs.Runs.{prefix_len-take, drop-front, are_digits-front, are_digits-long}

and_false : (x : Bool) → (x && false) ≡ false
and_false true = refl
and_false false = refl

-- ---- a sign, then digits

abbrev pub digits_behind_sign : List ℕ → ℕ
digits_behind_sign bytes = prefix_len (is_digit_in 10) (drop (sign_len bytes) bytes)

signed_long : (bytes : List ℕ) (k : ℕ) → sign_len bytes + digits_behind_sign bytes < k → k ≤ length bytes → are_digits 10 (without_sign (take k bytes)) ≡ false
signed_long bytes zero h w = absurd (omega arith)
signed_long [] (suc k) h w = absurd (omega arith)
signed_long (c ∷ cs) (suc k) h w =
    elim (eqb c 43 || eqb c 45) as (λ v. cond v 1 0 + prefix_len (is_digit_in 10) (drop (cond v 1 0) (c ∷ cs)) < suc k → are_digits 10 (cond v (take k cs) (c ∷ take k cs)) ≡ false) [ true ↦ λ h'. are_digits-long 10 cs k (omega arith) (omega arith) | false ↦ λ h'. are_digits-long 10 (c ∷ cs) (suc k) (omega arith) w ] h

signed_none : (bytes : List ℕ) (k : ℕ) → digits_behind_sign bytes ≡ 0 → k ≤ length bytes → are_digits 10 (without_sign (take k bytes)) ≡ false
signed_none bytes zero h w = refl
signed_none [] (suc k) h w = absurd (omega arith)
signed_none (c ∷ cs) (suc k) h w =
    elim (eqb c 43 || eqb c 45) as (λ v. prefix_len (is_digit_in 10) (drop (cond v 1 0) (c ∷ cs)) ≡ 0 → are_digits 10 (cond v (take k cs) (c ∷ take k cs)) ≡ false) [ true ↦ λ h'. none_behind cs k h' (omega arith) | false ↦ λ h'. are_digits-long 10 (c ∷ cs) (suc k) (omega arith) w ] h
  where
    none_behind : (cs : List ℕ) (k : ℕ) → prefix_len (is_digit_in 10) cs ≡ 0 → k ≤ length cs → are_digits 10 (take k cs) ≡ false
    none_behind cs zero h w = refl
    none_behind cs (suc k) h w = are_digits-long 10 cs (suc k) (omega arith) w

signed_all : (bytes : List ℕ) (k : ℕ) → 0 < digits_behind_sign bytes → k ≡ sign_len bytes + digits_behind_sign bytes → are_digits 10 (without_sign (take k bytes)) ≡ true
signed_all [] k some h = absurd (omega arith)
signed_all (c ∷ cs) zero some h = absurd (omega arith)
signed_all (c ∷ cs) (suc k) some h =
    elim (eqb c 43 || eqb c 45) as (λ v. 0 < prefix_len (is_digit_in 10) (drop (cond v 1 0) (c ∷ cs)) → suc k ≡ cond v 1 0 + prefix_len (is_digit_in 10) (drop (cond v 1 0) (c ∷ cs)) → are_digits 10 (cond v (take k cs) (c ∷ take k cs)) ≡ true) [ true ↦ λ some' h'. are_digits-front 10 cs k (omega arith) (omega arith) | false ↦ λ some' h'. are_digits-front 10 (c ∷ cs) (suc k) (omega arith) (omega arith) ] some h

-- ---- exponents

longer_exponent : (b : ℕ) (bytes : List ℕ) (m : ℕ) → 1 + sign_len bytes + digits_behind_sign bytes < m → m ≤ suc (length bytes) → is_exponent (take m (b ∷ bytes)) ≡ false
longer_exponent b bytes zero h w = absurd (omega arith)
longer_exponent b bytes (suc k) h w =
    ap (λ x. is_exponent_letter b && x) (signed_long bytes k (omega arith) (omega arith)) ∙ and_false (is_exponent_letter b)

no_exponent : (b : ℕ) (bytes : List ℕ) → digits_behind_sign bytes ≡ 0 → (m : ℕ) → 0 < m → m ≤ suc (length bytes) → is_exponent (take m (b ∷ bytes)) ≡ false
no_exponent b bytes none zero some w = absurd (omega arith)
no_exponent b bytes none (suc k) some w = ap (λ x. is_exponent_letter b && x) (signed_none bytes k none (omega arith)) ∙ and_false (is_exponent_letter b)

pub exponent_none : (text : List ℕ) → digits_behind_sign (drop 1 text) ≡ 0 → IsLongestFront is_exponent text 0
exponent_none [] none = record { within = omega arith; form = λ some. absurd (omega arith); longest = λ m more w. absurd (omega arith) }
exponent_none (b ∷ bytes) none = record { within = omega arith; form = λ some. absurd (omega arith); longest = no_exponent b bytes none }

other_front : (b : ℕ) (bytes : List ℕ) → is_exponent_letter b ≡ false → (m : ℕ) → 0 < m → is_exponent (take m (b ∷ bytes)) ≡ false
other_front b bytes other zero some = absurd (omega arith)
other_front b bytes other (suc k) some = ap (λ x. x && are_digits 10 (without_sign (take k bytes))) other

pub exponent_other : (text : List ℕ) → 0 < length text → is_exponent_letter (get_or text 0 0) ≡ false → IsLongestFront is_exponent text 0
exponent_other [] more other = absurd (omega arith)
exponent_other (b ∷ bytes) more other = record { within = omega arith; form = λ some. absurd (omega arith); longest = λ m some w. other_front b bytes other m some }

pub exponent_found : (text : List ℕ) (sign digits : ℕ) → 0 < length text → is_exponent_letter (get_or text 0 0) ≡ true → sign ≡ sign_len (drop 1 text) → digits ≡ prefix_len (is_digit_in 10) (drop sign (drop 1 text)) → 0 < digits → IsLongestFront is_exponent text (1 + sign + digits)
exponent_found [] sign digits more e is_sign are some = absurd (omega arith)
exponent_found (b ∷ bytes) sign digits more e is_sign are some =
    let run : digits ≡ digits_behind_sign bytes = are ∙ ap (λ k. prefix_len (is_digit_in 10) (drop k bytes)) is_sign in
    let some_run : 0 < digits_behind_sign bytes = omega arith in
    let size : suc (sign_len bytes + digits_behind_sign bytes) ≡ 1 + sign + digits = omega arith in
    let short : sign_len bytes + digits_behind_sign bytes ≤ length bytes = omega (arith, prefix_len-le-length (is_digit_in 10) (drop (sign_len bytes) bytes), length-drop (sign_len bytes) bytes) in
    subst (IsLongestFront is_exponent (b ∷ bytes)) size (record {
      within = omega arith;
      form = λ _. ap (λ x. x && are_digits 10 (without_sign (take (sign_len bytes + digits_behind_sign bytes) bytes))) e ∙ signed_all bytes (sign_len bytes + digits_behind_sign bytes) some_run refl;
      longest = λ m long w. longer_exponent b bytes m (omega arith) w;
    })

-- ---- endings of floats

or_nothing : (xs : List ℕ) → is_exponent xs ≡ true → is_exponent_or_nothing xs ≡ true
or_nothing [] h = refl
or_nothing (b ∷ xs) h = h

not_even_nothing : (xs : List ℕ) → 0 < length xs → is_exponent xs ≡ false → is_exponent_or_nothing xs ≡ false
not_even_nothing [] some h = absurd (omega arith)
not_even_nothing (b ∷ xs) some h = h

-- what follows the digits of a longer front
pub without_digits-take : (bytes : List ℕ) (k : ℕ) → prefix_len (is_digit_in 10) bytes ≤ k → without_digits (take k bytes) ≡ take (k - prefix_len (is_digit_in 10) bytes) (drop (prefix_len (is_digit_in 10) bytes) bytes)
without_digits-take bytes k h =
    ap (λ n. drop n (take k bytes)) (prefix_len-take (is_digit_in 10) bytes k h) ∙ drop-front (prefix_len (is_digit_in 10) bytes) k bytes h

pub begins_with_digit-take : (bytes : List ℕ) (k : ℕ) → prefix_len (is_digit_in 10) bytes ≤ k → begins_with_digit (take k bytes) ≡ begins_with_digit bytes
begins_with_digit-take bytes k h = ap (λ n. ltb 0 n) (prefix_len-take (is_digit_in 10) bytes k h)

-- `.` and digits, then a front of what follows them
fraction_front : (bytes : List ℕ) (k : ℕ) → 0 < prefix_len (is_digit_in 10) bytes → prefix_len (is_digit_in 10) bytes ≤ k → is_float_ending (46 ∷ take k bytes) ≡ is_exponent_or_nothing (take (k - prefix_len (is_digit_in 10) bytes) (drop (prefix_len (is_digit_in 10) bytes) bytes))
fraction_front bytes k some h =
    ap (λ x. x && is_exponent_or_nothing (without_digits (take k bytes))) (begins_with_digit-take bytes k h ∙ lt-ltb 0 (prefix_len (is_digit_in 10) bytes) some) ∙ ap is_exponent_or_nothing (without_digits-take bytes k h)

no_fraction : (bytes : List ℕ) (m : ℕ) → prefix_len (is_digit_in 10) bytes ≡ 0 → 0 < m → is_float_ending (take m (46 ∷ bytes)) ≡ false
no_fraction bytes zero none some = absurd (omega arith)
no_fraction bytes (suc k) none some =
    ap (λ x. x && is_exponent_or_nothing (without_digits (take k bytes))) (begins_with_digit-take bytes k (omega arith) ∙ ap (λ n. ltb 0 n) none)

pub fraction_none : (text : List ℕ) → 0 < length text → get_or text 0 0 ≡ 46 → prefix_len (is_digit_in 10) (drop 1 text) ≡ 0 → IsLongestFront is_float_ending text 0
fraction_none [] more dot none = absurd (omega arith)
fraction_none (b ∷ bytes) more dot none =
    subst (λ (x : ℕ). IsLongestFront is_float_ending (x ∷ bytes) 0) (sym dot) (record { within = omega arith; form = λ some. absurd (omega arith); longest = λ m more' w. no_fraction bytes m none more' })

ending_form : (bytes : List ℕ) (n : ℕ) → IsLongestFront is_exponent bytes n → is_exponent_or_nothing (take n bytes) ≡ true
ending_form bytes zero h = refl
ending_form bytes (suc n) h = or_nothing (take (suc n) bytes) (h.form (omega arith))

fraction_longest : (bytes : List ℕ) (n : ℕ) → 0 < prefix_len (is_digit_in 10) bytes → IsLongestFront is_exponent (drop (prefix_len (is_digit_in 10) bytes) bytes) n → (m : ℕ) → 1 + prefix_len (is_digit_in 10) bytes + n < m → m ≤ suc (length bytes) → is_float_ending (take m (46 ∷ bytes)) ≡ false
fraction_longest bytes n some h zero long w = absurd (omega arith)
fraction_longest bytes n some h (suc k) long w =
    let run = prefix_len (is_digit_in 10) bytes in
    let left : k - run ≤ length (drop run bytes) = omega (arith, length-drop run bytes) in
    let size : 0 < length (take (k - run) (drop run bytes)) = omega (arith, length-take-le (k - run) (drop run bytes) left) in
    fraction_front bytes k some (omega arith) ∙ not_even_nothing (take (k - run) (drop run bytes)) size (h.longest (k - run) (omega arith) left)

pub fraction_found : (text : List ℕ) (digits n : ℕ) → 0 < length text → get_or text 0 0 ≡ 46 → digits ≡ prefix_len (is_digit_in 10) (drop 1 text) → 0 < digits → IsLongestFront is_exponent (drop digits (drop 1 text)) n → IsLongestFront is_float_ending text (1 + digits + n)
fraction_found [] digits n more dot are some h = absurd (omega arith)
fraction_found (b ∷ bytes) digits n more dot are some h =
    let run = prefix_len (is_digit_in 10) bytes in
    let some_run : 0 < run = omega arith in
    let rest : IsLongestFront is_exponent (drop run bytes) n = subst (λ (k : ℕ). IsLongestFront is_exponent (drop k bytes) n) are h in
    let size : suc (run + n) ≡ 1 + digits + n = omega arith in
    let within : run + n ≤ length bytes = omega (arith, rest.within, prefix_len-le-length (is_digit_in 10) bytes, length-drop run bytes) in
    let minus : run + n - run ≡ n = omega arith in
    let form : is_float_ending (46 ∷ take (run + n) bytes) ≡ true = fraction_front bytes (run + n) some_run (omega arith) ∙ ap (λ k. is_exponent_or_nothing (take k (drop run bytes))) minus ∙ ending_form (drop run bytes) n rest in
    let here : IsLongestFront is_float_ending (46 ∷ bytes) (suc (run + n)) = record {
      within = omega arith;
      form = λ _. form;
      longest = λ m long w. fraction_longest bytes n some_run rest m (omega arith) w;
    } in
    subst (λ (x : ℕ). IsLongestFront is_float_ending (x ∷ bytes) (1 + digits + n)) (sym dot) (subst (IsLongestFront is_float_ending (46 ∷ bytes)) size here)

-- where no `.` begins the text
ending_of_front : (text : List ℕ) (m : ℕ) → (0 < length text → eqb (get_or text 0 0) 46 ≡ false) → is_float_ending (take m text) ≡ is_exponent (take m text)
ending_of_front text zero h = refl
ending_of_front [] (suc m) h = refl
ending_of_front (b ∷ text) (suc m) h = ap (λ v. cond v (begins_with_digit (take m text) && is_exponent_or_nothing (without_digits (take m text))) (is_exponent (b ∷ take m text))) (h (omega arith))

pub ending_is_exponent : (text : List ℕ) (n : ℕ) → (0 < length text → eqb (get_or text 0 0) 46 ≡ false) → IsLongestFront is_exponent text n → IsLongestFront is_float_ending text n
ending_is_exponent text n no_dot h = record {
  within = h.within;
  form = λ some. ending_of_front text n no_dot ∙ h.form some;
  longest = λ m long w. ending_of_front text m no_dot ∙ h.longest m long w;
}
