-- The offsets of a domain as a table of words.
use Rattle.std.proofs.Common.{◌≡◌, ℕ, ◌+◌, ◌*◌, ◌%◌, ◌^◌, ◌<◌, ◌≤◌, ◌↔◌, Bool, true, false, List, [], ◌∷◌, ◌++◌, length, get_or, drop, append_assoc, map, ℤ, pos, ◌+ℤ◌, ◌-ℤ◌, refl, sym, ap, ◌∙◌, subst, inl, inr, arith, Contains}
use Rattle.std.specs.Prelude.{◌≤ℤ◌, ◌<ℤ◌, unsigned_abs, slice_range}
use Rattle.std.specs.declared.cmp.Ordering.TheVariants.{Less}
use Rattle.std.specs.Ordering.{int_cmp}
use Rattle.std.specs.Cmp.{int_ranked}
use Rattle.std.specs.List.{All}
use Rattle.std.specs.List.Sorted.{IsStrictlyIncreasing}
use Rattle.std.proofs.lemmas.Int.{ints}
use Rattle.std.proofs.lemmas.Bool.{cases_order}
use Rattle.std.proofs.lemmas.List.{length-map, get_or-map, get_or_default, drop_more}
use Rattle.std.proofs.lemmas.List.Elements.{Contains-get_or, All-from_get_or}
use Rattle.std.proofs.lemmas.Map.Keys.{Less-from_sorted}
use Rattle.std.proofs.lemmas.Nat.{pow_below, mod_low}
use Rattle.set_meaning.specs.declared.kinds.Kind.TheVariants as kind
use Rattle.set_meaning.specs.declared.kinds.Value.{Value}
use Rattle.set_meaning.specs.declared.kinds.Value.TheVariants as value
use Rattle.set_meaning.specs.Kinds.{InKind}
use Rattle.set_meaning.specs.Sets.{Has, IsAscending}
use Rattle.bit_layout.specs.Words.{distance, least, span, number, width_of, word_of, IsValueOf}
use Rattle.table_machine.specs.Tables.{IsTable}
use Rattle.table_machine.specs.Values.{offsets}
use Rattle.table_machine.specs.Laws.{WordLaws}
use Rattle.table_machine.proofs.Numbers.{number_below}
use Rattle.table_machine.proofs.Branches.{Ends}

-- ---- one offset

distance_from : (a x : ℤ) (n : ℕ) → (a +ℤ pos n) ≡ x → distance a x ≡ n
distance_from a x n e = let f : x -ℤ a ≡ pos n = omega (arith, ints, e) in ap unsigned_abs f

pub offset_is : (laws : WordLaws) (numbers : List ℤ) (x : ℤ) → IsAscending numbers → Has numbers x → distance (least numbers) x ≡ number (word_of (kind.Int numbers) (value.Int x))
offset_is laws numbers x up h = distance_from (least numbers) x (number (word_of (kind.Int numbers) (value.Int x))) (laws.offsets numbers x up h)

pub least_first : (laws : WordLaws) (numbers : List ℤ) (x : ℤ) → IsAscending numbers → Has numbers x → least numbers ≤ℤ x
least_first laws numbers x up h =
    above (least numbers) x (number (word_of (kind.Int numbers) (value.Int x))) (laws.offsets numbers x up h)
  where
    above : (a x : ℤ) (n : ℕ) → (a +ℤ pos n) ≡ x → a ≤ℤ x
    above a x n e = omega (arith, ints, e)

pub int_in_kind : (numbers : List ℤ) (x : ℤ) → Has numbers x → InKind (kind.Int numbers) (value.Int x)
unfolding InKind
int_in_kind numbers x h = h

pub word_long : (laws : WordLaws) (numbers : List ℤ) (x : ℤ) → Has numbers x → length (word_of (kind.Int numbers) (value.Int x)) ≡ width_of (kind.Int numbers)
word_long laws numbers x h = laws.long (kind.Int numbers) (value.Int x) (int_in_kind numbers x h)

pub offset_small : (laws : WordLaws) (numbers : List ℤ) (x : ℤ) → IsAscending numbers → Has numbers x → distance (least numbers) x < 2 ^ width_of (kind.Int numbers)
offset_small laws numbers x up h =
    let P : ℕ → Type 0 = λ n. n < 2 ^ width_of (kind.Int numbers) in
    let Q : ℕ → Type 0 = λ n. number (word_of (kind.Int numbers) (value.Int x)) < 2 ^ n in
    subst P (sym (offset_is laws numbers x up h)) (subst Q (word_long laws numbers x h) (number_below (word_of (kind.Int numbers) (value.Int x))))

power_up : (i j : ℕ) → i ≤ j → 2 ^ i ≤ 2 ^ j
power_up i j h =
    elim (cases_order i j) [
      | inl e ↦ let P : ℕ → Type 0 = λ m. 2 ^ i ≤ 2 ^ m in subst P e (omega arith)
      | inr (inl less) ↦ let p : 2 ^ i < 2 ^ j = pow_below i j less in omega (arith, p)
      | inr (inr more) ↦ absurd (omega (arith, h, more))
    ]

pub narrow_width : (laws : WordLaws) (numbers : List ℤ) → span numbers ≤ 65535 → width_of (kind.Int numbers) ≤ 16
narrow_width laws numbers narrow = (laws.widths (span numbers)).least 16 (omega (arith, narrow))

pub offset_near : (laws : WordLaws) (numbers : List ℤ) (x : ℤ) → IsAscending numbers → span numbers ≤ 65535 → Has numbers x → distance (least numbers) x ≤ 65535
offset_near laws numbers x up narrow h =
    let small = offset_small laws numbers x up h in
    let most : 2 ^ width_of (kind.Int numbers) ≤ 2 ^ 16 = power_up (width_of (kind.Int numbers)) 16 (narrow_width laws numbers narrow) in
    omega (arith, small, most)

-- ---- the table

number_at : (numbers : List ℤ) (i : ℕ) → i < length numbers → Has numbers (get_or numbers i (pos 0))
unfolding Has
number_at numbers i within = Contains-get_or numbers i (pos 0) within

-- what an offset asks at an element of the list
pub asks_up : (laws : WordLaws) (numbers : List ℤ) (i : ℕ) (a x : ℤ) → IsAscending numbers → i < length numbers → a ≡ least numbers → x ≡ get_or numbers i (pos 0) → a ≤ℤ x
asks_up laws numbers i a x up within e f =
    let P : ℤ → Type 0 = λ y. y ≤ℤ x in
    let Q : ℤ → Type 0 = λ y. least numbers ≤ℤ y in
    subst P (sym e) (subst Q (sym f) (least_first laws numbers (get_or numbers i (pos 0)) up (number_at numbers i within)))

pub asks_near : (laws : WordLaws) (numbers : List ℤ) (i : ℕ) (a x : ℤ) → IsAscending numbers → span numbers ≤ 65535 → i < length numbers → a ≡ least numbers → x ≡ get_or numbers i (pos 0) → distance a x ≤ 65535
asks_near laws numbers i a x up narrow within e f =
    let P : ℕ → Type 0 = λ n. n ≤ 65535 in
    let same : distance (least numbers) (get_or numbers i (pos 0)) ≡ distance a x = sym (ap (λ y. distance y x) e ∙ ap (distance (least numbers)) f) in
    subst P same (offset_near laws numbers (get_or numbers i (pos 0)) up narrow (number_at numbers i within))

-- a step of the loop that appends the offsets
pub offsets_step : (numbers : List ℤ) (i n : ℕ) (a x : ℤ) (words pushed all : List ℕ) → i < length numbers → a ≡ least numbers → x ≡ get_or numbers i (pos 0) → n ≡ distance a x → pushed ≡ words ++ n ∷ []
    → words ++ map (distance (least numbers)) (drop i numbers) ≡ all → pushed ++ map (distance (least numbers)) (drop (i + 1) numbers) ≡ all
offsets_step numbers i n a x words pushed all within e f is push so_far =
    let f' : ℤ → ℕ = distance (least numbers) in
    let rest : List ℕ = map f' (drop (i + 1) numbers) in
    let here : n ≡ f' (get_or numbers i (pos 0)) = is ∙ ap (λ y. distance y x) e ∙ ap f' f in
    let split : map f' (drop i numbers) ≡ f' (get_or numbers i (pos 0)) ∷ rest = ap (map f') (drop_more numbers i (pos 0) within) in
    ap (λ ws. ws ++ rest) push ∙ append_assoc words (n ∷ []) rest ∙ ap (λ m. words ++ m ∷ rest) here ∙ ap (λ ws. words ++ ws) (sym split) ∙ so_far

offset_at : (numbers : List ℤ) (i : ℕ) → i < length numbers → get_or (offsets numbers) i 0 ≡ distance (least numbers) (get_or numbers i (pos 0))
offset_at numbers i within = get_or-map (distance (least numbers)) numbers i (pos 0) 0 within

pub offsets_rise : (laws : WordLaws) (numbers : List ℤ) → IsAscending numbers → IsStrictlyIncreasing (offsets numbers)
offsets_rise laws numbers up k within =
    let long : length (offsets numbers) ≡ length numbers = length-map numbers (distance (least numbers)) in
    let second : k + 1 < length numbers = omega (arith, long, within) in
    let first : k < length numbers = omega (arith, second) in
    let x : ℤ = get_or numbers k (pos 0) in
    let y : ℤ = get_or numbers (k + 1) (pos 0) in
    let less : x <ℤ y = int_ranked x y Less (sym (Less-from_sorted int_cmp numbers k (k + 1) (pos 0) up (omega arith) second)) in
    let rise = rises (least numbers) x y (number (word_of (kind.Int numbers) (value.Int x))) (number (word_of (kind.Int numbers) (value.Int y)))
    (laws.offsets numbers x up (number_at numbers k first)) (laws.offsets numbers y up (number_at numbers (k + 1) second)) less in
    let a = offset_at numbers k first ∙ offset_is laws numbers x up (number_at numbers k first) in
    let b = offset_at numbers (k + 1) second ∙ offset_is laws numbers y up (number_at numbers (k + 1) second) in
    omega (arith, rise, a, b)
  where
    rises : (a x y : ℤ) (m n : ℕ) → (a +ℤ pos m) ≡ x → (a +ℤ pos n) ≡ y → x <ℤ y → m < n
    rises a x y m n e f less = omega (arith, ints, e, f, less)

pub offsets_small : (laws : WordLaws) (numbers : List ℤ) → IsAscending numbers → All (λ n. n < 2 ^ width_of (kind.Int numbers)) (offsets numbers)
offsets_small laws numbers up =
    All-from_get_or (λ n. n < 2 ^ width_of (kind.Int numbers)) (offsets numbers) 0 (λ i within.
    let long : length (offsets numbers) ≡ length numbers = length-map numbers (distance (least numbers)) in
    let inside : i < length numbers = omega (arith, long, within) in
    let P : ℕ → Type 0 = λ n. n < 2 ^ width_of (kind.Int numbers) in
    subst P (sym (offset_at numbers i inside)) (offset_small laws numbers (get_or numbers i (pos 0)) up (number_at numbers i inside)))

pub domain_table : (laws : WordLaws) (words : List ℕ) (numbers : List ℤ) (from to : ℕ) → IsAscending numbers → span numbers ≤ 65535 → from ≤ to → to ≤ length words → slice_range words from to ≡ offsets numbers
    → IsTable words from to (width_of (kind.Int numbers))
domain_table laws words numbers from to up narrow ordered within is =
    let width = narrow_width laws numbers narrow in
    let P : List ℕ → Type 0 = λ xs. IsStrictlyIncreasing xs in
    let Q : List ℕ → Type 0 = λ xs. All (λ n. n < 2 ^ width_of (kind.Int numbers)) xs in
    record {
      up = ordered;
      within = within;
      narrow = omega (arith, width);
      ascending = subst P (sym is) (offsets_rise laws numbers up);
      below = subst Q (sym is) (offsets_small laws numbers up);
    }

-- ---- a word is listed just where it is that of a value

-- digits of one length are those of one number
pub same_digits : (xs ys : List Bool) → length xs ≡ length ys → number xs ≡ number ys → xs ≡ ys
same_digits [] [] long e = refl
same_digits [] (y ∷ ys) long e = absurd (omega (arith, long))
same_digits (x ∷ xs) [] long e = absurd (omega (arith, long))
same_digits (true ∷ xs) (true ∷ ys) long e =
    let l : length xs ≡ length ys = omega (arith, long) in
    let p : 2 ^ length xs ≡ 2 ^ length ys = ap (λ m. 2 ^ m) l in
    ap (λ bs. true ∷ bs) (same_digits xs ys l (omega (arith, e, p)))
same_digits (false ∷ xs) (false ∷ ys) long e =
    let l : length xs ≡ length ys = omega (arith, long) in
    ap (λ bs. false ∷ bs) (same_digits xs ys l (omega (arith, e)))
same_digits (true ∷ xs) (false ∷ ys) long e =
    let l : length xs ≡ length ys = omega (arith, long) in
    let p : 2 ^ length xs ≡ 2 ^ length ys = ap (λ m. 2 ^ m) l in
    let below : number ys < 2 ^ length ys = number_below ys in
    absurd (omega (arith, e, p, below))
same_digits (false ∷ xs) (true ∷ ys) long e =
    let l : length xs ≡ length ys = omega (arith, long) in
    let p : 2 ^ length xs ≡ 2 ^ length ys = ap (λ m. 2 ^ m) l in
    let below : number xs < 2 ^ length xs = number_below xs in
    absurd (omega (arith, e, p, below))

pub small_rest : (n r : ℕ) → n < 2 ^ r → n % 2 ^ r ≡ n
small_rest n r small = let e : 0 * 2 ^ r + n ≡ n = omega arith in ap (λ m. m % 2 ^ r) (sym e) ∙ mod_low 0 r n small

in_offsets : (numbers : List ℤ) (n : ℕ) → Contains (offsets numbers) n → (x : ℤ) × Has numbers x × (distance (least numbers) x ≡ n)
in_offsets numbers n h =
    let long : length (offsets numbers) ≡ length numbers = length-map numbers (distance (least numbers)) in
    let i : ℕ = h.0 in
    let there : i < length (offsets numbers) = h.1 in
    let within : i < length numbers = omega (arith, long, there) in
    (get_or numbers i (pos 0), number_at numbers i within, sym (offset_at numbers i within) ∙ get_or_default (offsets numbers) i 0 n there ∙ h.2)

is_in_offsets : (numbers : List ℤ) (x : ℤ) → Has numbers x → Contains (offsets numbers) (distance (least numbers) x)
unfolding Has
is_in_offsets numbers x h =
    let long : length (offsets numbers) ≡ length numbers = length-map numbers (distance (least numbers)) in
    let i : ℕ = h.0 in
    let within : i < length numbers = h.1 in
    (i, omega (arith, long, within), get_or-map (distance (least numbers)) numbers i x (distance (least numbers) x) within ∙ ap (distance (least numbers)) h.2)

-- the value of a kind of integers is an integer of the domain
int_of_kind : (numbers : List ℤ) (x : Value) → InKind (kind.Int numbers) x → (y : ℤ) × Has numbers y × (x ≡ value.Int y)
unfolding InKind
int_of_kind numbers (value.Bool b) h = absurd h
int_of_kind numbers (value.Int y) h = (y, h, refl)
int_of_kind numbers (value.Set s) h = absurd h

pub listed_is_value : (laws : WordLaws) (numbers : List ℤ) (word : List Bool) → IsAscending numbers → length word ≡ width_of (kind.Int numbers)
    → Ends (offsets numbers) (width_of (kind.Int numbers)) (number word) ↔ ((x : Value) × IsValueOf (kind.Int numbers) word x)
listed_is_value laws numbers word up long = (
  λ h.
      let r = in_offsets numbers h.0 h.1 in
      let small = offset_small laws numbers r.0 up r.1 in
      let e : number (word_of (kind.Int numbers) (value.Int r.0)) ≡ number word =
      sym (offset_is laws numbers r.0 up r.1) ∙ sym (small_rest (distance (least numbers) r.0) (width_of (kind.Int numbers)) small) ∙ ap (λ n. n % 2 ^ width_of (kind.Int numbers)) r.2 ∙ h.2 in
      (value.Int r.0, record { in_kind = int_in_kind numbers r.0 r.1; is_word = same_digits (word_of (kind.Int numbers) (value.Int r.0)) word (word_long laws numbers r.0 r.1 ∙ sym long) e }),
  λ h.
      let y = int_of_kind numbers h.0 h.1.in_kind in
      let small = offset_small laws numbers y.0 up y.1 in
      let word_is : word_of (kind.Int numbers) (value.Int y.0) ≡ word = ap (word_of (kind.Int numbers)) (sym y.2) ∙ h.1.is_word in (
        distance (least numbers) y.0,
        is_in_offsets numbers y.0 y.1,
        small_rest (distance (least numbers) y.0) (width_of (kind.Int numbers)) small ∙ offset_is laws numbers y.0 up y.1 ∙ ap number word_is,
      ),
)
