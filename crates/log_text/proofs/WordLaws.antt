-- Joining and cutting undo each other, where no word holds the separator.
use Rattle.std.proofs.Common.{ℕ, ℤ, ◌≡◌, ◌≤◌, ◌<◌, ◌^◌, List, [], ◌∷◌, ◌++◌, map, length, true, false, refl, sym, ap, ◌∙◌, arith, pos, negsuc, suc, append-nil, eq-eqb, length-append, lit<}
use Rattle.std.proofs.lemmas.List.Elements.{All-weaker}
use Rattle.std.specs.Prelude.{unsigned_abs, Bool, ◌==◌, ◌&&◌, not}
use Rattle.std.specs.Fmt.{decimal, signed_decimal}
use Rattle.std.specs.List.{AllByRecursion, join_by, join_with_byte, list_all, slice_split, All}
use Rattle.std.proofs.lemmas.List.Splits.{join_with_byte-slice_split, slice_split_at, slice_split_none}
use Rattle.std.specs.Str.{all_ascii_digits}
use lib.Signed.{mag}
use Rattle.std.proofs.lemmas.Str.Parse.{tells_all_ascii_digits}
use Rattle.std.proofs.lemmas.Bool.Decides.{nat_tests}
use Rattle.std.proofs.lemmas.Fmt.{digits_decimal, signed_decimal_injective, decimal_nonempty}
use Rattle.log_text.specs.Spelling.{IsElement}
use Rattle.log_text.proofs.NumberLaws.{own}
use Rattle.log_text.proofs.ReadLaws.{first_same, others_same}
use Rattle.std.proofs.lemmas.List.Sums.{AllPass-from_list_all}
use Rattle.std.proofs.lemmas.List.Folds.{list_all-append, flat_map-map}

-- no byte of the word is c
abbrev pub lacks : ℕ → List ℕ → Bool
lacks c w = list_all (λ b. not (b == c)) w

abbrev pub joined : ℕ → List (List ℕ) → List ℕ
joined c ws = join_by (λ w. w) (c ∷ []) ws

-- the same join, in std's words for one byte
pub joined_is : (c : ℕ) (ws : List (List ℕ)) → joined c ws ≡ join_with_byte c ws
joined_is c [] = refl
joined_is c (w ∷ []) = rw append-nil refl
joined_is c (w ∷ v ∷ ws) = ap (λ x. w ++ (c ∷ x)) (joined_is c (v ∷ ws))

-- what was cut, joined again
pub joined_split : (c : ℕ) (bs : List ℕ) → joined c (slice_split (λ b. b == c) bs) ≡ bs
joined_split c bs = joined_is c (slice_split (λ b. b == c) bs) ∙ join_with_byte-slice_split c bs

pub fails : (b : Bool) → not b ≡ true → b ≡ false
fails true h = cc
fails false h = refl

pub all_fail : (c : ℕ) (w : List ℕ) → lacks c w ≡ true → All (λ b. (b == c) ≡ false) w
all_fail c w free = All-weaker (λ b. not (b == c) ≡ true) (λ b. (b == c) ≡ false) (λ b h. fails (b == c) h) w (AllPass-from_list_all (λ b. not (b == c)) w free)

-- the first separator ends the first word
pub split_word : (c : ℕ) (w rest : List ℕ) → lacks c w ≡ true → slice_split (λ b. b == c) (w ++ c ∷ rest) ≡ w ∷ slice_split (λ b. b == c) rest
split_word c w rest free = slice_split_at (λ b. b == c) w c rest (all_fail c w free) (eq-eqb c c refl)

pub split_last : (c : ℕ) (w : List ℕ) → lacks c w ≡ true → slice_split (λ b. b == c) w ≡ w ∷ []
split_last c w free = slice_split_none (λ b. b == c) w (all_fail c w free)

-- words that were joined, cut again
pub split_joined : (c : ℕ) (w : List ℕ) (ws : List (List ℕ)) → AllByRecursion (λ v. lacks c v ≡ true) (w ∷ ws) → slice_split (λ b. b == c) (joined c (w ∷ ws)) ≡ w ∷ ws
split_joined c w [] free = rw append-nil (split_last c w free.0)
split_joined c w (v ∷ ws) free = split_word c w (joined c (v ∷ ws)) free.0 ∙ ap (λ vs. w ∷ vs) (split_joined c v ws free.1)

-- the elements of a set, as words that are joined
pub elements_joined : (c : ℕ) (xs : List ℤ) → join_by signed_decimal (c ∷ []) xs ≡ joined c (map signed_decimal xs)
elements_joined c [] = refl
elements_joined c (x ∷ xs) = ap (λ r. signed_decimal x ++ r) (sym (flat_map-map (λ w. c ∷ w) signed_decimal xs))

pub elements_from_pieces : (text : List ℕ) (ps : List (List ℕ)) (xs : List ℤ) → ps ≡ slice_split (λ b. b == 44) text → ps ≡ map signed_decimal xs → text ≡ join_by signed_decimal (44 ∷ []) xs
elements_from_pieces text ps xs cut are =
    sym (joined_split 44 text) ∙ ap (joined 44) (sym cut ∙ are) ∙ sym (elements_joined 44 xs)

pub and_both : (a b : Bool) → a ≡ true → b ≡ true → (a && b) ≡ true
and_both true b x y = y
and_both false b x y = cc

differs : (d c : ℕ) → c < d → not (d == c) ≡ true
differs d c above = grind (arith, nat_tests)

pub append_lacks : (c : ℕ) (v w : List ℕ) → lacks c v ≡ true → lacks c w ≡ true → lacks c (v ++ w) ≡ true
append_lacks c v w x y = list_all-append (λ b. not (b == c)) v w ∙ and_both _ _ x y

-- a digit is no separator
digits_lack : (c : ℕ) (ds : List ℕ) → c < 48 → all_ascii_digits ds ≡ true → lacks c ds ≡ true
digits_lack c [] low digits = refl
digits_lack c (d ∷ ds) low digits =
    let parts = tells_all_ascii_digits.parts d ds digits in
    and_both _ _ (differs d c (omega (arith, parts.0, low))) (digits_lack c ds low parts.1)

pub decimal_lacks : (c n : ℕ) → c < 48 → n < 2 ^ 64 → lacks c (decimal n) ≡ true
decimal_lacks c n low fits = digits_lack c (decimal n) low (digits_decimal own n fits)

pub integer_lacks : (c : ℕ) (z : ℤ) → c < 45 → unsigned_abs z ≤ 1000000000 → lacks c (signed_decimal z) ≡ true
integer_lacks c (pos n) low small = decimal_lacks c n (omega arith) (omega (arith, small))
integer_lacks c (negsuc n) low small =
    let rest : lacks c (decimal (suc n)) ≡ true = decimal_lacks c (suc n) (omega arith) (omega (arith, small)) in
    and_both _ _ (differs 45 c low) rest

pub elements_lack : (xs : List ℤ) → AllByRecursion IsElement xs → AllByRecursion (λ w. lacks 44 w ≡ true) (map signed_decimal xs)
elements_lack [] fit = tt
elements_lack (x ∷ xs) fit = (integer_lacks 44 x (lit< tt) (omega (arith, fit.0)), elements_lack xs fit.1)

pub pieces_from_elements : (text : List ℕ) (xs : List ℤ) → false ≡ (length text == 0) → AllByRecursion IsElement xs → text ≡ join_by signed_decimal (44 ∷ []) xs → slice_split (λ b. b == 44) text ≡ map signed_decimal xs
pieces_from_elements text [] some fit is = let e : false ≡ true = some ∙ ap (λ t. length t == 0) is in cc
pieces_from_elements text (x ∷ xs) some fit is =
    ap (slice_split (λ b. b == 44)) (is ∙ elements_joined 44 (x ∷ xs)) ∙ split_joined 44 (signed_decimal x) (map signed_decimal xs) (elements_lack (x ∷ xs) fit)

pub mag_small : (z : ℤ) → unsigned_abs z ≤ 1000000000 → mag z < 2 ^ 63
mag_small (pos n) small = omega (arith, small)
mag_small (negsuc n) small = omega (arith, small)

pub element_same : (x y : ℤ) → IsElement x → IsElement y → signed_decimal x ≡ signed_decimal y → x ≡ y
element_same x y a b is = signed_decimal_injective x y (mag_small x (omega (arith, a))) (mag_small y (omega (arith, b))) is

pub map_same : (xs ys : List ℤ) → AllByRecursion IsElement xs → AllByRecursion IsElement ys → map signed_decimal xs ≡ map signed_decimal ys → xs ≡ ys
map_same [] [] a b is = refl
map_same [] (y ∷ ys) a b is = cc
map_same (x ∷ xs) [] a b is = cc
map_same (x ∷ xs) (y ∷ ys) a b is =
    let head : x ≡ y = element_same x y a.0 b.0 (first_same is) in
    let tail : xs ≡ ys = map_same xs ys a.1 b.1 (others_same is) in
    cc

-- an integer's spelling is not empty
some_integer : (z : ℤ) (rest : List ℕ) → unsigned_abs z ≤ 1000000000 → [] ≡ signed_decimal z ++ rest → ⊥
some_integer (pos n) rest small is = omega (arith, ap length is, length-append (decimal n) rest, decimal_nonempty n (omega (arith, small)))
some_integer (negsuc n) rest small is = cc

pub same_elements : (xs ys : List ℤ) → AllByRecursion IsElement xs → AllByRecursion IsElement ys → join_by signed_decimal (44 ∷ []) xs ≡ join_by signed_decimal (44 ∷ []) ys → xs ≡ ys
same_elements [] [] a b is = refl
same_elements [] (y ∷ ys) a b is = absurd (some_integer y _ (omega (arith, b.0)) is)
same_elements (x ∷ xs) [] a b is = absurd (some_integer x _ (omega (arith, a.0)) (sym is))
same_elements (x ∷ xs) (y ∷ ys) a b is =
    map_same (x ∷ xs) (y ∷ ys) a b
    (sym (split_joined 44 (signed_decimal x) (map signed_decimal xs) (elements_lack (x ∷ xs) a))
    ∙ ap (slice_split (λ b. b == 44)) (sym (elements_joined 44 (x ∷ xs)) ∙ is ∙ elements_joined 44 (y ∷ ys))
    ∙ split_joined 44 (signed_decimal y) (map signed_decimal ys) (elements_lack (y ∷ ys) b))
