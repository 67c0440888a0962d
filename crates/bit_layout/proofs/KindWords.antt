-- Words of values, kind by kind: their length, that they are apart, and which value a word belongs to.
use Rattle.std.proofs.Common.{◌≡◌, ℕ, ◌<◌, ◌≤◌, ◌^◌, ◌↔◌, Bool, true, false, IsTrue, Option, Some, None, List, [], ◌∷◌, length, get_or, ℤ, pos, ◌+ℤ◌, ◌-ℤ◌, refl, sym, ap, ◌∙◌, subst, arith, Contains}
use Rattle.std.specs.Prelude.{IfSome, IfNone}
use Rattle.std.proofs.lemmas.Int.{ints}
use Rattle.std.proofs.lemmas.List.{length-map}
use Rattle.set_meaning.specs.declared.kinds.Value.{Value}
use Rattle.set_meaning.specs.declared.kinds.Value.TheVariants as value
use Rattle.set_meaning.specs.declared.kinds.Kind.{Kind}
use Rattle.set_meaning.specs.declared.kinds.Kind.TheVariants as kind
use Rattle.set_meaning.specs.Kinds.{InKind}
use Rattle.set_meaning.specs.Problems.{IsKind}
use Rattle.set_meaning.specs.Sets.{Has, IsAscending, IsSetOf, IsSubset}
use Rattle.bit_layout.specs.Words.{number, bit_width, binary, least, greatest, distance, span, lists, width_of, word_of, IsValueOf}
use Rattle.bit_layout.proofs.Numbers.{number-of_binary, length-binary, same_number, bit_width_is_least}
use Rattle.bit_layout.proofs.Elements.{sets_are_apart, chosen, chosen_word, chosen_within, same_lists, distance_up, same_distance, least_is_least, offset_within}

pub length-word_of : (k : Kind) (x : Value) → InKind k x → length (word_of k x) ≡ width_of k
unfolding InKind
length-word_of kind.Bool (value.Bool b) h = refl
length-word_of kind.Bool (value.Int x) h = absurd h
length-word_of kind.Bool (value.Set s) h = absurd h
length-word_of (kind.Int numbers) (value.Bool b) h = absurd h
length-word_of (kind.Int numbers) (value.Int x) h = length-binary (bit_width (span numbers)) (distance (least numbers) x)
length-word_of (kind.Int numbers) (value.Set s) h = absurd h
length-word_of (kind.Set u) (value.Bool b) h = absurd h
length-word_of (kind.Set u) (value.Int x) h = absurd h
length-word_of (kind.Set u) (value.Set s) h = length-map u (lists s)

-- ---- different values have different words

bools_are_apart : (a b : Bool) → a ∷ [] ≡ b ∷ [] → a ≡ b
bools_are_apart a b e = cc

-- offsets of numbers of the domain have so many digits
pub fits_width : (numbers : List ℤ) (x : ℤ) → IsAscending numbers → Has numbers x → distance (least numbers) x < 2 ^ bit_width (span numbers)
unfolding Has
fits_width numbers x up h =
    let within : distance (least numbers) x ≤ span numbers = offset_within numbers x up h in
    let holds : span numbers < 2 ^ bit_width (span numbers) = (bit_width_is_least (span numbers)).holds in
    omega (arith, within, holds)

ints_are_apart : (numbers : List ℤ) (x y : ℤ) → IsAscending numbers → Has numbers x → Has numbers y → word_of (kind.Int numbers) (value.Int x) ≡ word_of (kind.Int numbers) (value.Int y) → x ≡ y
unfolding Has
ints_are_apart numbers x y up h k e =
    same_distance (least numbers) x y (least_is_least numbers x up h) (least_is_least numbers y up k)
    (same_number (bit_width (span numbers)) (distance (least numbers) x) (distance (least numbers) y) (fits_width numbers x up h) (fits_width numbers y up k) e)

pub words_are_apart : (k : Kind) (x y : Value) → IsKind k → InKind k x → InKind k y → word_of k x ≡ word_of k y → x ≡ y
unfolding InKind
words_are_apart kind.Bool (value.Bool a) (value.Bool b) legal p q e = ap value.Bool (bools_are_apart a b e)
words_are_apart kind.Bool (value.Bool a) (value.Int y) legal p q e = absurd q
words_are_apart kind.Bool (value.Bool a) (value.Set t) legal p q e = absurd q
words_are_apart kind.Bool (value.Int x) y legal p q e = absurd p
words_are_apart kind.Bool (value.Set s) y legal p q e = absurd p
words_are_apart (kind.Int numbers) (value.Bool a) y legal p q e = absurd p
words_are_apart (kind.Int numbers) (value.Int x) (value.Bool b) legal p q e = absurd q
words_are_apart (kind.Int numbers) (value.Int x) (value.Int y) legal p q e = ap value.Int (ints_are_apart numbers x y legal.0 p q e)
words_are_apart (kind.Int numbers) (value.Int x) (value.Set t) legal p q e = absurd q
words_are_apart (kind.Int numbers) (value.Set s) y legal p q e = absurd p
words_are_apart (kind.Set u) (value.Bool a) y legal p q e = absurd p
words_are_apart (kind.Set u) (value.Int x) y legal p q e = absurd p
words_are_apart (kind.Set u) (value.Set s) (value.Bool b) legal p q e = absurd q
words_are_apart (kind.Set u) (value.Set s) (value.Int y) legal p q e = absurd q
words_are_apart (kind.Set u) (value.Set s) (value.Set t) legal p q e = ap value.Set (sets_are_apart u s t p.ascending q.ascending p.within q.within e)

-- a word belongs to one value at most
pub one_value : (k : Kind) (word : List Bool) (x y : Value) → IsKind k → IsValueOf k word x → IsValueOf k word y → x ≡ y
one_value k word x y legal p q = words_are_apart k x y legal p.in_kind q.in_kind (p.is_word ∙ sym q.is_word)

-- ---- the value of a word

pub bool_value : (word : List Bool) (b : Bool) → length word ≡ 1 → b ≡ get_or word 0 false → IsValueOf kind.Bool word (value.Bool b)
unfolding InKind
bool_value [] b long at = absurd (omega (arith, long))
bool_value (c ∷ []) b long at = record { in_kind = tt; is_word = let e : b ≡ c = at in ap (λ d. d ∷ []) e }
bool_value (c ∷ d ∷ bs) b long at = absurd (omega (arith, long))

pub int_value : (numbers : List ℤ) (word : List Bool) (offset : ℕ) (x : ℤ) → IsAscending numbers → length word ≡ bit_width (span numbers) → binary (length word) offset ≡ word
    → x ≡ least numbers +ℤ pos offset → Has numbers x → IsValueOf (kind.Int numbers) word (value.Int x)
unfolding InKind Has
int_value numbers word offset x up long digits at h =
    let near : pos (distance (least numbers) x) ≡ x -ℤ least numbers = distance_up (least numbers) x (least_is_least numbers x up h) in
    let e : distance (least numbers) x ≡ offset = omega (arith, ints, near, at) in
    record { in_kind = h; is_word = ap (λ n. binary (bit_width (span numbers)) n) e ∙ ap (λ w. binary w offset) (sym long) ∙ digits }

pub no_int_value : (numbers : List ℤ) (word : List Bool) (offset : ℕ) → IsAscending numbers → length word ≡ bit_width (span numbers) → binary (length word) offset ≡ word
    → offset < 2 ^ length word → (Has numbers (least numbers +ℤ pos offset) → ⊥) → (x : Value) → IsValueOf (kind.Int numbers) word x → ⊥
unfolding InKind Has
no_int_value numbers word offset up long digits small none (value.Bool b) v = absurd v.in_kind
no_int_value numbers word offset up long digits small none (value.Set s) v = absurd v.in_kind
no_int_value numbers word offset up long digits small none (value.Int x) v =
    let h : Contains numbers x = v.in_kind in
    let w : ℕ = bit_width (span numbers) in
    let P : ℕ → Type 0 = λ n. offset < 2 ^ n in
    let same : distance (least numbers) x ≡ offset =
    same_number w (distance (least numbers) x) offset (fits_width numbers x up h) (subst P long small)
    (v.is_word ∙ sym digits ∙ ap (λ n. binary n offset) long) in
    let near : pos (distance (least numbers) x) ≡ x -ℤ least numbers = distance_up (least numbers) x (least_is_least numbers x up h) in
    let e : x ≡ least numbers +ℤ pos offset = omega (arith, ints, near, same) in
    none (subst (Contains numbers) e h)

-- beyond the greatest there is none
pub none_beyond : (numbers : List ℤ) (offset : ℕ) → IsAscending numbers → span numbers < offset → Has numbers (least numbers +ℤ pos offset) → ⊥
unfolding Has
none_beyond numbers offset up far h =
    let x : ℤ = least numbers +ℤ pos offset in
    let within : distance (least numbers) x ≤ span numbers = offset_within numbers x up h in
    let near : pos (distance (least numbers) x) ≡ x -ℤ least numbers = distance_up (least numbers) x (least_is_least numbers x up h) in
    omega (arith, ints, near, within, far)

pub set_value : (u : List ℤ) (word : List Bool) (items set : List ℤ) → IsAscending u → length word ≡ length u → items ≡ chosen u word → IsSetOf items set → IsValueOf (kind.Set u) word (value.Set set)
unfolding InKind IsSubset Has
set_value u word items set up long are is =
    let P : List ℤ → Type 0 = λ xs. IsSetOf xs set in
    let s : IsSetOf (chosen u word) set = subst P are is in
    record {
      in_kind = record { ascending = s.ascending; within = λ z h. chosen_within u word z ((s.members z).0 h) };
      is_word = chosen_word u word (lists set) up long (λ z h. same_lists set (chosen u word) z (s.members z).0 (s.members z).1);
    }

-- ---- the number that a word stands for, as it is looked for

-- what the elements of a domain are called while they are read
pub no_number_above : (numbers elements : List ℤ) (word : List Bool) (offset : ℕ) (low high : ℤ) → elements ≡ numbers → IsAscending elements → length word ≡ bit_width (span numbers) → binary (length word) offset ≡ word
    → offset < 2 ^ length word → low ≡ least elements → high ≡ greatest elements → distance low high < offset → (x : Value) → IsValueOf (kind.Int numbers) word x → ⊥
no_number_above numbers elements word offset low high same up long digits small e f far =
    let ascending : IsAscending numbers = subst IsAscending same up in
    let near : distance low high ≡ span numbers = ap (λ x. distance x high) e ∙ ap (λ y. distance (least elements) y) f ∙ ap span same in
    no_int_value numbers word offset ascending long digits small (none_beyond numbers offset ascending (omega (arith, near, far)))

pub number_at : (numbers elements : List ℤ) (word : List Bool) (offset : ℕ) (low x y : ℤ) (listed : Bool) (r : Option Value) → elements ≡ numbers → IsAscending elements → length word ≡ bit_width (span numbers)
    → binary (length word) offset ≡ word → low ≡ least elements → x ≡ low +ℤ pos offset → y ≡ x → IsTrue listed ↔ Has numbers x → IfSome r (λ v. (listed ≡ true) × (v ≡ value.Int y)) → IfSome r (IsValueOf (kind.Int numbers) word)
number_at numbers elements word offset low x y listed None same up long digits e at again has some = tt
number_at numbers elements word offset low x y listed (Some v) same up long digits e at again has some =
    let ascending : IsAscending numbers = subst IsAscending same up in
    let here : x ≡ least numbers +ℤ pos offset = at ∙ ap (λ y. y +ℤ pos offset) (e ∙ ap least same) in
    subst (IsValueOf (kind.Int numbers) word) (sym (some.1 ∙ ap value.Int again)) (int_value numbers word offset x ascending long digits here (has.0 some.0))

pub no_number_at : (numbers elements : List ℤ) (word : List Bool) (offset : ℕ) (low x : ℤ) (listed : Bool) (r : Option Value) → elements ≡ numbers → IsAscending elements → length word ≡ bit_width (span numbers)
    → binary (length word) offset ≡ word → offset < 2 ^ length word → low ≡ least elements → x ≡ low +ℤ pos offset → IsTrue listed ↔ Has numbers x → IfNone r (listed ≡ false)
    → IfNone r ((v : Value) → IsValueOf (kind.Int numbers) word v → ⊥)
no_number_at numbers elements word offset low x listed (Some v) same up long digits small e at has none = tt
no_number_at numbers elements word offset low x listed None same up long digits small e at has none =
    let ascending : IsAscending numbers = subst IsAscending same up in
    let here : x ≡ least numbers +ℤ pos offset = at ∙ ap (λ y. y +ℤ pos offset) (e ∙ ap least same) in
    no_int_value numbers word offset ascending long digits small (λ h.
    let t : listed ≡ true = has.1 (subst (Has numbers) (sym here) h) in
    let f : true ≡ false = sym t ∙ none in cc)

-- the word of an integer is its offset in binary
pub offset_of_word : (numbers : List ℤ) (x : ℤ) → IsAscending numbers → Has numbers x → (least numbers +ℤ pos (number (word_of (kind.Int numbers) (value.Int x)))) ≡ x
unfolding Has
offset_of_word numbers x up h =
    let read : number (binary (bit_width (span numbers)) (distance (least numbers) x)) ≡ distance (least numbers) x =
    number-of_binary (bit_width (span numbers)) (distance (least numbers) x) (fits_width numbers x up h) in
    let near : pos (distance (least numbers) x) ≡ x -ℤ least numbers = distance_up (least numbers) x (least_is_least numbers x up h) in
    ap (λ n. least numbers +ℤ pos n) read ∙ back (distance (least numbers) x) near
  where
    back : (n : ℕ) → pos n ≡ x -ℤ least numbers → (least numbers +ℤ pos n) ≡ x
    back n e = omega (arith, ints, e)
