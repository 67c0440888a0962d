-- Lists of words that are read from the left: where what was read is right and what comes next is not, the words spell
-- nothing at all.
use Rattle.std.proofs.Common.{ℕ, ℤ, ◌≡◌, ◌≤◌, ◌<◌, ◌+◌, ◌^◌, List, [], ◌∷◌, ◌++◌, map, true, false, refl, subst, sym, ◌∙◌, arith, pos, negsuc, ◌⊎◌, inl, inr, get_or, cond}
use Rattle.std.specs.Prelude.{unsigned_abs, Bool, codes, Result, Ok, Err, IsErrAnd, IsErrOf, int_lt, IsTrue, ◌↔◌}
use Rattle.std.specs.Ordering.{int_cmp}
use Rattle.std.specs.declared.cmp.Ordering.TheVariants.{Less, Equal, Greater}
use Rattle.std.specs.Cmp.{int_cmp_total}
use Rattle.std.specs.List.Sorted.{IsStrictlySortedBy}
use Rattle.std.proofs.lemmas.Map.Keys.{sorted_from_all_adjacent, Less-from_sorted}
use Rattle.std.specs.Fmt.{decimal, signed_decimal}
use Rattle.std.specs.List.{AllByRecursion, flat_map, join_by, IsAllAdjacentAnswer}
use Rattle.std.specs.Str.{all_ascii_digits}
use Rattle.std.proofs.lemmas.Fmt.{digits_decimal}
use Rattle.std.proofs.lemmas.List.{append_cancel_right}
use Rattle.log_text.specs.declared.line.LogValue.{LogValue}
use Rattle.log_text.specs.declared.line.LogValue.TheVariants as values
use Rattle.log_text.specs.declared.line.Line.{Line}
use Rattle.log_text.specs.declared.line.Line.TheVariants as lines
use Rattle.log_text.specs.declared.kind.Kind.{Kind}
use Rattle.log_text.specs.declared.kind.Kind.TheVariants as kinds
use Rattle.log_text.specs.Kind.{kind_word}
use Rattle.log_text.specs.Spelling.{words, HasSpelling, Word, IsNumber, IsElement, IsSet, IsValue, IsSide, truth_word, value_word, side_words}
use Rattle.log_text.proofs.NumberLaws.{own}

-- one item more
pub all_more : {X : Type 0} (P : X → Type 0) (xs : List X) (x : X) → AllByRecursion P xs → P x → AllByRecursion P (xs ++ x ∷ [])
all_more P [] x all here = (here, tt)
all_more P (y ∷ ys) x all here = (all.0, all_more P ys x all.1 here)

pub first_same : {X : Type 0} {a b : X} {xs ys : List X} → a ∷ xs ≡ b ∷ ys → a ≡ b
first_same is = cc

pub others_same : {X : Type 0} {a b : X} {xs ys : List X} → a ∷ xs ≡ b ∷ ys → xs ≡ ys
others_same is = cc

-- the fault that a `?` passes on
pub passed_on : {T U E : Type 0} (r : Result U E) (e b : E) → IsErrAnd r (λ y. y ≡ e) → IsErrOf r b → IsErrOf {T = T} (Err e) b
passed_on (Ok x) e b h is = cc
passed_on (Err y) e b h is = cc

-- two readings of the same words go on alike
pub tail_one : {a b : Word} {xs ys zs : List Word} → xs ≡ a ∷ ys → xs ≡ b ∷ zs → ys ≡ zs
tail_one e f = cc

pub tail_two : {a b c d : Word} {xs ys zs : List Word} → xs ≡ a ∷ b ∷ ys → xs ≡ c ∷ d ∷ zs → ys ≡ zs
tail_two e f = cc

pub no_sides : (done sides : List (ℕ × ℕ)) (rest : List Word) → AllByRecursion IsSide sides → flat_map side_words done ++ rest ≡ flat_map side_words sides
    → (rest ≡ [] → ⊥) → ((m n : ℕ) (more : List Word) → IsNumber m → IsNumber n → rest ≡ decimal m ∷ decimal n ∷ more → ⊥) → ⊥
no_sides [] [] rest fit is some none = some is
no_sides [] (s ∷ sides) rest fit is some none = none s.0 s.1 (flat_map side_words sides) fit.0.0 fit.0.1 is
no_sides (d ∷ done) [] rest fit is some none = cc
no_sides (d ∷ done) (s ∷ sides) rest fit is some none = no_sides done sides rest fit.1 (cc) some none

pub no_elements : (done elements : List ℤ) (w : Word) (rest : List Word) → AllByRecursion IsElement elements → map signed_decimal done ++ (w ∷ rest) ≡ map signed_decimal elements
    → ((z : ℤ) → unsigned_abs z ≤ 1000000 → w ≡ signed_decimal z → ⊥) → ⊥
no_elements [] [] w rest fit is none = cc
no_elements [] (z ∷ elements) w rest fit is none = none z fit.0 (cc)
no_elements (d ∷ done) [] w rest fit is none = cc
no_elements (d ∷ done) (z ∷ elements) w rest fit is none = no_elements done elements w rest fit.1 (cc) none

-- the spelling of an integer begins with a digit or a minus sign
pub begins_integer : (z : ℤ) (c : ℕ) (rest : List ℕ) → unsigned_abs z ≤ 1000000000 → signed_decimal z ≡ c ∷ rest → (c ≡ 45) ⊎ (all_ascii_digits (c ∷ rest) ≡ true)
begins_integer (pos n) c rest within is =
    let P : List ℕ → Type 0 = λ w. all_ascii_digits w ≡ true in
    let fits : n < 2 ^ 64 = omega (arith, within) in
    inr (subst P is (digits_decimal own n fits))
begins_integer (negsuc n) c rest within is = inl (cc)

pub value_is_no_bar : (v : LogValue) → IsValue v → value_word v ≡ codes "|" → ⊥
value_is_no_bar (values.Bool true) fit is = let e : 116 ≡ 124 = first_same is in absurd (omega (arith, e))
value_is_no_bar (values.Bool false) fit is = let e : 102 ≡ 124 = first_same is in absurd (omega (arith, e))
value_is_no_bar (values.Int z) fit is = elim (begins_integer z 124 [] fit is) [ inl e ↦ absurd (omega (arith, e)) | inr e ↦ cc ]
value_is_no_bar (values.Set elements) fit is = let e : 123 ≡ 124 = first_same is in absurd (omega (arith, e))

-- the values end at the bar
pub no_values : (done values : List LogValue) (w : Word) (now rest : List Word) → AllByRecursion IsValue done → AllByRecursion IsValue values
    → map value_word done ++ (w ∷ now) ≡ map value_word values ++ codes "|" ∷ rest → (w ≡ codes "|" → ⊥) → ((v : LogValue) → IsValue v → w ≡ value_word v → ⊥) → ⊥
no_values [] [] w now rest read fit is other none = other (cc)
no_values [] (v ∷ values) w now rest read fit is other none = none v fit.0 (cc)
no_values (d ∷ done) [] w now rest read fit is other none = value_is_no_bar d read.0 (cc)
no_values (d ∷ done) (v ∷ values) w now rest read fit is other none = no_values done values w now rest read.1 fit.1 (cc) other none

pub no_bar : (done values : List LogValue) (rest : List Word) → AllByRecursion IsValue done → map value_word done ++ [] ≡ map value_word values ++ codes "|" ∷ rest → ⊥
no_bar [] [] rest read is = cc
no_bar [] (v ∷ values) rest read is = cc
no_bar (d ∷ done) [] rest read is = value_is_no_bar d read.0 (cc)
no_bar (d ∷ done) (v ∷ values) rest read is = no_bar done values rest read.1 (cc)

-- what follows the bar
pub after_bar : (done values : List LogValue) (now rest : List Word) → AllByRecursion IsValue done → AllByRecursion IsValue values
    → map value_word done ++ codes "|" ∷ now ≡ map value_word values ++ codes "|" ∷ rest → now ≡ rest
after_bar [] [] now rest read fit is = cc
after_bar [] (v ∷ values) now rest read fit is = absurd (value_is_no_bar v fit.0 (sym (first_same is)))
after_bar (d ∷ done) [] now rest read fit is = absurd (value_is_no_bar d read.0 (first_same is))
after_bar (d ∷ done) (v ∷ values) now rest read fit is = after_bar done values now rest read.1 fit.1 (others_same is)

-- what begins with a brace spells a set or no value
pub no_value_in_braces : (word inner : List ℕ) → word ≡ 123 ∷ inner ++ 125 ∷ [] → ((elements : List ℤ) → IsSet elements → inner ≡ join_by signed_decimal (codes ",") elements → ⊥)
    → (v : LogValue) → IsValue v → word ≡ value_word v → ⊥
no_value_in_braces word inner braces none (values.Bool true) fit is = let e : 123 ≡ 116 = first_same (sym braces ∙ is) in absurd (omega (arith, e))
no_value_in_braces word inner braces none (values.Bool false) fit is = let e : 123 ≡ 102 = first_same (sym braces ∙ is) in absurd (omega (arith, e))
no_value_in_braces word inner braces none (values.Int z) fit is =
    elim (begins_integer z 123 (inner ++ 125 ∷ []) fit (sym is ∙ braces)) [ inl e ↦ absurd (omega (arith, e)) | inr e ↦ cc ]
no_value_in_braces word inner braces none (values.Set elements) fit is =
    none elements fit (append_cancel_right inner (join_by signed_decimal (codes ",") elements) (125 ∷ []) (others_same (sym braces ∙ is)))

-- what is no truth value, stands in no braces and spells no integer spells no value
pub no_value : (word : List ℕ) → ((truth : Bool) → word ≡ truth_word truth → ⊥) → ((inner : List ℕ) → word ≡ 123 ∷ inner ++ 125 ∷ [] → ⊥)
    → ((z : ℤ) → unsigned_abs z ≤ 1000000000 → word ≡ signed_decimal z → ⊥) → (v : LogValue) → IsValue v → word ≡ value_word v → ⊥
no_value word truth braces integer (values.Bool b) fit is = truth b is
no_value word truth braces integer (values.Int z) fit is = integer z fit is
no_value word truth braces integer (values.Set elements) fit is = braces (join_by signed_decimal (codes ",") elements) is

-- the kind that the first word of a line names
unfoldable pub kind_of : Line → Kind
kind_of lines.Header = kinds.Header
kind_of (lines.Node number place lo hi) = kinds.Node
kind_of (lines.Axiom number constraint sides) = kinds.Axiom
kind_of (lines.Answer number values sides) = kinds.Answer
kind_of (lines.Resolvent number left right pivot sides) = kinds.Resolvent
kind_of (lines.Learned number) = kinds.Learned
kind_of (lines.Close number) = kinds.Close
kind_of lines.End = kinds.End

pub begins_with_kind : (line : Line) → (rest : List Word) × (words line ≡ kind_word (kind_of line) ∷ rest)
unfolding kind_of
begins_with_kind lines.Header = (_, refl)
begins_with_kind (lines.Node number place lo hi) = (_, refl)
begins_with_kind (lines.Axiom number constraint sides) = (_, refl)
begins_with_kind (lines.Answer number values sides) = (_, refl)
begins_with_kind (lines.Resolvent number left right pivot sides) = (_, refl)
begins_with_kind (lines.Learned number) = (_, refl)
begins_with_kind (lines.Close number) = (_, refl)
begins_with_kind lines.End = (_, refl)

pub first_byte : {a b : ℕ} {xs ys : List ℕ} {us vs : List Word} → (a ∷ xs) ∷ us ≡ (b ∷ ys) ∷ vs → a ≡ b
first_byte is = cc

-- a line that begins as an answer is one
pub only_answer : (line : Line) (rest : List Word) → HasSpelling line → codes "s" ∷ rest ≡ words line
    → ((number : ℕ) (values : List LogValue) (sides : List (ℕ × ℕ)) → HasSpelling (lines.Answer number values sides)
    → rest ≡ decimal number ∷ (map value_word values ++ codes "|" ∷ flat_map side_words sides) → ⊥) → ⊥
only_answer lines.Header rest fits is none = let e : [] ≡ codes "etlog" = others_same (first_same is) in cc
only_answer (lines.Node number place lo hi) rest fits is none = let e : 115 ≡ 110 = first_byte is in omega (arith, e)
only_answer (lines.Axiom number constraint sides) rest fits is none = let e : 115 ≡ 97 = first_byte is in omega (arith, e)
only_answer (lines.Answer number values sides) rest fits is none = none number values sides fits (others_same is)
only_answer (lines.Resolvent number left right pivot sides) rest fits is none = let e : 115 ≡ 114 = first_byte is in omega (arith, e)
only_answer (lines.Learned number) rest fits is none = let e : 115 ≡ 107 = first_byte is in omega (arith, e)
only_answer (lines.Close number) rest fits is none = let e : 115 ≡ 113 = first_byte is in omega (arith, e)
only_answer lines.End rest fits is none = let e : 115 ≡ 101 = first_byte is in omega (arith, e)

less_is : (a b : Bool) → cond a Less (cond b Greater Equal) ≡ Less → a ≡ true
less_is true b is = refl
less_is false true is = cc
less_is false false is = cc

-- whether each element is below the next is whether the list ascends
pub ascending_answer : (xs : List ℤ) (r : Bool) → IsAllAdjacentAnswer (λ x y b. b ≡ int_lt x y) xs r → IsTrue r ↔ IsStrictlySortedBy int_cmp xs
ascending_answer xs true each =
    (λ _. sorted_from_all_adjacent int_cmp_total xs (pos 0) (λ k below. let e : int_lt (get_or xs k (pos 0)) (get_or xs (k + 1) (pos 0)) ≡ true = sym (each k (pos 0) below) in rw e refl), λ _. refl)
ascending_answer xs false (k, below, fails) = (
  λ h. cc,
  λ sorted.
      let e = less_is (int_lt (get_or xs k (pos 0)) (get_or xs (k + 1) (pos 0))) _ (Less-from_sorted int_cmp xs k (k + 1) (pos 0) sorted (omega arith) below) in
      let f : false ≡ int_lt (get_or xs k (pos 0)) (get_or xs (k + 1) (pos 0)) = fails (pos 0) in
      cc,
)
