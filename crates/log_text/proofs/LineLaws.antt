-- Lines: their words hold no space, and no two lines have the same words.
use Rattle.std.proofs.Common.{◌≢◌, length-append, append_assoc, eq-eqb, ℕ, ℤ, ◌≡◌, ◌<◌, ◌+◌, ◌*◌, List, [], ◌∷◌, ◌++◌, map, length, true, false, refl, subst, sym, ap, ◌∙◌, arith, cond, lit<, inl, inr}
use Rattle.std.specs.Prelude.{Bool, ◌&&◌, not, nat_le, codes, ◌==◌, slice_index}
use Rattle.std.specs.Fmt.{decimal, signed_decimal}
use Rattle.std.proofs.lemmas.Bool.Decides.{nat_tests}
use Rattle.std.specs.List.{list_all, AllByRecursion, flat_map, join_by, slice_split}
use Rattle.std.proofs.lemmas.Fmt.{decimal_injective, signed_decimal_injective}
use Rattle.std.proofs.lemmas.List.{append_cancel_right, append_cancel_left}
use Rattle.std.proofs.lemmas.Str.Parse.{tells_all_ascii_digits}
use Rattle.log_text.specs.declared.line.LogValue.{LogValue}
use Rattle.log_text.specs.declared.line.LogValue.TheVariants as values
use Rattle.log_text.specs.declared.line.Line.{Line}
use Rattle.log_text.specs.declared.line.Line.TheVariants as lines
use Rattle.log_text.specs.declared.kind.Kind.{Kind}
use Rattle.log_text.specs.declared.kind.Kind.TheVariants as kinds
use Rattle.log_text.specs.Kind.{kind_word}
use Rattle.log_text.specs.Spelling.{words, spelling, HasSpelling, IsLog, Word, IsNumber, IsElement, IsValue, IsSide, value_word, side_words}
use Rattle.log_text.proofs.ReadLaws.{kind_of, begins_with_kind, first_same, others_same, begins_integer, value_is_no_bar}
use Rattle.log_text.proofs.WordLaws.{and_both, fails, split_word, lacks, joined, split_joined, append_lacks, decimal_lacks, integer_lacks, same_elements, mag_small}

-- ---- no space and no newline in a word

Free : ℕ → List Word → Type 0
Free c ws = AllByRecursion (λ w. lacks c w ≡ true) ws

above : (b c : ℕ) → c < 44 → nat_le 44 b ≡ true → not (b == c) ≡ true
above b c low high = grind (arith, nat_tests)

and_parts : (a b : Bool) → (a && b) ≡ true → (a ≡ true) × (b ≡ true)
and_parts true b is = (refl, is)
and_parts false b is = cc

-- a word of letters, braces, bars and commas
literal_lacks : (c : ℕ) (w : List ℕ) → c < 44 → list_all (λ b. nat_le 44 b) w ≡ true → lacks c w ≡ true
literal_lacks c [] low high = refl
literal_lacks c (b ∷ w) low high =
    let parts = and_parts (nat_le 44 b) (list_all (λ x. nat_le 44 x) w) high in
    and_both _ _ (above b c low parts.0) (literal_lacks c w low parts.1)

number_lacks : (c : ℕ) → c < 44 → (n : ℕ) → IsNumber n → lacks c (decimal n) ≡ true
number_lacks c low n small = decimal_lacks c n (omega arith) (omega (arith, small))

more_elements_lack : (c : ℕ) → c < 44 → (xs : List ℤ) → AllByRecursion IsElement xs → lacks c (flat_map (λ x. 44 ∷ signed_decimal x) xs) ≡ true
more_elements_lack c low [] fit = refl
more_elements_lack c low (x ∷ xs) fit =
    and_both _ _ (above 44 c low refl) (append_lacks c (signed_decimal x) _ (integer_lacks c x (omega arith) (omega (arith, fit.0))) (more_elements_lack c low xs fit.1))

all_elements_lack : (c : ℕ) → c < 44 → (xs : List ℤ) → AllByRecursion IsElement xs → lacks c (join_by signed_decimal (codes ",") xs) ≡ true
all_elements_lack c low [] fit = refl
all_elements_lack c low (x ∷ xs) fit =
    append_lacks c (signed_decimal x) _ (integer_lacks c x (omega arith) (omega (arith, fit.0))) (more_elements_lack c low xs fit.1)

value_lacks : (c : ℕ) → c < 44 → (v : LogValue) → IsValue v → lacks c (value_word v) ≡ true
value_lacks c low (values.Bool true) fit = literal_lacks c (codes "true") low refl
value_lacks c low (values.Bool false) fit = literal_lacks c (codes "false") low refl
value_lacks c low (values.Int z) fit = integer_lacks c z (omega arith) fit
value_lacks c low (values.Set xs) fit =
    and_both _ _ (above 123 c low refl) (append_lacks c (join_by signed_decimal (codes ",") xs) (125 ∷ []) (all_elements_lack c low xs fit.small) (literal_lacks c (125 ∷ []) low refl))

sides_free : (c : ℕ) → c < 44 → (sides : List (ℕ × ℕ)) → AllByRecursion IsSide sides → Free c (flat_map side_words sides)
unfolding Free
sides_free c low [] fit = tt
sides_free c low (s ∷ sides) fit = (number_lacks c low s.0 fit.0.0, (number_lacks c low s.1 fit.0.1, sides_free c low sides fit.1))

values_free : (c : ℕ) → c < 44 → (values : List LogValue) (rest : List Word) → AllByRecursion IsValue values → Free c rest → Free c (map value_word values ++ rest)
unfolding Free
values_free c low [] rest fit free = free
values_free c low (v ∷ values) rest fit free = (value_lacks c low v fit.0, values_free c low values rest fit.1 free)

words_free : (c : ℕ) → c < 44 → (line : Line) → HasSpelling line → Free c (words line)
unfolding Free
words_free c low lines.Header fits = (literal_lacks c (codes "setlog") low refl, (literal_lacks c (codes "1") low refl, tt))
words_free c low (lines.Node number place lo hi) fits =
    let n = number_lacks c low in
    (literal_lacks c (codes "n") low refl, (n number fits.0, (n place fits.1, (n lo fits.2, (n hi fits.3, tt)))))
words_free c low (lines.Axiom number constraint sides) fits =
    let n = number_lacks c low in
    (literal_lacks c (codes "a") low refl, (n number fits.0, (n constraint fits.1, sides_free c low sides fits.2)))
words_free c low (lines.Answer number values sides) fits =
    let bar = literal_lacks c (codes "|") low refl in
    (literal_lacks c (codes "s") low refl, (number_lacks c low number fits.0, values_free c low values (codes "|" ∷ flat_map side_words sides) fits.1 (bar, sides_free c low sides fits.2)))
words_free c low (lines.Resolvent number left right pivot sides) fits =
    let n = number_lacks c low in
    (literal_lacks c (codes "r") low refl, (n number fits.0, (n left fits.1, (n right fits.2, (n pivot fits.3, sides_free c low sides fits.4)))))
words_free c low (lines.Learned number) fits = (literal_lacks c (codes "k") low refl, (number_lacks c low number fits, tt))
words_free c low (lines.Close number) fits = (literal_lacks c (codes "q") low refl, (number_lacks c low number fits, tt))
words_free c low lines.End fits = (literal_lacks c (codes "e") low refl, tt)

-- the spelling of a line, cut at the spaces, is the words of the line
pub words_of_spelling : (line : Line) → HasSpelling line → slice_split (λ b. b == 32) (spelling line) ≡ words line
unfolding Free
words_of_spelling line fits =
    let begins = begins_with_kind line in
    let P : List Word → Type 0 = λ ws. AllByRecursion (λ w. lacks 32 w ≡ true) ws → slice_split (λ b. b == 32) (joined 32 ws) ≡ ws in
    let at : P (kind_word (kind_of line) ∷ begins.0) = λ free. split_joined 32 (kind_word (kind_of line)) begins.0 free in
    (subst P (sym begins.1) at) (words_free 32 (lit< tt) line fits)

-- ---- equal words, equal lines

letter : Word → ℕ
letter w = 1000 * length w + slice_index w 0

kind_at : ℕ → Kind
kind_at n = cond (n == 6115) kinds.Header (cond (n == 1110) kinds.Node (cond (n == 1097) kinds.Axiom (cond (n == 1115) kinds.Answer
    (cond (n == 1114) kinds.Resolvent (cond (n == 1107) kinds.Learned (cond (n == 1113) kinds.Close kinds.End))))))

kind_back : (kind : Kind) → kind_at (letter (kind_word kind)) ≡ kind
unfolding letter kind_at
kind_back kinds.Header = refl
kind_back kinds.Node = refl
kind_back kinds.Axiom = refl
kind_back kinds.Answer = refl
kind_back kinds.Resolvent = refl
kind_back kinds.Learned = refl
kind_back kinds.Close = refl
kind_back kinds.End = refl

same_kind : (a b : Line) → words a ≡ words b → kind_of a ≡ kind_of b
same_kind a b is =
    let x = begins_with_kind a in
    let y = begins_with_kind b in
    let same : kind_word (kind_of a) ≡ kind_word (kind_of b) = first_same (sym x.1 ∙ is ∙ y.1) in
    sym (kind_back (kind_of a)) ∙ ap (λ w. kind_at (letter w)) same ∙ kind_back (kind_of b)

number_same : (m n : ℕ) → IsNumber m → IsNumber n → decimal m ≡ decimal n → m ≡ n
number_same m n a b is = decimal_injective m n (omega (arith, a)) (omega (arith, b)) is

cons_same : {X : Type 0} {x y : X} {xs ys : List X} → x ≡ y → xs ≡ ys → x ∷ xs ≡ y ∷ ys
cons_same e f = cc

pair_same : (s t : ℕ × ℕ) → s.0 ≡ t.0 → s.1 ≡ t.1 → s ≡ t
pair_same s t e f = λ i. (e i, f i)

sides_same : (ss ts : List (ℕ × ℕ)) → AllByRecursion IsSide ss → AllByRecursion IsSide ts → flat_map side_words ss ≡ flat_map side_words ts → ss ≡ ts
sides_same [] [] a b is = refl
sides_same [] (t ∷ ts) a b is = cc
sides_same (s ∷ ss) [] a b is = cc
sides_same (s ∷ ss) (t ∷ ts) a b is =
    cons_same (pair_same s t (number_same s.0 t.0 a.0.0 b.0.0 (first_same is)) (number_same s.1 t.1 a.0.1 b.0.1 (first_same (others_same is))))
    (sides_same ss ts a.1 b.1 (others_same (others_same is)))

-- a word that begins with a letter or a brace spells no integer
no_integer : (z : ℤ) (c : ℕ) (rest : List ℕ) → IsValue (values.Int z) → 57 < c → signed_decimal z ≡ c ∷ rest → ⊥
no_integer z c rest fit high is =
    elim (begins_integer z c rest fit is) [ inl e ↦ omega (arith, e, high) | inr e ↦ let parts = tells_all_ascii_digits.parts c rest e in omega (arith, parts.0, high) ]

value_same : (u v : LogValue) → IsValue u → IsValue v → value_word u ≡ value_word v → u ≡ v
value_same (values.Bool true) (values.Bool true) a b is = refl
value_same (values.Bool false) (values.Bool false) a b is = refl
value_same (values.Bool true) (values.Bool false) a b is = let e : 116 ≡ 102 = first_same is in absurd (omega (arith, e))
value_same (values.Bool false) (values.Bool true) a b is = let e : 102 ≡ 116 = first_same is in absurd (omega (arith, e))
value_same (values.Bool true) (values.Int z) a b is = absurd (no_integer z 116 _ b (lit< tt) (sym is))
value_same (values.Bool false) (values.Int z) a b is = absurd (no_integer z 102 _ b (lit< tt) (sym is))
value_same (values.Bool true) (values.Set xs) a b is = let e : 116 ≡ 123 = first_same is in absurd (omega (arith, e))
value_same (values.Bool false) (values.Set xs) a b is = let e : 102 ≡ 123 = first_same is in absurd (omega (arith, e))
value_same (values.Int y) (values.Bool true) a b is = absurd (no_integer y 116 _ a (lit< tt) is)
value_same (values.Int y) (values.Bool false) a b is = absurd (no_integer y 102 _ a (lit< tt) is)
value_same (values.Int y) (values.Int z) a b is = ap (λ x. values.Int x) (signed_decimal_injective y z (mag_small y a) (mag_small z b) is)
value_same (values.Int y) (values.Set xs) a b is = absurd (no_integer y 123 _ a (lit< tt) is)
value_same (values.Set ys) (values.Bool true) a b is = let e : 123 ≡ 116 = first_same is in absurd (omega (arith, e))
value_same (values.Set ys) (values.Bool false) a b is = let e : 123 ≡ 102 = first_same is in absurd (omega (arith, e))
value_same (values.Set ys) (values.Int z) a b is = absurd (no_integer z 123 _ b (lit< tt) (sym is))
value_same (values.Set ys) (values.Set zs) a b is =
    ap (λ xs. values.Set xs) (same_elements ys zs a.small b.small
    (append_cancel_right (join_by signed_decimal (codes ",") ys) (join_by signed_decimal (codes ",") zs) (125 ∷ []) (others_same is)))

values_same : (us vs : List LogValue) (ss ts : List Word) → AllByRecursion IsValue us → AllByRecursion IsValue vs
    → map value_word us ++ codes "|" ∷ ss ≡ map value_word vs ++ codes "|" ∷ ts → (us ≡ vs) × (ss ≡ ts)
values_same [] [] ss ts a b is = (refl, others_same is)
values_same [] (v ∷ vs) ss ts a b is = absurd (value_is_no_bar v b.0 (sym (first_same is)))
values_same (u ∷ us) [] ss ts a b is = absurd (value_is_no_bar u a.0 (first_same is))
values_same (u ∷ us) (v ∷ vs) ss ts a b is =
    let rest = values_same us vs ss ts a.1 b.1 (others_same is) in
    (cons_same (value_same u v a.0 b.0 (first_same is)) rest.0, rest.1)

node_same : {k l m n o p q r : ℕ} → k ≡ o → l ≡ p → m ≡ q → n ≡ r → lines.Node k l m n ≡ lines.Node o p q r
node_same a b c d = cc

axiom_same : {k l m n : ℕ} {ss ts : List (ℕ × ℕ)} → k ≡ m → l ≡ n → ss ≡ ts → lines.Axiom k l ss ≡ lines.Axiom m n ts
axiom_same a b c = cc

answer_same : {m n : ℕ} {us vs : List LogValue} {ss ts : List (ℕ × ℕ)} → m ≡ n → us ≡ vs → ss ≡ ts → lines.Answer m us ss ≡ lines.Answer n vs ts
answer_same a b c = cc

resolvent_same : {k l m n o p q r : ℕ} {ss ts : List (ℕ × ℕ)} → k ≡ o → l ≡ p → m ≡ q → n ≡ r → ss ≡ ts → lines.Resolvent k l m n ss ≡ lines.Resolvent o p q r ts
resolvent_same a b c d e = cc

same_of_kind : (a b : Line) → kind_of a ≡ kind_of b → HasSpelling a → HasSpelling b → words a ≡ words b → a ≡ b
unfolding kind_of
same_of_kind lines.Header lines.Header kind = λ a b is. refl
same_of_kind (lines.Node k l m n) (lines.Node o p q r) kind = λ a b is.
    let is1 = others_same is in let is2 = others_same is1 in let is3 = others_same is2 in let is4 = others_same is3 in
    node_same (number_same k o a.0 b.0 (first_same is1)) (number_same l p a.1 b.1 (first_same is2))
    (number_same m q a.2 b.2 (first_same is3)) (number_same n r a.3 b.3 (first_same is4))
same_of_kind (lines.Axiom k l ss) (lines.Axiom m n ts) kind = λ a b is.
    let is1 = others_same is in let is2 = others_same is1 in
    axiom_same (number_same k m a.0 b.0 (first_same is1)) (number_same l n a.1 b.1 (first_same is2)) (sides_same ss ts a.2 b.2 (others_same is2))
same_of_kind (lines.Answer m us ss) (lines.Answer n vs ts) kind = λ a b is.
    let is1 = others_same is in
    let rest = values_same us vs (flat_map side_words ss) (flat_map side_words ts) a.1 b.1 (others_same is1) in
    answer_same (number_same m n a.0 b.0 (first_same is1)) rest.0 (sides_same ss ts a.2 b.2 rest.1)
same_of_kind (lines.Resolvent k l m n ss) (lines.Resolvent o p q r ts) kind = λ a b is.
    let is1 = others_same is in let is2 = others_same is1 in let is3 = others_same is2 in let is4 = others_same is3 in
    resolvent_same (number_same k o a.0 b.0 (first_same is1)) (number_same l p a.1 b.1 (first_same is2))
    (number_same m q a.2 b.2 (first_same is3)) (number_same n r a.3 b.3 (first_same is4)) (sides_same ss ts a.4 b.4 (others_same is4))
same_of_kind (lines.Learned m) (lines.Learned n) kind = λ a b is. ap (λ x. lines.Learned x) (number_same m n a b (first_same (others_same is)))
same_of_kind (lines.Close m) (lines.Close n) kind = λ a b is. ap (λ x. lines.Close x) (number_same m n a b (first_same (others_same is)))
same_of_kind lines.End lines.End kind = λ a b is. refl
same_of_kind a b kind = absurd (cc)

pub same_line : (a b : Line) → HasSpelling a → HasSpelling b → words a ≡ words b → a ≡ b
same_line a b x y is = same_of_kind a b (same_kind a b is) x y is

-- two lines with one spelling are one
pub same_spelling : (a b : Line) → HasSpelling a → HasSpelling b → spelling a ≡ spelling b → a ≡ b
same_spelling a b x y is = same_line a b x y (sym (words_of_spelling a x) ∙ ap (slice_split (λ c. c == 32)) is ∙ words_of_spelling b y)

-- ---- logs

spaced_lacks : (ws : List Word) → Free 10 ws → lacks 10 (flat_map (λ w. 32 ∷ w) ws) ≡ true
unfolding Free
spaced_lacks [] free = refl
spaced_lacks (w ∷ ws) free = append_lacks 10 w _ free.0 (spaced_lacks ws free.1)

joined_lacks : (ws : List Word) → Free 10 ws → lacks 10 (joined 32 ws) ≡ true
unfolding Free
joined_lacks [] free = refl
joined_lacks (w ∷ ws) free = append_lacks 10 w _ free.0 (spaced_lacks ws free.1)

spelling_lacks : (line : Line) → HasSpelling line → lacks 10 (spelling line) ≡ true
spelling_lacks line fits = joined_lacks (words line) (words_free 10 (lit< tt) line fits)

all_apart : (bytes : List ℕ) → lacks 10 bytes ≡ true → AllByRecursion (λ b. b ≢ 10) bytes
all_apart [] free = tt
all_apart (b ∷ bytes) free =
    let parts = and_parts (not (b == 10)) (lacks 10 bytes) free in
    ((λ e. let same : (b == 10) ≡ true = eq-eqb b 10 e in let other : (b == 10) ≡ false = fails (b == 10) parts.0 in cc), all_apart bytes parts.1)

-- a spelling is one line
pub one_line : (line : Line) → HasSpelling line → AllByRecursion (λ b. b ≢ 10) (spelling line)
one_line line fits = all_apart (spelling line) (spelling_lacks line fits)

log_same : (first second : List Line) → AllByRecursion HasSpelling first → AllByRecursion HasSpelling second
    → flat_map (λ line. spelling line ++ codes "\n") first ≡ flat_map (λ line. spelling line ++ codes "\n") second → first ≡ second
log_same [] [] a b is = refl
log_same [] (y ∷ ys) a b is = absurd (omega (arith, ap length is, length-append (spelling y ++ codes "\n") (flat_map (λ line. spelling line ++ codes "\n") ys), length-append (spelling y) (10 ∷ [])))
log_same (x ∷ xs) [] a b is = absurd (omega (arith, ap length is, length-append (spelling x ++ codes "\n") (flat_map (λ line. spelling line ++ codes "\n") xs), length-append (spelling x) (10 ∷ [])))
log_same (x ∷ xs) (y ∷ ys) a b is =
    let more = λ (ls : List Line). flat_map (λ line. spelling line ++ codes "\n") ls in
    let e : spelling x ++ (10 ∷ more xs) ≡ spelling y ++ (10 ∷ more ys) = sym (append_assoc (spelling x) (10 ∷ []) (more xs)) ∙ is ∙ append_assoc (spelling y) (10 ∷ []) (more ys) in
    let same : spelling x ≡ spelling y = first_same
    (sym (split_word 10 (spelling x) (more xs) (spelling_lacks x a.0)) ∙ ap (slice_split (λ c. c == 10)) e ∙ split_word 10 (spelling y) (more ys) (spelling_lacks y b.0)) in
    let rest : more xs ≡ more ys = others_same (append_cancel_left (spelling x) (10 ∷ more xs) (10 ∷ more ys) (e ∙ ap (λ s. s ++ (10 ∷ more ys)) (sym same))) in
    cons_same (same_spelling x y a.0 b.0 same) (log_same xs ys a.1 b.1 rest)

-- a text is the log of one list of lines at most
pub same_log : (text : List ℕ) (first second : List Line) → IsLog text first → IsLog text second → first ≡ second
same_log text first second a b = log_same first second a.spelled b.spelled (sym a.whole ∙ b.whole)
