-- Which kind of piece a byte begins: a text that begins with it has no piece of another kind at its front.
use Rattle.std.proofs.Common.{◌≡◌, ℕ, ◌<◌, Bool, true, false, eqb, List, [], ◌∷◌, length, take, get_or, zero, suc, Option, Some, None, sym, refl, ap, ◌∙◌, subst, arith}
use Rattle.std.specs.Char.{is_ascii_alphabetic}
use Rattle.std.specs.Option.{option_or}
use Rattle.std.proofs.lemmas.Bool.{false≢true, ne_eqb}
use Rattle.std.proofs.lemmas.Bool.Decides.{nat_tests}
use Rattle.fzn_reader.specs.declared.pieces.Piece.{Piece}
use Rattle.fzn_reader.specs.Numbers.{is_digit_in, base_of, number_of}
use Rattle.fzn_reader.specs.Pieces.{number_piece, word_piece, string_piece, is_separator, separator_piece, comment_piece, symbol_piece, piece_of}
use Rattle.fzn_reader.specs.Front.{begins_number, begins_word}

-- ---- no piece of a kind

base_of-other : (b : ℕ) (xs : List ℕ) → eqb b 48 ≡ false → base_of (b ∷ xs) ≡ None
base_of-other b [] zero_ = refl
base_of-other b (c ∷ xs) zero_ = rw zero_ refl

number_other : (b : ℕ) (xs : List ℕ) → begins_number b ≡ false → number_piece (b ∷ xs) ≡ None
number_other b xs other =
    let minus : eqb b 45 ≡ false = grind (arith, nat_tests) in
    let digit : is_digit_in 10 b ≡ false = grind (arith, nat_tests) in
    let not_zero : eqb b 48 ≡ false = ne_eqb b 48 (λ e. let d : is_digit_in 10 b ≡ true = ap (is_digit_in 10) e in false≢true (sym digit ∙ d)) in
    let none : number_of (b ∷ xs) ≡ None = rw (base_of-other b xs not_zero, digit) refl in
    rw (minus, none) refl

word_other : (b : ℕ) (xs : List ℕ) → begins_word b ≡ false → word_piece (b ∷ xs) ≡ None
word_other b xs other =
    let score : eqb b 95 ≡ false = grind (arith, nat_tests) in
    let letter : is_ascii_alphabetic b ≡ false = grind (arith, nat_tests) in
    rw (score, letter) refl

string_other : (b : ℕ) (xs : List ℕ) → eqb b 34 ≡ false → string_piece (b ∷ xs) ≡ None
string_other b xs other = rw other refl

separator_other : (b : ℕ) (xs : List ℕ) → is_separator b ≡ false → separator_piece (b ∷ xs) ≡ None
separator_other b xs other = rw other refl

comment_other : (b : ℕ) (xs : List ℕ) → eqb b 37 ≡ false → comment_piece (b ∷ xs) ≡ None
comment_other b xs other = rw other refl

other_byte : (p : ℕ → Bool) (b c : ℕ) → p b ≡ true → p c ≡ false → eqb c b ≡ false
other_byte p b c passes fails = ne_eqb c b (λ same. false≢true (sym fails ∙ ap p same ∙ passes))

-- a byte that passes a test which no first byte of a symbol passes
symbol_other : (p : ℕ → Bool) (b : ℕ) (xs : List ℕ) → p b ≡ true → p 59 ≡ false → p 58 ≡ false → p 44 ≡ false → p 46 ≡ false → p 61 ≡ false → p 40 ≡ false → p 41 ≡ false → p 91 ≡ false → p 93 ≡ false → p 123 ≡ false → p 125 ≡ false → symbol_piece (b ∷ xs) ≡ None
symbol_other p b xs h s59 s58 s44 s46 s61 s40 s41 s91 s93 s123 s125 =
    let ne : (c : ℕ) → p c ≡ false → eqb c b ≡ false = λ c fails. other_byte p b c h fails in
    rw (ne 59 s59, ne 58 s58, ne 44 s44, ne 46 s46, ne 61 s61, ne 40 s40, ne 41 s41, ne 91 s91, ne 93 s93, ne 123 s123, ne 125 s125) refl

-- ---- pieces by the first byte

or_none : (x : Option Piece) → option_or x None ≡ x
or_none None = refl
or_none (Some p) = refl

piece_of-parts : (bytes : List ℕ) (n w s g c y : Option Piece) → number_piece bytes ≡ n → word_piece bytes ≡ w → string_piece bytes ≡ s → separator_piece bytes ≡ g → comment_piece bytes ≡ c → symbol_piece bytes ≡ y → piece_of bytes ≡ option_or n (option_or w (option_or s (option_or g (option_or c y))))
piece_of-parts bytes n w s g c y hn hw hs hg hc hy = λ k. option_or (hn k) (option_or (hw k) (option_or (hs k) (option_or (hg k) (option_or (hc k) (hy k)))))

only_number : (b : ℕ) (xs : List ℕ) → begins_number b ≡ true → piece_of (b ∷ xs) ≡ number_piece (b ∷ xs)
only_number b xs h =
    let word : begins_word b ≡ false = grind (arith, nat_tests) in
    let quote : eqb b 34 ≡ false = grind (arith, nat_tests) in
    let gap : is_separator b ≡ false = grind (arith, nat_tests) in
    let percent : eqb b 37 ≡ false = grind (arith, nat_tests) in
    piece_of-parts (b ∷ xs) (number_piece (b ∷ xs)) None None None None None refl (word_other b xs word) (string_other b xs quote) (separator_other b xs gap) (comment_other b xs percent) (symbol_other begins_number b xs h refl refl refl refl refl refl refl refl refl refl refl) ∙ or_none (number_piece (b ∷ xs))

only_word : (b : ℕ) (xs : List ℕ) → begins_word b ≡ true → begins_number b ≡ false → piece_of (b ∷ xs) ≡ word_piece (b ∷ xs)
only_word b xs h number =
    let quote : eqb b 34 ≡ false = grind (arith, nat_tests) in
    let gap : is_separator b ≡ false = grind (arith, nat_tests) in
    let percent : eqb b 37 ≡ false = grind (arith, nat_tests) in
    piece_of-parts (b ∷ xs) None (word_piece (b ∷ xs)) None None None None (number_other b xs number) refl (string_other b xs quote) (separator_other b xs gap) (comment_other b xs percent) (symbol_other begins_word b xs h refl refl refl refl refl refl refl refl refl refl refl) ∙ or_none (word_piece (b ∷ xs))

only_separator : (b : ℕ) (xs : List ℕ) → is_separator b ≡ true → begins_number b ≡ false → begins_word b ≡ false → piece_of (b ∷ xs) ≡ separator_piece (b ∷ xs)
only_separator b xs h number word =
    let quote : eqb b 34 ≡ false = grind (arith, nat_tests) in
    let percent : eqb b 37 ≡ false = grind (arith, nat_tests) in
    piece_of-parts (b ∷ xs) None None None (separator_piece (b ∷ xs)) None None (number_other b xs number) (word_other b xs word) (string_other b xs quote) refl (comment_other b xs percent) (symbol_other is_separator b xs h refl refl refl refl refl refl refl refl refl refl refl) ∙ or_none (separator_piece (b ∷ xs))

only_string : (b : ℕ) (xs : List ℕ) → b ≡ 34 → piece_of (b ∷ xs) ≡ string_piece (b ∷ xs)
only_string b xs h = subst (λ (x : ℕ). piece_of (x ∷ xs) ≡ string_piece (x ∷ xs)) (sym h) (piece_of-parts (34 ∷ xs) None None (string_piece (34 ∷ xs)) None None None (number_other 34 xs refl) refl refl refl refl (symbol_other (λ b. eqb b 34) 34 xs refl refl refl refl refl refl refl refl refl refl refl refl) ∙ or_none (string_piece (34 ∷ xs)))

only_comment : (b : ℕ) (xs : List ℕ) → b ≡ 37 → piece_of (b ∷ xs) ≡ comment_piece (b ∷ xs)
only_comment b xs h = subst (λ (x : ℕ). piece_of (x ∷ xs) ≡ comment_piece (x ∷ xs)) (sym h) (piece_of-parts (37 ∷ xs) None None None None (comment_piece (37 ∷ xs)) None (number_other 37 xs refl) refl refl refl refl (symbol_other (λ b. eqb b 37) 37 xs refl refl refl refl refl refl refl refl refl refl refl refl) ∙ or_none (comment_piece (37 ∷ xs)))

only_symbol : (b : ℕ) (xs : List ℕ) → begins_number b ≡ false → begins_word b ≡ false → is_separator b ≡ false → eqb b 34 ≡ false → eqb b 37 ≡ false → piece_of (b ∷ xs) ≡ symbol_piece (b ∷ xs)
only_symbol b xs number word gap quote percent =
    piece_of-parts (b ∷ xs) None None None None None (symbol_piece (b ∷ xs)) (number_other b xs number) (word_other b xs word) (string_other b xs quote) (separator_other b xs gap) (comment_other b xs percent) refl

-- ---- fronts

front_of : (K : List ℕ → Option Piece) (text : List ℕ) → 0 < length text → ((xs : List ℕ) → piece_of (get_or text 0 0 ∷ xs) ≡ K (get_or text 0 0 ∷ xs)) → (m : ℕ) → 0 < m → piece_of (take m text) ≡ K (take m text)
front_of K text more h zero some = absurd (omega arith)
front_of K [] more h (suc m) some = absurd (omega arith)
front_of K (b ∷ text) more h (suc m) some = h (take m text)

pub number_front : (text : List ℕ) → 0 < length text → begins_number (get_or text 0 0) ≡ true → (m : ℕ) → 0 < m → piece_of (take m text) ≡ number_piece (take m text)
number_front text more h = front_of number_piece text more (λ xs. only_number (get_or text 0 0) xs h)

pub word_front : (text : List ℕ) → 0 < length text → begins_word (get_or text 0 0) ≡ true → begins_number (get_or text 0 0) ≡ false → (m : ℕ) → 0 < m → piece_of (take m text) ≡ word_piece (take m text)
word_front text more h number = front_of word_piece text more (λ xs. only_word (get_or text 0 0) xs h number)

pub separator_front : (text : List ℕ) → 0 < length text → is_separator (get_or text 0 0) ≡ true → begins_number (get_or text 0 0) ≡ false → begins_word (get_or text 0 0) ≡ false → (m : ℕ) → 0 < m → piece_of (take m text) ≡ separator_piece (take m text)
separator_front text more h number word = front_of separator_piece text more (λ xs. only_separator (get_or text 0 0) xs h number word)

pub string_front : (text : List ℕ) → 0 < length text → get_or text 0 0 ≡ 34 → (m : ℕ) → 0 < m → piece_of (take m text) ≡ string_piece (take m text)
string_front text more h = front_of string_piece text more (λ xs. only_string (get_or text 0 0) xs h)

pub comment_front : (text : List ℕ) → 0 < length text → get_or text 0 0 ≡ 37 → (m : ℕ) → 0 < m → piece_of (take m text) ≡ comment_piece (take m text)
comment_front text more h = front_of comment_piece text more (λ xs. only_comment (get_or text 0 0) xs h)

pub symbol_front : (text : List ℕ) → 0 < length text → begins_number (get_or text 0 0) ≡ false → begins_word (get_or text 0 0) ≡ false → is_separator (get_or text 0 0) ≡ false → eqb (get_or text 0 0) 34 ≡ false → eqb (get_or text 0 0) 37 ≡ false → (m : ℕ) → 0 < m → piece_of (take m text) ≡ symbol_piece (take m text)
symbol_front text more number word gap quote percent = front_of symbol_piece text more (λ xs. only_symbol (get_or text 0 0) xs number word gap quote percent)
