-- Every text has an end of its scan: at each place a part, a bad number, an open string or nothing begins.
use Rattle.std.proofs.Common.{◌≡◌, ℕ, ◌+◌, ◌-◌, ◌<◌, ◌≤◌, Bool, true, false, cond, eqb, List, [], ◌∷◌, ◌++◌, length, take, drop, zero, suc, Option, Some, None, ⊎_elim, sym, refl, subst, arith, length-drop}
use Rattle.std.specs.Prelude.{Result, Ok, Err, slice_get}
use Rattle.std.specs.List.{prefix_len}
use Rattle.std.specs.Str.Parse.{digits_value}
use Rattle.std.proofs.lemmas.Bool.{cases_lt, eqb-true}
use Rattle.fzn_reader.specs.declared.tokens.TokenKind.{TokenKind}
use Rattle.fzn_reader.specs.declared.tokens.TokenKind.TheVariants as kinds
use Rattle.fzn_reader.specs.declared.tokens.Token.{Token}
use Rattle.fzn_reader.specs.declared.tokens.Symbol.{Symbol}
use Rattle.fzn_reader.specs.declared.pieces.Piece.{Piece}
use Rattle.fzn_reader.specs.declared.lexer.LexFault.{LexFault}
use Rattle.fzn_reader.specs.declared.lexer.LexFault.TheVariants as faults
use Rattle.fzn_reader.specs.Numbers.{is_digit_in, base_of, is_float_ending}
use Rattle.fzn_reader.specs.Pieces.{is_name_byte, leads_to_letter, word_kind, word_of, int_kind, unsigned_piece, number_piece, word_piece, string_piece, separator_piece, comment_piece, symbol_piece, symbol_of, is_separator, is_within_line, closes, piece_of, HasNoDigits, LacksDigits, NeverCloses, IsOpenString, IsLongestBy, BeginsNoneBy, IsLongestPiece}
use Rattle.fzn_reader.specs.Front.{IsLongestFront, symbol_of_two, begins_number, begins_word}
use Rattle.fzn_reader.specs.Scan.{Part, piece_of_part, LeadFrom, tokens_of, EndsIn}
use Rattle.fzn_reader.proofs.LongestNumbers.{decimal_none, decimal_integer, decimal_float, based_found, minus_found, minus_none, unsigned_front}
use Rattle.fzn_reader.proofs.LongestWords.{word_found, word_none, two_found, one_found, symbol_none, separators_found, separators_none, comment_found}
use Rattle.fzn_reader.proofs.Closings.{string_found}
use Rattle.fzn_reader.proofs.Fronts.{found_by, none_by}
use Rattle.fzn_reader.proofs.FirstBytes.{number_front, word_front, separator_front, string_front, comment_front, symbol_front}
use Rattle.fzn_reader.proofs.Scans.{lead_more}

-- ---- the longest front that passes a test

front_below : (p : List ℕ → Bool) (text : List ℕ) (k : ℕ) → k ≤ length text → ((m : ℕ) → k < m → m ≤ length text → p (take m text) ≡ false) → (n : ℕ) × IsLongestFront p text n
front_below p text zero w none = (0, record { within = w; form = λ some. absurd (omega arith); longest = none })
front_below p text (suc k) w none = go (p (take (suc k) text)) refl (λ below. front_below p text k (omega arith) below)
  where
    go : (v : Bool) → p (take (suc k) text) ≡ v → (((m : ℕ) → k < m → m ≤ length text → p (take m text) ≡ false) → (n : ℕ) × IsLongestFront p text n) → (n : ℕ) × IsLongestFront p text n
    go true is below = (suc k, record { within = w; form = λ _. is; longest = none })
    go false is below = below (λ m more w'. ⊎_elim (λ beyond. none m beyond w') (λ here. let e : suc k ≡ m = omega arith in subst (λ (x : ℕ). p (take x text) ≡ false) e is) (cases_lt (suc k) m))

longest_front : (p : List ℕ → Bool) (text : List ℕ) → (n : ℕ) × IsLongestFront p text n
longest_front p text = front_below p text (length text) (omega arith) (λ m more w. absurd (omega arith))

-- ---- what begins, by one kind of piece

data Begins (f : List ℕ → Option Piece) (bad : Type 0) (text : List ℕ) : Type 0 where
  part : (n : ℕ) (kind : Option TokenKind) → IsLongestBy f text n (piece_of_part kind) → Begins f bad text
  bad_part : bad → Begins f bad text
  nothing : BeginsNoneBy f text → Begins f bad text

by_other : (f g : List ℕ → Option Piece) (bad : Type 0) (text : List ℕ) → ((m : ℕ) → 0 < m → g (take m text) ≡ f (take m text)) → Begins f bad text → Begins g bad text
by_other f g bad text same (part n kind h) = part n kind (found_by f g text same (Some (piece_of_part kind, n)) h)
by_other f g bad text same (bad_part h) = bad_part h
by_other f g bad text same (nothing h) = nothing (none_by f g text same None h)

with_base : (negative : Bool) (text : List ℕ) (base n : ℕ) → base_of text ≡ Some base → n ≡ prefix_len (is_digit_in base) (drop 2 text) → Begins (unsigned_piece negative) (HasNoDigits text) text
with_base negative text base zero is run = bad_part (record { base = base; named = is; none = sym run })
with_base negative text base (suc n) is run = part (suc n + 2) (Some (int_kind negative (digits_value base (take (suc n) (drop 2 text))))) (based_found negative text base (suc n) is run (omega arith))

with_ending : (negative : Bool) (text : List ℕ) (digits n : ℕ) → base_of text ≡ None → digits ≡ prefix_len (is_digit_in 10) text → 0 < digits → IsLongestFront is_float_ending (drop digits text) n → Begins (unsigned_piece negative) (HasNoDigits text) text
with_ending negative text digits zero base run some h = part digits (Some (int_kind negative (digits_value 10 (take digits text)))) (decimal_integer negative text digits base run some h)
with_ending negative text digits (suc n) base run some h = part (digits + suc n) (Some kinds.Float) (decimal_float negative text digits (suc n) base run some (omega arith) h)

with_digits : (negative : Bool) (text : List ℕ) (digits : ℕ) → base_of text ≡ None → digits ≡ prefix_len (is_digit_in 10) text → Begins (unsigned_piece negative) (HasNoDigits text) text
with_digits negative text zero base run = nothing (decimal_none negative text base (sym run))
with_digits negative text (suc k) base run =
    let ending = longest_front is_float_ending (drop (suc k) text) in
    with_ending negative text (suc k) ending.0 base run (omega arith) ending.1

unsigned_begins : (negative : Bool) (text : List ℕ) → Begins (unsigned_piece negative) (HasNoDigits text) text
unsigned_begins negative text = go (base_of text) refl
  where
    go : (o : Option ℕ) → base_of text ≡ o → Begins (unsigned_piece negative) (HasNoDigits text) text
    go (Some base) is = with_base negative text base (prefix_len (is_digit_in base) (drop 2 text)) is refl
    go None is = with_digits negative text (prefix_len (is_digit_in 10) text) is refl

minus_begins : (b : ℕ) (bytes : List ℕ) → eqb b 45 ≡ true → Begins (unsigned_piece true) (HasNoDigits bytes) bytes → Begins number_piece (LacksDigits (b ∷ bytes)) (b ∷ bytes)
minus_begins b bytes minus (part n kind h) = part (n + 1) kind (minus_found (b ∷ bytes) n (piece_of_part kind) (omega arith) (eqb-true b 45 minus) h)
minus_begins b bytes minus (bad_part h) = bad_part (subst (λ (v : Bool). HasNoDigits (cond v bytes (b ∷ bytes))) (sym minus) h)
minus_begins b bytes minus (nothing h) = nothing (minus_none (b ∷ bytes) (omega arith) (eqb-true b 45 minus) h)

plain_begins : (b : ℕ) (bytes : List ℕ) → eqb b 45 ≡ false → Begins (unsigned_piece false) (HasNoDigits (b ∷ bytes)) (b ∷ bytes) → Begins number_piece (LacksDigits (b ∷ bytes)) (b ∷ bytes)
plain_begins b bytes minus h =
    by_other (unsigned_piece false) number_piece (LacksDigits (b ∷ bytes)) (b ∷ bytes) (unsigned_front (b ∷ bytes) (λ _. minus)) (subst (λ (v : Bool). Begins (unsigned_piece false) (HasNoDigits (cond v bytes (b ∷ bytes))) (b ∷ bytes)) (sym minus) h)

number_begins : (b : ℕ) (bytes : List ℕ) (minus : Bool) → eqb b 45 ≡ minus → Begins number_piece (LacksDigits (b ∷ bytes)) (b ∷ bytes)
number_begins b bytes true minus = minus_begins b bytes minus (unsigned_begins true bytes)
number_begins b bytes false minus = plain_begins b bytes minus (unsigned_begins false (b ∷ bytes))

word_begins : (text : List ℕ) (leads : Bool) → leads_to_letter (take (prefix_len is_name_byte text) text) ≡ leads → Begins word_piece ⊥ text
word_begins text true leads = part (prefix_len is_name_byte text) (Some (word_kind (word_of (take (prefix_len is_name_byte text) text)))) (word_found text (prefix_len is_name_byte text) refl leads)
word_begins text false leads = nothing (word_none text (prefix_len is_name_byte text) refl leads)

separators_begin : (text : List ℕ) (n : ℕ) → n ≡ prefix_len is_separator text → Begins separator_piece ⊥ text
separators_begin text zero run = nothing (separators_none text (sym run))
separators_begin text (suc n) run = part (suc n) None (separators_found text (suc n) run (omega arith))

comment_begins : (b : ℕ) (bytes : List ℕ) → b ≡ 37 → Begins comment_piece ⊥ (b ∷ bytes)
comment_begins b bytes percent = part (prefix_len is_within_line bytes + 1) None (comment_found (b ∷ bytes) (prefix_len is_within_line bytes) (omega arith) percent refl)

never : (bytes : List ℕ) → IsLongestFront closes bytes 0 → NeverCloses bytes
never bytes h = record { none = none }
  where
    none : (m : ℕ) → m ≤ length bytes → closes (take m bytes) ≡ false
    none zero w = refl
    none (suc m) w = h.longest (suc m) (omega arith) w

closed_begins : (b : ℕ) (bytes : List ℕ) → b ≡ 34 → (n : ℕ) → IsLongestFront closes bytes n → Begins string_piece (IsOpenString (b ∷ bytes)) (b ∷ bytes)
closed_begins b bytes quote zero h = bad_part (record { quote = quote; open_ = never bytes h })
closed_begins b bytes quote (suc n) h = part (suc n + 1) (Some kinds.Text) (string_found (b ∷ bytes) (suc n) (omega arith) quote (record { within = h.within; closed = h.form (omega arith); longest = h.longest }))

string_begins : (b : ℕ) (bytes : List ℕ) → b ≡ 34 → Begins string_piece (IsOpenString (b ∷ bytes)) (b ∷ bytes)
string_begins b bytes quote = let closing = longest_front closes bytes in closed_begins b bytes quote closing.0 closing.1

symbol_begins : (b : ℕ) (bytes : List ℕ) (two one : Option Symbol) → symbol_of_two b (slice_get (b ∷ bytes) 1) ≡ two → symbol_of (b ∷ []) ≡ one → Begins symbol_piece ⊥ (b ∷ bytes)
symbol_begins b bytes (Some s) one two_is one_is = part 2 (Some (kinds.Symbol s)) (two_found (b ∷ bytes) s (omega arith) two_is)
symbol_begins b bytes None (Some s) two_is one_is = part 1 (Some (kinds.Symbol s)) (one_found (b ∷ bytes) s (omega arith) two_is one_is)
symbol_begins b bytes None None two_is one_is = nothing (symbol_none (b ∷ bytes) (omega arith) two_is one_is)

-- ---- what begins at a place

-- why neither a token nor a gap begins
data Bad (text : List ℕ) : Type 0 where
  no_digits : LacksDigits text → Bad text
  open_quote : IsOpenString text → Bad text

worse : (f : List ℕ → Option Piece) (a : Type 0) (text : List ℕ) → (a → Bad text) → Begins f a text → Begins f (Bad text) text
worse f a text to (part n kind h) = part n kind h
worse f a text to (bad_part h) = bad_part (to h)
worse f a text to (nothing h) = nothing h

not_at_all : (text : List ℕ) → ⊥ → Bad text
not_at_all text h = absurd h

by_percent : (b : ℕ) (bytes : List ℕ) (percent : Bool) → begins_number b ≡ false → begins_word b ≡ false → is_separator b ≡ false → eqb b 34 ≡ false → eqb b 37 ≡ percent → Begins piece_of (Bad (b ∷ bytes)) (b ∷ bytes)
by_percent b bytes true number word gap quote percent =
    by_other comment_piece piece_of (Bad (b ∷ bytes)) (b ∷ bytes) (comment_front (b ∷ bytes) (omega arith) (eqb-true b 37 percent)) (worse comment_piece ⊥ (b ∷ bytes) (not_at_all (b ∷ bytes)) (comment_begins b bytes (eqb-true b 37 percent)))
by_percent b bytes false number word gap quote percent =
    by_other symbol_piece piece_of (Bad (b ∷ bytes)) (b ∷ bytes) (symbol_front (b ∷ bytes) (omega arith) number word gap quote percent) (worse symbol_piece ⊥ (b ∷ bytes) (not_at_all (b ∷ bytes)) (symbol_begins b bytes (symbol_of_two b (slice_get (b ∷ bytes) 1)) (symbol_of (b ∷ [])) refl refl))

by_quote : (b : ℕ) (bytes : List ℕ) (quote : Bool) → begins_number b ≡ false → begins_word b ≡ false → is_separator b ≡ false → eqb b 34 ≡ quote → Begins piece_of (Bad (b ∷ bytes)) (b ∷ bytes)
by_quote b bytes true number word gap quote =
    by_other string_piece piece_of (Bad (b ∷ bytes)) (b ∷ bytes) (string_front (b ∷ bytes) (omega arith) (eqb-true b 34 quote)) (worse string_piece (IsOpenString (b ∷ bytes)) (b ∷ bytes) (λ h. open_quote h) (string_begins b bytes (eqb-true b 34 quote)))
by_quote b bytes false number word gap quote = by_percent b bytes (eqb b 37) number word gap quote refl

by_gap : (b : ℕ) (bytes : List ℕ) (gap : Bool) → begins_number b ≡ false → begins_word b ≡ false → is_separator b ≡ gap → Begins piece_of (Bad (b ∷ bytes)) (b ∷ bytes)
by_gap b bytes true number word gap =
    by_other separator_piece piece_of (Bad (b ∷ bytes)) (b ∷ bytes) (separator_front (b ∷ bytes) (omega arith) gap number word) (worse separator_piece ⊥ (b ∷ bytes) (not_at_all (b ∷ bytes)) (separators_begin (b ∷ bytes) (prefix_len is_separator (b ∷ bytes)) refl))
by_gap b bytes false number word gap = by_quote b bytes (eqb b 34) number word gap refl

by_word : (b : ℕ) (bytes : List ℕ) (word : Bool) → begins_number b ≡ false → begins_word b ≡ word → Begins piece_of (Bad (b ∷ bytes)) (b ∷ bytes)
by_word b bytes true number word =
    by_other word_piece piece_of (Bad (b ∷ bytes)) (b ∷ bytes) (word_front (b ∷ bytes) (omega arith) word number) (worse word_piece ⊥ (b ∷ bytes) (not_at_all (b ∷ bytes)) (word_begins (b ∷ bytes) (leads_to_letter (take (prefix_len is_name_byte (b ∷ bytes)) (b ∷ bytes))) refl))
by_word b bytes false number word = by_gap b bytes (is_separator b) number word refl

by_number : (b : ℕ) (bytes : List ℕ) (number : Bool) → begins_number b ≡ number → Begins piece_of (Bad (b ∷ bytes)) (b ∷ bytes)
by_number b bytes true number =
    by_other number_piece piece_of (Bad (b ∷ bytes)) (b ∷ bytes) (number_front (b ∷ bytes) (omega arith) number) (worse number_piece (LacksDigits (b ∷ bytes)) (b ∷ bytes) (λ h. no_digits h) (number_begins b bytes (eqb b 45) refl))
by_number b bytes false number = by_word b bytes (begins_word b) number refl

begins : (text : List ℕ) → Begins piece_of (Bad text) text
begins [] = nothing (record { none = λ m some w. absurd (omega arith) })
begins (b ∷ bytes) = by_number b bytes (begins_number b) refl

-- ---- the end of the scan

abbrev SomeEnd : List ℕ → Type 0
SomeEnd text = (r : Result (List Token) LexFault) × EndsIn text r

at_fault : (text : List ℕ) (at : ℕ) (ps : List Part) → LeadFrom text 0 ps at → at < length text → Bad (drop at text) → SomeEnd text
at_fault text at ps lead more (no_digits h) = (Err (faults.BadNumber at), (record { parts = ps; lead = lead; within = more }, h))
at_fault text at ps lead more (open_quote h) = (Err (faults.OpenString at), (record { parts = ps; lead = lead; within = more }, h))

at_end : (text : List ℕ) (at : ℕ) (ps : List Part) → LeadFrom text 0 ps at → at ≡ length text → SomeEnd text
at_end text at ps lead ended = (Ok (tokens_of ps), record { parts = ps; lead = subst (λ (x : ℕ). LeadFrom text 0 ps x) ended lead; tokens_are = refl })

-- goes on behind a part, or ends where none begins
ends_at : (text : List ℕ) (at : ℕ) (ps : List Part) → LeadFrom text 0 ps at → at < length text → ((n : ℕ) (p : Part) → LeadFrom text 0 (ps ++ p ∷ []) (at + n) → 0 < n → n ≤ length (drop at text) → SomeEnd text) → Begins piece_of (Bad (drop at text)) (drop at text) → SomeEnd text
ends_at text at ps lead more further (bad_part h) = at_fault text at ps lead more h
ends_at text at ps lead more further (nothing h) = (Err (faults.BadByte at), (record { parts = ps; lead = lead; within = more }, h))
ends_at text at ps lead more further (part n kind h) =
    let p : Part = record { kind = kind; from = at; to = at + n } in
    let size : n ≡ at + n - at = omega arith in
    let here : IsLongestPiece (drop at text) (at + n - at) (piece_of_part kind) = subst (λ (x : ℕ). IsLongestPiece (drop at text) x (piece_of_part kind)) size h in
    further n p (lead_more text 0 ps p at lead refl here) h.some h.within

ends_from : (text : List ℕ) (k at : ℕ) (ps : List Part) → LeadFrom text 0 ps at → at ≤ length text → length text ≤ at + k → SomeEnd text
ends_from text zero at ps lead w left = at_end text at ps lead (omega arith)
ends_from text (suc k) at ps lead w left =
    ⊎_elim
    (λ more. ends_at text at ps lead more (λ n p further some within. ends_from text k (at + n) (ps ++ p ∷ []) further (omega (arith, length-drop at text)) (omega arith)) (begins (drop at text)))
    (λ ended. at_end text at ps lead (omega arith))
    (cases_lt at (length text))

pub some_end : (text : List ℕ) → SomeEnd text
some_end text = ends_from text (length text) 0 [] refl (omega arith) (omega arith)
