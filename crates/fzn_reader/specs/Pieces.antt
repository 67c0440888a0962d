-- What a piece of text is. Each kind of piece is told on whole pieces, apart from every other kind. Source: the
-- FlatZinc grammar of the MiniZinc Handbook. This project's own are the reserved words, the limit of an integer, that
-- a `_` leads to a letter, that a `\` in a string takes any byte but a newline with it, and that no token begins at a
-- `0x` or `0o` without digits.
use Rattle.std.specs.Prelude.{◌≡◌, ℕ, ◌<◌, ◌≤◌, Bool, true, false, not, ◌&&◌, ◌||◌, ◌==◌, nat_le, if◌then◌else◌, List, [], ◌∷◌, length, take, drop, slice_index, Option, Some, None, pos, neg_ℤ}
use Rattle.std.specs.Option.{option_map, option_or}
use Rattle.std.specs.List.{find, list_all, prefix_len}
use Rattle.std.specs.Str.{bytes_eq}
use Rattle.std.specs.Char.{is_ascii_alphabetic, is_ascii_alphanumeric}
use Rattle.fzn_reader.specs.declared.tokens.Word.{Word}
use Rattle.fzn_reader.specs.declared.tokens.Symbol.{Symbol}
use Rattle.fzn_reader.specs.declared.tokens.TokenKind.{TokenKind}
use Rattle.fzn_reader.specs.declared.tokens.TokenKind.TheVariants as kinds
use Rattle.fzn_reader.specs.declared.pieces.Piece.{Piece}
use Rattle.fzn_reader.specs.declared.pieces.Piece.TheVariants as pieces
use Rattle.fzn_reader.specs.Text.{word_text, all_words, symbol_text, all_symbols}
use Rattle.fzn_reader.specs.Numbers.{Numeral, integer, float, no_digits, is_digit_in, base_of, number_of}

-- ---- names and reserved words

-- a letter, a digit or `_`, which is 95
abbrev pub is_name_byte : ℕ → Bool
is_name_byte b = is_ascii_alphanumeric b || (b == 95)

-- any number of `_`, then a letter
abbrev pub leads_to_letter : List ℕ → Bool
leads_to_letter [] = false
leads_to_letter (b ∷ bytes) = if b == 95 then leads_to_letter bytes else is_ascii_alphabetic b

-- any number of `_`, then a letter, then letters, digits and `_`
abbrev pub is_word : List ℕ → Bool
is_word bytes = leads_to_letter bytes && list_all is_name_byte bytes

-- the reserved word that is written so
abbrev pub word_of : List ℕ → Option Word
word_of bytes = find (λ w. bytes_eq (word_text w) bytes) all_words

-- a word that is not reserved is a name
abbrev pub word_kind : Option Word → TokenKind
word_kind None = kinds.Name
word_kind (Some w) = kinds.Word w

-- a name or a reserved word
abbrev pub word_piece : List ℕ → Option Piece
word_piece bytes = if is_word bytes then Some (pieces.Token (word_kind (word_of bytes))) else None

-- ---- numbers

-- the largest size of an integer whose value is told
abbrev pub int_limit : ℕ
int_limit = 1000000000

-- an integer with a `-` before it or none
abbrev pub int_kind : Bool → ℕ → TokenKind
int_kind negative n =
    if nat_le n int_limit then kinds.Int (if negative then neg_ℤ (pos n) else pos n) else kinds.LargeInt

-- `0x` or `0o` alone is a piece, but no token, so that no token begins where no digit of its base follows
abbrev pub piece_of_number : Bool → Numeral → Piece
piece_of_number negative (integer n) = pieces.Token (int_kind negative n)
piece_of_number negative float = pieces.Token kinds.Float
piece_of_number negative no_digits = pieces.NoDigits

-- the number that has exactly these bytes, a `-` before it told by the first argument
abbrev pub unsigned_piece : Bool → List ℕ → Option Piece
unsigned_piece negative bytes = option_map (piece_of_number negative) (number_of bytes)

-- a number, with or without a `-`, which is 45, directly before it
abbrev pub number_piece : List ℕ → Option Piece
number_piece [] = None
number_piece (b ∷ bytes) = if b == 45 then unsigned_piece true bytes else unsigned_piece false (b ∷ bytes)

-- ---- strings

-- what follows the opening `"` of a string: bytes other than `"`, which is 34, and newline, which is 10, where `\`,
-- which is 92, takes the next byte with it, but no newline; then the closing `"`
abbrev pub closes : List ℕ → Bool
closes [] = false
closes (b ∷ []) = b == 34
closes (b ∷ c ∷ bytes) =
    if b == 92 then not (c == 10) && closes bytes else not ((b == 34) || (b == 10)) && closes (c ∷ bytes)

-- a string without its opening `"`, or the opening `"` alone, which is a piece, but no token
abbrev pub opened_piece : List ℕ → Option Piece
opened_piece [] = Some pieces.OpenQuote
opened_piece (b ∷ bytes) = if closes (b ∷ bytes) then Some (pieces.Token kinds.Text) else None

-- a string, or a `"` alone
abbrev pub string_piece : List ℕ → Option Piece
string_piece [] = None
string_piece (b ∷ bytes) = if b == 34 then opened_piece bytes else None

-- ---- symbols

-- the symbol that is written so
abbrev pub symbol_of : List ℕ → Option Symbol
symbol_of bytes = find (λ s. bytes_eq (symbol_text s) bytes) all_symbols

-- a symbol
abbrev pub symbol_piece : List ℕ → Option Piece
symbol_piece bytes = option_map (λ s. pieces.Token (kinds.Symbol s)) (symbol_of bytes)

-- ---- gaps

-- space, tab, carriage return, newline
abbrev pub is_separator : ℕ → Bool
is_separator b = (b == 32) || ((b == 9) || ((b == 13) || (b == 10)))

-- one separator or more
abbrev pub separator_piece : List ℕ → Option Piece
separator_piece [] = None
separator_piece (b ∷ bytes) = if list_all is_separator (b ∷ bytes) then Some pieces.Gap else None

-- any byte but a newline
abbrev pub is_within_line : ℕ → Bool
is_within_line b = not (b == 10)

-- a comment: `%`, which is 37, and bytes other than newline
abbrev pub comment_piece : List ℕ → Option Piece
comment_piece [] = None
comment_piece (b ∷ bytes) = if (b == 37) && list_all is_within_line bytes then Some pieces.Gap else None

-- ---- pieces

-- the piece that has exactly these bytes
abbrev pub piece_of : List ℕ → Option Piece
piece_of bytes =
    option_or (number_piece bytes)
    (option_or (word_piece bytes)
    (option_or (string_piece bytes)
    (option_or (separator_piece bytes)
    (option_or (comment_piece bytes) (symbol_piece bytes)))))

-- the first n bytes are this by f, and no more bytes are anything by f
pub record IsLongestBy (f : List ℕ → Option Piece) (text : List ℕ) (n : ℕ) (piece : Piece) : Type 0 where
  pub some : 0 < n
  pub within : n ≤ length text
  pub form : f (take n text) ≡ Some piece
  pub longest : (m : ℕ) → n < m → m ≤ length text → f (take m text) ≡ None

-- no bytes at the front of a text are anything by f
pub record BeginsNoneBy (f : List ℕ → Option Piece) (text : List ℕ) : Type 0 where
  pub none : (m : ℕ) → 0 < m → m ≤ length text → f (take m text) ≡ None

-- the bytes after a `-`, or all where there is none
abbrev pub without_minus : List ℕ → List ℕ
without_minus [] = []
without_minus (b ∷ bytes) = if b == 45 then bytes else b ∷ bytes

-- `0x` or `0o`, and no digit of its base after it
pub record HasNoDigits (text : List ℕ) : Type 0 where
  pub base : ℕ
  pub named : base_of text ≡ Some base
  pub none : prefix_len (is_digit_in base) (drop 2 text) ≡ 0

-- the same with a `-` directly before it or none
abbrev pub LacksDigits : List ℕ → Type 0
LacksDigits text = HasNoDigits (without_minus text)

-- no bytes at the front close a string: a newline or the end of the text comes first
pub record NeverCloses (bytes : List ℕ) : Type 0 where
  pub none : (m : ℕ) → m ≤ length bytes → closes (take m bytes) ≡ false

-- the opening `"` of a string that never closes
pub record IsOpenString (text : List ℕ) : Type 0 where
  pub quote : slice_index text 0 ≡ 34
  pub open_ : NeverCloses (drop 1 text)

-- the longest piece that a text begins with
abbrev pub IsLongestPiece : List ℕ → ℕ → Piece → Type 0
IsLongestPiece text n piece = IsLongestBy piece_of text n piece

-- a text begins with no piece
abbrev pub BeginsNoPiece : List ℕ → Type 0
BeginsNoPiece text = BeginsNoneBy piece_of text
