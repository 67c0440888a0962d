-- What the parts of the lexer find at the front of a text; this project's own.
use Rattle.std.specs.Prelude.{◌≡◌, ℕ, ◌<◌, ◌≤◌, Bool, true, false, ◌||◌, ◌==◌, if◌then◌else◌, ⊤, List, [], ◌∷◌, ◌++◌, length, take, Option, option_and_then}
use Rattle.std.specs.Char.{is_digit, is_ascii_alphabetic}
use Rattle.fzn_reader.specs.declared.tokens.Token.{Token}
use Rattle.fzn_reader.specs.declared.pieces.Piece.{Piece}
use Rattle.fzn_reader.specs.declared.pieces.Piece.TheVariants as pieces
use Rattle.fzn_reader.specs.declared.lexer.LexFault.{LexFault}
use Rattle.fzn_reader.specs.declared.lexer.LexFault.TheVariants as faults
use Rattle.fzn_reader.specs.declared.tokens.Symbol.{Symbol}
use Rattle.fzn_reader.specs.Pieces.{symbol_of, closes, HasNoDigits, LacksDigits, IsOpenString}

-- the first n bytes pass a test, if there are any, and no more bytes do
pub record IsLongestFront (p : List ℕ → Bool) (text : List ℕ) (n : ℕ) : Type 0 where
  pub within : n ≤ length text
  pub form : 0 < n → p (take n text) ≡ true
  pub longest : (m : ℕ) → n < m → m ≤ length text → p (take m text) ≡ false

-- the symbol of two bytes, if there are two
abbrev pub symbol_of_two : ℕ → Option ℕ → Option Symbol
symbol_of_two a next = option_and_then (λ b. symbol_of (a ∷ b ∷ [])) next

-- the first n bytes close a string, and no more bytes do
pub record IsClosing (bytes : List ℕ) (n : ℕ) : Type 0 where
  pub within : n ≤ length bytes
  pub closed : closes (take n bytes) ≡ true
  pub longest : (m : ℕ) → n < m → m ≤ length bytes → closes (take m bytes) ≡ false

-- a base of numbers
pub record IsBase (base : ℕ) : Type 0 where
  pub least : 2 ≤ base
  pub most : base ≤ 16

-- a token is appended, or a gap leaves the tokens as they are
abbrev pub IsTaken : Piece → ℕ → ℕ → List Token → List Token → Type 0
IsTaken (pieces.Token kind) from to old new = new ≡ old ++ record { kind = kind; from = from; to = to } ∷ []
IsTaken pieces.Gap from to old new = new ≡ old
IsTaken pieces.NoDigits from to old new = ⊥
IsTaken pieces.OpenQuote from to old new = ⊥

-- the fault of a piece that is neither a token nor a gap
abbrev pub IsRefused : Piece → ℕ → LexFault → Type 0
IsRefused pieces.NoDigits from fault = fault ≡ faults.BadNumber from
IsRefused pieces.OpenQuote from fault = fault ≡ faults.OpenString from
IsRefused (pieces.Token kind) from fault = ⊥
IsRefused pieces.Gap from fault = ⊥

-- a byte with which a number, a word begins
abbrev pub begins_number : ℕ → Bool
begins_number b = (b == 45) || is_digit b 10

abbrev pub begins_word : ℕ → Bool
begins_word b = (b == 95) || is_ascii_alphabetic b

-- how many bytes the sign at the front has
abbrev pub sign_len : List ℕ → ℕ
sign_len [] = 0
sign_len (b ∷ bytes) = if (b == 43) || (b == 45) then 1 else 0

-- the same for a number, the `-` before it left out
abbrev pub HasCauseAfterMinus : List ℕ → Piece → Type 0
HasCauseAfterMinus text (pieces.Token kind) = ⊤
HasCauseAfterMinus text pieces.Gap = ⊤
HasCauseAfterMinus text pieces.NoDigits = HasNoDigits text
HasCauseAfterMinus text pieces.OpenQuote = ⊥

-- why there is this piece at the front of a text, where it is neither a token nor a gap
abbrev pub HasCause : List ℕ → Piece → Type 0
HasCause text (pieces.Token kind) = ⊤
HasCause text pieces.Gap = ⊤
HasCause text pieces.NoDigits = LacksDigits text
HasCause text pieces.OpenQuote = IsOpenString text
