-- How a text is cut into tokens and gaps, and the first place at which it cannot be. Source: the FlatZinc grammar of
-- the MiniZinc Handbook, which leaves the longest token unsaid; that and the faults are this project's own.
use Rattle.std.specs.Prelude.{◌≡◌, ℕ, ◌-◌, ◌<◌, ◌≤◌, ⊤, List, [], ◌∷◌, length, drop, Option, Some, None, Result, Ok, Err}
use Rattle.std.specs.List.{filter_map}
use Rattle.fzn_reader.specs.declared.tokens.TokenKind.{TokenKind}
use Rattle.fzn_reader.specs.declared.tokens.Token.{Token}
use Rattle.fzn_reader.specs.declared.pieces.Piece.{Piece}
use Rattle.fzn_reader.specs.declared.pieces.Piece.TheVariants as pieces
use Rattle.fzn_reader.specs.declared.lexer.LexFault.{LexFault}
use Rattle.fzn_reader.specs.declared.lexer.LexFault.TheVariants as faults
use Rattle.fzn_reader.specs.Text.{bytes_of}
use Rattle.fzn_reader.specs.Pieces.{piece_of, IsLongestPiece, BeginsNoPiece, LacksDigits, IsOpenString}

-- a part of a text: a token of this kind, or a gap, which is separators or a comment
pub record Part : Type 0 where
  pub kind : Option TokenKind
  pub from : ℕ
  pub to : ℕ

abbrev pub piece_of_part : Option TokenKind → Piece
piece_of_part None = pieces.Gap
piece_of_part (Some kind) = pieces.Token kind

-- one after the other, each of these parts is the longest piece at its place, and they lead from one place to another
abbrev pub LeadFrom : List ℕ → ℕ → List Part → ℕ → Type 0
LeadFrom text at [] end = at ≡ end
LeadFrom text at (p ∷ ps) end =
    (p.from ≡ at) × IsLongestPiece (drop p.from text) (p.to - p.from) (piece_of_part p.kind)
    × LeadFrom text p.to ps end

abbrev pub token_of_kind : Option TokenKind → ℕ → ℕ → Option Token
token_of_kind None from to = None
token_of_kind (Some kind) from to = Some (record { kind = kind; from = from; to = to })

-- the tokens among the parts
abbrev pub tokens_of : List Part → List Token
tokens_of ps = filter_map (λ (p : Part). token_of_kind p.kind p.from p.to) ps

-- the tokens of a text: parts lead from its beginning to its end, and these are the tokens among them
pub record AreTokensOf (text : List ℕ) (tokens : List Token) : Type 0 where
  pub parts : List Part
  pub lead : LeadFrom text 0 parts (length text)
  pub tokens_are : tokens ≡ tokens_of parts

-- parts lead to a place before the end of the text
pub record IsReached (text : List ℕ) (at : ℕ) : Type 0 where
  pub parts : List Part
  pub lead : LeadFrom text 0 parts at
  pub within : at < length text

-- the first fault of a text: the place that tokens and gaps lead to, where neither begins. Want of memory is no fault
-- of a text.
abbrev pub IsFirstLexFault : List ℕ → LexFault → Type 0
IsFirstLexFault text (faults.BadByte at) = IsReached text at × BeginsNoPiece (drop at text)
IsFirstLexFault text (faults.BadNumber at) = IsReached text at × LacksDigits (drop at text)
IsFirstLexFault text (faults.OpenString at) = IsReached text at × IsOpenString (drop at text)
IsFirstLexFault text faults.Memory = ⊥

-- what the scan of a text ends in: its tokens, or its first fault
abbrev pub EndsIn : List ℕ → Result (List Token) LexFault → Type 0
EndsIn text (Ok tokens) = AreTokensOf text tokens
EndsIn text (Err fault) = IsFirstLexFault text fault

-- ---- where tokens lie

-- from this place on each token has a byte or more and lies before the next, and the last ends at n or before
abbrev pub LieBetween : ℕ → List Token → ℕ → Type 0
LieBetween at [] n = at ≤ n
LieBetween at (t ∷ ts) n = (at ≤ t.from) × (t.from < t.to) × LieBetween t.to ts n

-- the bytes of each token are a token of its kind
abbrev pub HaveTheirForms : List ℕ → List Token → Type 0
HaveTheirForms text [] = ⊤
HaveTheirForms text (t ∷ ts) = (piece_of (bytes_of text t) ≡ Some (pieces.Token t.kind)) × HaveTheirForms text ts
