-- The integers whose value a token tells are small.
use Rattle.std.proofs.Common.{◌≡◌, ℕ, ◌≤◌, Bool, true, false, cond, List, [], ◌∷◌, leb, All, Contains, Option, Some, None, pos, neg_ℤ, ◌≤ℤ◌, refl, subst, arith}
use Rattle.std.specs.Option.{option_map, option_or}
use Rattle.std.proofs.lemmas.Bool.{leb-true}
use Rattle.std.proofs.lemmas.Int.{ints}
use Rattle.std.proofs.lemmas.List.Elements.{All-from_recursion}
use Rattle.fzn_reader.specs.declared.tokens.Token.{Token}
use Rattle.fzn_reader.specs.declared.tokens.Word.{Word}
use Rattle.fzn_reader.specs.declared.tokens.Symbol.{Symbol}
use Rattle.fzn_reader.specs.declared.tokens.TokenKind.{TokenKind}
use Rattle.fzn_reader.specs.declared.tokens.TokenKind.TheVariants as kinds
use Rattle.fzn_reader.specs.declared.pieces.Piece.{Piece}
use Rattle.fzn_reader.specs.declared.pieces.Piece.TheVariants as pieces
use Rattle.fzn_reader.specs.Text.{bytes_of}
use Rattle.fzn_reader.specs.Numbers.{Numeral, integer, float, no_digits, number_of}
use Rattle.fzn_reader.specs.Pieces.{is_word, word_of, word_kind, word_piece, int_kind, piece_of_number, unsigned_piece, number_piece, closes, opened_piece, string_piece, symbol_of, symbol_piece, separator_piece, comment_piece, piece_of}
use Rattle.fzn_reader.specs.Scan.{HaveTheirForms}
use Rattle.fzn_parser.specs.declared.tree.Num.{Num}
use Rattle.fzn_parser.specs.declared.tree.Num.TheVariants as nums
use Rattle.fzn_parser.specs.declared.tree.Number.{Number}
use Rattle.fzn_parser.specs.declared.tree.Item.{Item}
use Rattle.fzn_parser.specs.declared.tree.Tree.{Tree}
use Rattle.fzn_parser.specs.Grammar as spell
use Rattle.fzn_parser.specs.Grammar.{Sign, signs, Spells}
use Rattle.fzn_parser.specs.Places.{numbers_in, IsSmall}
use Rattle.fzn_parser.proofs.Told.{Each, each_weaker, Tells, Holds}
use Rattle.fzn_parser.proofs.ToldItems.{OfNumber}
use Rattle.fzn_parser.proofs.Laid.{item_told}

abbrev SmallKind : TokenKind → Type 0
SmallKind (kinds.Int z) = (neg_ℤ (pos 1000000000) ≤ℤ z) × (z ≤ℤ pos 1000000000)
SmallKind _ = Unit {0}

abbrev SmallPiece : Option Piece → Type 0
SmallPiece (Some (pieces.Token kind)) = SmallKind kind
SmallPiece _ = Unit {0}

either : (a b : Option Piece) → SmallPiece a → SmallPiece b → SmallPiece (option_or a b)
either None b h k = k
either (Some p) b h k = h

choice : (test : Bool) (a b : Option Piece) → SmallPiece a → SmallPiece b → SmallPiece (cond test a b)
choice true a b h k = h
choice false a b h k = k

signed : (negative : Bool) (n : ℕ) → n ≤ 1000000000 → SmallKind (kinds.Int (cond negative (neg_ℤ (pos n)) (pos n)))
signed true n h = (omega (arith, ints), omega (arith, ints))
signed false n h = (omega (arith, ints), omega (arith, ints))

small_int : (negative : Bool) (n : ℕ) → SmallKind (int_kind negative n)
small_int negative n = by_size (leb n 1000000000) refl
  where
    by_size : (b : Bool) → leb n 1000000000 ≡ b → SmallKind (cond b (kinds.Int (cond negative (neg_ℤ (pos n)) (pos n))) kinds.LargeInt)
    by_size true is = signed negative n (leb-true n 1000000000 is)
    by_size false is = tt

small_numeral : (negative : Bool) (o : Option Numeral) → SmallPiece (option_map (piece_of_number negative) o)
small_numeral negative None = tt
small_numeral negative (Some (integer n)) = small_int negative n
small_numeral negative (Some float) = tt
small_numeral negative (Some no_digits) = tt

small_number : (bytes : List ℕ) → SmallPiece (number_piece bytes)
small_number [] = tt
small_number (b ∷ bytes) = choice _ (unsigned_piece true bytes) (unsigned_piece false (b ∷ bytes)) (small_numeral true (number_of bytes)) (small_numeral false (number_of (b ∷ bytes)))

small_word : (bytes : List ℕ) → SmallPiece (word_piece bytes)
small_word bytes = choice (is_word bytes) (Some (pieces.Token (word_kind (word_of bytes)))) None (of_word (word_of bytes)) tt
  where
    of_word : (o : Option Word) → SmallKind (word_kind o)
    of_word None = tt
    of_word (Some w) = tt

small_string : (bytes : List ℕ) → SmallPiece (string_piece bytes)
small_string [] = tt
small_string (b ∷ bytes) = choice _ (opened_piece bytes) None (opened bytes) tt
  where
    opened : (bytes : List ℕ) → SmallPiece (opened_piece bytes)
    opened [] = tt
    opened (c ∷ bytes) = choice (closes (c ∷ bytes)) (Some (pieces.Token kinds.Text)) None tt tt

small_separator : (bytes : List ℕ) → SmallPiece (separator_piece bytes)
small_separator [] = tt
small_separator (b ∷ bytes) = choice _ (Some pieces.Gap) None tt tt

small_comment : (bytes : List ℕ) → SmallPiece (comment_piece bytes)
small_comment [] = tt
small_comment (b ∷ bytes) = choice _ (Some pieces.Gap) None tt tt

small_symbol : (bytes : List ℕ) → SmallPiece (symbol_piece bytes)
small_symbol bytes = of_symbol (symbol_of bytes)
  where
    of_symbol : (o : Option Symbol) → SmallPiece (option_map (λ s. pieces.Token (kinds.Symbol s)) o)
    of_symbol None = tt
    of_symbol (Some s) = tt

small_piece : (bytes : List ℕ) → SmallPiece (piece_of bytes)
small_piece bytes =
    either (number_piece bytes) (option_or (word_piece bytes) (option_or (string_piece bytes) (option_or (separator_piece bytes) (option_or (comment_piece bytes) (symbol_piece bytes))))) (small_number bytes)
    (either (word_piece bytes) (option_or (string_piece bytes) (option_or (separator_piece bytes) (option_or (comment_piece bytes) (symbol_piece bytes)))) (small_word bytes)
    (either (string_piece bytes) (option_or (separator_piece bytes) (option_or (comment_piece bytes) (symbol_piece bytes))) (small_string bytes)
    (either (separator_piece bytes) (option_or (comment_piece bytes) (symbol_piece bytes)) (small_separator bytes) (either (comment_piece bytes) (symbol_piece bytes) (small_comment bytes) (small_symbol bytes)))))

-- ---- tokens, and the numbers of a tree

abbrev AnyPlace : ℕ → Type 0
AnyPlace at = Unit {0}

all_small : (text : List ℕ) (ts : List Token) → HaveTheirForms text ts → Each (Holds AnyPlace SmallKind) (signs text ts)
all_small text [] h = tt
all_small text (t ∷ ts) h = ((tt, subst SmallPiece h.0 (small_piece (bytes_of text t))), all_small text ts h.1)

small_num : (n : Num) → Tells AnyPlace SmallKind (spell.num n) → IsSmall n
small_num (nums.Int z) h = h
small_num nums.Large h = tt
small_num nums.Float h = tt

pub small : (text : List ℕ) (tokens : List Token) (tree : Tree) → HaveTheirForms text tokens → Spells (signs text tokens) tree → (item : Item) → Contains tree.items item → All (λ (n : Number). IsSmall n.num) (numbers_in item.form)
small text tokens tree h m item k =
    All-from_recursion (λ (n : Number). IsSmall n.num) (numbers_in item.form)
    (each_weaker (OfNumber AnyPlace SmallKind) (λ (n : Number). IsSmall n.num) (λ n told. small_num n.num told.1) (numbers_in item.form)
    (item_told AnyPlace SmallKind (signs text tokens) tree item m (all_small text tokens h) k).1)
