-- Kinds of token that are one are equal.
use Rattle.std.proofs.Common.{◌≡◌, true, Some, sym, refl, ap, ◌∙◌}
use Rattle.std.specs.Str.{bytes_eq}
use Rattle.std.proofs.lemmas.Slice.Eq.{bytes_eq-Decides}
use Rattle.fzn_reader.specs.declared.tokens.TokenKind.{TokenKind}
use Rattle.fzn_reader.specs.declared.tokens.TokenKind.TheVariants as kinds
use Rattle.fzn_reader.specs.declared.tokens.Word.{Word}
use Rattle.fzn_reader.specs.declared.tokens.Word.TheVariants as words
use Rattle.fzn_reader.specs.declared.tokens.Symbol.{Symbol}
use Rattle.fzn_reader.specs.declared.tokens.Symbol.TheVariants as symbols
use Rattle.fzn_reader.specs.Text.{word_text, symbol_text}
use Rattle.fzn_reader.specs.Pieces.{word_of, symbol_of}
use Rattle.fzn_parser.specs.ToCome.{same_kind, is_symbol}

word_of-word_text : (w : Word) → word_of (word_text w) ≡ Some w
word_of-word_text words.Array = refl
word_of-word_text words.Bool = refl
word_of-word_text words.Constraint = refl
word_of-word_text words.False = refl
word_of-word_text words.Float = refl
word_of-word_text words.Int = refl
word_of-word_text words.Maximize = refl
word_of-word_text words.Minimize = refl
word_of-word_text words.Of = refl
word_of-word_text words.Predicate = refl
word_of-word_text words.Satisfy = refl
word_of-word_text words.Set = refl
word_of-word_text words.Solve = refl
word_of-word_text words.True = refl
word_of-word_text words.Var = refl

symbol_of-symbol_text : (s : Symbol) → symbol_of (symbol_text s) ≡ Some s
symbol_of-symbol_text symbols.Semicolon = refl
symbol_of-symbol_text symbols.Colon = refl
symbol_of-symbol_text symbols.ColonColon = refl
symbol_of-symbol_text symbols.Comma = refl
symbol_of-symbol_text symbols.DotDot = refl
symbol_of-symbol_text symbols.Equals = refl
symbol_of-symbol_text symbols.OpenRound = refl
symbol_of-symbol_text symbols.CloseRound = refl
symbol_of-symbol_text symbols.OpenSquare = refl
symbol_of-symbol_text symbols.CloseSquare = refl
symbol_of-symbol_text symbols.OpenCurly = refl
symbol_of-symbol_text symbols.CloseCurly = refl

pub same_word : (a b : Word) → bytes_eq (word_text a) (word_text b) ≡ true → a ≡ b
same_word a b h =
    let texts = (bytes_eq-Decides (word_text a) (word_text b)).0 h in
    let e : Some a ≡ Some b = sym (word_of-word_text a) ∙ ap word_of texts ∙ word_of-word_text b in cc

pub same_symbol : (a b : Symbol) → bytes_eq (symbol_text a) (symbol_text b) ≡ true → a ≡ b
same_symbol a b h =
    let texts = (bytes_eq-Decides (symbol_text a) (symbol_text b)).0 h in
    let e : Some a ≡ Some b = sym (symbol_of-symbol_text a) ∙ ap symbol_of texts ∙ symbol_of-symbol_text b in cc

pub symbol_is : (s : Symbol) (kind : TokenKind) → is_symbol s kind ≡ true → kind ≡ kinds.Symbol s
symbol_is s (kinds.Symbol t) h = ap (λ z. kinds.Symbol z) (sym (same_symbol s t h))
symbol_is s kinds.Name h = absurd (cc)
symbol_is s (kinds.Word w) h = absurd (cc)
symbol_is s (kinds.Int z) h = absurd (cc)
symbol_is s kinds.LargeInt h = absurd (cc)
symbol_is s kinds.Float h = absurd (cc)
symbol_is s kinds.Text h = absurd (cc)

pub word_is : (w : Word) (kind : TokenKind) → same_kind (kinds.Word w) kind ≡ true → kind ≡ kinds.Word w
word_is w (kinds.Word v) h = ap (λ z. kinds.Word z) (sym (same_word w v h))
word_is w kinds.Name h = absurd (cc)
word_is w (kinds.Symbol t) h = absurd (cc)
word_is w (kinds.Int z) h = absurd (cc)
word_is w kinds.LargeInt h = absurd (cc)
word_is w kinds.Float h = absurd (cc)
word_is w kinds.Text h = absurd (cc)
