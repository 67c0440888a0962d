-- What is printed for a faulty text: the fault in words, and its line and column. This project's own.
use Rattle.std.specs.Prelude.{◌≡◌, ℕ, ◌+◌, ◌≤◌, ◌==◌, Bool, not, List, [], ◌++◌, length, take, reverse, count_by, codes, Option, Some, None}
use Rattle.std.specs.List.{prefix_len}
use Rattle.std.specs.Fmt.{decimal}
use Rattle.fzn_reader.specs.declared.lexer.LexFault.{LexFault}
use Rattle.fzn_reader.specs.declared.lexer.LexFault.TheVariants as lexical
use Rattle.fzn_parser.specs.declared.faults.What.{What}
use Rattle.fzn_parser.specs.declared.faults.What.TheVariants as whats
use Rattle.fzn_parser.specs.declared.faults.SyntaxFault.{SyntaxFault}
use Rattle.fzn_parser.specs.declared.faults.SyntaxFault.TheVariants as syntaxes
use Rattle.fzn_model.specs.declared.faults.ModelFault.{ModelFault}
use Rattle.fzn_model.specs.declared.faults.ModelFault.TheVariants as models
use Rattle.fzn_model.specs.declared.faults.FileFault.{FileFault}
use Rattle.fzn_model.specs.declared.faults.FileFault.TheVariants as faults

-- ---- places. Want of memory has none

abbrev pub lexical_place : LexFault → Option ℕ
lexical_place (lexical.BadByte at) = Some at
lexical_place (lexical.BadNumber at) = Some at
lexical_place (lexical.OpenString at) = Some at
lexical_place lexical.Memory = None

abbrev pub syntax_place : SyntaxFault → Option ℕ
syntax_place (syntaxes.Expected at what) = Some at
syntax_place (syntaxes.EndOfFile at) = Some at
syntax_place (syntaxes.TooDeep at) = Some at
syntax_place syntaxes.Memory = None

abbrev pub model_place : ModelFault → Option ℕ
model_place (models.Undeclared at) = Some at
model_place (models.DeclaredTwice at) = Some at
model_place (models.WrongType at) = Some at
model_place (models.UnknownConstraint at) = Some at
model_place (models.WrongCount at) = Some at
model_place (models.Unbounded at) = Some at
model_place (models.Float at) = Some at
model_place (models.NumberTooLarge at) = Some at
model_place (models.EmptyDomain at) = Some at
model_place (models.IntTooWide at) = Some at
model_place (models.SetTooWide at) = Some at
model_place (models.ElementRange at) = Some at
model_place (models.ScopeTooWide at) = Some at
model_place (models.TooManyBits at) = Some at
model_place (models.TooManyConstraints at) = Some at
model_place (models.BadOutput at) = Some at
model_place (models.ObjectiveNotInt at) = Some at
model_place models.Memory = None

-- the place of a fault
abbrev pub place_of : FileFault → Option ℕ
place_of (faults.Lex fault) = lexical_place fault
place_of (faults.Syntax fault) = syntax_place fault
place_of (faults.Model fault) = model_place fault
place_of faults.Memory = None

-- the fault stands in the text, or at its end
abbrev pub StandsIn : List ℕ → FileFault → Type 0
StandsIn text fault = (at : ℕ) × (place_of fault ≡ Some at) × (at ≤ length text)

-- ---- words. Want of memory has none

abbrev pub lexical_text : LexFault → List ℕ
lexical_text (lexical.BadByte at) = codes "bad byte"
lexical_text (lexical.BadNumber at) = codes "bad number"
lexical_text (lexical.OpenString at) = codes "string not closed"
lexical_text lexical.Memory = []

abbrev pub what_text : What → List ℕ
what_text whats.Item = codes "an item"
what_text whats.End = codes "the end of the text"
what_text whats.Name = codes "a name"
what_text whats.TypeWord = codes "a type"
what_text whats.Expression = codes "an expression"
what_text whats.Annotation = codes "an annotation"
what_text whats.Integer = codes "an integer"
what_text whats.One = codes "1"
what_text whats.Of = codes "of"
what_text whats.Goal = codes "satisfy, minimize or maximize"
what_text whats.Semicolon = codes "';'"
what_text whats.Colon = codes "':'"
what_text whats.Equals = codes "'='"
what_text whats.Range = codes "'..'"
what_text whats.OpenRound = codes "'('"
what_text whats.OpenSquare = codes "'['"
what_text whats.CloseSquare = codes "']'"
what_text whats.CommaOrRound = codes "',' or ')'"
what_text whats.CommaOrSquare = codes "',' or ']'"
what_text whats.CommaOrCurly = codes "',' or '}'"

abbrev pub syntax_text : SyntaxFault → List ℕ
syntax_text (syntaxes.Expected at what) = codes "expected " ++ what_text what
syntax_text (syntaxes.EndOfFile at) = codes "text ends too early"
syntax_text (syntaxes.TooDeep at) = codes "too deep"
syntax_text syntaxes.Memory = []

abbrev pub model_text : ModelFault → List ℕ
model_text (models.Undeclared at) = codes "undeclared"
model_text (models.DeclaredTwice at) = codes "declared twice"
model_text (models.WrongType at) = codes "wrong type"
model_text (models.UnknownConstraint at) = codes "unknown constraint"
model_text (models.WrongCount at) = codes "wrong count"
model_text (models.Unbounded at) = codes "unbounded"
model_text (models.Float at) = codes "float"
model_text (models.NumberTooLarge at) = codes "number too large"
model_text (models.EmptyDomain at) = codes "empty domain"
model_text (models.IntTooWide at) = codes "integer too wide"
model_text (models.SetTooWide at) = codes "set too wide"
model_text (models.ElementRange at) = codes "element out of range"
model_text (models.ScopeTooWide at) = codes "scope too wide"
model_text (models.TooManyBits at) = codes "too many bits"
model_text (models.TooManyConstraints at) = codes "too many constraints"
model_text (models.BadOutput at) = codes "bad output annotation"
model_text (models.ObjectiveNotInt at) = codes "objective is not an integer"
model_text models.Memory = []

-- the fault in words
abbrev pub text_of : FileFault → List ℕ
text_of (faults.Lex fault) = lexical_text fault
text_of (faults.Syntax fault) = syntax_text fault
text_of (faults.Model fault) = model_text fault
text_of faults.Memory = []

-- ---- lines and columns, counted from 1. A newline belongs to the line that it ends

abbrev pub is_newline : ℕ → Bool
is_newline byte = byte == 10

-- how many bytes stand behind the last newline
abbrev pub after_newline : List ℕ → ℕ
after_newline front = prefix_len (λ byte. not (is_newline byte)) (reverse front)

-- the line and the column of a place behind these bytes: one more than their newlines, and one more than the bytes
-- behind the last of these
unfoldable pub line_number : List ℕ → ℕ
line_number front = 1 + count_by is_newline front

unfoldable pub column_number : List ℕ → ℕ
column_number front = 1 + after_newline front

unfoldable pub head : List ℕ
head = codes "% error line "

-- `% error line L`, ` column C`, and `: TEXT` with the newline
unfoldable pub line_part : List ℕ → List ℕ
line_part front = head ++ decimal (line_number front)

unfoldable pub column_part : List ℕ → List ℕ
column_part front = codes " column " ++ decimal (column_number front)

unfoldable pub text_part : FileFault → List ℕ
text_part fault = codes ": " ++ text_of fault ++ codes "\n"

-- the line for a fault behind these bytes
abbrev pub line_behind : List ℕ → FileFault → List ℕ
line_behind front fault = line_part front ++ column_part front ++ text_part fault

-- the line of a fault at its place
abbrev pub line_if_any : List ℕ → Option ℕ → FileFault → List ℕ
line_if_any text None fault = []
line_if_any text (Some at) fault = line_behind (take at text) fault

-- what is printed for the fault of a text
abbrev pub printed_line : List ℕ → FileFault → List ℕ
printed_line text fault = line_if_any text (place_of fault) fault
