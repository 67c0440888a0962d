-- The one spelling of each line of a log. The format of the log is this project's own.
use Rattle.std.specs.Prelude.{◌≡◌, ℕ, ℤ, Bool, ◌≤◌, ◌^◌, ◌++◌, List, [], ◌∷◌, map, codes, unsigned_abs, if◌then◌else◌}
use Rattle.std.specs.Fmt.{decimal, signed_decimal}
use Rattle.std.specs.List.{AllByRecursion, flat_map, join_by}
use Rattle.std.specs.List.Sorted.{IsStrictlySortedBy}
use Rattle.std.specs.Ordering.{int_cmp}
use Rattle.log_text.specs.declared.line.LogValue.{LogValue}
use Rattle.log_text.specs.declared.line.LogValue.TheVariants as values
use Rattle.log_text.specs.declared.line.Line.{Line}
use Rattle.log_text.specs.declared.line.Line.TheVariants as lines

-- A word: a part of a line that holds no space.
abbrev pub Word : Type 0
Word = List ℕ

-- A word behind a space.
abbrev pub spaced : Word → List ℕ
spaced word = codes " " ++ word

-- A set in braces, its elements separated by commas: `{1,2,3}`.
abbrev pub set_word : List ℤ → Word
set_word elements = codes "{" ++ join_by signed_decimal (codes ",") elements ++ codes "}"

abbrev pub truth_word : Bool → Word
truth_word truth = if truth then codes "true" else codes "false"

-- A value: `false` or `true`, an integer in decimal, or a set.
abbrev pub value_word : LogValue → Word
value_word (values.Bool truth) = truth_word truth
value_word (values.Int z) = signed_decimal z
value_word (values.Set elements) = set_word elements

-- A side: the number of its variable, and the number of the node from which its words are accepted.
abbrev pub side_words : ℕ × ℕ → List Word
side_words side = decimal side.0 ∷ decimal side.1 ∷ []

-- The words of a line, from left to right.
abbrev pub words : Line → List Word
words lines.Header = codes "setlog" ∷ codes "1" ∷ []
words (lines.Node number place lo hi) = codes "n" ∷ decimal number ∷ decimal place ∷ decimal lo ∷ decimal hi ∷ []
words (lines.Axiom number constraint sides) = codes "a" ∷ decimal number ∷ decimal constraint ∷ flat_map side_words sides
words (lines.Answer number values sides) = codes "s" ∷ decimal number ∷ (map value_word values ++ codes "|" ∷ flat_map side_words sides)
words (lines.Resolvent number left right pivot sides) =
    codes "r" ∷ decimal number ∷ decimal left ∷ decimal right ∷ decimal pivot ∷ flat_map side_words sides
words (lines.Learned number) = codes "k" ∷ decimal number ∷ []
words (lines.Close number) = codes "q" ∷ decimal number ∷ []
words lines.End = codes "e" ∷ []

-- The words of the line with one space between each two, and no newline.
abbrev pub spelling : Line → List ℕ
spelling line = join_by (λ word. word) (codes " ") (words line)

-- What a number of a line may be: the log's length in bytes bounds it.
abbrev pub IsNumber : ℕ → Type 0
IsNumber n = n ≤ 2 ^ 40

-- What an integer among the values of an answer may be.
abbrev pub IsInteger : ℤ → Type 0
IsInteger z = unsigned_abs z ≤ 1000000000

-- What an element of a set among the values of an answer may be.
abbrev pub IsElement : ℤ → Type 0
IsElement z = unsigned_abs z ≤ 1000000

-- The elements of a set are named once each, from the least to the greatest.
pub record IsSet (elements : List ℤ) : Type 0 where
  pub ascending : IsStrictlySortedBy int_cmp elements
  pub small : AllByRecursion IsElement elements

abbrev pub IsValue : LogValue → Type 0
IsValue (values.Bool truth) = Unit {0}
IsValue (values.Int z) = IsInteger z
IsValue (values.Set elements) = IsSet elements

abbrev pub IsSide : ℕ × ℕ → Type 0
IsSide side = IsNumber side.0 × IsNumber side.1

-- What has a spelling: each number, each value and each side is one that may stand in a line.
abbrev pub HasSpelling : Line → Type 0
HasSpelling lines.Header = Unit {0}
HasSpelling (lines.Node number place lo hi) = IsNumber number × IsNumber place × IsNumber lo × IsNumber hi
HasSpelling (lines.Axiom number constraint sides) = IsNumber number × IsNumber constraint × AllByRecursion IsSide sides
HasSpelling (lines.Answer number values sides) = IsNumber number × AllByRecursion IsValue values × AllByRecursion IsSide sides
HasSpelling (lines.Resolvent number left right pivot sides) =
    IsNumber number × IsNumber left × IsNumber right × IsNumber pivot × AllByRecursion IsSide sides
HasSpelling (lines.Learned number) = IsNumber number
HasSpelling (lines.Close number) = IsNumber number
HasSpelling lines.End = Unit {0}

-- The text is the log of these lines: each in its one spelling, and a newline behind each.
pub record IsLog (text : List ℕ) (log : List Line) : Type 0 where
  pub spelled : AllByRecursion HasSpelling log
  pub whole : text ≡ flat_map (λ line. spelling line ++ codes "\n") log
