-- The printed text of an answer: its block, with a line for each shown item.
-- Source: the output of a FlatZinc solver, MiniZinc Handbook; sets in braces alone are this project's own.
use Rattle.std.specs.Prelude.{ℕ, ℤ, Bool, true, false, List, [], ◌∷◌, ◌++◌, length, codes, Option, None, Some}
use Rattle.std.specs.Fmt.{decimal, signed_decimal}
use Rattle.std.specs.List.{flat_map, join_by}
use Rattle.set_meaning.specs.declared.kinds.Value.{Value}
use Rattle.set_meaning.specs.declared.kinds.Value.TheVariants as value
use Rattle.set_meaning.specs.declared.problems.Term.{Term}
use Rattle.set_meaning.specs.declared.problems.Dim.{Dim}
use Rattle.set_meaning.specs.declared.problems.Dim.TheVariants as dim
use Rattle.set_meaning.specs.declared.problems.Shown.{Shown}
use Rattle.set_meaning.specs.declared.problems.Problem.{Problem}
use Rattle.set_meaning.specs.Arguments.{value_of}

-- ---- values

abbrev pub bool_text : Bool → List ℕ
bool_text true = codes "true"
bool_text false = codes "false"

-- further elements, a comma before each
abbrev pub more_text : List ℤ → List ℕ
more_text = flat_map (λ x. codes "," ++ signed_decimal x)

-- the elements in order, a comma between two
abbrev pub elements_text : List ℤ → List ℕ
elements_text = join_by signed_decimal (codes ",")

-- a set as `{1,2,3}`, without spaces
abbrev pub set_text : List ℤ → List ℕ
set_text elements = codes "{" ++ elements_text elements ++ codes "}"

abbrev pub value_text : Value → List ℕ
value_text (value.Bool b) = bool_text b
value_text (value.Int x) = signed_decimal x
value_text (value.Set s) = set_text s

abbrev pub text_if_any : Option Value → List ℕ
text_if_any None = []
text_if_any (Some v) = value_text v

-- the value of a term, under a list of values, one a variable
abbrev pub term_text : Term → List Value → List ℕ
term_text t values = text_if_any (value_of t values)

-- ---- arrays

-- `L..H`
abbrev pub range_text : ℤ → ℤ → List ℕ
range_text lo hi = signed_decimal lo ++ codes ".." ++ signed_decimal hi

-- a dimension as it was written
abbrev pub dim_text : Dim → List ℕ
dim_text (dim.Range lo hi) = range_text lo hi
dim_text (dim.List elements) = set_text elements

-- each dimension, a comma and a space behind it
abbrev pub dims_text : List Dim → List ℕ
dims_text = flat_map (λ d. dim_text d ++ codes ", ")

-- further values, a comma and a space before each
abbrev pub more_terms_text : List Term → List Value → List ℕ
more_terms_text terms values = flat_map (λ t. codes ", " ++ term_text t values) terms

-- the values in order, a comma and a space between two
abbrev pub terms_text : List Term → List Value → List ℕ
terms_text terms values = join_by (λ t. term_text t values) (codes ", ") terms

-- `arrayKd(D1, .., DK, [V1, V2])`
abbrev pub array_text : List Dim → List Term → List Value → List ℕ
array_text dims terms values = codes "array" ++ decimal (length dims) ++ codes "d(" ++ dims_text dims ++ codes "[" ++ terms_text terms values ++ codes "])"

-- ---- items

-- an array where there are dimensions, else the one term
abbrev pub item_text : List Dim → List Term → List Value → List ℕ
item_text [] terms values = flat_map (λ t. term_text t values) terms
item_text (d ∷ dims) terms values = array_text (d ∷ dims) terms values

-- `NAME = VALUE;`
abbrev pub item_line : Shown → List Value → List ℕ
item_line item values = item.name ++ codes " = " ++ item_text item.dims item.terms values ++ codes ";\n"

abbrev pub item_lines : List Shown → List Value → List ℕ
item_lines items values = flat_map (λ item. item_line item values) items

-- a line for each shown item, in order, and the separator
abbrev pub block : Problem → List Value → List ℕ
block p values = item_lines p.shown values ++ codes "----------\n"
