-- What is to come after the first tokens of a model: the grammar symbols that they leave open, the next one first.
-- This is the FlatZinc grammar of the MiniZinc Handbook again, each production behind its first token; that both are
-- one language is a law (`what_is_to_come`).
use Rattle.std.specs.Prelude.{ℕ, suc, Bool, true, false, if◌then◌else◌, List, [], ◌∷◌, ◌++◌, Option, Some, None, option_and_then, pos}
use Rattle.std.specs.Option.{option_map, option_or}
use Rattle.std.specs.Ordering.{int_eq}
use Rattle.std.specs.Str.{bytes_eq}
use Rattle.fzn_reader.specs.declared.tokens.TokenKind.{TokenKind}
use Rattle.fzn_reader.specs.declared.tokens.TokenKind.TheVariants as kinds
use Rattle.fzn_reader.specs.declared.tokens.Word.TheVariants as words
use Rattle.fzn_reader.specs.declared.tokens.Symbol.{Symbol}
use Rattle.fzn_reader.specs.declared.tokens.Symbol.TheVariants as symbols
use Rattle.fzn_reader.specs.Text.{word_text, symbol_text}
use Rattle.fzn_parser.specs.declared.faults.What.{What}
use Rattle.fzn_parser.specs.declared.faults.What.TheVariants as whats
use Rattle.fzn_parser.specs.Grammar.{Sign}

-- two kinds of token are one
abbrev pub same_kind : TokenKind → TokenKind → Bool
same_kind kinds.Name kinds.Name = true
same_kind (kinds.Word a) (kinds.Word b) = bytes_eq (word_text a) (word_text b)
same_kind (kinds.Int a) (kinds.Int b) = int_eq a b
same_kind kinds.LargeInt kinds.LargeInt = true
same_kind kinds.Float kinds.Float = true
same_kind kinds.Text kinds.Text = true
same_kind (kinds.Symbol a) (kinds.Symbol b) = bytes_eq (symbol_text a) (symbol_text b)
same_kind _ _ = false

-- a grammar symbol
pub data Part : Type 0 where
  -- this token, and how it is named where it is missing
  must : TokenKind → What → Part
  -- Name, INT, num
  a_name : Part
  an_integer : Part
  a_number : Part
  -- { item } and the solve item
  items : Part
  -- { any token but ";" } ";"
  to_semicolon : Part
  -- ptype | vtype, what follows the `var` of a vtype, and what follows its `set of`
  a_type : Part
  a_var_type : Part
  a_set_type : Part
  goal : Part
  expression : Part
  basic : Part
  annotation : Part
  -- aexpr
  argument : Part
  -- what follows the opening bracket of a list of such parts, and what follows one of its parts: the bracket that
  -- closes the list, and how this bracket and the comma are named
  list_of : Part → Symbol → What → Part
  more_of : Part → Symbol → What → Part
  -- what may be missing: anns, the arguments after the name of an annotation, `..` num, `=` expr
  annotations : Part
  call : Part
  upper_end : Part
  value : Part

abbrev pub may_be_missing : Part → Bool
may_be_missing annotations = true
may_be_missing call = true
may_be_missing upper_end = true
may_be_missing value = true
may_be_missing _ = false

abbrev pub symbol : Symbol → What → Part
symbol s what = must (kinds.Symbol s) what

abbrev pub semicolon : Part
semicolon = symbol symbols.Semicolon whats.Semicolon

-- lists by their brackets
abbrev pub round : Part → Part
round part = list_of part symbols.CloseRound whats.CommaOrRound

abbrev pub square : Part → Part
square part = list_of part symbols.CloseSquare whats.CommaOrSquare

abbrev pub curly : Part → Part
curly part = list_of part symbols.CloseCurly whats.CommaOrCurly

-- what follows the type of a parameter, and of a variable
abbrev pub param_rest : List Part
param_rest =
    symbol symbols.Colon whats.Colon ∷ a_name ∷ annotations ∷ symbol symbols.Equals whats.Equals ∷ expression ∷ semicolon ∷ items ∷ []

abbrev pub variable_rest : List Part
variable_rest = symbol symbols.Colon whats.Colon ∷ a_name ∷ annotations ∷ value ∷ semicolon ∷ items ∷ []

-- "of" "int"
abbrev pub of_int : List Part
of_int = must (kinds.Word words.Of) whats.Of ∷ must (kinds.Word words.Int) whats.TypeWord ∷ []

-- ".." num
abbrev pub to_number : List Part
to_number = symbol symbols.DotDot whats.Range ∷ a_number ∷ []

abbrev pub array_rest : List Part
array_rest =
    symbol symbols.OpenSquare whats.OpenSquare ∷ must (kinds.Int (pos 1)) whats.One ∷ symbol symbols.DotDot whats.Range ∷ an_integer
    ∷ symbol symbols.CloseSquare whats.CloseSquare ∷ must (kinds.Word words.Of) whats.Of ∷ a_type
    ∷ symbol symbols.Colon whats.Colon ∷ a_name ∷ annotations ∷ symbol symbols.Equals whats.Equals
    ∷ symbol symbols.OpenSquare whats.OpenSquare ∷ square basic ∷ semicolon ∷ items ∷ []

abbrev pub constraint_rest : List Part
constraint_rest =
    a_name ∷ symbol symbols.OpenRound whats.OpenRound ∷ round expression ∷ annotations ∷ semicolon ∷ items ∷ []

abbrev pub is_symbol : Symbol → TokenKind → Bool
is_symbol s k = same_kind (kinds.Symbol s) k

-- what follows a token with which this part begins, up to the end of the part
abbrev pub follows : Part → TokenKind → Option (List Part)
follows (must kind what) k = if same_kind kind k then Some [] else None
follows a_name kinds.Name = Some []
follows an_integer (kinds.Int z) = Some []
follows an_integer kinds.LargeInt = Some []
follows a_number (kinds.Int z) = Some []
follows a_number kinds.LargeInt = Some []
follows a_number kinds.Float = Some []
follows items (kinds.Word words.Predicate) = Some (to_semicolon ∷ items ∷ [])
follows items (kinds.Word words.Bool) = Some param_rest
follows items (kinds.Word words.Int) = Some param_rest
follows items (kinds.Word words.Float) = Some param_rest
follows items (kinds.Word words.Set) = Some (of_int ++ param_rest)
follows items (kinds.Word words.Var) = Some (a_var_type ∷ variable_rest)
follows items (kinds.Word words.Array) = Some array_rest
follows items (kinds.Word words.Constraint) = Some constraint_rest
follows items (kinds.Word words.Solve) = Some (annotations ∷ goal ∷ semicolon ∷ [])
follows to_semicolon (kinds.Symbol symbols.Semicolon) = Some []
follows to_semicolon _ = Some (to_semicolon ∷ [])
follows a_type (kinds.Word words.Bool) = Some []
follows a_type (kinds.Word words.Int) = Some []
follows a_type (kinds.Word words.Float) = Some []
follows a_type (kinds.Word words.Set) = Some of_int
follows a_type (kinds.Word words.Var) = Some (a_var_type ∷ [])
follows a_var_type (kinds.Word words.Bool) = Some []
follows a_var_type (kinds.Word words.Int) = Some []
follows a_var_type (kinds.Word words.Float) = Some []
follows a_var_type (kinds.Word words.Set) = Some (must (kinds.Word words.Of) whats.Of ∷ a_set_type ∷ [])
follows a_var_type (kinds.Int z) = Some to_number
follows a_var_type kinds.LargeInt = Some to_number
follows a_var_type kinds.Float = Some to_number
follows a_var_type (kinds.Symbol symbols.OpenCurly) = Some (curly a_number ∷ [])
follows a_set_type (kinds.Word words.Int) = Some []
follows a_set_type (kinds.Int z) = Some to_number
follows a_set_type kinds.LargeInt = Some to_number
follows a_set_type kinds.Float = Some to_number
follows a_set_type (kinds.Symbol symbols.OpenCurly) = Some (curly a_number ∷ [])
follows goal (kinds.Word words.Satisfy) = Some []
follows goal (kinds.Word words.Minimize) = Some (expression ∷ [])
follows goal (kinds.Word words.Maximize) = Some (expression ∷ [])
follows basic (kinds.Word words.True) = Some []
follows basic (kinds.Word words.False) = Some []
follows basic (kinds.Int z) = Some (upper_end ∷ [])
follows basic kinds.LargeInt = Some (upper_end ∷ [])
follows basic kinds.Float = Some (upper_end ∷ [])
follows basic (kinds.Symbol symbols.OpenCurly) = Some (curly a_number ∷ [])
follows basic kinds.Name = Some []
follows expression (kinds.Word words.True) = Some []
follows expression (kinds.Word words.False) = Some []
follows expression (kinds.Int z) = Some (upper_end ∷ [])
follows expression kinds.LargeInt = Some (upper_end ∷ [])
follows expression kinds.Float = Some (upper_end ∷ [])
follows expression (kinds.Symbol symbols.OpenCurly) = Some (curly a_number ∷ [])
follows expression kinds.Name = Some []
follows expression (kinds.Symbol symbols.OpenSquare) = Some (square basic ∷ [])
follows annotation kinds.Name = Some (call ∷ [])
follows argument (kinds.Word words.True) = Some []
follows argument (kinds.Word words.False) = Some []
follows argument (kinds.Int z) = Some (upper_end ∷ [])
follows argument kinds.LargeInt = Some (upper_end ∷ [])
follows argument kinds.Float = Some (upper_end ∷ [])
follows argument (kinds.Symbol symbols.OpenCurly) = Some (curly a_number ∷ [])
follows argument kinds.Text = Some []
follows argument kinds.Name = Some (call ∷ [])
follows argument (kinds.Symbol symbols.OpenSquare) = Some (square argument ∷ [])
follows (list_of part close what) k =
    if is_symbol close k then Some [] else option_map (λ ps. ps ++ more_of part close what ∷ []) (follows part k)
follows (more_of part close what) k =
    if is_symbol close k then Some [] else (if is_symbol symbols.Comma k then Some (part ∷ more_of part close what ∷ []) else None)
follows annotations (kinds.Symbol symbols.ColonColon) = Some (annotation ∷ annotations ∷ [])
follows call (kinds.Symbol symbols.OpenRound) = Some (round argument ∷ [])
follows upper_end (kinds.Symbol symbols.DotDot) = Some (a_number ∷ [])
follows value (kinds.Symbol symbols.Equals) = Some (expression ∷ [])
follows _ _ = None

-- what is to come after one more token, where these parts were to come: a part that may be missing is passed over
abbrev pub after_one : List Part → TokenKind → Option (List Part)
after_one [] k = None
after_one (part ∷ rest) k =
    option_or (option_map (λ ps. ps ++ rest) (follows part k)) (if may_be_missing part then after_one rest k else None)

-- the same after these tokens, or None where they cannot come
abbrev pub after_all : List Part → List Sign → Option (List Part)
after_all parts [] = Some parts
after_all parts (x ∷ xs) = option_and_then (λ rest. after_all rest xs) (after_one parts x.kind)

-- what is to come after these first tokens of a model
abbrev pub to_come : List Sign → Option (List Part)
to_come xs = after_all (items ∷ []) xs

-- ---- how a missing part is named

-- a list is named by its next part right after its opening bracket, and elsewhere by what goes on with or ends it
abbrev pub name_of : Part → What
name_of (must kind what) = what
name_of a_name = whats.Name
name_of an_integer = whats.Integer
name_of a_number = whats.Integer
name_of items = whats.Item
name_of to_semicolon = whats.Semicolon
name_of a_type = whats.TypeWord
name_of a_var_type = whats.TypeWord
name_of a_set_type = whats.TypeWord
name_of goal = whats.Goal
name_of expression = whats.Expression
name_of basic = whats.Expression
name_of annotation = whats.Annotation
name_of argument = whats.Expression
name_of (list_of part close what) = name_of part
name_of (more_of part close what) = what
name_of annotations = whats.Annotation
name_of call = whats.OpenRound
name_of upper_end = whats.Range
name_of value = whats.Equals

-- what is expected is the first part that may not be missing, and the end of the text where there is none
abbrev pub expected : List Part → What
expected [] = whats.End
expected (part ∷ rest) = if may_be_missing part then expected rest else name_of part

-- ---- how deep annotations nest

-- the part ends in the closing bracket of an annotation that is open
abbrev pub closes_annotation : Part → Bool
closes_annotation (list_of argument close what) = true
closes_annotation (more_of argument close what) = true
closes_annotation _ = false

-- how many of these parts do
abbrev pub brackets : List Part → ℕ
brackets [] = 0
brackets (part ∷ rest) = if closes_annotation part then suc (brackets rest) else brackets rest

abbrev pub brackets_in : Option (List Part) → ℕ
brackets_in None = 0
brackets_in (Some parts) = brackets parts

-- how many `(` and `[` of annotations are open after these tokens
abbrev pub nesting : List Sign → ℕ
nesting xs = brackets_in (to_come xs)
