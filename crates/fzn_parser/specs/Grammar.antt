-- Which tokens spell which tree, production by production.
-- Source: the FlatZinc grammar of the MiniZinc Handbook, in the profile that docs/FORMATS.md gives.
--
--     model  = { item } "solve" anns goal ";"
--     goal   = "satisfy" | "minimize" expr | "maximize" expr
--     item   = "predicate" { any token but ";" } ";"
--            | ptype ":" Name anns "=" expr ";"
--            | vtype ":" Name anns [ "=" expr ] ";"
--            | "array" "[" "1" ".." INT "]" "of" ( ptype | vtype ) ":" Name anns "=" array ";"
--            | "constraint" Name "(" [ expr { "," expr } ] ")" anns ";"
--     ptype  = "bool" | "int" | "float" | "set" "of" "int"
--     vtype  = "var" ( "bool" | "int" | "float" | setlit | "set" "of" ( "int" | setlit ) )
--     setlit = num ".." num | "{" [ num { "," num } ] "}"
--     num    = INT | FLOAT
--     basic  = "true" | "false" | num | setlit | Name
--     array  = "[" [ basic { "," basic } ] "]"
--     expr   = basic | array
--     anns   = { "::" ann }
--     ann    = Name [ "(" [ aexpr { "," aexpr } ] ")" ]
--     aexpr  = "true" | "false" | num | setlit | STRING | ann | "[" [ aexpr { "," aexpr } ] "]"
use Rattle.std.specs.Prelude.{◌≡◌, ℕ, Bool, true, false, List, [], ◌∷◌, ◌++◌, map, Option, Some, None, pos, All}
use Rattle.std.specs.List.{flat_map}
use Rattle.fzn_reader.specs.declared.tokens.Token.{Token}
use Rattle.fzn_reader.specs.declared.tokens.TokenKind.{TokenKind}
use Rattle.fzn_reader.specs.declared.tokens.TokenKind.TheVariants as kinds
use Rattle.fzn_reader.specs.declared.tokens.Word.{Word}
use Rattle.fzn_reader.specs.declared.tokens.Word.TheVariants as words
use Rattle.fzn_reader.specs.declared.tokens.Symbol.{Symbol}
use Rattle.fzn_reader.specs.declared.tokens.Symbol.TheVariants as symbols
use Rattle.fzn_reader.specs.Text.{bytes_of}
use Rattle.fzn_parser.specs.declared.tree.Num.{Num}
use Rattle.fzn_parser.specs.declared.tree.Num.TheVariants as nums
use Rattle.fzn_parser.specs.declared.tree.Number.{Number}
use Rattle.fzn_parser.specs.declared.tree.SetForm.{SetForm}
use Rattle.fzn_parser.specs.declared.tree.SetForm.TheVariants as sets
use Rattle.fzn_parser.specs.declared.tree.Basic.{Basic}
use Rattle.fzn_parser.specs.declared.tree.BasicForm.{BasicForm}
use Rattle.fzn_parser.specs.declared.tree.BasicForm.TheVariants as basics
use Rattle.fzn_parser.specs.declared.tree.Expr.{Expr}
use Rattle.fzn_parser.specs.declared.tree.Expr.TheVariants as exprs
use Rattle.fzn_parser.specs.declared.tree.Ident.{Ident}
use Rattle.fzn_parser.specs.declared.tree.TypeExpr.{TypeExpr}
use Rattle.fzn_parser.specs.declared.tree.TypeForm.{TypeForm}
use Rattle.fzn_parser.specs.declared.tree.TypeForm.TheVariants as types
use Rattle.fzn_parser.specs.declared.tree.Ann.{Ann}
use Rattle.fzn_parser.specs.declared.tree.AnnForm.TheOpen.{AnnForm-F, Ann-F, AnnArg-F}
use Rattle.fzn_parser.specs.declared.tree.AnnForm.TheFolds.{fold-Ann}
use Rattle.fzn_parser.specs.declared.tree.GoalForm.{GoalForm}
use Rattle.fzn_parser.specs.declared.tree.GoalForm.TheVariants as goals
use Rattle.fzn_parser.specs.declared.tree.Form.{Form}
use Rattle.fzn_parser.specs.declared.tree.Form.TheVariants as forms
use Rattle.fzn_parser.specs.declared.tree.Item.{Item}
use Rattle.fzn_parser.specs.declared.tree.Tree.{Tree}

-- ---- tokens, and patterns that they fit

-- a token as the grammar sees it: its place, its kind, and its bytes, which tell one name from another
pub record Sign : Type 0 where
  pub at : ℕ
  pub kind : TokenKind
  pub bytes : List ℕ

abbrev pub sign_of : List ℕ → Token → Sign
sign_of text t = record { at = t.from; kind = t.kind; bytes = bytes_of text t }

abbrev pub signs : List ℕ → List Token → List Sign
signs text tokens = map (sign_of text) tokens

-- what a tree says of a token
pub data Pattern : Type 0 where
  -- a token of this kind
  token : TokenKind → Pattern
  -- the name of these bytes
  named : List ℕ → Pattern
  -- what the tree places here
  placed : ℕ → Pattern → Pattern
  -- no token: the tree has a part that no production gives
  none : Pattern
  -- any number of tokens other than `;`
  skipped : Pattern

abbrev pub Fits : Pattern → Sign → Type 0
Fits (token kind) s = s.kind ≡ kind
Fits (named bytes) s = (s.kind ≡ kinds.Name) × (s.bytes ≡ bytes)
Fits (placed at p) s = (s.at ≡ at) × Fits p s
Fits none s = ⊥
Fits skipped s = ⊥

-- no `;`
abbrev pub IsSkipped : Sign → Type 0
IsSkipped s = s.kind ≡ kinds.Symbol symbols.Semicolon → ⊥

-- tokens fit patterns, one by one
abbrev pub Match : List Pattern → List Sign → Type 0
Match [] xs = xs ≡ []
Match (skipped ∷ ps) xs = (front : List Sign) × (back : List Sign) × (xs ≡ front ++ back) × All IsSkipped front × Match ps back
Match (p ∷ ps) [] = ⊥
Match (p ∷ ps) (x ∷ xs) = Fits p x × Match ps xs

abbrev pub word : Word → Pattern
word w = token (kinds.Word w)

abbrev pub symbol : Symbol → Pattern
symbol s = token (kinds.Symbol s)

-- the first token of these has this place
abbrev pub begun_at : ℕ → List Pattern → List Pattern
begun_at at [] = []
begun_at at (p ∷ ps) = placed at p ∷ ps

-- nothing, or parts with a comma between two
abbrev pub separated : {A : Type 0} → (A → List Pattern) → List A → List Pattern
separated f [] = []
separated f (x ∷ xs) = f x ++ flat_map (λ y. symbol symbols.Comma ∷ f y) xs

-- such a list after its opening bracket, and the closing one
abbrev pub closed : {A : Type 0} → (A → List Pattern) → List A → Symbol → List Pattern
closed f xs close = separated f xs ++ symbol close ∷ []

-- ---- numbers and set literals

abbrev pub num : Num → Pattern
num (nums.Int z) = token (kinds.Int z)
num nums.Large = token kinds.LargeInt
num nums.Float = token kinds.Float

abbrev pub number : Number → List Pattern
number n = placed n.at (num n.num) ∷ []

abbrev pub integer_num : Num → Pattern
integer_num (nums.Int z) = token (kinds.Int z)
integer_num nums.Large = token kinds.LargeInt
integer_num nums.Float = none

-- INT
abbrev pub integer : Number → List Pattern
integer n = placed n.at (integer_num n.num) ∷ []

abbrev pub set_literal : SetForm → List Pattern
set_literal (sets.Range low high) = number low ++ symbol symbols.DotDot ∷ number high
set_literal (sets.List ns) = symbol symbols.OpenCurly ∷ closed number ns symbols.CloseCurly

-- ---- expressions

abbrev pub truth : Bool → Pattern
truth true = word words.True
truth false = word words.False

abbrev pub basic_form : BasicForm → List Pattern
basic_form (basics.Bool b) = truth b ∷ []
basic_form (basics.Num n) = num n ∷ []
basic_form (basics.Set s) = set_literal s
basic_form (basics.Name n) = named n ∷ []

abbrev pub basic : Basic → List Pattern
basic b = begun_at b.at (basic_form b.form)

abbrev pub array : List Basic → List Pattern
array items = symbol symbols.OpenSquare ∷ closed basic items symbols.CloseSquare

abbrev pub expression : Expr → List Pattern
expression (exprs.One b) = basic b
expression (exprs.List at items) = begun_at at (array items)

-- ---- types

-- ptype
abbrev pub param_type_form : ℕ → TypeForm → List Pattern
param_type_form at types.Bool = placed at (word words.Bool) ∷ []
param_type_form at types.Int = placed at (word words.Int) ∷ []
param_type_form at types.Float = placed at (word words.Float) ∷ []
param_type_form at types.SetOfInt = word words.Set ∷ word words.Of ∷ placed at (word words.Int) ∷ []
param_type_form at (types.Within s) = none ∷ []
param_type_form at (types.SetWithin s) = none ∷ []

abbrev pub param_type : TypeExpr → List Pattern
param_type t = param_type_form t.at t.form

-- vtype without its `var`
abbrev pub var_type_form : ℕ → TypeForm → List Pattern
var_type_form at types.Bool = placed at (word words.Bool) ∷ []
var_type_form at types.Int = placed at (word words.Int) ∷ []
var_type_form at types.Float = placed at (word words.Float) ∷ []
var_type_form at types.SetOfInt = word words.Set ∷ word words.Of ∷ placed at (word words.Int) ∷ []
var_type_form at (types.Within s) = begun_at at (set_literal s)
var_type_form at (types.SetWithin s) = word words.Set ∷ word words.Of ∷ begun_at at (set_literal s)

abbrev pub var_type : TypeExpr → List Pattern
var_type t = word words.Var ∷ var_type_form t.at t.form

-- ptype | vtype
abbrev pub element_type : Bool → TypeExpr → List Pattern
element_type true t = var_type t
element_type false t = param_type t

-- ---- annotations

-- the arguments of an annotation, if it has a list of them, each with its own patterns
abbrev pub call : Option (List (List Pattern)) → List Pattern
call None = []
call (Some args) = symbol symbols.OpenRound ∷ closed (λ ps. ps) args symbols.CloseRound

-- one level of an annotation, its parts being given by their patterns
abbrev pub ann_level : Ann-F (List Pattern) (List Pattern) (List Pattern) → List Pattern
ann_level a = placed a.at (named a.name) ∷ call a.args

abbrev pub argument_form_level : AnnForm-F (List Pattern) (List Pattern) (List Pattern) → List Pattern
argument_form_level (AnnForm-F.Bool b) = truth b ∷ []
argument_form_level (AnnForm-F.Num n) = num n ∷ []
argument_form_level (AnnForm-F.Set s) = set_literal s
argument_form_level AnnForm-F.Str = token kinds.Text ∷ []
argument_form_level (AnnForm-F.Call a) = a
argument_form_level (AnnForm-F.List args) = symbol symbols.OpenSquare ∷ closed (λ ps. ps) args symbols.CloseSquare

abbrev pub argument_level : AnnArg-F (List Pattern) (List Pattern) (List Pattern) → List Pattern
argument_level a = begun_at a.at a.form

abbrev pub annotation : Ann → List Pattern
annotation = fold-Ann (List Pattern) (List Pattern) (List Pattern) argument_form_level ann_level argument_level

abbrev pub annotations : List Ann → List Pattern
annotations anns = flat_map (λ a. symbol symbols.ColonColon ∷ annotation a) anns

-- ---- items

abbrev pub ident : Ident → List Pattern
ident i = placed i.at (named i.name) ∷ []

-- [ "=" expr ]
abbrev pub value : Option Expr → List Pattern
value None = []
value (Some e) = symbol symbols.Equals ∷ expression e

abbrev pub goal : GoalForm → List Pattern
goal goals.Satisfy = word words.Satisfy ∷ []
goal (goals.Minimize e) = word words.Minimize ∷ expression e
goal (goals.Maximize e) = word words.Maximize ∷ expression e

abbrev pub semicolon : List Pattern
semicolon = symbol symbols.Semicolon ∷ []

-- item
abbrev pub item_form : Form → List Pattern
item_form forms.Predicate = word words.Predicate ∷ skipped ∷ semicolon
item_form (forms.Param sort name anns e) =
    param_type sort ++ symbol symbols.Colon ∷ (ident name ++ (annotations anns ++ symbol symbols.Equals ∷ (expression e ++ semicolon)))
item_form (forms.Variable sort name anns e) =
    var_type sort ++ symbol symbols.Colon ∷ (ident name ++ (annotations anns ++ (value e ++ semicolon)))
item_form (forms.Array length is_var sort name anns items_at items) =
    word words.Array ∷ symbol symbols.OpenSquare ∷ token (kinds.Int (pos 1)) ∷ symbol symbols.DotDot ∷ (integer length
    ++ symbol symbols.CloseSquare ∷ word words.Of ∷ (element_type is_var sort
    ++ symbol symbols.Colon ∷ (ident name ++ (annotations anns
    ++ symbol symbols.Equals ∷ (begun_at items_at (array items) ++ semicolon)))))
item_form (forms.Constraint name args anns) =
    word words.Constraint ∷ (ident name ++ symbol symbols.OpenRound ∷ (closed expression args symbols.CloseRound ++ (annotations anns ++ semicolon)))
item_form (forms.Solve anns g) = none ∷ []

-- the solve item
abbrev pub solve_form : Form → List Pattern
solve_form (forms.Solve anns g) = word words.Solve ∷ (annotations anns ++ (goal g ++ semicolon))
solve_form _ = none ∷ []

-- { item } and the solve item
abbrev pub model : List Item → List Pattern
model [] = none ∷ []
model (item ∷ []) = begun_at item.at (solve_form item.form)
model (item ∷ next ∷ rest) = begun_at item.at (item_form item.form) ++ model (next ∷ rest)

-- the tokens spell the tree
abbrev pub Spells : List Sign → Tree → Type 0
Spells xs tree = Match (model tree.items) xs
