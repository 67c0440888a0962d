-- No definition of the language (Grammar and ToCome are that), and cited by no public contract: what the private
-- functions of the parser answer. What is read from the front of tokens, as functions on lists: a part and the tokens
-- after it, or the first fault. That it is what the grammar says is proved of these. The number that each takes first
-- is the place where the text ends.
use Rattle.std.specs.Prelude.{◌≡◌, ◌≢◌, ℕ, zero, suc, Bool, true, false, if◌then◌else◌, List, [], ◌∷◌, ◌++◌, length, Option, Some, None, Result, Ok, Err, pos}
use Rattle.std.specs.Borrow.{Bor}
use Rattle.fzn_reader.specs.declared.tokens.Token.{Token}
use Rattle.fzn_reader.specs.declared.tokens.TokenKind.{TokenKind}
use Rattle.fzn_reader.specs.declared.tokens.TokenKind.TheVariants as kinds
use Rattle.fzn_reader.specs.declared.tokens.Word.TheVariants as words
use Rattle.fzn_reader.specs.declared.tokens.Symbol.{Symbol}
use Rattle.fzn_reader.specs.declared.tokens.Symbol.TheVariants as symbols
use Rattle.fzn_parser.specs.declared.faults.What.{What}
use Rattle.fzn_parser.specs.declared.faults.What.TheVariants as whats
use Rattle.fzn_parser.specs.declared.faults.SyntaxFault.{SyntaxFault}
use Rattle.fzn_parser.specs.declared.faults.SyntaxFault.TheVariants as faults
use Rattle.fzn_parser.specs.declared.tree.Num.TheVariants as nums
use Rattle.fzn_parser.specs.declared.tree.Number.{Number}
use Rattle.fzn_parser.specs.declared.tree.SetForm.{SetForm}
use Rattle.fzn_parser.specs.declared.tree.SetForm.TheVariants as sets
use Rattle.fzn_parser.specs.declared.tree.Ident.{Ident}
use Rattle.fzn_parser.specs.declared.tree.Basic.{Basic}
use Rattle.fzn_parser.specs.declared.tree.BasicForm.{BasicForm}
use Rattle.fzn_parser.specs.declared.tree.BasicForm.TheVariants as basics
use Rattle.fzn_parser.specs.declared.tree.Expr.{Expr}
use Rattle.fzn_parser.specs.declared.tree.Expr.TheVariants as exprs
use Rattle.fzn_parser.specs.declared.tree.TypeExpr.{TypeExpr}
use Rattle.fzn_parser.specs.declared.tree.TypeForm.{TypeForm}
use Rattle.fzn_parser.specs.declared.tree.TypeForm.TheVariants as types
use Rattle.fzn_parser.specs.declared.tree.Ann.{Ann, roll-Ann}
use Rattle.fzn_parser.specs.declared.tree.AnnArg.{AnnArg, roll-AnnArg}
use Rattle.fzn_parser.specs.declared.tree.AnnForm.{AnnForm}
use Rattle.fzn_parser.specs.declared.tree.AnnForm.TheVariants as args
use Rattle.fzn_parser.specs.declared.tree.GoalForm.{GoalForm}
use Rattle.fzn_parser.specs.declared.tree.GoalForm.TheVariants as goals
use Rattle.fzn_parser.specs.declared.tree.Form.{Form}
use Rattle.fzn_parser.specs.declared.tree.Form.TheVariants as forms
use Rattle.fzn_parser.specs.declared.tree.Item.{Item}
use Rattle.fzn_parser.specs.Grammar.{Sign, signs}
use Rattle.fzn_parser.specs.ToCome.{same_kind, is_symbol}

infixl 10 ◌>>=◌
abbrev pub ◌>>=◌ : {A B : Type 0} → Result A SyntaxFault → (A → Result B SyntaxFault) → Result B SyntaxFault
(Ok x) >>= f = f x
(Err e) >>= f = Err e

-- a reader of parts
abbrev pub Reader : Type 0 → Type 0
Reader A = List Sign → Result (A × List Sign) SyntaxFault

-- what a call returned, seen by view, is what reading gives, unless memory ran out
abbrev pub Gives : {X Y : Type 0} → (X → Y) → Result X SyntaxFault → Result Y SyntaxFault → Type 0
Gives view (Ok x) read = read ≡ Ok (view x)
Gives view (Err e) read = e ≢ faults.Memory → read ≡ Err e

-- a part with the tokens after it
abbrev pub with_seen : {A : Type 0} → List ℕ → A × Bor (List Token) → A × List Sign
with_seen text x = (x.0, signs text x.1.now)

-- ---- single tokens

-- the first token
unfoldable pub first : ℕ → Reader Sign
first n [] = Err (faults.EndOfFile n)
first n (x ∷ xs) = Ok (x, xs)

abbrev pub refused : {A : Type 0} → ℕ → What → Result A SyntaxFault
refused at what = Err (faults.Expected at what)

-- the place of a token that must be of this kind
unfoldable pub after : ℕ → TokenKind → What → Reader ℕ
after n kind what xs = do
  r ← first n xs
  if same_kind kind r.0.kind then Ok (r.0.at, r.1) else refused r.0.at what

abbrev pub after_symbol : ℕ → Symbol → What → Reader ℕ
after_symbol n s what = after n (kinds.Symbol s) what

-- ---- lists

-- whether a list goes on after a comma, or ends with its bracket
unfoldable pub goes_on : ℕ → Symbol → What → Reader Bool
goes_on n close what xs = do
  r ← first n xs
  if is_symbol close r.0.kind then Ok (false, r.1) else (if is_symbol symbols.Comma r.0.kind then Ok (true, r.1) else refused r.0.at what)

-- one more part of a list and what follows it, by these readers
abbrev pub one_more : {A : Type 0} → Reader A → Reader (List A) → Bool × List Sign → Result (List A × List Sign) SyntaxFault
one_more part more (true, xs) = do
  x ← part xs
  rest ← more x.1
  Ok (x.0 ∷ rest.0, rest.1)
one_more part more (false, xs) = Ok ([], xs)

-- the parts of a list after one of them, in this many turns at most
unfoldable pub more_in : {A : Type 0} → ℕ → Reader A → Symbol → What → ℕ → Reader (List A)
more_in n part close what zero xs = Err (faults.EndOfFile n)
more_in n part close what (suc turns) xs = goes_on n close what xs >>= one_more part (more_in n part close what turns)

-- each turn takes a token, so their count is enough
unfoldable pub more : {A : Type 0} → ℕ → Reader A → Symbol → What → Reader (List A)
more n part close what xs = more_in n part close what (length xs) xs

-- the parts from the first one on
unfoldable pub from_first : {A : Type 0} → ℕ → Reader A → Symbol → What → Reader (List A)
from_first n part close what xs = do
  x ← part xs
  rest ← more n part close what x.1
  Ok (x.0 ∷ rest.0, rest.1)

-- a list after its opening bracket
unfoldable pub a_list : {A : Type 0} → ℕ → Reader A → Symbol → What → Reader (List A)
a_list n part close what xs = do
  r ← first n xs
  if is_symbol close r.0.kind then Ok ([], r.1) else from_first n part close what xs

-- what is read, with these parts before it
abbrev pub with_front : {A : Type 0} → List A → Result (List A × List Sign) SyntaxFault → Result (List A × List Sign) SyntaxFault
with_front front read = read >>= (λ r. Ok (front ++ r.0, r.1))

-- ---- numbers and set literals

abbrev pub number_by : TokenKind → ℕ → Result Number SyntaxFault
number_by (kinds.Int z) at = Ok (record { at = at; num = nums.Int z })
number_by kinds.LargeInt at = Ok (record { at = at; num = nums.Large })
number_by kinds.Float at = Ok (record { at = at; num = nums.Float })
number_by _ at = refused at whats.Integer

unfoldable pub number : ℕ → Reader Number
number n xs = do
  r ← first n xs
  v ← number_by r.0.kind r.0.at
  Ok (v, r.1)

abbrev pub integer_by : TokenKind → ℕ → Result Number SyntaxFault
integer_by (kinds.Int z) at = Ok (record { at = at; num = nums.Int z })
integer_by kinds.LargeInt at = Ok (record { at = at; num = nums.Large })
integer_by _ at = refused at whats.Integer

unfoldable pub integer : ℕ → Reader Number
integer n xs = do
  r ← first n xs
  v ← integer_by r.0.kind r.0.at
  Ok (v, r.1)

-- a range, after its lower end
unfoldable pub range_from : ℕ → Number → Reader SetForm
range_from n low xs = do
  dots ← after n (kinds.Symbol symbols.DotDot) whats.Range xs
  high ← number n dots.1
  Ok (sets.Range low high.0, high.1)

-- the numbers of a set literal, after its opening brace
unfoldable pub braced : ℕ → Reader SetForm
braced n xs = do
  ns ← a_list n (number n) symbols.CloseCurly whats.CommaOrCurly xs
  Ok (sets.List ns.0, ns.1)

-- ---- what may be missing

-- the place of this symbol and the tokens after it, if it stands here
unfoldable pub after_if : Symbol → List Sign → Option (ℕ × List Sign)
after_if s [] = None
after_if s (x ∷ xs) = if is_symbol s x.kind then Some (x.at, xs) else None

abbrev pub with_some : {A : Type 0} → Result (A × List Sign) SyntaxFault → Result (Option A × List Sign) SyntaxFault
with_some read = read >>= (λ r. Ok (Some r.0, r.1))

-- what follows the symbol, if it stands here
abbrev pub behind : {A : Type 0} → (ℕ → Reader A) → List Sign → Option (ℕ × List Sign) → Result (Option A × List Sign) SyntaxFault
behind part xs None = Ok (None, xs)
behind part xs (Some r) = with_some (part r.0 r.1)

-- `..` and a number, or nothing
unfoldable pub upper_end : ℕ → Reader (Option Number)
upper_end n xs = behind (λ _. number n) xs (after_if symbols.DotDot xs)

-- ---- expressions

abbrev pub ident_by : What → TokenKind → ℕ → List ℕ → Result Ident SyntaxFault
ident_by what kinds.Name at bytes = Ok (record { at = at; name = bytes })
ident_by what _ at bytes = refused at what

unfoldable pub ident : ℕ → What → Reader Ident
ident n what xs = do
  r ← first n xs
  i ← ident_by what r.0.kind r.0.at r.0.bytes
  Ok (i, r.1)

-- a number, or the range from it on
abbrev pub number_form : Number → Option Number → BasicForm
number_form low None = basics.Num low.num
number_form low (Some high) = basics.Set (sets.Range low high)

unfoldable pub number_or_range : ℕ → Number → Reader BasicForm
number_or_range n low xs = do
  high ← upper_end n xs
  Ok (number_form low high.0, high.1)

unfoldable pub braced_form : ℕ → Reader BasicForm
braced_form n xs = do
  s ← braced n xs
  Ok (basics.Set s.0, s.1)

-- what a basic expression says, its first token being given
abbrev pub basic_by : ℕ → TokenKind → ℕ → List ℕ → List Sign → Result (BasicForm × List Sign) SyntaxFault
basic_by n (kinds.Word words.True) at bytes xs = Ok (basics.Bool true, xs)
basic_by n (kinds.Word words.False) at bytes xs = Ok (basics.Bool false, xs)
basic_by n (kinds.Int z) at bytes xs = number_or_range n (record { at = at; num = nums.Int z }) xs
basic_by n kinds.LargeInt at bytes xs = number_or_range n (record { at = at; num = nums.Large }) xs
basic_by n kinds.Float at bytes xs = number_or_range n (record { at = at; num = nums.Float }) xs
basic_by n (kinds.Symbol symbols.OpenCurly) at bytes xs = braced_form n xs
basic_by n kinds.Name at bytes xs = Ok (basics.Name bytes, xs)
basic_by n _ at bytes xs = refused at whats.Expression

unfoldable pub basic : ℕ → Reader Basic
basic n xs = do
  r ← first n xs
  form ← basic_by n r.0.kind r.0.at r.0.bytes r.1
  Ok (record { at = r.0.at; form = form.0 }, form.1)

-- the items of an array, after its opening bracket
abbrev pub array : ℕ → Reader (List Basic)
array n = a_list n (basic n) symbols.CloseSquare whats.CommaOrSquare

unfoldable pub array_expression : ℕ → ℕ → Reader Expr
array_expression n at xs = do
  items ← array n xs
  Ok (exprs.List at items.0, items.1)

unfoldable pub basic_expression : ℕ → Reader Expr
basic_expression n xs = do
  b ← basic n xs
  Ok (exprs.One b.0, b.1)

unfoldable pub expression : ℕ → Reader Expr
expression n xs = do
  r ← first n xs
  if is_symbol symbols.OpenSquare r.0.kind then array_expression n r.0.at r.1 else basic_expression n xs

-- [ "=" expr ]
unfoldable pub value : ℕ → Reader (Option Expr)
value n xs = behind (λ _. expression n) xs (after_if symbols.Equals xs)

-- ---- types

-- "of" "int", after "set"
unfoldable pub set_of_int : ℕ → Reader TypeExpr
set_of_int n xs = do
  o ← after n (kinds.Word words.Of) whats.Of xs
  i ← after n (kinds.Word words.Int) whats.TypeWord o.1
  Ok (record { at = i.0; form = types.SetOfInt }, i.1)

-- a set literal that begins with this number
unfoldable pub range_within : ℕ → (SetForm → TypeForm) → Number → Reader TypeExpr
range_within n form low xs = do
  s ← range_from n low xs
  Ok (record { at = low.at; form = form s.0 }, s.1)

-- a set literal whose opening brace has this place
unfoldable pub braces_within : ℕ → (SetForm → TypeForm) → ℕ → Reader TypeExpr
braces_within n form at xs = do
  s ← braced n xs
  Ok (record { at = at; form = form s.0 }, s.1)

-- the type after "set" "of", its first token being given
abbrev pub set_type_by : ℕ → TokenKind → ℕ → List Sign → Result (TypeExpr × List Sign) SyntaxFault
set_type_by n (kinds.Word words.Int) at xs = Ok (record { at = at; form = types.SetOfInt }, xs)
set_type_by n (kinds.Int z) at xs = range_within n types.SetWithin (record { at = at; num = nums.Int z }) xs
set_type_by n kinds.LargeInt at xs = range_within n types.SetWithin (record { at = at; num = nums.Large }) xs
set_type_by n kinds.Float at xs = range_within n types.SetWithin (record { at = at; num = nums.Float }) xs
set_type_by n (kinds.Symbol symbols.OpenCurly) at xs = braces_within n types.SetWithin at xs
set_type_by n _ at xs = refused at whats.TypeWord

unfoldable pub set_type : ℕ → Reader TypeExpr
set_type n xs = do
  o ← after n (kinds.Word words.Of) whats.Of xs
  r ← first n o.1
  set_type_by n r.0.kind r.0.at r.1

-- the type after "var", its first token being given
abbrev pub var_type_by : ℕ → TokenKind → ℕ → List Sign → Result (TypeExpr × List Sign) SyntaxFault
var_type_by n (kinds.Word words.Bool) at xs = Ok (record { at = at; form = types.Bool }, xs)
var_type_by n (kinds.Word words.Int) at xs = Ok (record { at = at; form = types.Int }, xs)
var_type_by n (kinds.Word words.Float) at xs = Ok (record { at = at; form = types.Float }, xs)
var_type_by n (kinds.Word words.Set) at xs = set_type n xs
var_type_by n (kinds.Int z) at xs = range_within n types.Within (record { at = at; num = nums.Int z }) xs
var_type_by n kinds.LargeInt at xs = range_within n types.Within (record { at = at; num = nums.Large }) xs
var_type_by n kinds.Float at xs = range_within n types.Within (record { at = at; num = nums.Float }) xs
var_type_by n (kinds.Symbol symbols.OpenCurly) at xs = braces_within n types.Within at xs
var_type_by n _ at xs = refused at whats.TypeWord

unfoldable pub var_type : ℕ → Reader TypeExpr
var_type n xs = do
  r ← first n xs
  var_type_by n r.0.kind r.0.at r.1

unfoldable pub var_element : ℕ → Reader (Bool × TypeExpr)
var_element n xs = do
  t ← var_type n xs
  Ok ((true, t.0), t.1)

unfoldable pub set_element : ℕ → Reader (Bool × TypeExpr)
set_element n xs = do
  t ← set_of_int n xs
  Ok ((false, t.0), t.1)

-- the type of the elements of an array, and whether they are variables, its first token being given
abbrev pub element_by : ℕ → TokenKind → ℕ → List Sign → Result ((Bool × TypeExpr) × List Sign) SyntaxFault
element_by n (kinds.Word words.Var) at xs = var_element n xs
element_by n (kinds.Word words.Bool) at xs = Ok ((false, record { at = at; form = types.Bool }), xs)
element_by n (kinds.Word words.Int) at xs = Ok ((false, record { at = at; form = types.Int }), xs)
element_by n (kinds.Word words.Float) at xs = Ok ((false, record { at = at; form = types.Float }), xs)
element_by n (kinds.Word words.Set) at xs = set_element n xs
element_by n _ at xs = refused at whats.TypeWord

unfoldable pub element_type : ℕ → Reader (Bool × TypeExpr)
element_type n xs = do
  r ← first n xs
  element_by n r.0.kind r.0.at r.1

-- ---- annotations

-- a reader of lists of arguments, by the closing bracket and the place of the opening one
abbrev pub Nest : Type 0
Nest = Symbol → What → ℕ → Reader (List AnnArg)

abbrev pub number_argument : Number → Option Number → AnnForm
number_argument low None = args.Num low.num
number_argument low (Some high) = args.Set (sets.Range low high)

unfoldable pub number_argument_at : ℕ → Number → Reader AnnForm
number_argument_at n low xs = do
  high ← upper_end n xs
  Ok (number_argument low high.0, high.1)

unfoldable pub braced_argument : ℕ → Reader AnnForm
braced_argument n xs = do
  s ← braced n xs
  Ok (args.Set s.0, s.1)

-- the arguments of an annotation, after its name
unfoldable pub call : Nest → Reader (Option (List AnnArg))
call nest xs = behind (nest symbols.CloseRound whats.CommaOrRound) xs (after_if symbols.OpenRound xs)

unfoldable pub call_argument : Nest → ℕ → List ℕ → Reader AnnForm
call_argument nest at bytes xs = do
  list ← call nest xs
  Ok (args.Call (roll-Ann (record { at = at; name = bytes; args = list.0 })), list.1)

unfoldable pub list_argument : Nest → ℕ → Reader AnnForm
list_argument nest at xs = do
  list ← nest symbols.CloseSquare whats.CommaOrSquare at xs
  Ok (args.List list.0, list.1)

-- what an argument says, its first token being given
abbrev pub argument_by : ℕ → Nest → TokenKind → ℕ → List ℕ → List Sign → Result (AnnForm × List Sign) SyntaxFault
argument_by n nest (kinds.Word words.True) at bytes xs = Ok (args.Bool true, xs)
argument_by n nest (kinds.Word words.False) at bytes xs = Ok (args.Bool false, xs)
argument_by n nest (kinds.Int z) at bytes xs = number_argument_at n (record { at = at; num = nums.Int z }) xs
argument_by n nest kinds.LargeInt at bytes xs = number_argument_at n (record { at = at; num = nums.Large }) xs
argument_by n nest kinds.Float at bytes xs = number_argument_at n (record { at = at; num = nums.Float }) xs
argument_by n nest (kinds.Symbol symbols.OpenCurly) at bytes xs = braced_argument n xs
argument_by n nest kinds.Text at bytes xs = Ok (args.Str, xs)
argument_by n nest kinds.Name at bytes xs = call_argument nest at bytes xs
argument_by n nest (kinds.Symbol symbols.OpenSquare) at bytes xs = list_argument nest at xs
argument_by n nest _ at bytes xs = refused at whats.Expression

unfoldable pub argument : ℕ → Nest → Reader AnnArg
argument n nest xs = do
  r ← first n xs
  form ← argument_by n nest r.0.kind r.0.at r.0.bytes r.1
  Ok (roll-AnnArg (record { at = r.0.at; form = form.0 }), form.1)

-- lists of arguments that nest to this depth
unfoldable pub nested : ℕ → ℕ → Nest
nested n zero close what at xs = Err (faults.TooDeep at)
nested n (suc depth) close what at xs = a_list n (argument n (nested n depth)) close what xs

unfoldable pub annotation : ℕ → ℕ → Reader Ann
annotation n depth xs = do
  i ← ident n whats.Annotation xs
  list ← call (nested n depth) i.1
  Ok (roll-Ann (record { at = i.0.at; name = i.0.name; args = list.0 }), list.1)

-- { "::" ann }, in this many turns at most
abbrev pub one_annotation : Reader Ann → Reader (List Ann) → List Sign → Option (ℕ × List Sign) → Result (List Ann × List Sign) SyntaxFault
one_annotation part rest xs None = Ok ([], xs)
one_annotation part rest xs (Some r) = do
  a ← part r.1
  more ← rest a.1
  Ok (a.0 ∷ more.0, more.1)

unfoldable pub annotations_in : ℕ → ℕ → ℕ → Reader (List Ann)
annotations_in n depth zero xs = Ok ([], xs)
annotations_in n depth (suc turns) xs = one_annotation (annotation n depth) (annotations_in n depth turns) xs (after_if symbols.ColonColon xs)

unfoldable pub annotations : ℕ → ℕ → Reader (List Ann)
annotations n depth xs = annotations_in n depth (length xs) xs

-- ---- items

-- a parameter, after its type
unfoldable pub param : ℕ → ℕ → TypeExpr → Reader Form
param n depth sort xs = do
  c ← after_symbol n symbols.Colon whats.Colon xs
  i ← ident n whats.Name c.1
  anns ← annotations n depth i.1
  is ← after_symbol n symbols.Equals whats.Equals anns.1
  e ← expression n is.1
  s ← after_symbol n symbols.Semicolon whats.Semicolon e.1
  Ok (forms.Param sort i.0 anns.0 e.0, s.1)

unfoldable pub set_param : ℕ → ℕ → Reader Form
set_param n depth xs = do
  sort ← set_of_int n xs
  param n depth sort.0 sort.1

-- a variable, after "var"
unfoldable pub variable : ℕ → ℕ → Reader Form
variable n depth xs = do
  sort ← var_type n xs
  c ← after_symbol n symbols.Colon whats.Colon sort.1
  i ← ident n whats.Name c.1
  anns ← annotations n depth i.1
  e ← value n anns.1
  s ← after_symbol n symbols.Semicolon whats.Semicolon e.1
  Ok (forms.Variable sort.0 i.0 anns.0 e.0, s.1)

-- the length of an array, after "array"
unfoldable pub array_length : ℕ → Reader Number
array_length n xs = do
  o ← after_symbol n symbols.OpenSquare whats.OpenSquare xs
  one ← after n (kinds.Int (pos 1)) whats.One o.1
  to ← after_symbol n symbols.DotDot whats.Range one.1
  len ← integer n to.1
  close ← after_symbol n symbols.CloseSquare whats.CloseSquare len.1
  of_ ← after n (kinds.Word words.Of) whats.Of close.1
  Ok (len.0, of_.1)

-- an array, after "array"
unfoldable pub array_item : ℕ → ℕ → Reader Form
array_item n depth xs = do
  len ← array_length n xs
  sort ← element_type n len.1
  c ← after_symbol n symbols.Colon whats.Colon sort.1
  i ← ident n whats.Name c.1
  anns ← annotations n depth i.1
  is ← after_symbol n symbols.Equals whats.Equals anns.1
  o ← after_symbol n symbols.OpenSquare whats.OpenSquare is.1
  items ← array n o.1
  s ← after_symbol n symbols.Semicolon whats.Semicolon items.1
  Ok (forms.Array len.0 sort.0.0 sort.0.1 i.0 anns.0 o.0 items.0, s.1)

-- a constraint, after "constraint"
unfoldable pub constraint : ℕ → ℕ → Reader Form
constraint n depth xs = do
  i ← ident n whats.Name xs
  o ← after_symbol n symbols.OpenRound whats.OpenRound i.1
  list ← a_list n (expression n) symbols.CloseRound whats.CommaOrRound o.1
  anns ← annotations n depth list.1
  s ← after_symbol n symbols.Semicolon whats.Semicolon anns.1
  Ok (forms.Constraint i.0 list.0 anns.0, s.1)

-- a predicate item, after its first word
unfoldable pub predicate : ℕ → Reader Form
predicate n [] = Err (faults.EndOfFile n)
predicate n (x ∷ xs) = if is_symbol symbols.Semicolon x.kind then Ok (forms.Predicate, xs) else predicate n xs

unfoldable pub minimize : ℕ → Reader GoalForm
minimize n xs = do
  e ← expression n xs
  Ok (goals.Minimize e.0, e.1)

unfoldable pub maximize : ℕ → Reader GoalForm
maximize n xs = do
  e ← expression n xs
  Ok (goals.Maximize e.0, e.1)

abbrev pub goal_by : ℕ → TokenKind → ℕ → List Sign → Result (GoalForm × List Sign) SyntaxFault
goal_by n (kinds.Word words.Satisfy) at xs = Ok (goals.Satisfy, xs)
goal_by n (kinds.Word words.Minimize) at xs = minimize n xs
goal_by n (kinds.Word words.Maximize) at xs = maximize n xs
goal_by n _ at xs = refused at whats.Goal

unfoldable pub goal : ℕ → Reader GoalForm
goal n xs = do
  r ← first n xs
  goal_by n r.0.kind r.0.at r.1

-- the solve item, after its first word
unfoldable pub solve : ℕ → ℕ → Reader Form
solve n depth xs = do
  anns ← annotations n depth xs
  g ← goal n anns.1
  s ← after_symbol n symbols.Semicolon whats.Semicolon g.1
  Ok (forms.Solve anns.0 g.0, s.1)

-- an item, its first token being given
abbrev pub item_by : ℕ → ℕ → TokenKind → ℕ → List Sign → Result (Form × List Sign) SyntaxFault
item_by n depth (kinds.Word words.Predicate) at xs = predicate n xs
item_by n depth (kinds.Word words.Bool) at xs = param n depth (record { at = at; form = types.Bool }) xs
item_by n depth (kinds.Word words.Int) at xs = param n depth (record { at = at; form = types.Int }) xs
item_by n depth (kinds.Word words.Float) at xs = param n depth (record { at = at; form = types.Float }) xs
item_by n depth (kinds.Word words.Set) at xs = set_param n depth xs
item_by n depth (kinds.Word words.Var) at xs = variable n depth xs
item_by n depth (kinds.Word words.Array) at xs = array_item n depth xs
item_by n depth (kinds.Word words.Constraint) at xs = constraint n depth xs
item_by n depth (kinds.Word words.Solve) at xs = solve n depth xs
item_by n depth _ at xs = refused at whats.Item

unfoldable pub item : ℕ → ℕ → Reader Item
item n depth xs = do
  r ← first n xs
  form ← item_by n depth r.0.kind r.0.at r.1
  Ok (record { at = r.0.at; form = form.0 }, form.1)

-- ---- the model

-- an item is the solve item
abbrev pub is_solve : Form → Bool
is_solve (forms.Solve anns g) = true
is_solve _ = false

-- no token is left
abbrev pub at_end : List Sign → Result (List Item) SyntaxFault
at_end [] = Ok []
at_end (x ∷ xs) = refused x.at whats.End

abbrev pub one_item : (List Sign → Result (List Item) SyntaxFault) → Item × List Sign → Result (List Item) SyntaxFault
one_item rest r = do
  is ← if is_solve r.0.form then at_end r.1 else rest r.1
  Ok (r.0 ∷ is)

-- all items, in this many turns at most
unfoldable pub items_in : ℕ → ℕ → ℕ → List Sign → Result (List Item) SyntaxFault
items_in n depth zero xs = Err (faults.EndOfFile n)
items_in n depth (suc turns) xs = item n depth xs >>= one_item (items_in n depth turns)

unfoldable pub model : ℕ → ℕ → List Sign → Result (List Item) SyntaxFault
model n depth xs = items_in n depth (length xs) xs

-- the items that are read, with these before them
abbrev pub with_items : List Item → Result (List Item) SyntaxFault → Result (List Item) SyntaxFault
with_items front read = read >>= (λ is. Ok (front ++ is))
