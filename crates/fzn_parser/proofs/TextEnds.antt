-- The fault of a text that ends too early has the place where the text ends, and reading never lacks memory.
use Rattle.std.proofs.Common.{◌≡◌, ℕ, zero, suc, Bool, true, false, cond, List, [], ◌∷◌, length, Option, Some, None, Result, Ok, Err, refl, pos}
use Rattle.fzn_reader.specs.declared.tokens.TokenKind.{TokenKind}
use Rattle.fzn_reader.specs.declared.tokens.TokenKind.TheVariants as kinds
use Rattle.fzn_reader.specs.declared.tokens.Word.TheVariants as words
use Rattle.fzn_reader.specs.declared.tokens.Symbol.{Symbol}
use Rattle.fzn_reader.specs.declared.tokens.Symbol.TheVariants as symbols
use Rattle.fzn_parser.specs.declared.faults.What.{What}
use Rattle.fzn_parser.specs.declared.faults.What.TheVariants as whats
use Rattle.fzn_parser.specs.declared.faults.SyntaxFault.{SyntaxFault}
use Rattle.fzn_parser.specs.declared.faults.SyntaxFault.TheVariants as faults
use Rattle.fzn_parser.specs.declared.tree.Num.TheVariants as nums
use Rattle.fzn_parser.specs.declared.tree.Number.{Number}
use Rattle.fzn_parser.specs.declared.tree.SetForm.{SetForm}
use Rattle.fzn_parser.specs.declared.tree.TypeExpr.{TypeExpr}
use Rattle.fzn_parser.specs.declared.tree.TypeForm.{TypeForm}
use Rattle.fzn_parser.specs.declared.tree.TypeForm.TheVariants as types
use Rattle.fzn_parser.specs.declared.tree.Form.TheVariants as forms
use Rattle.fzn_parser.specs.declared.tree.Item.{Item}
use Rattle.fzn_parser.specs.Grammar.{Sign}
use Rattle.fzn_parser.specs.ToCome.{same_kind, is_symbol}
use Rattle.fzn_parser.specs.Reading.{◌>>=◌, Reader, first, after, goes_on, one_more, more_in, more, from_first, a_list, number_by, number, integer_by, integer, range_from, braced, after_if, behind, upper_end, ident_by, ident, number_or_range, braced_form, basic_by, basic, array, array_expression, basic_expression, expression, value, set_of_int, range_within, braces_within, set_type_by, set_type, var_type_by, var_type, element_type, var_element, set_element, element_by, Nest, number_argument_at, braced_argument, call, call_argument, list_argument, argument_by, argument, nested, annotation, one_annotation, annotations_in, annotations, after_symbol, param, set_param, variable, array_length, array_item, constraint, predicate, minimize, maximize, goal_by, goal, solve, item_by, item, is_solve, at_end, one_item, items_in, model}

abbrev pub FaultEnds : ℕ → SyntaxFault → Type 0
FaultEnds n (faults.Expected at what) = Unit {0}
FaultEnds n (faults.EndOfFile at) = at ≡ n
FaultEnds n (faults.TooDeep at) = Unit {0}
FaultEnds n faults.Memory = ⊥

abbrev pub Ends : {A : Type 0} → ℕ → Result A SyntaxFault → Type 0
Ends n (Ok q) = Unit {0}
Ends n (Err e) = FaultEnds n e

ends_bind : {A B : Type 0} (n : ℕ) (r : Result A SyntaxFault) (f : A → Result B SyntaxFault) → Ends n r → ((q : A) → Ends n (f q)) → Ends n (r >>= f)
ends_bind n (Ok q) f h g = g q
ends_bind n (Err e) f h g = h

ends_cond : {A : Type 0} (n : ℕ) (b : Bool) (x y : Result A SyntaxFault) → Ends n x → Ends n y → Ends n (cond b x y)
ends_cond n true x y a b = a
ends_cond n false x y a b = b

first_ends : (n : ℕ) (xs : List Sign) → Ends n (first n xs)
unfolding first
first_ends n [] = refl
first_ends n (x ∷ xs) = tt

after_ends : (n : ℕ) (kind : TokenKind) (what : What) (xs : List Sign) → Ends n (after n kind what xs)
unfolding after
after_ends n kind what xs = ends_bind n (first n xs) _ (first_ends n xs) (λ r. ends_cond n (same_kind kind r.0.kind) (Ok (r.0.at, r.1)) (Err (faults.Expected r.0.at what)) tt tt)

-- ---- lists

goes_on_ends : (n : ℕ) (close : Symbol) (what : What) (xs : List Sign) → Ends n (goes_on n close what xs)
unfolding goes_on
goes_on_ends n close what xs =
    ends_bind n (first n xs) _ (first_ends n xs)
    (λ r. ends_cond n (is_symbol close r.0.kind) (Ok (false, r.1)) (cond (is_symbol symbols.Comma r.0.kind) (Ok (true, r.1)) (Err (faults.Expected r.0.at what))) tt
    (ends_cond n (is_symbol symbols.Comma r.0.kind) (Ok (true, r.1)) (Err (faults.Expected r.0.at what)) tt tt))

module _ {A : Type 0} (n : ℕ) (part : Reader A) (close : Symbol) (what : What) (ends : (xs : List Sign) → Ends n (part xs)) where
  one_more_ends : (rest : Reader (List A)) → ((xs : List Sign) → Ends n (rest xs)) → (q : Bool × List Sign) → Ends n (one_more part rest q)
  one_more_ends rest h (true, xs) = ends_bind n (part xs) _ (ends xs) (λ x. ends_bind n (rest x.1) _ (h x.1) (λ r. tt))
  one_more_ends rest h (false, xs) = tt

  more_in_ends : (turns : ℕ) (xs : List Sign) → Ends n (more_in n part close what turns xs)
  unfolding more_in
  more_in_ends zero xs = refl
  more_in_ends (suc turns) xs = ends_bind n (goes_on n close what xs) _ (goes_on_ends n close what xs) (one_more_ends (more_in n part close what turns) (more_in_ends turns))

  from_first_ends : (xs : List Sign) → Ends n (from_first n part close what xs)
  unfolding from_first more
  from_first_ends xs = ends_bind n (part xs) _ (ends xs) (λ x. ends_bind n (more n part close what x.1) _ (more_in_ends (length x.1) x.1) (λ r. tt))

  a_list_ends : (xs : List Sign) → Ends n (a_list n part close what xs)
  unfolding a_list
  a_list_ends xs = ends_bind n (first n xs) _ (first_ends n xs) (λ r. ends_cond n (is_symbol close r.0.kind) (Ok ([], r.1)) (from_first n part close what xs) tt (from_first_ends xs))

-- ---- numbers and set literals

number_by_ends : (n : ℕ) (kind : TokenKind) (at : ℕ) → Ends n (number_by kind at)
number_by_ends n (kinds.Int z) at = tt
number_by_ends n kinds.LargeInt at = tt
number_by_ends n kinds.Float at = tt
number_by_ends n _ at = tt

integer_by_ends : (n : ℕ) (kind : TokenKind) (at : ℕ) → Ends n (integer_by kind at)
integer_by_ends n (kinds.Int z) at = tt
integer_by_ends n kinds.LargeInt at = tt
integer_by_ends n _ at = tt

ident_by_ends : (n : ℕ) (what : What) (kind : TokenKind) (at : ℕ) (bytes : List ℕ) → Ends n (ident_by what kind at bytes)
ident_by_ends n what kinds.Name at bytes = tt
ident_by_ends n what _ at bytes = tt

number_ends : (n : ℕ) (xs : List Sign) → Ends n (number n xs)
unfolding number
number_ends n xs = ends_bind n (first n xs) _ (first_ends n xs) (λ r. ends_bind n (number_by r.0.kind r.0.at) _ (number_by_ends n r.0.kind r.0.at) (λ v. tt))

integer_ends : (n : ℕ) (xs : List Sign) → Ends n (integer n xs)
unfolding integer
integer_ends n xs = ends_bind n (first n xs) _ (first_ends n xs) (λ r. ends_bind n (integer_by r.0.kind r.0.at) _ (integer_by_ends n r.0.kind r.0.at) (λ v. tt))

ident_ends : (n : ℕ) (what : What) (xs : List Sign) → Ends n (ident n what xs)
unfolding ident
ident_ends n what xs = ends_bind n (first n xs) _ (first_ends n xs) (λ r. ends_bind n (ident_by what r.0.kind r.0.at r.0.bytes) _ (ident_by_ends n what r.0.kind r.0.at r.0.bytes) (λ v. tt))

range_from_ends : (n : ℕ) (low : Number) (xs : List Sign) → Ends n (range_from n low xs)
unfolding range_from
range_from_ends n low xs =
    ends_bind n (after n (kinds.Symbol symbols.DotDot) whats.Range xs) _ (after_ends n (kinds.Symbol symbols.DotDot) whats.Range xs) (λ d. ends_bind n (number n d.1) _ (number_ends n d.1) (λ r. tt))

braced_ends : (n : ℕ) (xs : List Sign) → Ends n (braced n xs)
unfolding braced
braced_ends n xs = ends_bind n (a_list n (number n) symbols.CloseCurly whats.CommaOrCurly xs) _ (a_list_ends n (number n) symbols.CloseCurly whats.CommaOrCurly (number_ends n) xs) (λ r. tt)

behind_ends : {A : Type 0} (n : ℕ) (part : ℕ → Reader A) (xs : List Sign) (o : Option (ℕ × List Sign)) → ((at : ℕ) (ys : List Sign) → Ends n (part at ys)) → Ends n (behind part xs o)
behind_ends n part xs None h = tt
behind_ends n part xs (Some q) h = ends_bind n (part q.0 q.1) _ (h q.0 q.1) (λ r. tt)

upper_end_ends : (n : ℕ) (xs : List Sign) → Ends n (upper_end n xs)
unfolding upper_end
upper_end_ends n xs = behind_ends n (λ _. number n) xs (after_if symbols.DotDot xs) (λ at ys. number_ends n ys)

-- ---- expressions

number_or_range_ends : (n : ℕ) (low : Number) (xs : List Sign) → Ends n (number_or_range n low xs)
unfolding number_or_range
number_or_range_ends n low xs = ends_bind n (upper_end n xs) _ (upper_end_ends n xs) (λ r. tt)

braced_form_ends : (n : ℕ) (xs : List Sign) → Ends n (braced_form n xs)
unfolding braced_form
braced_form_ends n xs = ends_bind n (braced n xs) _ (braced_ends n xs) (λ r. tt)

basic_by_ends : (n : ℕ) (kind : TokenKind) (at : ℕ) (bytes : List ℕ) (xs : List Sign) → Ends n (basic_by n kind at bytes xs)
basic_by_ends n (kinds.Word words.True) at bytes xs = tt
basic_by_ends n (kinds.Word words.False) at bytes xs = tt
basic_by_ends n (kinds.Int z) at bytes xs = number_or_range_ends n (record { at = at; num = nums.Int z }) xs
basic_by_ends n kinds.LargeInt at bytes xs = number_or_range_ends n (record { at = at; num = nums.Large }) xs
basic_by_ends n kinds.Float at bytes xs = number_or_range_ends n (record { at = at; num = nums.Float }) xs
basic_by_ends n (kinds.Symbol symbols.OpenCurly) at bytes xs = braced_form_ends n xs
basic_by_ends n kinds.Name at bytes xs = tt
basic_by_ends n _ at bytes xs = tt

basic_ends : (n : ℕ) (xs : List Sign) → Ends n (basic n xs)
unfolding basic
basic_ends n xs = ends_bind n (first n xs) _ (first_ends n xs) (λ r. ends_bind n (basic_by n r.0.kind r.0.at r.0.bytes r.1) _ (basic_by_ends n r.0.kind r.0.at r.0.bytes r.1) (λ f. tt))

array_ends : (n : ℕ) (xs : List Sign) → Ends n (array n xs)
array_ends n xs = a_list_ends n (basic n) symbols.CloseSquare whats.CommaOrSquare (basic_ends n) xs

expression_ends : (n : ℕ) (xs : List Sign) → Ends n (expression n xs)
unfolding expression array_expression basic_expression
expression_ends n xs =
    ends_bind n (first n xs) _ (first_ends n xs)
    (λ r. ends_cond n (is_symbol symbols.OpenSquare r.0.kind) (array_expression n r.0.at r.1) (basic_expression n xs)
    (ends_bind n (array n r.1) _ (array_ends n r.1) (λ q. tt)) (ends_bind n (basic n xs) _ (basic_ends n xs) (λ q. tt)))

value_ends : (n : ℕ) (xs : List Sign) → Ends n (value n xs)
unfolding value
value_ends n xs = behind_ends n (λ _. expression n) xs (after_if symbols.Equals xs) (λ at ys. expression_ends n ys)

-- ---- annotations

number_argument_ends : (n : ℕ) (low : Number) (xs : List Sign) → Ends n (number_argument_at n low xs)
unfolding number_argument_at
number_argument_ends n low xs = ends_bind n (upper_end n xs) _ (upper_end_ends n xs) (λ r. tt)

braced_argument_ends : (n : ℕ) (xs : List Sign) → Ends n (braced_argument n xs)
unfolding braced_argument
braced_argument_ends n xs = ends_bind n (braced n xs) _ (braced_ends n xs) (λ r. tt)

abbrev NestEnds : ℕ → Nest → Type 0
NestEnds n nest = (close : Symbol) (what : What) (at : ℕ) (xs : List Sign) → Ends n (nest close what at xs)

module _ (n : ℕ) (nest : Nest) (ends : NestEnds n nest) where
  call_ends : (xs : List Sign) → Ends n (call nest xs)
  unfolding call
  call_ends xs = behind_ends n (nest symbols.CloseRound whats.CommaOrRound) xs (after_if symbols.OpenRound xs) (λ at ys. ends symbols.CloseRound whats.CommaOrRound at ys)

  argument_by_ends : (kind : TokenKind) (at : ℕ) (bytes : List ℕ) (xs : List Sign) → Ends n (argument_by n nest kind at bytes xs)
  unfolding call_argument list_argument
  argument_by_ends (kinds.Word words.True) at bytes xs = tt
  argument_by_ends (kinds.Word words.False) at bytes xs = tt
  argument_by_ends (kinds.Int z) at bytes xs = number_argument_ends n (record { at = at; num = nums.Int z }) xs
  argument_by_ends kinds.LargeInt at bytes xs = number_argument_ends n (record { at = at; num = nums.Large }) xs
  argument_by_ends kinds.Float at bytes xs = number_argument_ends n (record { at = at; num = nums.Float }) xs
  argument_by_ends (kinds.Symbol symbols.OpenCurly) at bytes xs = braced_argument_ends n xs
  argument_by_ends kinds.Text at bytes xs = tt
  argument_by_ends kinds.Name at bytes xs = ends_bind n (call nest xs) _ (call_ends xs) (λ r. tt)
  argument_by_ends (kinds.Symbol symbols.OpenSquare) at bytes xs = ends_bind n (nest symbols.CloseSquare whats.CommaOrSquare at xs) _ (ends symbols.CloseSquare whats.CommaOrSquare at xs) (λ r. tt)
  argument_by_ends _ at bytes xs = tt

  argument_ends : (xs : List Sign) → Ends n (argument n nest xs)
  unfolding argument
  argument_ends xs = ends_bind n (first n xs) _ (first_ends n xs) (λ r. ends_bind n (argument_by n nest r.0.kind r.0.at r.0.bytes r.1) _ (argument_by_ends r.0.kind r.0.at r.0.bytes r.1) (λ f. tt))

nested_ends : (n depth : ℕ) → NestEnds n (nested n depth)
unfolding nested
nested_ends n zero close what at xs = tt
nested_ends n (suc depth) close what at xs = a_list_ends n (argument n (nested n depth)) close what (argument_ends n (nested n depth) (nested_ends n depth)) xs

annotation_ends : (n depth : ℕ) (xs : List Sign) → Ends n (annotation n depth xs)
unfolding annotation
annotation_ends n depth xs =
    ends_bind n (ident n whats.Annotation xs) _ (ident_ends n whats.Annotation xs) (λ i. ends_bind n (call (nested n depth) i.1) _ (call_ends n (nested n depth) (nested_ends n depth) i.1) (λ r. tt))

one_annotation_ends : (n depth turns : ℕ) (xs : List Sign) (o : Option (ℕ × List Sign)) → ((ys : List Sign) → Ends n (annotations_in n depth turns ys)) → Ends n (one_annotation (annotation n depth) (annotations_in n depth turns) xs o)
one_annotation_ends n depth turns xs None h = tt
one_annotation_ends n depth turns xs (Some r) h = ends_bind n (annotation n depth r.1) _ (annotation_ends n depth r.1) (λ a. ends_bind n (annotations_in n depth turns a.1) _ (h a.1) (λ q. tt))

annotations_in_ends : (n depth turns : ℕ) (xs : List Sign) → Ends n (annotations_in n depth turns xs)
unfolding annotations_in
annotations_in_ends n depth zero xs = tt
annotations_in_ends n depth (suc turns) xs = one_annotation_ends n depth turns xs (after_if symbols.ColonColon xs) (annotations_in_ends n depth turns)

annotations_ends : (n depth : ℕ) (xs : List Sign) → Ends n (annotations n depth xs)
unfolding annotations
annotations_ends n depth xs = annotations_in_ends n depth (length xs) xs

-- ---- types

set_of_int_ends : (n : ℕ) (xs : List Sign) → Ends n (set_of_int n xs)
unfolding set_of_int
set_of_int_ends n xs =
    ends_bind n (after n (kinds.Word words.Of) whats.Of xs) _ (after_ends n (kinds.Word words.Of) whats.Of xs) (λ o. ends_bind n (after n (kinds.Word words.Int) whats.TypeWord o.1) _ (after_ends n (kinds.Word words.Int) whats.TypeWord o.1) (λ i. tt))

range_within_ends : (n : ℕ) (form : SetForm → TypeForm) (low : Number) (xs : List Sign) → Ends n (range_within n form low xs)
unfolding range_within
range_within_ends n form low xs = ends_bind n (range_from n low xs) _ (range_from_ends n low xs) (λ r. tt)

braces_within_ends : (n : ℕ) (form : SetForm → TypeForm) (at : ℕ) (xs : List Sign) → Ends n (braces_within n form at xs)
unfolding braces_within
braces_within_ends n form at xs = ends_bind n (braced n xs) _ (braced_ends n xs) (λ r. tt)

set_type_by_ends : (n : ℕ) (kind : TokenKind) (at : ℕ) (xs : List Sign) → Ends n (set_type_by n kind at xs)
set_type_by_ends n (kinds.Word words.Int) at xs = tt
set_type_by_ends n (kinds.Int z) at xs = range_within_ends n types.SetWithin (record { at = at; num = nums.Int z }) xs
set_type_by_ends n kinds.LargeInt at xs = range_within_ends n types.SetWithin (record { at = at; num = nums.Large }) xs
set_type_by_ends n kinds.Float at xs = range_within_ends n types.SetWithin (record { at = at; num = nums.Float }) xs
set_type_by_ends n (kinds.Symbol symbols.OpenCurly) at xs = braces_within_ends n types.SetWithin at xs
set_type_by_ends n _ at xs = tt

set_type_ends : (n : ℕ) (xs : List Sign) → Ends n (set_type n xs)
unfolding set_type
set_type_ends n xs =
    ends_bind n (after n (kinds.Word words.Of) whats.Of xs) _ (after_ends n (kinds.Word words.Of) whats.Of xs) (λ o. ends_bind n (first n o.1) _ (first_ends n o.1) (λ r. set_type_by_ends n r.0.kind r.0.at r.1))

var_type_by_ends : (n : ℕ) (kind : TokenKind) (at : ℕ) (xs : List Sign) → Ends n (var_type_by n kind at xs)
var_type_by_ends n (kinds.Word words.Bool) at xs = tt
var_type_by_ends n (kinds.Word words.Int) at xs = tt
var_type_by_ends n (kinds.Word words.Float) at xs = tt
var_type_by_ends n (kinds.Word words.Set) at xs = set_type_ends n xs
var_type_by_ends n (kinds.Int z) at xs = range_within_ends n types.Within (record { at = at; num = nums.Int z }) xs
var_type_by_ends n kinds.LargeInt at xs = range_within_ends n types.Within (record { at = at; num = nums.Large }) xs
var_type_by_ends n kinds.Float at xs = range_within_ends n types.Within (record { at = at; num = nums.Float }) xs
var_type_by_ends n (kinds.Symbol symbols.OpenCurly) at xs = braces_within_ends n types.Within at xs
var_type_by_ends n _ at xs = tt

var_type_ends : (n : ℕ) (xs : List Sign) → Ends n (var_type n xs)
unfolding var_type
var_type_ends n xs = ends_bind n (first n xs) _ (first_ends n xs) (λ r. var_type_by_ends n r.0.kind r.0.at r.1)

element_by_ends : (n : ℕ) (kind : TokenKind) (at : ℕ) (xs : List Sign) → Ends n (element_by n kind at xs)
unfolding var_element set_element
element_by_ends n (kinds.Word words.Var) at xs = ends_bind n (var_type n xs) _ (var_type_ends n xs) (λ r. tt)
element_by_ends n (kinds.Word words.Bool) at xs = tt
element_by_ends n (kinds.Word words.Int) at xs = tt
element_by_ends n (kinds.Word words.Float) at xs = tt
element_by_ends n (kinds.Word words.Set) at xs = ends_bind n (set_of_int n xs) _ (set_of_int_ends n xs) (λ r. tt)
element_by_ends n _ at xs = tt

element_type_ends : (n : ℕ) (xs : List Sign) → Ends n (element_type n xs)
unfolding element_type
element_type_ends n xs = ends_bind n (first n xs) _ (first_ends n xs) (λ r. element_by_ends n r.0.kind r.0.at r.1)

-- ---- items

sym_ends : (n : ℕ) (s : Symbol) (what : What) (xs : List Sign) → Ends n (after_symbol n s what xs)
sym_ends n s what xs = after_ends n (kinds.Symbol s) what xs

param_ends : (n depth : ℕ) (sort : TypeExpr) (xs : List Sign) → Ends n (param n depth sort xs)
unfolding param
param_ends n depth sort xs =
    ends_bind n (after_symbol n symbols.Colon whats.Colon xs) _ (sym_ends n symbols.Colon whats.Colon xs)
    (λ c. ends_bind n (ident n whats.Name c.1) _ (ident_ends n whats.Name c.1)
    (λ i. ends_bind n (annotations n depth i.1) _ (annotations_ends n depth i.1)
    (λ a. ends_bind n (after_symbol n symbols.Equals whats.Equals a.1) _ (sym_ends n symbols.Equals whats.Equals a.1)
    (λ q. ends_bind n (expression n q.1) _ (expression_ends n q.1)
    (λ e. ends_bind n (after_symbol n symbols.Semicolon whats.Semicolon e.1) _ (sym_ends n symbols.Semicolon whats.Semicolon e.1) (λ s. tt))))))

set_param_ends : (n depth : ℕ) (xs : List Sign) → Ends n (set_param n depth xs)
unfolding set_param
set_param_ends n depth xs = ends_bind n (set_of_int n xs) _ (set_of_int_ends n xs) (λ t. param_ends n depth t.0 t.1)

variable_ends : (n depth : ℕ) (xs : List Sign) → Ends n (variable n depth xs)
unfolding variable
variable_ends n depth xs =
    ends_bind n (var_type n xs) _ (var_type_ends n xs)
    (λ t. ends_bind n (after_symbol n symbols.Colon whats.Colon t.1) _ (sym_ends n symbols.Colon whats.Colon t.1)
    (λ c. ends_bind n (ident n whats.Name c.1) _ (ident_ends n whats.Name c.1)
    (λ i. ends_bind n (annotations n depth i.1) _ (annotations_ends n depth i.1)
    (λ a. ends_bind n (value n a.1) _ (value_ends n a.1)
    (λ e. ends_bind n (after_symbol n symbols.Semicolon whats.Semicolon e.1) _ (sym_ends n symbols.Semicolon whats.Semicolon e.1) (λ s. tt))))))

array_length_ends : (n : ℕ) (xs : List Sign) → Ends n (array_length n xs)
unfolding array_length
array_length_ends n xs =
    ends_bind n (after_symbol n symbols.OpenSquare whats.OpenSquare xs) _ (sym_ends n symbols.OpenSquare whats.OpenSquare xs)
    (λ o. ends_bind n (after n (kinds.Int (pos 1)) whats.One o.1) _ (after_ends n (kinds.Int (pos 1)) whats.One o.1)
    (λ a. ends_bind n (after_symbol n symbols.DotDot whats.Range a.1) _ (sym_ends n symbols.DotDot whats.Range a.1)
    (λ b. ends_bind n (integer n b.1) _ (integer_ends n b.1)
    (λ c. ends_bind n (after_symbol n symbols.CloseSquare whats.CloseSquare c.1) _ (sym_ends n symbols.CloseSquare whats.CloseSquare c.1)
    (λ d. ends_bind n (after n (kinds.Word words.Of) whats.Of d.1) _ (after_ends n (kinds.Word words.Of) whats.Of d.1) (λ s. tt))))))

array_item_ends : (n depth : ℕ) (xs : List Sign) → Ends n (array_item n depth xs)
unfolding array_item
array_item_ends n depth xs =
    ends_bind n (array_length n xs) _ (array_length_ends n xs)
    (λ l. ends_bind n (element_type n l.1) _ (element_type_ends n l.1)
    (λ t. ends_bind n (after_symbol n symbols.Colon whats.Colon t.1) _ (sym_ends n symbols.Colon whats.Colon t.1)
    (λ c. ends_bind n (ident n whats.Name c.1) _ (ident_ends n whats.Name c.1)
    (λ i. ends_bind n (annotations n depth i.1) _ (annotations_ends n depth i.1)
    (λ a. ends_bind n (after_symbol n symbols.Equals whats.Equals a.1) _ (sym_ends n symbols.Equals whats.Equals a.1)
    (λ q. ends_bind n (after_symbol n symbols.OpenSquare whats.OpenSquare q.1) _ (sym_ends n symbols.OpenSquare whats.OpenSquare q.1)
    (λ o. ends_bind n (array n o.1) _ (array_ends n o.1)
    (λ e. ends_bind n (after_symbol n symbols.Semicolon whats.Semicolon e.1) _ (sym_ends n symbols.Semicolon whats.Semicolon e.1) (λ s. tt)))))))))

constraint_ends : (n depth : ℕ) (xs : List Sign) → Ends n (constraint n depth xs)
unfolding constraint
constraint_ends n depth xs =
    ends_bind n (ident n whats.Name xs) _ (ident_ends n whats.Name xs)
    (λ i. ends_bind n (after_symbol n symbols.OpenRound whats.OpenRound i.1) _ (sym_ends n symbols.OpenRound whats.OpenRound i.1)
    (λ o. ends_bind n (a_list n (expression n) symbols.CloseRound whats.CommaOrRound o.1) _ (a_list_ends n (expression n) symbols.CloseRound whats.CommaOrRound (expression_ends n) o.1)
    (λ l. ends_bind n (annotations n depth l.1) _ (annotations_ends n depth l.1)
    (λ e. ends_bind n (after_symbol n symbols.Semicolon whats.Semicolon e.1) _ (sym_ends n symbols.Semicolon whats.Semicolon e.1) (λ s. tt)))))

predicate_ends : (n : ℕ) (xs : List Sign) → Ends n (predicate n xs)
unfolding predicate
predicate_ends n [] = refl
predicate_ends n (x ∷ xs) = ends_cond n (is_symbol symbols.Semicolon x.kind) (Ok (forms.Predicate, xs)) (predicate n xs) tt (predicate_ends n xs)

goal_by_ends : (n : ℕ) (kind : TokenKind) (at : ℕ) (xs : List Sign) → Ends n (goal_by n kind at xs)
unfolding minimize maximize
goal_by_ends n (kinds.Word words.Satisfy) at xs = tt
goal_by_ends n (kinds.Word words.Minimize) at xs = ends_bind n (expression n xs) _ (expression_ends n xs) (λ r. tt)
goal_by_ends n (kinds.Word words.Maximize) at xs = ends_bind n (expression n xs) _ (expression_ends n xs) (λ r. tt)
goal_by_ends n _ at xs = tt

goal_ends : (n : ℕ) (xs : List Sign) → Ends n (goal n xs)
unfolding goal
goal_ends n xs = ends_bind n (first n xs) _ (first_ends n xs) (λ r. goal_by_ends n r.0.kind r.0.at r.1)

solve_ends : (n depth : ℕ) (xs : List Sign) → Ends n (solve n depth xs)
unfolding solve
solve_ends n depth xs =
    ends_bind n (annotations n depth xs) _ (annotations_ends n depth xs)
    (λ a. ends_bind n (goal n a.1) _ (goal_ends n a.1)
    (λ e. ends_bind n (after_symbol n symbols.Semicolon whats.Semicolon e.1) _ (sym_ends n symbols.Semicolon whats.Semicolon e.1) (λ s. tt)))

item_by_ends : (n depth : ℕ) (kind : TokenKind) (at : ℕ) (xs : List Sign) → Ends n (item_by n depth kind at xs)
item_by_ends n depth (kinds.Word words.Predicate) at xs = predicate_ends n xs
item_by_ends n depth (kinds.Word words.Bool) at xs = param_ends n depth (record { at = at; form = types.Bool }) xs
item_by_ends n depth (kinds.Word words.Int) at xs = param_ends n depth (record { at = at; form = types.Int }) xs
item_by_ends n depth (kinds.Word words.Float) at xs = param_ends n depth (record { at = at; form = types.Float }) xs
item_by_ends n depth (kinds.Word words.Set) at xs = set_param_ends n depth xs
item_by_ends n depth (kinds.Word words.Var) at xs = variable_ends n depth xs
item_by_ends n depth (kinds.Word words.Array) at xs = array_item_ends n depth xs
item_by_ends n depth (kinds.Word words.Constraint) at xs = constraint_ends n depth xs
item_by_ends n depth (kinds.Word words.Solve) at xs = solve_ends n depth xs
item_by_ends n depth _ at xs = tt

item_ends : (n depth : ℕ) (xs : List Sign) → Ends n (item n depth xs)
unfolding item
item_ends n depth xs = ends_bind n (first n xs) _ (first_ends n xs) (λ r. ends_bind n (item_by n depth r.0.kind r.0.at r.1) _ (item_by_ends n depth r.0.kind r.0.at r.1) (λ f. tt))

at_end_ends : (n : ℕ) (xs : List Sign) → Ends n (at_end xs)
at_end_ends n [] = tt
at_end_ends n (x ∷ xs) = tt

one_item_ends : (n : ℕ) (rest : List Sign → Result (List Item) SyntaxFault) → ((xs : List Sign) → Ends n (rest xs)) → (r : Item × List Sign) → Ends n (one_item rest r)
one_item_ends n rest h r = ends_bind n (cond (is_solve r.0.form) (at_end r.1) (rest r.1)) _ (ends_cond n (is_solve r.0.form) (at_end r.1) (rest r.1) (at_end_ends n r.1) (h r.1)) (λ is. tt)

items_in_ends : (n depth turns : ℕ) (xs : List Sign) → Ends n (items_in n depth turns xs)
unfolding items_in
items_in_ends n depth zero xs = refl
items_in_ends n depth (suc turns) xs = ends_bind n (item n depth xs) _ (item_ends n depth xs) (one_item_ends n (items_in n depth turns) (items_in_ends n depth turns))

pub model_ends : (n depth : ℕ) (xs : List Sign) → Ends n (model n depth xs)
unfolding model
model_ends n depth xs = items_in_ends n depth (length xs) xs
