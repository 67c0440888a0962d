-- No reader leaves more tokens than it is given, and each part takes a token at least.
use Rattle.std.proofs.Common.{◌≡◌, ℕ, zero, suc, ◌<◌, ◌≤◌, Bool, true, false, cond, List, [], ◌∷◌, length, Option, Some, None, Result, Ok, Err, refl, subst, arith, pos}
use Rattle.fzn_reader.specs.declared.tokens.TokenKind.{TokenKind}
use Rattle.fzn_reader.specs.declared.tokens.TokenKind.TheVariants as kinds
use Rattle.fzn_reader.specs.declared.tokens.Word.TheVariants as words
use Rattle.fzn_reader.specs.declared.tokens.Symbol.{Symbol}
use Rattle.fzn_reader.specs.declared.tokens.Symbol.TheVariants as symbols
use Rattle.fzn_parser.specs.declared.faults.What.{What}
use Rattle.fzn_parser.specs.declared.faults.What.TheVariants as whats
use Rattle.fzn_parser.specs.declared.faults.SyntaxFault.{SyntaxFault}
use Rattle.fzn_parser.specs.declared.faults.SyntaxFault.TheVariants as faults
use Rattle.fzn_parser.specs.declared.tree.Num.TheVariants as nums
use Rattle.fzn_parser.specs.declared.tree.Number.{Number}
use Rattle.fzn_parser.specs.declared.tree.SetForm.{SetForm}
use Rattle.fzn_parser.specs.declared.tree.TypeExpr.{TypeExpr}
use Rattle.fzn_parser.specs.declared.tree.TypeForm.{TypeForm}
use Rattle.fzn_parser.specs.declared.tree.TypeForm.TheVariants as types
use Rattle.fzn_parser.specs.declared.tree.Ann.{Ann}
use Rattle.fzn_parser.specs.declared.tree.Form.TheVariants as forms
use Rattle.fzn_parser.specs.Grammar.{Sign}
use Rattle.fzn_parser.specs.ToCome.{same_kind, is_symbol}
use Rattle.fzn_parser.specs.Reading.{◌>>=◌, Reader, first, after, goes_on, one_more, more_in, more, from_first, a_list, number_by, number, integer_by, integer, range_from, braced, after_if, behind, upper_end, ident_by, ident, number_or_range, braced_form, basic_by, basic, array, array_expression, basic_expression, expression, value, set_of_int, range_within, braces_within, set_type_by, set_type, var_type_by, var_type, element_type, var_element, set_element, element_by, Nest, number_argument_at, braced_argument, call, call_argument, list_argument, argument_by, argument, nested, annotation, one_annotation, annotations_in, annotations, after_symbol, param, set_param, variable, array_length, array_item, constraint, predicate, minimize, maximize, goal_by, goal, solve, item_by, item}
use Rattle.fzn_parser.proofs.Readers.{Shrinks}

-- what was read leaves at most k tokens
abbrev pub Leaves : {A : Type 0} → ℕ → Result (A × List Sign) SyntaxFault → Type 0
Leaves k (Ok q) = length q.1 ≤ k
Leaves k (Err e) = Unit {0}

abbrev pub Keeps : {A : Type 0} → Reader A → Type 0
Keeps part = (k : ℕ) (xs : List Sign) → length xs ≤ k → Leaves k (part xs)

-- nothing is read where no token is left, and a token is taken where there is one
pub record Takes {A : Type 0} (part : Reader A) : Type 0 where
  pub none : (q : A × List Sign) → part [] ≡ Ok q → ⊥
  pub one : (k : ℕ) (x : Sign) (xs : List Sign) → length xs ≤ k → Leaves k (part (x ∷ xs))

pub leaves_bind : {A B : Type 0} (k : ℕ) (r : Result (A × List Sign) SyntaxFault) (f : A × List Sign → Result (B × List Sign) SyntaxFault)
    → Leaves k r → ((q : A × List Sign) → length q.1 ≤ k → Leaves k (f q)) → Leaves k (r >>= f)
leaves_bind k (Ok q) f h g = g q h
leaves_bind k (Err e) f h g = tt

-- a value with tokens that were there before
leaves_with : {A B : Type 0} (k : ℕ) (r : Result A SyntaxFault) (f : A → B) (xs : List Sign) → length xs ≤ k → Leaves k (r >>= (λ v. Ok (f v, xs)))
leaves_with k (Ok v) f xs h = h
leaves_with k (Err e) f xs h = tt

leaves_cond : {A : Type 0} (k : ℕ) (b : Bool) (x y : Result (A × List Sign) SyntaxFault) → Leaves k x → Leaves k y → Leaves k (cond b x y)
leaves_cond k true x y a b = a
leaves_cond k false x y a b = b

pub leaves_at : {A : Type 0} (k : ℕ) (r : Result (A × List Sign) SyntaxFault) (q : A × List Sign) → r ≡ Ok q → Leaves k r → length q.1 ≤ k
leaves_at k r q e h = subst (Leaves k) e h

pub takes_shrinks : {A : Type 0} (part : Reader A) → Takes part → Shrinks part
takes_shrinks {A = A} part t = record { less = less }
  where
    less : (xs : List Sign) (x : A) (ys : List Sign) → part xs ≡ Ok (x, ys) → length ys < length xs
    less [] x ys h = absurd (t.none (x, ys) h)
    less (y ∷ zs) x ys h = let kept : length ys ≤ length zs = leaves_at (length zs) (part (y ∷ zs)) (x, ys) h (t.one (length zs) y zs (omega arith)) in omega arith

none_keeps : {A : Type 0} (k : ℕ) (r : Result (A × List Sign) SyntaxFault) → ((q : A × List Sign) → r ≡ Ok q → ⊥) → Leaves k r
none_keeps k (Ok q) never = absurd (never q refl)
none_keeps k (Err e) never = tt

pub takes_keeps : {A : Type 0} (part : Reader A) → Takes part → Keeps part
takes_keeps part t k [] h = none_keeps k (part []) t.none
takes_keeps part t k (x ∷ xs) h = t.one k x xs (omega arith)

pub first_keeps : (n : ℕ) → Keeps (first n)
unfolding first
first_keeps n k [] h = tt
first_keeps n k (x ∷ xs) h = omega arith

pub after_keeps : (n : ℕ) (kind : TokenKind) (what : What) → Keeps (after n kind what)
unfolding after
after_keeps n kind what k xs h =
    leaves_bind k (first n xs) _ (first_keeps n k xs h) (λ r l. leaves_cond k (same_kind kind r.0.kind) (Ok (r.0.at, r.1)) (Err (faults.Expected r.0.at what)) l tt)

goes_on_keeps : (n : ℕ) (close : Symbol) (what : What) → Keeps (goes_on n close what)
unfolding goes_on
goes_on_keeps n close what k xs h =
    leaves_bind k (first n xs) _ (first_keeps n k xs h) (λ r l. leaves_cond k (is_symbol close r.0.kind) (Ok (false, r.1)) (cond (is_symbol symbols.Comma r.0.kind) (Ok (true, r.1)) (Err (faults.Expected r.0.at what))) l (leaves_cond k (is_symbol symbols.Comma r.0.kind) (Ok (true, r.1)) (Err (faults.Expected r.0.at what)) l tt))

module _ {A : Type 0} (n : ℕ) (part : Reader A) (close : Symbol) (what : What) (keeps : Keeps part) where
  one_more_keeps : (rest : Reader (List A)) → Keeps rest → (k : ℕ) (q : Bool × List Sign) → length q.1 ≤ k → Leaves k (one_more part rest q)
  one_more_keeps rest rest_keeps k (true, xs) h =
      leaves_bind k (part xs) _ (keeps k xs h) (λ x l. leaves_bind k (rest x.1) _ (rest_keeps k x.1 l) (λ r m. m))
  one_more_keeps rest rest_keeps k (false, xs) h = h

  more_in_keeps : (turns : ℕ) → Keeps (more_in n part close what turns)
  unfolding more_in
  more_in_keeps zero k xs h = tt
  more_in_keeps (suc turns) k xs h =
      leaves_bind k (goes_on n close what xs) _ (goes_on_keeps n close what k xs h) (one_more_keeps (more_in n part close what turns) (more_in_keeps turns) k)

  from_first_keeps : Keeps (from_first n part close what)
  unfolding from_first more
  from_first_keeps k xs h =
      leaves_bind k (part xs) _ (keeps k xs h) (λ x l. leaves_bind k (more n part close what x.1) _ (more_in_keeps (length x.1) k x.1 l) (λ r m. m))

  pub a_list_keeps : Keeps (a_list n part close what)
  unfolding a_list
  a_list_keeps k xs h =
      leaves_bind k (first n xs) _ (first_keeps n k xs h) (λ r l. leaves_cond k (is_symbol close r.0.kind) (Ok ([], r.1)) (from_first n part close what xs) l (from_first_keeps k xs h))

-- ---- numbers and set literals

pub number_takes : (n : ℕ) → Takes (number n)
unfolding number first
number_takes n = record { none = λ q h. let e : ◌≡◌ {A = Result (Number × List Sign) SyntaxFault} (Err (faults.EndOfFile n)) (Ok q) = h in cc; one = λ k x xs h. leaves_with k (number_by x.kind x.at) (λ v. v) xs h }

pub number_keeps : (n : ℕ) → Keeps (number n)
number_keeps n = takes_keeps (number n) (number_takes n)

integer_keeps : (n : ℕ) → Keeps (integer n)
unfolding integer
integer_keeps n k xs h = leaves_bind k (first n xs) _ (first_keeps n k xs h) (λ r l. leaves_with k (integer_by r.0.kind r.0.at) (λ v. v) r.1 l)

range_from_keeps : (n : ℕ) (low : Number) → Keeps (range_from n low)
unfolding range_from
range_from_keeps n low k xs h =
    leaves_bind k (after n (kinds.Symbol symbols.DotDot) whats.Range xs) _ (after_keeps n (kinds.Symbol symbols.DotDot) whats.Range k xs h)
    (λ d l. leaves_bind k (number n d.1) _ (number_keeps n k d.1 l) (λ r m. m))

pub braced_keeps : (n : ℕ) → Keeps (braced n)
unfolding braced
braced_keeps n k xs h =
    leaves_bind k (a_list n (number n) symbols.CloseCurly whats.CommaOrCurly xs) _ (a_list_keeps n (number n) symbols.CloseCurly whats.CommaOrCurly (number_keeps n) k xs h) (λ r m. m)

-- ---- what may be missing

abbrev LeavesIf : ℕ → Option (ℕ × List Sign) → Type 0
LeavesIf k None = Unit {0}
LeavesIf k (Some q) = length q.1 ≤ k

after_if_cases : (k : ℕ) (b : Bool) (q : ℕ × List Sign) → length q.1 ≤ k → LeavesIf k (cond b (Some q) None)
after_if_cases k true q h = h
after_if_cases k false q h = tt

after_if_leaves : (s : Symbol) (k : ℕ) (xs : List Sign) → length xs ≤ k → LeavesIf k (after_if s xs)
unfolding after_if
after_if_leaves s k [] h = tt
after_if_leaves s k (x ∷ xs) h = after_if_cases k (is_symbol s x.kind) (x.at, xs) (omega arith)

pub after_if_less : (s : Symbol) (xs : List Sign) (q : ℕ × List Sign) → after_if s xs ≡ Some q → length q.1 < length xs
unfolding after_if
after_if_less s [] q h = let e : ◌≡◌ {A = Option (ℕ × List Sign)} None (Some q) = h in absurd (cc)
after_if_less s (x ∷ xs) q h = let kept : length q.1 ≤ length xs = subst (LeavesIf (length xs)) h (after_if_cases (length xs) (is_symbol s x.kind) (x.at, xs) (omega arith)) in omega arith

pub behind_leaves : {A : Type 0} (part : ℕ → Reader A) (k : ℕ) (xs : List Sign) (o : Option (ℕ × List Sign)) → ((at : ℕ) → Keeps (part at)) → length xs ≤ k → LeavesIf k o → Leaves k (behind part xs o)
behind_leaves part k xs None keeps h l = h
behind_leaves part k xs (Some q) keeps h l = leaves_bind k (part q.0 q.1) _ (keeps q.0 k q.1 l) (λ r m. m)

pub upper_end_keeps : (n : ℕ) → Keeps (upper_end n)
unfolding upper_end
upper_end_keeps n k xs h = behind_leaves (λ _. number n) k xs (after_if symbols.DotDot xs) (λ at. number_keeps n) h (after_if_leaves symbols.DotDot k xs h)

-- ---- expressions

pub ident_keeps : (n : ℕ) (what : What) → Keeps (ident n what)
unfolding ident
ident_keeps n what k xs h = leaves_bind k (first n xs) _ (first_keeps n k xs h) (λ r l. leaves_with k (ident_by what r.0.kind r.0.at r.0.bytes) (λ v. v) r.1 l)

number_or_range_keeps : (n : ℕ) (low : Number) → Keeps (number_or_range n low)
unfolding number_or_range
number_or_range_keeps n low k xs h = leaves_bind k (upper_end n xs) _ (upper_end_keeps n k xs h) (λ r m. m)

braced_form_keeps : (n : ℕ) → Keeps (braced_form n)
unfolding braced_form
braced_form_keeps n k xs h = leaves_bind k (braced n xs) _ (braced_keeps n k xs h) (λ r m. m)

pub basic_by_keeps : (n : ℕ) (kind : TokenKind) (at : ℕ) (bytes : List ℕ) → Keeps (basic_by n kind at bytes)
basic_by_keeps n (kinds.Word words.True) at bytes k xs h = h
basic_by_keeps n (kinds.Word words.False) at bytes k xs h = h
basic_by_keeps n (kinds.Int z) at bytes k xs h = number_or_range_keeps n (record { at = at; num = nums.Int z }) k xs h
basic_by_keeps n kinds.LargeInt at bytes k xs h = number_or_range_keeps n (record { at = at; num = nums.Large }) k xs h
basic_by_keeps n kinds.Float at bytes k xs h = number_or_range_keeps n (record { at = at; num = nums.Float }) k xs h
basic_by_keeps n (kinds.Symbol symbols.OpenCurly) at bytes k xs h = braced_form_keeps n k xs h
basic_by_keeps n kinds.Name at bytes k xs h = h
basic_by_keeps n _ at bytes k xs h = tt

pub basic_takes : (n : ℕ) → Takes (basic n)
unfolding basic first
basic_takes n = record {
  none = λ q h. let e : ◌≡◌ {A = Result _ SyntaxFault} (Err (faults.EndOfFile n)) (Ok q) = h in cc;
  one = λ k x xs h. leaves_bind k (basic_by n x.kind x.at x.bytes xs) _ (basic_by_keeps n x.kind x.at x.bytes k xs h) (λ r m. m);
}

pub array_keeps : (n : ℕ) → Keeps (array n)
array_keeps n = a_list_keeps n (basic n) symbols.CloseSquare whats.CommaOrSquare (takes_keeps (basic n) (basic_takes n))

pub expression_takes : (n : ℕ) → Takes (expression n)
unfolding expression first array_expression basic_expression
expression_takes n = record {
  none = λ q h. let e : ◌≡◌ {A = Result _ SyntaxFault} (Err (faults.EndOfFile n)) (Ok q) = h in cc;
  one = λ k x xs h. leaves_cond k (is_symbol symbols.OpenSquare x.kind) (array_expression n x.at xs) (basic_expression n (x ∷ xs))
      (leaves_bind k (array n xs) _ (array_keeps n k xs h) (λ r m. m)) (leaves_bind k (basic n (x ∷ xs)) _ ((basic_takes n).one k x xs h) (λ r m. m));
}

value_keeps : (n : ℕ) → Keeps (value n)
unfolding value
value_keeps n k xs h = behind_leaves (λ _. expression n) k xs (after_if symbols.Equals xs) (λ at. takes_keeps (expression n) (expression_takes n)) h (after_if_leaves symbols.Equals k xs h)

-- ---- annotations

abbrev pub NestKeeps : Nest → Type 0
NestKeeps nest = (close : Symbol) (what : What) (at : ℕ) → Keeps (nest close what at)

number_argument_keeps : (n : ℕ) (low : Number) → Keeps (number_argument_at n low)
unfolding number_argument_at
number_argument_keeps n low k xs h = leaves_bind k (upper_end n xs) _ (upper_end_keeps n k xs h) (λ r m. m)

braced_argument_keeps : (n : ℕ) → Keeps (braced_argument n)
unfolding braced_argument
braced_argument_keeps n k xs h = leaves_bind k (braced n xs) _ (braced_keeps n k xs h) (λ r m. m)

module _ (n : ℕ) (nest : Nest) (keeps : NestKeeps nest) where
  pub call_keeps : Keeps (call nest)
  unfolding call
  call_keeps k xs h =
      behind_leaves (nest symbols.CloseRound whats.CommaOrRound) k xs (after_if symbols.OpenRound xs) (λ at. keeps symbols.CloseRound whats.CommaOrRound at) h (after_if_leaves symbols.OpenRound k xs h)

  argument_by_keeps : (kind : TokenKind) (at : ℕ) (bytes : List ℕ) → Keeps (argument_by n nest kind at bytes)
  unfolding call_argument list_argument
  argument_by_keeps (kinds.Word words.True) at bytes k xs h = h
  argument_by_keeps (kinds.Word words.False) at bytes k xs h = h
  argument_by_keeps (kinds.Int z) at bytes k xs h = number_argument_keeps n (record { at = at; num = nums.Int z }) k xs h
  argument_by_keeps kinds.LargeInt at bytes k xs h = number_argument_keeps n (record { at = at; num = nums.Large }) k xs h
  argument_by_keeps kinds.Float at bytes k xs h = number_argument_keeps n (record { at = at; num = nums.Float }) k xs h
  argument_by_keeps (kinds.Symbol symbols.OpenCurly) at bytes k xs h = braced_argument_keeps n k xs h
  argument_by_keeps kinds.Text at bytes k xs h = h
  argument_by_keeps kinds.Name at bytes k xs h = leaves_bind k (call nest xs) _ (call_keeps k xs h) (λ r m. m)
  argument_by_keeps (kinds.Symbol symbols.OpenSquare) at bytes k xs h = leaves_bind k (nest symbols.CloseSquare whats.CommaOrSquare at xs) _ (keeps symbols.CloseSquare whats.CommaOrSquare at k xs h) (λ r m. m)
  argument_by_keeps _ at bytes k xs h = tt

  pub argument_takes : Takes (argument n nest)
  unfolding argument first
  argument_takes = record {
    none = λ q h. let e : ◌≡◌ {A = Result _ SyntaxFault} (Err (faults.EndOfFile n)) (Ok q) = h in cc;
    one = λ k x xs h. leaves_bind k (argument_by n nest x.kind x.at x.bytes xs) _ (argument_by_keeps x.kind x.at x.bytes k xs h) (λ r m. m);
  }

pub nested_keeps : (n depth : ℕ) → NestKeeps (nested n depth)
unfolding nested
nested_keeps n zero close what at k xs h = tt
nested_keeps n (suc depth) close what at k xs h =
    a_list_keeps n (argument n (nested n depth)) close what (takes_keeps (argument n (nested n depth)) (argument_takes n (nested n depth) (nested_keeps n depth))) k xs h

pub nested_takes : (n depth : ℕ) → Takes (argument n (nested n depth))
nested_takes n depth = argument_takes n (nested n depth) (nested_keeps n depth)

pub annotation_takes : (n depth : ℕ) → Takes (annotation n depth)
unfolding annotation ident first
annotation_takes n depth = record {
  none = λ q h. let e : ◌≡◌ {A = Result _ SyntaxFault} (Err (faults.EndOfFile n)) (Ok q) = h in cc;
  one = λ k x xs h. leaves_bind k (ident_by whats.Annotation x.kind x.at x.bytes >>= (λ i. Ok (i, xs))) _ (leaves_with k (ident_by whats.Annotation x.kind x.at x.bytes) (λ v. v) xs h)
      (λ i l. leaves_bind k (call (nested n depth) i.1) _ (call_keeps n (nested n depth) (nested_keeps n depth) k i.1 l) (λ r m. m));
}

-- ---- types

pub set_of_int_keeps : (n : ℕ) → Keeps (set_of_int n)
unfolding set_of_int
set_of_int_keeps n k xs h = leaves_bind k (after n (kinds.Word words.Of) whats.Of xs) _ (after_keeps n (kinds.Word words.Of) whats.Of k xs h) (λ o ho. leaves_bind k (after n (kinds.Word words.Int) whats.TypeWord o.1) _ (after_keeps n (kinds.Word words.Int) whats.TypeWord k o.1 ho) (λ i hi. hi))

range_within_keeps : (n : ℕ) (form : SetForm → TypeForm) (low : Number) → Keeps (range_within n form low)
unfolding range_within
range_within_keeps n form low k xs h = leaves_bind k (range_from n low xs) _ (range_from_keeps n low k xs h) (λ r m. m)

braces_within_keeps : (n : ℕ) (form : SetForm → TypeForm) (at : ℕ) → Keeps (braces_within n form at)
unfolding braces_within
braces_within_keeps n form at k xs h = leaves_bind k (braced n xs) _ (braced_keeps n k xs h) (λ r m. m)

set_type_by_keeps : (n : ℕ) (kind : TokenKind) (at : ℕ) → Keeps (set_type_by n kind at)
set_type_by_keeps n (kinds.Word words.Int) at k xs h = h
set_type_by_keeps n (kinds.Int z) at k xs h = range_within_keeps n types.SetWithin (record { at = at; num = nums.Int z }) k xs h
set_type_by_keeps n kinds.LargeInt at k xs h = range_within_keeps n types.SetWithin (record { at = at; num = nums.Large }) k xs h
set_type_by_keeps n kinds.Float at k xs h = range_within_keeps n types.SetWithin (record { at = at; num = nums.Float }) k xs h
set_type_by_keeps n (kinds.Symbol symbols.OpenCurly) at k xs h = braces_within_keeps n types.SetWithin at k xs h
set_type_by_keeps n _ at k xs h = tt

set_type_keeps : (n : ℕ) → Keeps (set_type n)
unfolding set_type
set_type_keeps n k xs h =
    leaves_bind k (after n (kinds.Word words.Of) whats.Of xs) _ (after_keeps n (kinds.Word words.Of) whats.Of k xs h)
    (λ o l. leaves_bind k (first n o.1) _ (first_keeps n k o.1 l) (λ r m. set_type_by_keeps n r.0.kind r.0.at k r.1 m))

var_type_by_keeps : (n : ℕ) (kind : TokenKind) (at : ℕ) → Keeps (var_type_by n kind at)
var_type_by_keeps n (kinds.Word words.Bool) at k xs h = h
var_type_by_keeps n (kinds.Word words.Int) at k xs h = h
var_type_by_keeps n (kinds.Word words.Float) at k xs h = h
var_type_by_keeps n (kinds.Word words.Set) at k xs h = set_type_keeps n k xs h
var_type_by_keeps n (kinds.Int z) at k xs h = range_within_keeps n types.Within (record { at = at; num = nums.Int z }) k xs h
var_type_by_keeps n kinds.LargeInt at k xs h = range_within_keeps n types.Within (record { at = at; num = nums.Large }) k xs h
var_type_by_keeps n kinds.Float at k xs h = range_within_keeps n types.Within (record { at = at; num = nums.Float }) k xs h
var_type_by_keeps n (kinds.Symbol symbols.OpenCurly) at k xs h = braces_within_keeps n types.Within at k xs h
var_type_by_keeps n _ at k xs h = tt

pub var_type_keeps : (n : ℕ) → Keeps (var_type n)
unfolding var_type
var_type_keeps n k xs h = leaves_bind k (first n xs) _ (first_keeps n k xs h) (λ r m. var_type_by_keeps n r.0.kind r.0.at k r.1 m)

element_by_keeps : (n : ℕ) (kind : TokenKind) (at : ℕ) → Keeps (element_by n kind at)
unfolding var_element set_element
element_by_keeps n (kinds.Word words.Var) at k xs h = leaves_bind k (var_type n xs) _ (var_type_keeps n k xs h) (λ r m. m)
element_by_keeps n (kinds.Word words.Bool) at k xs h = h
element_by_keeps n (kinds.Word words.Int) at k xs h = h
element_by_keeps n (kinds.Word words.Float) at k xs h = h
element_by_keeps n (kinds.Word words.Set) at k xs h = leaves_bind k (set_of_int n xs) _ (set_of_int_keeps n k xs h) (λ r m. m)
element_by_keeps n _ at k xs h = tt

pub element_type_keeps : (n : ℕ) → Keeps (element_type n)
unfolding element_type
element_type_keeps n k xs h = leaves_bind k (first n xs) _ (first_keeps n k xs h) (λ r m. element_by_keeps n r.0.kind r.0.at k r.1 m)

-- ---- items

pub expression_keeps : (n : ℕ) → Keeps (expression n)
expression_keeps n = takes_keeps (expression n) (expression_takes n)

one_annotation_keeps : (part : Reader Ann) (rest : Reader (List Ann)) (k : ℕ) (xs : List Sign) (o : Option (ℕ × List Sign)) → Keeps part → Keeps rest → length xs ≤ k → LeavesIf k o → Leaves k (one_annotation part rest xs o)
one_annotation_keeps part rest k xs None a b h l = h
one_annotation_keeps part rest k xs (Some r) a b h l = leaves_bind k (part r.1) _ (a k r.1 l) (λ x m. leaves_bind k (rest x.1) _ (b k x.1 m) (λ y p. p))

annotations_in_keeps : (n depth turns : ℕ) → Keeps (annotations_in n depth turns)
unfolding annotations_in
annotations_in_keeps n depth zero k xs h = h
annotations_in_keeps n depth (suc turns) k xs h =
    one_annotation_keeps (annotation n depth) (annotations_in n depth turns) k xs (after_if symbols.ColonColon xs) (takes_keeps (annotation n depth) (annotation_takes n depth)) (annotations_in_keeps n depth turns) h (after_if_leaves symbols.ColonColon k xs h)

pub annotations_keeps : (n depth : ℕ) → Keeps (annotations n depth)
unfolding annotations
annotations_keeps n depth k xs h = annotations_in_keeps n depth (length xs) k xs h

param_keeps : (n depth : ℕ) (sort : TypeExpr) → Keeps (param n depth sort)
unfolding param
param_keeps n depth sort k xs h =
    leaves_bind k (after_symbol n symbols.Colon whats.Colon xs) _ (after_keeps n (kinds.Symbol symbols.Colon) whats.Colon k xs h) (λ c hc. leaves_bind k (ident n whats.Name c.1) _ (ident_keeps n whats.Name k c.1 hc) (λ i hi. leaves_bind k (annotations n depth i.1) _ (annotations_keeps n depth k i.1 hi) (λ as_ has_. leaves_bind k (after_symbol n symbols.Equals whats.Equals as_.1) _ (after_keeps n (kinds.Symbol symbols.Equals) whats.Equals k as_.1 has_) (λ is his. leaves_bind k (expression n is.1) _ (expression_keeps n k is.1 his) (λ e he. leaves_bind k (after_symbol n symbols.Semicolon whats.Semicolon e.1) _ (after_keeps n (kinds.Symbol symbols.Semicolon) whats.Semicolon k e.1 he) (λ s hs. hs))))))

set_param_keeps : (n depth : ℕ) → Keeps (set_param n depth)
unfolding set_param
set_param_keeps n depth k xs h = leaves_bind k (set_of_int n xs) _ (set_of_int_keeps n k xs h) (λ t m. param_keeps n depth t.0 k t.1 m)

variable_keeps : (n depth : ℕ) → Keeps (variable n depth)
unfolding variable
variable_keeps n depth k xs h =
    leaves_bind k (var_type n xs) _ (var_type_keeps n k xs h) (λ t ht. leaves_bind k (after_symbol n symbols.Colon whats.Colon t.1) _ (after_keeps n (kinds.Symbol symbols.Colon) whats.Colon k t.1 ht) (λ c hc. leaves_bind k (ident n whats.Name c.1) _ (ident_keeps n whats.Name k c.1 hc) (λ i hi. leaves_bind k (annotations n depth i.1) _ (annotations_keeps n depth k i.1 hi) (λ as_ has_. leaves_bind k (value n as_.1) _ (value_keeps n k as_.1 has_) (λ e he. leaves_bind k (after_symbol n symbols.Semicolon whats.Semicolon e.1) _ (after_keeps n (kinds.Symbol symbols.Semicolon) whats.Semicolon k e.1 he) (λ s hs. hs))))))

pub array_length_keeps : (n : ℕ) → Keeps (array_length n)
unfolding array_length
array_length_keeps n k xs h =
    leaves_bind k (after_symbol n symbols.OpenSquare whats.OpenSquare xs) _ (after_keeps n (kinds.Symbol symbols.OpenSquare) whats.OpenSquare k xs h) (λ o ho. leaves_bind k (after n (kinds.Int (pos 1)) whats.One o.1) _ (after_keeps n (kinds.Int (pos 1)) whats.One k o.1 ho) (λ one hone. leaves_bind k (after_symbol n symbols.DotDot whats.Range one.1) _ (after_keeps n (kinds.Symbol symbols.DotDot) whats.Range k one.1 hone) (λ to hto. leaves_bind k (integer n to.1) _ (integer_keeps n k to.1 hto) (λ len hlen. leaves_bind k (after_symbol n symbols.CloseSquare whats.CloseSquare len.1) _ (after_keeps n (kinds.Symbol symbols.CloseSquare) whats.CloseSquare k len.1 hlen) (λ close hclose. leaves_bind k (after n (kinds.Word words.Of) whats.Of close.1) _ (after_keeps n (kinds.Word words.Of) whats.Of k close.1 hclose) (λ of_ hof_. hof_))))))

array_item_keeps : (n depth : ℕ) → Keeps (array_item n depth)
unfolding array_item
array_item_keeps n depth k xs h =
    leaves_bind k (array_length n xs) _ (array_length_keeps n k xs h) (λ len hlen. leaves_bind k (element_type n len.1) _ (element_type_keeps n k len.1 hlen) (λ t ht. leaves_bind k (after_symbol n symbols.Colon whats.Colon t.1) _ (after_keeps n (kinds.Symbol symbols.Colon) whats.Colon k t.1 ht) (λ c hc. leaves_bind k (ident n whats.Name c.1) _ (ident_keeps n whats.Name k c.1 hc) (λ i hi. leaves_bind k (annotations n depth i.1) _ (annotations_keeps n depth k i.1 hi) (λ as_ has_. leaves_bind k (after_symbol n symbols.Equals whats.Equals as_.1) _ (after_keeps n (kinds.Symbol symbols.Equals) whats.Equals k as_.1 has_) (λ is his. leaves_bind k (after_symbol n symbols.OpenSquare whats.OpenSquare is.1) _ (after_keeps n (kinds.Symbol symbols.OpenSquare) whats.OpenSquare k is.1 his) (λ o ho. leaves_bind k (array n o.1) _ (array_keeps n k o.1 ho) (λ items hitems. leaves_bind k (after_symbol n symbols.Semicolon whats.Semicolon items.1) _ (after_keeps n (kinds.Symbol symbols.Semicolon) whats.Semicolon k items.1 hitems) (λ s hs. hs)))))))))

constraint_keeps : (n depth : ℕ) → Keeps (constraint n depth)
unfolding constraint
constraint_keeps n depth k xs h =
    leaves_bind k (ident n whats.Name xs) _ (ident_keeps n whats.Name k xs h) (λ i hi. leaves_bind k (after_symbol n symbols.OpenRound whats.OpenRound i.1) _ (after_keeps n (kinds.Symbol symbols.OpenRound) whats.OpenRound k i.1 hi) (λ o ho. leaves_bind k (a_list n (expression n) symbols.CloseRound whats.CommaOrRound o.1) _ (a_list_keeps n (expression n) symbols.CloseRound whats.CommaOrRound (expression_keeps n) k o.1 ho) (λ list hlist. leaves_bind k (annotations n depth list.1) _ (annotations_keeps n depth k list.1 hlist) (λ as_ has_. leaves_bind k (after_symbol n symbols.Semicolon whats.Semicolon as_.1) _ (after_keeps n (kinds.Symbol symbols.Semicolon) whats.Semicolon k as_.1 has_) (λ s hs. hs)))))

predicate_keeps : (n : ℕ) → Keeps (predicate n)
unfolding predicate
predicate_keeps n k [] h = tt
predicate_keeps n k (x ∷ xs) h = leaves_cond k (is_symbol symbols.Semicolon x.kind) (Ok (forms.Predicate, xs)) (predicate n xs) (omega arith) (predicate_keeps n k xs (omega arith))

goal_by_keeps : (n : ℕ) (kind : TokenKind) (at : ℕ) → Keeps (goal_by n kind at)
unfolding minimize maximize
goal_by_keeps n (kinds.Word words.Satisfy) at k xs h = h
goal_by_keeps n (kinds.Word words.Minimize) at k xs h = leaves_bind k (expression n xs) _ (expression_keeps n k xs h) (λ r m. m)
goal_by_keeps n (kinds.Word words.Maximize) at k xs h = leaves_bind k (expression n xs) _ (expression_keeps n k xs h) (λ r m. m)
goal_by_keeps n _ at k xs h = tt

goal_keeps : (n : ℕ) → Keeps (goal n)
unfolding goal
goal_keeps n k xs h = leaves_bind k (first n xs) _ (first_keeps n k xs h) (λ r m. goal_by_keeps n r.0.kind r.0.at k r.1 m)

solve_keeps : (n depth : ℕ) → Keeps (solve n depth)
unfolding solve
solve_keeps n depth k xs h =
    leaves_bind k (annotations n depth xs) _ (annotations_keeps n depth k xs h) (λ as_ has_. leaves_bind k (goal n as_.1) _ (goal_keeps n k as_.1 has_) (λ g hg. leaves_bind k (after_symbol n symbols.Semicolon whats.Semicolon g.1) _ (after_keeps n (kinds.Symbol symbols.Semicolon) whats.Semicolon k g.1 hg) (λ s hs. hs)))

item_by_keeps : (n depth : ℕ) (kind : TokenKind) (at : ℕ) → Keeps (item_by n depth kind at)
item_by_keeps n depth (kinds.Word words.Predicate) at k xs h = predicate_keeps n k xs h
item_by_keeps n depth (kinds.Word words.Bool) at k xs h = param_keeps n depth (record { at = at; form = types.Bool }) k xs h
item_by_keeps n depth (kinds.Word words.Int) at k xs h = param_keeps n depth (record { at = at; form = types.Int }) k xs h
item_by_keeps n depth (kinds.Word words.Float) at k xs h = param_keeps n depth (record { at = at; form = types.Float }) k xs h
item_by_keeps n depth (kinds.Word words.Set) at k xs h = set_param_keeps n depth k xs h
item_by_keeps n depth (kinds.Word words.Var) at k xs h = variable_keeps n depth k xs h
item_by_keeps n depth (kinds.Word words.Array) at k xs h = array_item_keeps n depth k xs h
item_by_keeps n depth (kinds.Word words.Constraint) at k xs h = constraint_keeps n depth k xs h
item_by_keeps n depth (kinds.Word words.Solve) at k xs h = solve_keeps n depth k xs h
item_by_keeps n depth _ at k xs h = tt

pub item_takes : (n depth : ℕ) → Takes (item n depth)
unfolding item first
item_takes n depth = record {
  none = λ q h. let e : ◌≡◌ {A = Result _ SyntaxFault} (Err (faults.EndOfFile n)) (Ok q) = h in cc;
  one = λ k x xs h. leaves_bind k (item_by n depth x.kind x.at xs) _ (item_by_keeps n depth x.kind x.at k xs h) (λ r m. m);
}
