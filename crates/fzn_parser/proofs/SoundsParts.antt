-- Expressions and types are spelled as read.
use Rattle.std.proofs.Common.{◌≡◌, ℕ, Bool, true, false, cond, List, [], ◌∷◌, ◌++◌, Option, Some, None, Result, Ok, Err, refl, subst}
use Rattle.fzn_reader.specs.declared.tokens.TokenKind.{TokenKind}
use Rattle.fzn_reader.specs.declared.tokens.TokenKind.TheVariants as kinds
use Rattle.fzn_reader.specs.declared.tokens.Word.TheVariants as words
use Rattle.fzn_reader.specs.declared.tokens.Symbol.{Symbol}
use Rattle.fzn_reader.specs.declared.tokens.Symbol.TheVariants as symbols
use Rattle.fzn_parser.specs.declared.faults.What.TheVariants as whats
use Rattle.fzn_parser.specs.declared.faults.SyntaxFault.{SyntaxFault}
use Rattle.fzn_parser.specs.declared.tree.Num.TheVariants as nums
use Rattle.fzn_parser.specs.declared.tree.Number.{Number}
use Rattle.fzn_parser.specs.declared.tree.SetForm.{SetForm}
use Rattle.fzn_parser.specs.declared.tree.BasicForm.TheVariants as basics
use Rattle.fzn_parser.specs.declared.tree.Expr.TheVariants as exprs
use Rattle.fzn_parser.specs.declared.tree.TypeExpr.{TypeExpr}
use Rattle.fzn_parser.specs.declared.tree.TypeForm.{TypeForm}
use Rattle.fzn_parser.specs.declared.tree.TypeForm.TheVariants as types
use Rattle.fzn_parser.specs.Grammar as spell
use Rattle.fzn_parser.specs.Grammar.{Sign, Pattern, token, named, placed, Match, Fits, begun_at, closed}
use Rattle.fzn_parser.specs.ToCome.{is_symbol}
use Rattle.fzn_parser.specs.Reading.{◌>>=◌, Reader, first, after, a_list, number, range_from, braced, after_if, behind, upper_end, number_form, number_or_range, braced_form, basic_by, basic, array, array_expression, basic_expression, expression, value, set_of_int, range_within, braces_within, set_type_by, set_type, var_type_by, var_type, var_element, set_element, element_by, element_type}
use Rattle.fzn_parser.proofs.SameKinds.{symbol_is}
use Rattle.fzn_parser.proofs.Sounds.{Says, says_bind, sign, symbol_says, word_says, unplaced, number_says, list_says}

-- ---- what may be missing

abbrev pub optional : {A : Type 0} → Symbol → (A → List Pattern) → Option A → List Pattern
optional s spelled None = []
optional s spelled (Some v) = spell.symbol s ∷ spelled v

behind_step : {A : Type 0} (s : Symbol) (part : ℕ → Reader A) (spelled : A → List Pattern) (x : Sign) (xs : List Sign) (b : Bool) → is_symbol s x.kind ≡ b → Says xs spelled (part x.at xs)
    → Says (x ∷ xs) (optional s spelled) (behind part (x ∷ xs) (cond b (Some (x.at, xs)) None))
behind_step s part spelled x xs true is says = says_bind (x ∷ xs) xs spelled (optional s spelled) (part x.at xs) (λ r. Ok (Some r.0, r.1)) says (λ r back qs m. (symbol_is s x.kind is, back qs m))
behind_step s part spelled x xs false is says = λ qs m. m

pub behind_says : {A : Type 0} (s : Symbol) (part : ℕ → Reader A) (spelled : A → List Pattern) (xs : List Sign) → ((at : ℕ) (ys : List Sign) → Says ys spelled (part at ys)) → Says xs (optional s spelled) (behind part xs (after_if s xs))
unfolding after_if
behind_says s part spelled [] says = λ qs m. m
behind_says s part spelled (x ∷ xs) says = behind_step s part spelled x xs (is_symbol s x.kind) refl (says x.at xs)

pub upper_says : (n : ℕ) (xs : List Sign) → Says xs (optional symbols.DotDot spell.number) (upper_end n xs)
unfolding upper_end
upper_says n xs = behind_says symbols.DotDot (λ _. number n) spell.number xs (λ at ys. number_says n ys)

-- ---- set literals with their place

pub range_begun : (n at : ℕ) (kind : TokenKind) (bytes : List ℕ) (num : nums.the_data) (xs : List Sign) → Fits (spell.num num) (sign at kind bytes)
    → Says (sign at kind bytes ∷ xs) (λ s. begun_at at (spell.set_literal s)) (range_from n (record { at = at; num = num }) xs)
unfolding range_from
range_begun n at kind bytes num xs e =
    let zs = sign at kind bytes ∷ xs in
    says_bind zs xs (λ (at : ℕ). placed at (spell.symbol symbols.DotDot) ∷ []) (λ s. begun_at at (spell.set_literal s)) (after n (kinds.Symbol symbols.DotDot) whats.Range xs) _ (symbol_says n symbols.DotDot whats.Range xs)
    (λ d dots. says_bind zs d.1 spell.number (λ s. begun_at at (spell.set_literal s)) (number n d.1) _ (number_says n d.1)
    (λ h high qs m. ((refl, (refl, e)), unplaced (kinds.Symbol symbols.DotDot) d.0 (spell.number h.0 ++ qs) xs (dots (spell.number h.0 ++ qs) (high qs m)))))

pub braced_begun : (n : ℕ) (x : Sign) (xs : List Sign) → x.kind ≡ kinds.Symbol symbols.OpenCurly → Says (x ∷ xs) (λ s. begun_at x.at (spell.set_literal s)) (braced n xs)
unfolding braced
braced_begun n x xs is =
    says_bind (x ∷ xs) xs (λ ns. closed spell.number ns symbols.CloseCurly) (λ s. begun_at x.at (spell.set_literal s)) (a_list n (number n) symbols.CloseCurly whats.CommaOrCurly xs) _
    (list_says n (number n) symbols.CloseCurly whats.CommaOrCurly spell.number (number_says n) xs)
    (λ r back qs m. ((refl, is), back qs m))

-- ---- expressions

abbrev form_at : ℕ → basics.the_data → List Pattern
form_at at form = begun_at at (spell.basic_form form)

number_end : (at : ℕ) (kind : TokenKind) (bytes : List ℕ) (num : nums.the_data) (xs ys : List Sign) (o : Option Number) → Fits (spell.num num) (sign at kind bytes)
    → ((qs : List Pattern) → Match qs ys → Match (optional symbols.DotDot spell.number o ++ qs) xs) → (qs : List Pattern) → Match qs ys → Match (form_at at (number_form (record { at = at; num = num }) o) ++ qs) (sign at kind bytes ∷ xs)
number_end at kind bytes num xs ys None e back qs m = ((refl, e), back qs m)
number_end at kind bytes num xs ys (Some h) e back qs m = ((refl, (refl, e)), back qs m)

number_or_range_says : (n at : ℕ) (kind : TokenKind) (bytes : List ℕ) (num : nums.the_data) (xs : List Sign) → Fits (spell.num num) (sign at kind bytes)
    → Says (sign at kind bytes ∷ xs) (form_at at) (number_or_range n (record { at = at; num = num }) xs)
unfolding number_or_range
number_or_range_says n at kind bytes num xs e =
    says_bind (sign at kind bytes ∷ xs) xs (optional symbols.DotDot spell.number) (form_at at) (upper_end n xs) _ (upper_says n xs) (λ h back. number_end at kind bytes num xs h.1 h.0 e back)

basic_form_says : (n at : ℕ) (kind : TokenKind) (bytes : List ℕ) (xs : List Sign) → Says (sign at kind bytes ∷ xs) (form_at at) (basic_by n kind at bytes xs)
unfolding braced_form
basic_form_says n at (kinds.Word words.True) bytes xs = λ qs m. ((refl, refl), m)
basic_form_says n at (kinds.Word words.False) bytes xs = λ qs m. ((refl, refl), m)
basic_form_says n at (kinds.Int z) bytes xs = number_or_range_says n at (kinds.Int z) bytes (nums.Int z) xs refl
basic_form_says n at kinds.LargeInt bytes xs = number_or_range_says n at kinds.LargeInt bytes nums.Large xs refl
basic_form_says n at kinds.Float bytes xs = number_or_range_says n at kinds.Float bytes nums.Float xs refl
basic_form_says n at (kinds.Symbol symbols.OpenCurly) bytes xs =
    says_bind (sign at (kinds.Symbol symbols.OpenCurly) bytes ∷ xs) (sign at (kinds.Symbol symbols.OpenCurly) bytes ∷ xs) (λ s. begun_at at (spell.set_literal s)) (form_at at) (braced n xs) _
    (braced_begun n (sign at (kinds.Symbol symbols.OpenCurly) bytes) xs refl) (λ r back. back)
basic_form_says n at kinds.Name bytes xs = λ qs m. ((refl, (refl, refl)), m)
basic_form_says n at _ bytes xs = tt

pub basic_says : (n : ℕ) (xs : List Sign) → Says xs spell.basic (basic n xs)
unfolding basic first
basic_says n [] = tt
basic_says n (x ∷ xs) = says_bind (x ∷ xs) (x ∷ xs) (form_at x.at) spell.basic (basic_by n x.kind x.at x.bytes xs) _ (basic_form_says n x.at x.kind x.bytes xs) (λ r back. back)

pub array_says : (n : ℕ) (xs : List Sign) → Says xs (λ is. closed spell.basic is symbols.CloseSquare) (array n xs)
array_says n xs = list_says n (basic n) symbols.CloseSquare whats.CommaOrSquare spell.basic (basic_says n) xs

expression_step : (n : ℕ) (x : Sign) (xs : List Sign) (b : Bool) → is_symbol symbols.OpenSquare x.kind ≡ b → Says (x ∷ xs) spell.expression (cond b (array_expression n x.at xs) (basic_expression n (x ∷ xs)))
unfolding array_expression basic_expression
expression_step n x xs true is =
    says_bind (x ∷ xs) xs (λ is. closed spell.basic is symbols.CloseSquare) spell.expression (array n xs) _ (array_says n xs) (λ r back qs m. ((refl, symbol_is symbols.OpenSquare x.kind is), back qs m))
expression_step n x xs false is = says_bind (x ∷ xs) (x ∷ xs) spell.basic spell.expression (basic n (x ∷ xs)) _ (basic_says n (x ∷ xs)) (λ r back. back)

pub expression_says : (n : ℕ) (xs : List Sign) → Says xs spell.expression (expression n xs)
unfolding expression first
expression_says n [] = tt
expression_says n (x ∷ xs) = expression_step n x xs (is_symbol symbols.OpenSquare x.kind) refl

pub value_says : (n : ℕ) (xs : List Sign) → Says xs (optional symbols.Equals spell.expression) (value n xs)
unfolding value
value_says n xs = behind_says symbols.Equals (λ _. expression n) spell.expression xs (λ at ys. expression_says n ys)

pub arguments_says : (n : ℕ) (xs : List Sign) → Says xs (λ es. closed spell.expression es symbols.CloseRound) (a_list n (expression n) symbols.CloseRound whats.CommaOrRound xs)
arguments_says n xs = list_says n (expression n) symbols.CloseRound whats.CommaOrRound spell.expression (expression_says n) xs

-- ---- types

-- "of" "int" behind a `set`, by what stands before it
pub set_of_int_says : (n : ℕ) (zs xs : List Sign) (spelled : TypeExpr → List Pattern)
    → ((at : ℕ) (qs : List Pattern) → Match (spell.word words.Of ∷ placed at (spell.word words.Int) ∷ qs) xs → Match (spelled (record { at = at; form = types.SetOfInt }) ++ qs) zs) → Says zs spelled (set_of_int n xs)
unfolding set_of_int
set_of_int_says n zs xs spelled pre =
    says_bind zs xs (λ (at : ℕ). placed at (spell.word words.Of) ∷ []) spelled (after n (kinds.Word words.Of) whats.Of xs) _ (word_says n words.Of whats.Of xs)
    (λ o back_o. says_bind zs o.1 (λ (at : ℕ). placed at (spell.word words.Int) ∷ []) spelled (after n (kinds.Word words.Int) whats.TypeWord o.1) _ (word_says n words.Int whats.TypeWord o.1)
    (λ i back_i qs m. pre i.0 qs (unplaced (kinds.Word words.Of) o.0 (placed i.0 (spell.word words.Int) ∷ qs) xs (back_o (placed i.0 (spell.word words.Int) ∷ qs) (back_i qs m)))))

-- a set literal as a type, by what stands before it
range_within_says : (n at : ℕ) (kind : TokenKind) (bytes : List ℕ) (num : nums.the_data) (xs zs : List Sign) (form : SetForm → TypeForm) (spelled : TypeExpr → List Pattern) → Fits (spell.num num) (sign at kind bytes)
    → ((s : SetForm) (qs : List Pattern) → Match (begun_at at (spell.set_literal s) ++ qs) (sign at kind bytes ∷ xs) → Match (spelled (record { at = at; form = form s }) ++ qs) zs)
    → Says zs spelled (range_within n form (record { at = at; num = num }) xs)
unfolding range_within
range_within_says n at kind bytes num xs zs form spelled e pre =
    says_bind zs (sign at kind bytes ∷ xs) (λ s. begun_at at (spell.set_literal s)) spelled (range_from n (record { at = at; num = num }) xs) _ (range_begun n at kind bytes num xs e) (λ s back qs m. pre s.0 qs (back qs m))

braces_within_says : (n : ℕ) (x : Sign) (xs zs : List Sign) (form : SetForm → TypeForm) (spelled : TypeExpr → List Pattern) → x.kind ≡ kinds.Symbol symbols.OpenCurly
    → ((s : SetForm) (qs : List Pattern) → Match (begun_at x.at (spell.set_literal s) ++ qs) (x ∷ xs) → Match (spelled (record { at = x.at; form = form s }) ++ qs) zs)
    → Says zs spelled (braces_within n form x.at xs)
unfolding braces_within
braces_within_says n x xs zs form spelled e pre =
    says_bind zs (x ∷ xs) (λ s. begun_at x.at (spell.set_literal s)) spelled (braced n xs) _ (braced_begun n x xs e) (λ s back qs m. pre s.0 qs (back qs m))

abbrev pub var_rest : TypeExpr → List Pattern
var_rest t = spell.var_type_form t.at t.form

set_type_step : (n at : ℕ) (kind : TokenKind) (bytes : List ℕ) (xs zs : List Sign) → ((qs : List Pattern) → Match qs (sign at kind bytes ∷ xs) → Match (spell.word words.Set ∷ spell.word words.Of ∷ qs) zs) → Says zs var_rest (set_type_by n kind at xs)
set_type_step n at (kinds.Word words.Int) bytes xs zs pre = λ qs m. pre (placed at (spell.word words.Int) ∷ qs) ((refl, refl), m)
set_type_step n at (kinds.Int z) bytes xs zs pre = range_within_says n at (kinds.Int z) bytes (nums.Int z) xs zs types.SetWithin var_rest refl (λ s qs m. pre (begun_at at (spell.set_literal s) ++ qs) m)
set_type_step n at kinds.LargeInt bytes xs zs pre = range_within_says n at kinds.LargeInt bytes nums.Large xs zs types.SetWithin var_rest refl (λ s qs m. pre (begun_at at (spell.set_literal s) ++ qs) m)
set_type_step n at kinds.Float bytes xs zs pre = range_within_says n at kinds.Float bytes nums.Float xs zs types.SetWithin var_rest refl (λ s qs m. pre (begun_at at (spell.set_literal s) ++ qs) m)
set_type_step n at (kinds.Symbol symbols.OpenCurly) bytes xs zs pre = braces_within_says n (sign at (kinds.Symbol symbols.OpenCurly) bytes) xs zs types.SetWithin var_rest refl (λ s qs m. pre (begun_at at (spell.set_literal s) ++ qs) m)
set_type_step n at _ bytes xs zs pre = tt

set_type_first : (n : ℕ) (ys zs : List Sign) → ((qs : List Pattern) → Match qs ys → Match (spell.word words.Set ∷ spell.word words.Of ∷ qs) zs) → Says zs var_rest (first n ys >>= (λ r. set_type_by n r.0.kind r.0.at r.1))
unfolding first
set_type_first n [] zs pre = tt
set_type_first n (x ∷ xs) zs pre = set_type_step n x.at x.kind x.bytes xs zs pre

set_type_says : (n : ℕ) (x : Sign) (xs : List Sign) → x.kind ≡ kinds.Word words.Set → Says (x ∷ xs) var_rest (set_type n xs)
unfolding set_type
set_type_says n x xs is =
    says_bind (x ∷ xs) xs (λ (at : ℕ). placed at (spell.word words.Of) ∷ []) var_rest (after n (kinds.Word words.Of) whats.Of xs) _ (word_says n words.Of whats.Of xs)
    (λ o back. set_type_first n o.1 (x ∷ xs) (λ qs m. (is, unplaced (kinds.Word words.Of) o.0 qs xs (back qs m))))

var_type_step : (n at : ℕ) (kind : TokenKind) (bytes : List ℕ) (xs : List Sign) → Says (sign at kind bytes ∷ xs) var_rest (var_type_by n kind at xs)
var_type_step n at (kinds.Word words.Bool) bytes xs = λ qs m. ((refl, refl), m)
var_type_step n at (kinds.Word words.Int) bytes xs = λ qs m. ((refl, refl), m)
var_type_step n at (kinds.Word words.Float) bytes xs = λ qs m. ((refl, refl), m)
var_type_step n at (kinds.Word words.Set) bytes xs = set_type_says n (sign at (kinds.Word words.Set) bytes) xs refl
var_type_step n at (kinds.Int z) bytes xs = range_within_says n at (kinds.Int z) bytes (nums.Int z) xs (sign at (kinds.Int z) bytes ∷ xs) types.Within var_rest refl (λ s qs m. m)
var_type_step n at kinds.LargeInt bytes xs = range_within_says n at kinds.LargeInt bytes nums.Large xs (sign at kinds.LargeInt bytes ∷ xs) types.Within var_rest refl (λ s qs m. m)
var_type_step n at kinds.Float bytes xs = range_within_says n at kinds.Float bytes nums.Float xs (sign at kinds.Float bytes ∷ xs) types.Within var_rest refl (λ s qs m. m)
var_type_step n at (kinds.Symbol symbols.OpenCurly) bytes xs = braces_within_says n (sign at (kinds.Symbol symbols.OpenCurly) bytes) xs (sign at (kinds.Symbol symbols.OpenCurly) bytes ∷ xs) types.Within var_rest refl (λ s qs m. m)
var_type_step n at _ bytes xs = tt

pub var_type_says : (n : ℕ) (xs : List Sign) → Says xs var_rest (var_type n xs)
unfolding var_type first
var_type_says n [] = tt
var_type_says n (x ∷ xs) = var_type_step n x.at x.kind x.bytes xs

abbrev pub element : Bool × TypeExpr → List Pattern
element p = spell.element_type p.0 p.1

element_step : (n at : ℕ) (kind : TokenKind) (bytes : List ℕ) (xs : List Sign) → Says (sign at kind bytes ∷ xs) element (element_by n kind at xs)
unfolding var_element set_element
element_step n at (kinds.Word words.Var) bytes xs = says_bind (sign at (kinds.Word words.Var) bytes ∷ xs) xs var_rest element (var_type n xs) _ (var_type_says n xs) (λ t back qs m. (refl, back qs m))
element_step n at (kinds.Word words.Bool) bytes xs = λ qs m. ((refl, refl), m)
element_step n at (kinds.Word words.Int) bytes xs = λ qs m. ((refl, refl), m)
element_step n at (kinds.Word words.Float) bytes xs = λ qs m. ((refl, refl), m)
element_step n at (kinds.Word words.Set) bytes xs =
    with_false (set_of_int n xs) (set_of_int_says n (sign at (kinds.Word words.Set) bytes ∷ xs) xs spell.param_type (λ i qs m. (refl, m)))
  where
    with_false : (r : Result (TypeExpr × List Sign) SyntaxFault) → Says (sign at (kinds.Word words.Set) bytes ∷ xs) spell.param_type r → Says (sign at (kinds.Word words.Set) bytes ∷ xs) element (r >>= (λ t. Ok ((false, t.0), t.1)))
    with_false (Ok t) says = says
    with_false (Err e) says = tt
element_step n at _ bytes xs = tt

pub element_type_says : (n : ℕ) (xs : List Sign) → Says xs element (element_type n xs)
unfolding element_type first
element_type_says n [] = tt
element_type_says n (x ∷ xs) = element_step n x.at x.kind x.bytes xs

-- what is spelled in another way as well
pub says_as : {A : Type 0} (zs : List Sign) (a b : A → List Pattern) (r : Result (A × List Sign) SyntaxFault) → ((x : A) → a x ≡ b x) → Says zs a r → Says zs b r
says_as zs a b (Ok q) same h = λ qs m. subst (λ ps. Match (ps ++ qs) zs) (same q.0) (h qs m)
says_as zs a b (Err e) same h = tt

value_is : (o : Option exprs.the_data) → optional symbols.Equals spell.expression o ≡ spell.value o
value_is None = refl
value_is (Some e) = refl

pub value_spelled : (n : ℕ) (xs : List Sign) → Says xs spell.value (value n xs)
value_spelled n xs = says_as xs (optional symbols.Equals spell.expression) spell.value (value n xs) value_is (value_says n xs)
