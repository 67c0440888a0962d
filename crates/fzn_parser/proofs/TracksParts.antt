-- Expressions, types and annotations follow what is to come.
use Rattle.std.proofs.Common.{◌≡◌, ℕ, zero, suc, ◌+◌, ◌<◌, ◌≤◌, true, false, cond, List, [], ◌∷◌, length, Option, Some, None, Ok, refl, ap, ◌∙◌, subst, arith, ltb}
use Rattle.std.proofs.lemmas.Bool.{cond-true, lt-ltb}
use Rattle.fzn_reader.specs.declared.tokens.TokenKind.{TokenKind}
use Rattle.fzn_reader.specs.declared.tokens.TokenKind.TheVariants as kinds
use Rattle.fzn_reader.specs.declared.tokens.Word.TheVariants as words
use Rattle.fzn_reader.specs.declared.tokens.Symbol.{Symbol}
use Rattle.fzn_reader.specs.declared.tokens.Symbol.TheVariants as symbols
use Rattle.fzn_parser.specs.declared.faults.What.{What}
use Rattle.fzn_parser.specs.declared.faults.What.TheVariants as whats
use Rattle.fzn_parser.specs.declared.tree.Num.TheVariants as nums
use Rattle.fzn_parser.specs.declared.tree.Number.{Number}
use Rattle.fzn_parser.specs.declared.tree.Basic.{Basic}
use Rattle.fzn_parser.specs.declared.tree.BasicForm.TheVariants as basics
use Rattle.fzn_parser.specs.declared.tree.SetForm.{SetForm}
use Rattle.fzn_parser.specs.declared.tree.Expr.TheVariants as exprs
use Rattle.fzn_parser.specs.declared.tree.TypeForm.{TypeForm}
use Rattle.fzn_parser.specs.declared.tree.TypeForm.TheVariants as types
use Rattle.fzn_parser.specs.declared.tree.Ann.{Ann}
use Rattle.fzn_parser.specs.declared.tree.AnnForm.TheVariants as args
use Rattle.fzn_parser.specs.Grammar.{Sign}
use Rattle.fzn_parser.specs.ToCome as part
use Rattle.fzn_parser.specs.ToCome.{Part, must, list_of, more_of, follows, after_one, expected, brackets}
use Rattle.fzn_parser.specs.Reading.{◌>>=◌, Nest, first, after, a_list, number, range_from, braced, upper_end, ident, number_form, number_or_range, braced_form, basic, array, array_expression, basic_expression, expression, value, after_if, set_of_int, range_within, braces_within, set_type_by, set_type, var_type_by, var_type, element_type, var_element, set_element, element_by, number_argument, number_argument_at, braced_argument, call, call_argument, list_argument, argument_by, argument, nested, annotation, annotations_in, annotations}
use Rattle.fzn_parser.proofs.Leaves.{Leaves, takes_keeps, basic_takes, expression_takes, annotation_takes, nested_takes}
use Rattle.fzn_parser.proofs.Tracks.{Outcome, unexpected, deep, on_next, scan, follow, follow_bind, follow_with, passes, must_tracks, number_tracks, list_tracks, range_tracks, braced_tracks}

-- a token of this kind
abbrev pub sign : ℕ → TokenKind → List ℕ → Sign
sign at kind bytes = record { at = at; kind = kind; bytes = bytes }

-- a part that may be missing is passed over
pub skip : (go : List Part → Outcome) (limit at : ℕ) (p : Part) (g : List Part) (o : Option (List Part)) → expected (p ∷ g) ≡ expected g → on_next go limit at (p ∷ g) o ≡ on_next go limit at g o
skip go limit at p g None same = ap (unexpected at) same
skip go limit at p g (Some rest) same = refl

module _ (limit n : ℕ) where
  upper_step : (g : List Part) (at : ℕ) (kind : TokenKind) (bytes : List ℕ) (xs : List Sign) → brackets g ≤ limit
      → scan limit (part.upper_end ∷ g) (sign at kind bytes ∷ xs) ≡ follow limit g (upper_end n (sign at kind bytes ∷ xs))
  unfolding upper_end after_if
  upper_step g at (kinds.Symbol symbols.DotDot) bytes xs fits =
      passes limit (part.a_number ∷ g) (deep at) (scan limit (part.a_number ∷ g) xs) fits ∙ (number_tracks limit n g xs fits ∙ follow_with limit g (number n xs) (λ h. Some h))
  upper_step g at kind bytes xs fits = skip (λ rest. scan limit rest xs) limit at part.upper_end g (after_one g kind) refl

  pub upper_tracks : (g : List Part) (xs : List Sign) → brackets g ≤ limit → scan limit (part.upper_end ∷ g) xs ≡ follow limit g (upper_end n xs)
  unfolding upper_end after_if
  upper_tracks g [] fits = refl
  upper_tracks g (x ∷ xs) fits = upper_step g x.at x.kind x.bytes xs fits

  -- ---- expressions

  number_or_range_tracks : (g : List Part) (low : Number) (at : ℕ) (xs : List Sign) → brackets g ≤ limit
      → cond (ltb limit (brackets (part.upper_end ∷ g))) (deep at) (scan limit (part.upper_end ∷ g) xs) ≡ follow limit g (number_or_range n low xs >>= (λ f. let b : Basic = record { at = at; form = f.0 } in Ok (b, f.1)))
  unfolding number_or_range
  number_or_range_tracks g low at xs fits =
      passes limit (part.upper_end ∷ g) (deep at) (scan limit (part.upper_end ∷ g) xs) fits ∙ (upper_tracks g xs fits
      ∙ (follow_with limit g (upper_end n xs) (number_form low) ∙ follow_with limit g (upper_end n xs >>= (λ h. Ok (number_form low h.0, h.1))) (λ f. let b : Basic = record { at = at; form = f } in b)))

  basic_step : (g : List Part) (at : ℕ) (kind : TokenKind) (bytes : List ℕ) (xs : List Sign) → brackets g ≤ limit
      → scan limit (part.basic ∷ g) (sign at kind bytes ∷ xs) ≡ follow limit g (basic n (sign at kind bytes ∷ xs))
  unfolding basic first braced_form
  basic_step g at (kinds.Word words.True) bytes xs fits = passes limit g (deep at) (scan limit g xs) fits
  basic_step g at (kinds.Word words.False) bytes xs fits = passes limit g (deep at) (scan limit g xs) fits
  basic_step g at (kinds.Int z) bytes xs fits = number_or_range_tracks g (record { at = at; num = nums.Int z }) at xs fits
  basic_step g at kinds.LargeInt bytes xs fits = number_or_range_tracks g (record { at = at; num = nums.Large }) at xs fits
  basic_step g at kinds.Float bytes xs fits = number_or_range_tracks g (record { at = at; num = nums.Float }) at xs fits
  basic_step g at (kinds.Symbol symbols.OpenCurly) bytes xs fits =
      passes limit (list_of part.a_number symbols.CloseCurly whats.CommaOrCurly ∷ g) (deep at) (scan limit (list_of part.a_number symbols.CloseCurly whats.CommaOrCurly ∷ g) xs) fits
      ∙ (braced_tracks limit n g xs fits ∙ (follow_with limit g (braced n xs) (λ s. basics.Set s) ∙ follow_with limit g (braced n xs >>= (λ s. Ok (basics.Set s.0, s.1))) (λ f. let b : Basic = record { at = at; form = f } in b)))
  basic_step g at kinds.Name bytes xs fits = passes limit g (deep at) (scan limit g xs) fits
  basic_step g at kind bytes xs fits = refl

  pub basic_tracks : (g : List Part) (xs : List Sign) → brackets g ≤ limit → scan limit (part.basic ∷ g) xs ≡ follow limit g (basic n xs)
  unfolding basic first
  basic_tracks g [] fits = refl
  basic_tracks g (x ∷ xs) fits = basic_step g x.at x.kind x.bytes xs fits

  pub array_tracks : (g : List Part) (xs : List Sign) → brackets g ≤ limit → scan limit (list_of part.basic symbols.CloseSquare whats.CommaOrSquare ∷ g) xs ≡ follow limit g (array n xs)
  array_tracks g xs fits =
      list_tracks limit n part.basic (basic n) symbols.CloseSquare whats.CommaOrSquare g (takes_keeps (basic n) (basic_takes n)) refl
      (λ ys. basic_tracks (more_of part.basic symbols.CloseSquare whats.CommaOrSquare ∷ g) ys fits) fits fits xs

  expression_step : (g : List Part) (at : ℕ) (kind : TokenKind) (bytes : List ℕ) (xs : List Sign) → brackets g ≤ limit
      → scan limit (part.expression ∷ g) (sign at kind bytes ∷ xs) ≡ follow limit g (expression n (sign at kind bytes ∷ xs))
  unfolding expression first array_expression basic_expression
  expression_step g at (kinds.Symbol symbols.OpenSquare) bytes xs fits =
      passes limit (list_of part.basic symbols.CloseSquare whats.CommaOrSquare ∷ g) (deep at) (scan limit (list_of part.basic symbols.CloseSquare whats.CommaOrSquare ∷ g) xs) fits
      ∙ (array_tracks g xs fits ∙ follow_with limit g (array n xs) (λ items. exprs.List at items))
  expression_step g at kind bytes xs fits = basic_tracks g (sign at kind bytes ∷ xs) fits ∙ follow_with limit g (basic n (sign at kind bytes ∷ xs)) (λ b. exprs.One b)

  pub expression_tracks : (g : List Part) (xs : List Sign) → brackets g ≤ limit → scan limit (part.expression ∷ g) xs ≡ follow limit g (expression n xs)
  unfolding expression first
  expression_tracks g [] fits = refl
  expression_tracks g (x ∷ xs) fits = expression_step g x.at x.kind x.bytes xs fits

  value_step : (g : List Part) (at : ℕ) (kind : TokenKind) (bytes : List ℕ) (xs : List Sign) → brackets g ≤ limit
      → scan limit (part.value ∷ g) (sign at kind bytes ∷ xs) ≡ follow limit g (value n (sign at kind bytes ∷ xs))
  unfolding value after_if
  value_step g at (kinds.Symbol symbols.Equals) bytes xs fits =
      passes limit (part.expression ∷ g) (deep at) (scan limit (part.expression ∷ g) xs) fits ∙ (expression_tracks g xs fits ∙ follow_with limit g (expression n xs) (λ e. Some e))
  value_step g at kind bytes xs fits = skip (λ rest. scan limit rest xs) limit at part.value g (after_one g kind) refl

  pub value_tracks : (g : List Part) (xs : List Sign) → brackets g ≤ limit → scan limit (part.value ∷ g) xs ≡ follow limit g (value n xs)
  unfolding value after_if
  value_tracks g [] fits = refl
  value_tracks g (x ∷ xs) fits = value_step g x.at x.kind x.bytes xs fits

  pub arguments_tracks : (g : List Part) (xs : List Sign) → brackets g ≤ limit → scan limit (list_of part.expression symbols.CloseRound whats.CommaOrRound ∷ g) xs ≡ follow limit g (a_list n (expression n) symbols.CloseRound whats.CommaOrRound xs)
  arguments_tracks g xs fits =
      list_tracks limit n part.expression (expression n) symbols.CloseRound whats.CommaOrRound g (takes_keeps (expression n) (expression_takes n)) refl
      (λ ys. expression_tracks (more_of part.expression symbols.CloseRound whats.CommaOrRound ∷ g) ys fits) fits fits xs

  -- ---- types

  pub set_of_int_tracks : (g : List Part) (xs : List Sign) → brackets g ≤ limit
      → scan limit (must (kinds.Word words.Of) whats.Of ∷ must (kinds.Word words.Int) whats.TypeWord ∷ g) xs ≡ follow limit g (set_of_int n xs)
  unfolding set_of_int
  set_of_int_tracks g xs fits =
      must_tracks limit n (kinds.Word words.Of) whats.Of (must (kinds.Word words.Int) whats.TypeWord ∷ g) xs fits
      ∙ follow_bind limit (must (kinds.Word words.Int) whats.TypeWord ∷ g) g (after n (kinds.Word words.Of) whats.Of xs) _
      (λ o h. must_tracks limit n (kinds.Word words.Int) whats.TypeWord g o.1 fits ∙ follow_bind limit g g (after n (kinds.Word words.Int) whats.TypeWord o.1) _ (λ i k. refl))

  range_within_tracks : (g : List Part) (form : SetForm → TypeForm) (low : Number) (at : ℕ) (xs : List Sign) → brackets g ≤ limit
      → cond (ltb limit (brackets g)) (deep at) (scan limit (must (kinds.Symbol symbols.DotDot) whats.Range ∷ part.a_number ∷ g) xs) ≡ follow limit g (range_within n form low xs)
  unfolding range_within
  range_within_tracks g form low at xs fits =
      passes limit g (deep at) (scan limit (must (kinds.Symbol symbols.DotDot) whats.Range ∷ part.a_number ∷ g) xs) fits
      ∙ (range_tracks limit n low g xs fits ∙ follow_bind limit g g (range_from n low xs) _ (λ r k. refl))

  braces_within_tracks : (g : List Part) (form : SetForm → TypeForm) (at : ℕ) (xs : List Sign) → brackets g ≤ limit
      → cond (ltb limit (brackets g)) (deep at) (scan limit (list_of part.a_number symbols.CloseCurly whats.CommaOrCurly ∷ g) xs) ≡ follow limit g (braces_within n form at xs)
  unfolding braces_within
  braces_within_tracks g form at xs fits =
      passes limit g (deep at) (scan limit (list_of part.a_number symbols.CloseCurly whats.CommaOrCurly ∷ g) xs) fits
      ∙ (braced_tracks limit n g xs fits ∙ follow_bind limit g g (braced n xs) _ (λ r k. refl))

  set_type_step : (g : List Part) (at : ℕ) (kind : TokenKind) (bytes : List ℕ) (xs : List Sign) → brackets g ≤ limit
      → scan limit (part.a_set_type ∷ g) (sign at kind bytes ∷ xs) ≡ follow limit g (set_type_by n kind at xs)
  set_type_step g at (kinds.Word words.Int) bytes xs fits = passes limit g (deep at) (scan limit g xs) fits
  set_type_step g at (kinds.Int z) bytes xs fits = range_within_tracks g types.SetWithin (record { at = at; num = nums.Int z }) at xs fits
  set_type_step g at kinds.LargeInt bytes xs fits = range_within_tracks g types.SetWithin (record { at = at; num = nums.Large }) at xs fits
  set_type_step g at kinds.Float bytes xs fits = range_within_tracks g types.SetWithin (record { at = at; num = nums.Float }) at xs fits
  set_type_step g at (kinds.Symbol symbols.OpenCurly) bytes xs fits = braces_within_tracks g types.SetWithin at xs fits
  set_type_step g at kind bytes xs fits = refl

  set_type_after : (g : List Part) (xs : List Sign) → brackets g ≤ limit → scan limit (part.a_set_type ∷ g) xs ≡ follow limit g (first n xs >>= (λ r. set_type_by n r.0.kind r.0.at r.1))
  unfolding first
  set_type_after g [] fits = refl
  set_type_after g (x ∷ xs) fits = set_type_step g x.at x.kind x.bytes xs fits

  set_type_tracks : (g : List Part) (xs : List Sign) → brackets g ≤ limit → scan limit (must (kinds.Word words.Of) whats.Of ∷ part.a_set_type ∷ g) xs ≡ follow limit g (set_type n xs)
  unfolding set_type
  set_type_tracks g xs fits =
      must_tracks limit n (kinds.Word words.Of) whats.Of (part.a_set_type ∷ g) xs fits
      ∙ follow_bind limit (part.a_set_type ∷ g) g (after n (kinds.Word words.Of) whats.Of xs) _ (λ o h. set_type_after g o.1 fits)

  var_type_step : (g : List Part) (at : ℕ) (kind : TokenKind) (bytes : List ℕ) (xs : List Sign) → brackets g ≤ limit
      → scan limit (part.a_var_type ∷ g) (sign at kind bytes ∷ xs) ≡ follow limit g (var_type_by n kind at xs)
  var_type_step g at (kinds.Word words.Bool) bytes xs fits = passes limit g (deep at) (scan limit g xs) fits
  var_type_step g at (kinds.Word words.Int) bytes xs fits = passes limit g (deep at) (scan limit g xs) fits
  var_type_step g at (kinds.Word words.Float) bytes xs fits = passes limit g (deep at) (scan limit g xs) fits
  var_type_step g at (kinds.Word words.Set) bytes xs fits =
      passes limit g (deep at) (scan limit (must (kinds.Word words.Of) whats.Of ∷ part.a_set_type ∷ g) xs) fits ∙ set_type_tracks g xs fits
  var_type_step g at (kinds.Int z) bytes xs fits = range_within_tracks g types.Within (record { at = at; num = nums.Int z }) at xs fits
  var_type_step g at kinds.LargeInt bytes xs fits = range_within_tracks g types.Within (record { at = at; num = nums.Large }) at xs fits
  var_type_step g at kinds.Float bytes xs fits = range_within_tracks g types.Within (record { at = at; num = nums.Float }) at xs fits
  var_type_step g at (kinds.Symbol symbols.OpenCurly) bytes xs fits = braces_within_tracks g types.Within at xs fits
  var_type_step g at kind bytes xs fits = refl

  pub var_type_tracks : (g : List Part) (xs : List Sign) → brackets g ≤ limit → scan limit (part.a_var_type ∷ g) xs ≡ follow limit g (var_type n xs)
  unfolding var_type first
  var_type_tracks g [] fits = refl
  var_type_tracks g (x ∷ xs) fits = var_type_step g x.at x.kind x.bytes xs fits

  element_step : (g : List Part) (at : ℕ) (kind : TokenKind) (bytes : List ℕ) (xs : List Sign) → brackets g ≤ limit
      → scan limit (part.a_type ∷ g) (sign at kind bytes ∷ xs) ≡ follow limit g (element_by n kind at xs)
  unfolding var_element set_element
  element_step g at (kinds.Word words.Var) bytes xs fits =
      passes limit g (deep at) (scan limit (part.a_var_type ∷ g) xs) fits ∙ (var_type_tracks g xs fits ∙ follow_with limit g (var_type n xs) (λ t. (true, t)))
  element_step g at (kinds.Word words.Bool) bytes xs fits = passes limit g (deep at) (scan limit g xs) fits
  element_step g at (kinds.Word words.Int) bytes xs fits = passes limit g (deep at) (scan limit g xs) fits
  element_step g at (kinds.Word words.Float) bytes xs fits = passes limit g (deep at) (scan limit g xs) fits
  element_step g at (kinds.Word words.Set) bytes xs fits =
      passes limit g (deep at) (scan limit (must (kinds.Word words.Of) whats.Of ∷ must (kinds.Word words.Int) whats.TypeWord ∷ g) xs) fits ∙ (set_of_int_tracks g xs fits ∙ follow_with limit g (set_of_int n xs) (λ t. (false, t)))
  element_step g at kind bytes xs fits = refl

  pub element_type_tracks : (g : List Part) (xs : List Sign) → brackets g ≤ limit → scan limit (part.a_type ∷ g) xs ≡ follow limit g (element_type n xs)
  unfolding element_type first
  element_type_tracks g [] fits = refl
  element_type_tracks g (x ∷ xs) fits = element_step g x.at x.kind x.bytes xs fits

-- ---- annotations

-- a reader of lists of arguments follows them, or finds the opening bracket too deep
abbrev pub NestTracks : ℕ → ℕ → Nest → Type 0
NestTracks limit depth nest =
    (close : Symbol) (what : What) (at : ℕ) (g parts : List Part) (xs : List Sign) → brackets g + depth ≡ limit
    → on_next (λ rest. scan limit rest xs) limit at parts (Some (list_of part.argument close what ∷ g)) ≡ follow limit g (nest close what at xs)

module _ (limit n depth : ℕ) (nest : Nest) (tracks : NestTracks limit depth nest) where
  call_step : (g : List Part) (at : ℕ) (kind : TokenKind) (bytes : List ℕ) (xs : List Sign) → brackets g + depth ≡ limit
      → scan limit (part.call ∷ g) (sign at kind bytes ∷ xs) ≡ follow limit g (call nest (sign at kind bytes ∷ xs))
  unfolding call after_if
  call_step g at (kinds.Symbol symbols.OpenRound) bytes xs room =
      tracks symbols.CloseRound whats.CommaOrRound at g (part.call ∷ g) xs room ∙ follow_with limit g (nest symbols.CloseRound whats.CommaOrRound at xs) (λ list. Some list)
  call_step g at kind bytes xs room = skip (λ rest. scan limit rest xs) limit at part.call g (after_one g kind) refl

  pub call_tracks : (g : List Part) (xs : List Sign) → brackets g + depth ≡ limit → scan limit (part.call ∷ g) xs ≡ follow limit g (call nest xs)
  unfolding call after_if
  call_tracks g [] room = refl
  call_tracks g (x ∷ xs) room = call_step g x.at x.kind x.bytes xs room

  number_argument_tracks : (g : List Part) (low : Number) (at : ℕ) (xs : List Sign) → brackets g ≤ limit
      → cond (ltb limit (brackets (part.upper_end ∷ g))) (deep at) (scan limit (part.upper_end ∷ g) xs) ≡ follow limit g (number_argument_at n low xs)
  unfolding number_argument_at
  number_argument_tracks g low at xs fits =
      passes limit (part.upper_end ∷ g) (deep at) (scan limit (part.upper_end ∷ g) xs) fits ∙ (upper_tracks limit n g xs fits ∙ follow_with limit g (upper_end n xs) (number_argument low))

  form_step : (g : List Part) (at : ℕ) (kind : TokenKind) (bytes : List ℕ) (xs : List Sign) → brackets g + depth ≡ limit → brackets g ≤ limit
      → scan limit (part.argument ∷ g) (sign at kind bytes ∷ xs) ≡ follow limit g (argument_by n nest kind at bytes xs)
  unfolding braced_argument call_argument list_argument
  form_step g at (kinds.Word words.True) bytes xs room fits = passes limit g (deep at) (scan limit g xs) fits
  form_step g at (kinds.Word words.False) bytes xs room fits = passes limit g (deep at) (scan limit g xs) fits
  form_step g at (kinds.Int z) bytes xs room fits = number_argument_tracks g (record { at = at; num = nums.Int z }) at xs fits
  form_step g at kinds.LargeInt bytes xs room fits = number_argument_tracks g (record { at = at; num = nums.Large }) at xs fits
  form_step g at kinds.Float bytes xs room fits = number_argument_tracks g (record { at = at; num = nums.Float }) at xs fits
  form_step g at (kinds.Symbol symbols.OpenCurly) bytes xs room fits =
      passes limit g (deep at) (scan limit (list_of part.a_number symbols.CloseCurly whats.CommaOrCurly ∷ g) xs) fits ∙ (braced_tracks limit n g xs fits ∙ follow_with limit g (braced n xs) (λ s. args.Set s))
  form_step g at kinds.Text bytes xs room fits = passes limit g (deep at) (scan limit g xs) fits
  form_step g at kinds.Name bytes xs room fits =
      passes limit g (deep at) (scan limit (part.call ∷ g) xs) fits ∙ (call_tracks g xs room ∙ follow_bind limit g g (call nest xs) _ (λ r k. refl))
  form_step g at (kinds.Symbol symbols.OpenSquare) bytes xs room fits =
      tracks symbols.CloseSquare whats.CommaOrSquare at g (part.argument ∷ g) xs room ∙ follow_with limit g (nest symbols.CloseSquare whats.CommaOrSquare at xs) (λ list. args.List list)
  form_step g at kind bytes xs room fits = refl

  pub argument_tracks : (g : List Part) (xs : List Sign) → brackets g + depth ≡ limit → scan limit (part.argument ∷ g) xs ≡ follow limit g (argument n nest xs)
  unfolding argument first
  argument_tracks g [] room = refl
  argument_tracks g (x ∷ xs) room =
      form_step g x.at x.kind x.bytes xs room (omega arith) ∙ follow_bind limit g g (argument_by n nest x.kind x.at x.bytes xs) _ (λ r k. refl)

pub nested_tracks : (limit n depth : ℕ) → NestTracks limit depth (nested n depth)
unfolding nested
nested_tracks limit n zero close what at g parts xs room =
    let over : limit < suc (brackets g) = omega arith in cond-true (ltb limit (suc (brackets g))) (deep at) (scan limit (list_of part.argument close what ∷ g) xs) (lt-ltb limit (suc (brackets g)) over)
nested_tracks limit n (suc depth) close what at g parts xs room =
    let within : suc (brackets g) ≤ limit = omega arith in
    passes limit (list_of part.argument close what ∷ g) (deep at) (scan limit (list_of part.argument close what ∷ g) xs) within
    ∙ list_tracks limit n part.argument (argument n (nested n depth)) close what g (takes_keeps (argument n (nested n depth)) (nested_takes n depth)) refl
    (λ ys. argument_tracks limit n depth (nested n depth) (nested_tracks limit n depth) (more_of part.argument close what ∷ g) ys (omega arith))
    (omega arith) within xs

module _ (limit n depth : ℕ) where
  annotation_step : (g : List Part) (at : ℕ) (kind : TokenKind) (bytes : List ℕ) (xs : List Sign) → brackets g + depth ≡ limit → brackets g ≤ limit
      → scan limit (part.annotation ∷ g) (sign at kind bytes ∷ xs) ≡ follow limit g (annotation n depth (sign at kind bytes ∷ xs))
  unfolding annotation ident first
  annotation_step g at kinds.Name bytes xs room fits =
      passes limit g (deep at) (scan limit (part.call ∷ g) xs) fits ∙ (call_tracks limit n depth (nested n depth) (nested_tracks limit n depth) g xs room ∙ follow_bind limit g g (call (nested n depth) xs) _ (λ r k. refl))
  annotation_step g at kind bytes xs room fits = refl

  annotation_tracks : (g : List Part) (xs : List Sign) → brackets g + depth ≡ limit → scan limit (part.annotation ∷ g) xs ≡ follow limit g (annotation n depth xs)
  unfolding annotation ident first
  annotation_tracks g [] room = refl
  annotation_tracks g (x ∷ xs) room = annotation_step g x.at x.kind x.bytes xs room (omega arith)

  kept : (k : ℕ) (xs : List Sign) (q : Ann × List Sign) → annotation n depth xs ≡ Ok q → length xs ≤ k → length q.1 ≤ k
  kept k xs q h l = subst (Leaves k) h (takes_keeps (annotation n depth) (annotation_takes n depth) k xs l)

  annotations_step : (turns : ℕ) (g : List Part) (at : ℕ) (kind : TokenKind) (bytes : List ℕ) (xs : List Sign) → brackets g + depth ≡ limit → brackets g ≤ limit
      → scan limit (part.annotation ∷ part.annotations ∷ g) xs ≡ follow limit g (annotation n depth xs >>= (λ a. annotations_in n depth turns a.1 >>= (λ more. Ok (a.0 ∷ more.0, more.1))))
      → scan limit (part.annotations ∷ g) (sign at kind bytes ∷ xs) ≡ follow limit g (annotations_in n depth (suc turns) (sign at kind bytes ∷ xs))
  unfolding annotations_in after_if
  annotations_step turns g at (kinds.Symbol symbols.ColonColon) bytes xs room fits next = passes limit g (deep at) (scan limit (part.annotation ∷ part.annotations ∷ g) xs) fits ∙ next
  annotations_step turns g at kind bytes xs room fits next = skip (λ rest. scan limit rest xs) limit at part.annotations g (after_one g kind) refl

  annotations_in_tracks : (turns : ℕ) (g : List Part) (xs : List Sign) → length xs ≤ turns → brackets g + depth ≡ limit → scan limit (part.annotations ∷ g) xs ≡ follow limit g (annotations_in n depth turns xs)
  unfolding annotations_in after_if
  annotations_in_tracks zero g [] l room = refl
  annotations_in_tracks zero g (x ∷ xs) l room = absurd (omega arith)
  annotations_in_tracks (suc turns) g [] l room = refl
  annotations_in_tracks (suc turns) g (x ∷ xs) l room =
      annotations_step turns g x.at x.kind x.bytes xs room (omega arith)
      (annotation_tracks (part.annotations ∷ g) xs room ∙ follow_bind limit (part.annotations ∷ g) g (annotation n depth xs) (λ a. annotations_in n depth turns a.1 >>= (λ more. Ok (a.0 ∷ more.0, more.1)))
      (λ a h. annotations_in_tracks turns g a.1 (kept turns xs a h (omega arith)) room ∙ follow_with limit g (annotations_in n depth turns a.1) (λ more. a.0 ∷ more)))

  pub annotations_tracks : (g : List Part) (xs : List Sign) → brackets g + depth ≡ limit → scan limit (part.annotations ∷ g) xs ≡ follow limit g (annotations n depth xs)
  unfolding annotations
  annotations_tracks g xs room = annotations_in_tracks (length xs) g xs (omega arith) room
