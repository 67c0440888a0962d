-- Items and whole models follow what is to come.
use Rattle.std.proofs.Common.{◌≡◌, ℕ, zero, suc, ◌+◌, ◌<◌, ◌≤◌, Bool, true, false, cond, List, [], ◌∷◌, ◌++◌, length, Result, Ok, Err, sym, refl, ◌∙◌, arith, pos}
use Rattle.fzn_reader.specs.declared.tokens.TokenKind.{TokenKind}
use Rattle.fzn_reader.specs.declared.tokens.TokenKind.TheVariants as kinds
use Rattle.fzn_reader.specs.declared.tokens.Word.TheVariants as words
use Rattle.fzn_reader.specs.declared.tokens.Symbol.TheVariants as symbols
use Rattle.fzn_parser.specs.declared.faults.What.TheVariants as whats
use Rattle.fzn_parser.specs.declared.faults.SyntaxFault.{SyntaxFault}
use Rattle.fzn_parser.specs.declared.tree.TypeExpr.{TypeExpr}
use Rattle.fzn_parser.specs.declared.tree.TypeForm.TheVariants as types
use Rattle.fzn_parser.specs.Grammar.{Sign}
use Rattle.fzn_parser.specs.ToCome as part
use Rattle.fzn_parser.specs.ToCome.{Part, must, list_of, more_of, follows, after_one, expected, brackets}
use Rattle.fzn_parser.specs.Reading.{◌>>=◌, first, after, a_list, ident, array, expression, value, set_of_int, var_type, element_type, annotations, integer, after_symbol, param, set_param, variable, array_length, array_item, constraint, predicate, minimize, maximize, goal_by, goal, solve, item_by, item, is_solve, at_end, one_item, items_in, model}
use Rattle.fzn_parser.proofs.Leaves.{takes_shrinks}
use Rattle.fzn_parser.proofs.Tracks.{Outcome, complete, deep, on_next, scan, outcome_of, follow, follow_with, passes, must_tracks, integer_tracks, name_tracks}
use Rattle.fzn_parser.proofs.TracksParts.{sign, array_tracks, expression_tracks, value_tracks, arguments_tracks, set_of_int_tracks, var_type_tracks, element_type_tracks, annotations_tracks}
use Rattle.fzn_parser.specs.declared.tree.GoalForm.TheVariants as goals
use Rattle.fzn_parser.specs.declared.tree.Form.{Form}
use Rattle.fzn_parser.specs.declared.tree.Form.TheVariants as forms
use Rattle.fzn_parser.specs.declared.tree.Item.{Item}
use Rattle.fzn_parser.specs.ToCome.{is_symbol}
use Rattle.fzn_parser.proofs.Leaves.{item_takes}

-- what was read goes on to another end than its tokens alone
bind_to : {A B : Type 0} (limit : ℕ) (h : List Part) (r : Result (A × List Sign) SyntaxFault) (f : A × List Sign → Result B SyntaxFault) (target : Result B SyntaxFault → Outcome)
    → ((e : SyntaxFault) → target (Err e) ≡ outcome_of e) → ((q : A × List Sign) → r ≡ Ok q → scan limit h q.1 ≡ target (f q)) → follow limit h r ≡ target (r >>= f)
bind_to limit h (Ok q) f target stops same = same q refl
bind_to limit h (Err e) f target stops same = sym (stops e)

-- what is to come after an item
abbrev pub rest_of : Form → List Part
rest_of form = cond (is_solve form) [] (part.items ∷ [])

abbrev pub follow_form : ℕ → Result (Form × List Sign) SyntaxFault → Outcome
follow_form limit (Ok q) = scan limit (rest_of q.0) q.1
follow_form limit (Err e) = outcome_of e

abbrev pub follow_item : ℕ → Result (Item × List Sign) SyntaxFault → Outcome
follow_item limit (Ok q) = scan limit (rest_of q.0.form) q.1
follow_item limit (Err e) = outcome_of e

abbrev pub outcome_of_all : Result (List Item) SyntaxFault → Outcome
outcome_of_all (Ok items) = complete
outcome_of_all (Err e) = outcome_of e

module _ (limit n depth : ℕ) (room : 0 + depth ≡ limit) where
  fits : 0 ≤ limit
  fits = omega arith

  abbrev target : Result (Form × List Sign) SyntaxFault → Outcome
  target = follow_form limit

  param_tracks : (sort : TypeExpr) (xs : List Sign) → scan limit (must (kinds.Symbol symbols.Colon) whats.Colon ∷ part.a_name ∷ part.annotations ∷ must (kinds.Symbol symbols.Equals) whats.Equals ∷ part.expression ∷ must (kinds.Symbol symbols.Semicolon) whats.Semicolon ∷ part.items ∷ []) xs ≡ follow_form limit (param n depth sort xs)
  unfolding param
  param_tracks sort xs =
      must_tracks limit n (kinds.Symbol symbols.Colon) whats.Colon (part.a_name ∷ part.annotations ∷ must (kinds.Symbol symbols.Equals) whats.Equals ∷ part.expression ∷ must (kinds.Symbol symbols.Semicolon) whats.Semicolon ∷ part.items ∷ []) xs fits ∙ bind_to limit (part.a_name ∷ part.annotations ∷ must (kinds.Symbol symbols.Equals) whats.Equals ∷ part.expression ∷ must (kinds.Symbol symbols.Semicolon) whats.Semicolon ∷ part.items ∷ []) (after_symbol n symbols.Colon whats.Colon xs) _ target (λ e. refl) (λ v0 hv0. name_tracks limit n (part.annotations ∷ must (kinds.Symbol symbols.Equals) whats.Equals ∷ part.expression ∷ must (kinds.Symbol symbols.Semicolon) whats.Semicolon ∷ part.items ∷ []) v0.1 fits ∙ bind_to limit (part.annotations ∷ must (kinds.Symbol symbols.Equals) whats.Equals ∷ part.expression ∷ must (kinds.Symbol symbols.Semicolon) whats.Semicolon ∷ part.items ∷ []) (ident n whats.Name v0.1) _ target (λ e. refl) (λ v1 hv1. annotations_tracks limit n depth (must (kinds.Symbol symbols.Equals) whats.Equals ∷ part.expression ∷ must (kinds.Symbol symbols.Semicolon) whats.Semicolon ∷ part.items ∷ []) v1.1 room ∙ bind_to limit (must (kinds.Symbol symbols.Equals) whats.Equals ∷ part.expression ∷ must (kinds.Symbol symbols.Semicolon) whats.Semicolon ∷ part.items ∷ []) (annotations n depth v1.1) _ target (λ e. refl) (λ v2 hv2. must_tracks limit n (kinds.Symbol symbols.Equals) whats.Equals (part.expression ∷ must (kinds.Symbol symbols.Semicolon) whats.Semicolon ∷ part.items ∷ []) v2.1 fits ∙ bind_to limit (part.expression ∷ must (kinds.Symbol symbols.Semicolon) whats.Semicolon ∷ part.items ∷ []) (after_symbol n symbols.Equals whats.Equals v2.1) _ target (λ e. refl) (λ v3 hv3. expression_tracks limit n (must (kinds.Symbol symbols.Semicolon) whats.Semicolon ∷ part.items ∷ []) v3.1 fits ∙ bind_to limit (must (kinds.Symbol symbols.Semicolon) whats.Semicolon ∷ part.items ∷ []) (expression n v3.1) _ target (λ e. refl) (λ v4 hv4. must_tracks limit n (kinds.Symbol symbols.Semicolon) whats.Semicolon (part.items ∷ []) v4.1 fits ∙ bind_to limit (part.items ∷ []) (after_symbol n symbols.Semicolon whats.Semicolon v4.1) _ target (λ e. refl) (λ v5 hv5. refl))))))

  variable_tracks : (xs : List Sign) → scan limit (part.a_var_type ∷ must (kinds.Symbol symbols.Colon) whats.Colon ∷ part.a_name ∷ part.annotations ∷ part.value ∷ must (kinds.Symbol symbols.Semicolon) whats.Semicolon ∷ part.items ∷ []) xs ≡ follow_form limit (variable n depth xs)
  unfolding variable
  variable_tracks xs =
      var_type_tracks limit n (must (kinds.Symbol symbols.Colon) whats.Colon ∷ part.a_name ∷ part.annotations ∷ part.value ∷ must (kinds.Symbol symbols.Semicolon) whats.Semicolon ∷ part.items ∷ []) xs fits ∙ bind_to limit (must (kinds.Symbol symbols.Colon) whats.Colon ∷ part.a_name ∷ part.annotations ∷ part.value ∷ must (kinds.Symbol symbols.Semicolon) whats.Semicolon ∷ part.items ∷ []) (var_type n xs) _ target (λ e. refl) (λ v0 hv0. must_tracks limit n (kinds.Symbol symbols.Colon) whats.Colon (part.a_name ∷ part.annotations ∷ part.value ∷ must (kinds.Symbol symbols.Semicolon) whats.Semicolon ∷ part.items ∷ []) v0.1 fits ∙ bind_to limit (part.a_name ∷ part.annotations ∷ part.value ∷ must (kinds.Symbol symbols.Semicolon) whats.Semicolon ∷ part.items ∷ []) (after_symbol n symbols.Colon whats.Colon v0.1) _ target (λ e. refl) (λ v1 hv1. name_tracks limit n (part.annotations ∷ part.value ∷ must (kinds.Symbol symbols.Semicolon) whats.Semicolon ∷ part.items ∷ []) v1.1 fits ∙ bind_to limit (part.annotations ∷ part.value ∷ must (kinds.Symbol symbols.Semicolon) whats.Semicolon ∷ part.items ∷ []) (ident n whats.Name v1.1) _ target (λ e. refl) (λ v2 hv2. annotations_tracks limit n depth (part.value ∷ must (kinds.Symbol symbols.Semicolon) whats.Semicolon ∷ part.items ∷ []) v2.1 room ∙ bind_to limit (part.value ∷ must (kinds.Symbol symbols.Semicolon) whats.Semicolon ∷ part.items ∷ []) (annotations n depth v2.1) _ target (λ e. refl) (λ v3 hv3. value_tracks limit n (must (kinds.Symbol symbols.Semicolon) whats.Semicolon ∷ part.items ∷ []) v3.1 fits ∙ bind_to limit (must (kinds.Symbol symbols.Semicolon) whats.Semicolon ∷ part.items ∷ []) (value n v3.1) _ target (λ e. refl) (λ v4 hv4. must_tracks limit n (kinds.Symbol symbols.Semicolon) whats.Semicolon (part.items ∷ []) v4.1 fits ∙ bind_to limit (part.items ∷ []) (after_symbol n symbols.Semicolon whats.Semicolon v4.1) _ target (λ e. refl) (λ v5 hv5. refl))))))

  constraint_tracks : (xs : List Sign) → scan limit (part.a_name ∷ must (kinds.Symbol symbols.OpenRound) whats.OpenRound ∷ list_of part.expression symbols.CloseRound whats.CommaOrRound ∷ part.annotations ∷ must (kinds.Symbol symbols.Semicolon) whats.Semicolon ∷ part.items ∷ []) xs ≡ follow_form limit (constraint n depth xs)
  unfolding constraint
  constraint_tracks xs =
      name_tracks limit n (must (kinds.Symbol symbols.OpenRound) whats.OpenRound ∷ list_of part.expression symbols.CloseRound whats.CommaOrRound ∷ part.annotations ∷ must (kinds.Symbol symbols.Semicolon) whats.Semicolon ∷ part.items ∷ []) xs fits ∙ bind_to limit (must (kinds.Symbol symbols.OpenRound) whats.OpenRound ∷ list_of part.expression symbols.CloseRound whats.CommaOrRound ∷ part.annotations ∷ must (kinds.Symbol symbols.Semicolon) whats.Semicolon ∷ part.items ∷ []) (ident n whats.Name xs) _ target (λ e. refl) (λ v0 hv0. must_tracks limit n (kinds.Symbol symbols.OpenRound) whats.OpenRound (list_of part.expression symbols.CloseRound whats.CommaOrRound ∷ part.annotations ∷ must (kinds.Symbol symbols.Semicolon) whats.Semicolon ∷ part.items ∷ []) v0.1 fits ∙ bind_to limit (list_of part.expression symbols.CloseRound whats.CommaOrRound ∷ part.annotations ∷ must (kinds.Symbol symbols.Semicolon) whats.Semicolon ∷ part.items ∷ []) (after_symbol n symbols.OpenRound whats.OpenRound v0.1) _ target (λ e. refl) (λ v1 hv1. arguments_tracks limit n (part.annotations ∷ must (kinds.Symbol symbols.Semicolon) whats.Semicolon ∷ part.items ∷ []) v1.1 fits ∙ bind_to limit (part.annotations ∷ must (kinds.Symbol symbols.Semicolon) whats.Semicolon ∷ part.items ∷ []) (a_list n (expression n) symbols.CloseRound whats.CommaOrRound v1.1) _ target (λ e. refl) (λ v2 hv2. annotations_tracks limit n depth (must (kinds.Symbol symbols.Semicolon) whats.Semicolon ∷ part.items ∷ []) v2.1 room ∙ bind_to limit (must (kinds.Symbol symbols.Semicolon) whats.Semicolon ∷ part.items ∷ []) (annotations n depth v2.1) _ target (λ e. refl) (λ v3 hv3. must_tracks limit n (kinds.Symbol symbols.Semicolon) whats.Semicolon (part.items ∷ []) v3.1 fits ∙ bind_to limit (part.items ∷ []) (after_symbol n symbols.Semicolon whats.Semicolon v3.1) _ target (λ e. refl) (λ v4 hv4. refl)))))

  array_length_tracks : (g : List Part) (xs : List Sign) → brackets g ≤ limit → scan limit (must (kinds.Symbol symbols.OpenSquare) whats.OpenSquare ∷ must (kinds.Int (pos 1)) whats.One ∷ must (kinds.Symbol symbols.DotDot) whats.Range ∷ part.an_integer ∷ must (kinds.Symbol symbols.CloseSquare) whats.CloseSquare ∷ must (kinds.Word words.Of) whats.Of ∷ g) xs ≡ follow limit g (array_length n xs)
  unfolding array_length
  array_length_tracks g xs fits_g =
      must_tracks limit n (kinds.Symbol symbols.OpenSquare) whats.OpenSquare (must (kinds.Int (pos 1)) whats.One ∷ must (kinds.Symbol symbols.DotDot) whats.Range ∷ part.an_integer ∷ must (kinds.Symbol symbols.CloseSquare) whats.CloseSquare ∷ must (kinds.Word words.Of) whats.Of ∷ g) xs fits_g ∙ bind_to limit (must (kinds.Int (pos 1)) whats.One ∷ must (kinds.Symbol symbols.DotDot) whats.Range ∷ part.an_integer ∷ must (kinds.Symbol symbols.CloseSquare) whats.CloseSquare ∷ must (kinds.Word words.Of) whats.Of ∷ g) (after_symbol n symbols.OpenSquare whats.OpenSquare xs) _ (follow limit g) (λ e. refl) (λ v0 hv0. must_tracks limit n (kinds.Int (pos 1)) whats.One (must (kinds.Symbol symbols.DotDot) whats.Range ∷ part.an_integer ∷ must (kinds.Symbol symbols.CloseSquare) whats.CloseSquare ∷ must (kinds.Word words.Of) whats.Of ∷ g) v0.1 fits_g ∙ bind_to limit (must (kinds.Symbol symbols.DotDot) whats.Range ∷ part.an_integer ∷ must (kinds.Symbol symbols.CloseSquare) whats.CloseSquare ∷ must (kinds.Word words.Of) whats.Of ∷ g) (after n (kinds.Int (pos 1)) whats.One v0.1) _ (follow limit g) (λ e. refl) (λ v1 hv1. must_tracks limit n (kinds.Symbol symbols.DotDot) whats.Range (part.an_integer ∷ must (kinds.Symbol symbols.CloseSquare) whats.CloseSquare ∷ must (kinds.Word words.Of) whats.Of ∷ g) v1.1 fits_g ∙ bind_to limit (part.an_integer ∷ must (kinds.Symbol symbols.CloseSquare) whats.CloseSquare ∷ must (kinds.Word words.Of) whats.Of ∷ g) (after_symbol n symbols.DotDot whats.Range v1.1) _ (follow limit g) (λ e. refl) (λ v2 hv2. integer_tracks limit n (must (kinds.Symbol symbols.CloseSquare) whats.CloseSquare ∷ must (kinds.Word words.Of) whats.Of ∷ g) v2.1 fits_g ∙ bind_to limit (must (kinds.Symbol symbols.CloseSquare) whats.CloseSquare ∷ must (kinds.Word words.Of) whats.Of ∷ g) (integer n v2.1) _ (follow limit g) (λ e. refl) (λ v3 hv3. must_tracks limit n (kinds.Symbol symbols.CloseSquare) whats.CloseSquare (must (kinds.Word words.Of) whats.Of ∷ g) v3.1 fits_g ∙ bind_to limit (must (kinds.Word words.Of) whats.Of ∷ g) (after_symbol n symbols.CloseSquare whats.CloseSquare v3.1) _ (follow limit g) (λ e. refl) (λ v4 hv4. must_tracks limit n (kinds.Word words.Of) whats.Of g v4.1 fits_g ∙ bind_to limit g (after n (kinds.Word words.Of) whats.Of v4.1) _ (follow limit g) (λ e. refl) (λ v5 hv5. refl))))))

  array_item_tracks : (xs : List Sign) → scan limit (must (kinds.Symbol symbols.OpenSquare) whats.OpenSquare ∷ must (kinds.Int (pos 1)) whats.One ∷ must (kinds.Symbol symbols.DotDot) whats.Range ∷ part.an_integer ∷ must (kinds.Symbol symbols.CloseSquare) whats.CloseSquare ∷ must (kinds.Word words.Of) whats.Of ∷ part.a_type ∷ must (kinds.Symbol symbols.Colon) whats.Colon ∷ part.a_name ∷ part.annotations ∷ must (kinds.Symbol symbols.Equals) whats.Equals ∷ must (kinds.Symbol symbols.OpenSquare) whats.OpenSquare ∷ list_of part.basic symbols.CloseSquare whats.CommaOrSquare ∷ must (kinds.Symbol symbols.Semicolon) whats.Semicolon ∷ part.items ∷ []) xs ≡ follow_form limit (array_item n depth xs)
  unfolding array_item
  array_item_tracks xs =
      array_length_tracks (part.a_type ∷ must (kinds.Symbol symbols.Colon) whats.Colon ∷ part.a_name ∷ part.annotations ∷ must (kinds.Symbol symbols.Equals) whats.Equals ∷ must (kinds.Symbol symbols.OpenSquare) whats.OpenSquare ∷ list_of part.basic symbols.CloseSquare whats.CommaOrSquare ∷ must (kinds.Symbol symbols.Semicolon) whats.Semicolon ∷ part.items ∷ []) xs fits ∙ bind_to limit (part.a_type ∷ must (kinds.Symbol symbols.Colon) whats.Colon ∷ part.a_name ∷ part.annotations ∷ must (kinds.Symbol symbols.Equals) whats.Equals ∷ must (kinds.Symbol symbols.OpenSquare) whats.OpenSquare ∷ list_of part.basic symbols.CloseSquare whats.CommaOrSquare ∷ must (kinds.Symbol symbols.Semicolon) whats.Semicolon ∷ part.items ∷ []) (array_length n xs) _ target (λ e. refl) (λ len hlen.
      element_type_tracks limit n (must (kinds.Symbol symbols.Colon) whats.Colon ∷ part.a_name ∷ part.annotations ∷ must (kinds.Symbol symbols.Equals) whats.Equals ∷ must (kinds.Symbol symbols.OpenSquare) whats.OpenSquare ∷ list_of part.basic symbols.CloseSquare whats.CommaOrSquare ∷ must (kinds.Symbol symbols.Semicolon) whats.Semicolon ∷ part.items ∷ []) len.1 fits ∙ bind_to limit (must (kinds.Symbol symbols.Colon) whats.Colon ∷ part.a_name ∷ part.annotations ∷ must (kinds.Symbol symbols.Equals) whats.Equals ∷ must (kinds.Symbol symbols.OpenSquare) whats.OpenSquare ∷ list_of part.basic symbols.CloseSquare whats.CommaOrSquare ∷ must (kinds.Symbol symbols.Semicolon) whats.Semicolon ∷ part.items ∷ []) (element_type n len.1) _ target (λ e. refl) (λ v0 hv0. must_tracks limit n (kinds.Symbol symbols.Colon) whats.Colon (part.a_name ∷ part.annotations ∷ must (kinds.Symbol symbols.Equals) whats.Equals ∷ must (kinds.Symbol symbols.OpenSquare) whats.OpenSquare ∷ list_of part.basic symbols.CloseSquare whats.CommaOrSquare ∷ must (kinds.Symbol symbols.Semicolon) whats.Semicolon ∷ part.items ∷ []) v0.1 fits ∙ bind_to limit (part.a_name ∷ part.annotations ∷ must (kinds.Symbol symbols.Equals) whats.Equals ∷ must (kinds.Symbol symbols.OpenSquare) whats.OpenSquare ∷ list_of part.basic symbols.CloseSquare whats.CommaOrSquare ∷ must (kinds.Symbol symbols.Semicolon) whats.Semicolon ∷ part.items ∷ []) (after_symbol n symbols.Colon whats.Colon v0.1) _ target (λ e. refl) (λ v1 hv1. name_tracks limit n (part.annotations ∷ must (kinds.Symbol symbols.Equals) whats.Equals ∷ must (kinds.Symbol symbols.OpenSquare) whats.OpenSquare ∷ list_of part.basic symbols.CloseSquare whats.CommaOrSquare ∷ must (kinds.Symbol symbols.Semicolon) whats.Semicolon ∷ part.items ∷ []) v1.1 fits ∙ bind_to limit (part.annotations ∷ must (kinds.Symbol symbols.Equals) whats.Equals ∷ must (kinds.Symbol symbols.OpenSquare) whats.OpenSquare ∷ list_of part.basic symbols.CloseSquare whats.CommaOrSquare ∷ must (kinds.Symbol symbols.Semicolon) whats.Semicolon ∷ part.items ∷ []) (ident n whats.Name v1.1) _ target (λ e. refl) (λ v2 hv2. annotations_tracks limit n depth (must (kinds.Symbol symbols.Equals) whats.Equals ∷ must (kinds.Symbol symbols.OpenSquare) whats.OpenSquare ∷ list_of part.basic symbols.CloseSquare whats.CommaOrSquare ∷ must (kinds.Symbol symbols.Semicolon) whats.Semicolon ∷ part.items ∷ []) v2.1 room ∙ bind_to limit (must (kinds.Symbol symbols.Equals) whats.Equals ∷ must (kinds.Symbol symbols.OpenSquare) whats.OpenSquare ∷ list_of part.basic symbols.CloseSquare whats.CommaOrSquare ∷ must (kinds.Symbol symbols.Semicolon) whats.Semicolon ∷ part.items ∷ []) (annotations n depth v2.1) _ target (λ e. refl) (λ v3 hv3. must_tracks limit n (kinds.Symbol symbols.Equals) whats.Equals (must (kinds.Symbol symbols.OpenSquare) whats.OpenSquare ∷ list_of part.basic symbols.CloseSquare whats.CommaOrSquare ∷ must (kinds.Symbol symbols.Semicolon) whats.Semicolon ∷ part.items ∷ []) v3.1 fits ∙ bind_to limit (must (kinds.Symbol symbols.OpenSquare) whats.OpenSquare ∷ list_of part.basic symbols.CloseSquare whats.CommaOrSquare ∷ must (kinds.Symbol symbols.Semicolon) whats.Semicolon ∷ part.items ∷ []) (after_symbol n symbols.Equals whats.Equals v3.1) _ target (λ e. refl) (λ v4 hv4. must_tracks limit n (kinds.Symbol symbols.OpenSquare) whats.OpenSquare (list_of part.basic symbols.CloseSquare whats.CommaOrSquare ∷ must (kinds.Symbol symbols.Semicolon) whats.Semicolon ∷ part.items ∷ []) v4.1 fits ∙ bind_to limit (list_of part.basic symbols.CloseSquare whats.CommaOrSquare ∷ must (kinds.Symbol symbols.Semicolon) whats.Semicolon ∷ part.items ∷ []) (after_symbol n symbols.OpenSquare whats.OpenSquare v4.1) _ target (λ e. refl) (λ v5 hv5. array_tracks limit n (must (kinds.Symbol symbols.Semicolon) whats.Semicolon ∷ part.items ∷ []) v5.1 fits ∙ bind_to limit (must (kinds.Symbol symbols.Semicolon) whats.Semicolon ∷ part.items ∷ []) (array n v5.1) _ target (λ e. refl) (λ v6 hv6. must_tracks limit n (kinds.Symbol symbols.Semicolon) whats.Semicolon (part.items ∷ []) v6.1 fits ∙ bind_to limit (part.items ∷ []) (after_symbol n symbols.Semicolon whats.Semicolon v6.1) _ target (λ e. refl) (λ v7 hv7. refl)))))))))

  set_param_tracks : (xs : List Sign) → scan limit (part.of_int ++ part.param_rest) xs ≡ follow_form limit (set_param n depth xs)
  unfolding set_param
  set_param_tracks xs =
      set_of_int_tracks limit n part.param_rest xs fits ∙ bind_to limit part.param_rest (set_of_int n xs) _ target (λ e. refl) (λ t h. param_tracks t.0 t.1)

  predicate_step : (at : ℕ) (kind : TokenKind) (xs : List Sign)
      → scan limit (part.to_semicolon ∷ part.items ∷ []) xs ≡ follow_form limit (predicate n xs)
      → on_next (λ rest. scan limit rest xs) limit at (part.to_semicolon ∷ part.items ∷ []) (after_one (part.to_semicolon ∷ part.items ∷ []) kind)
      ≡ follow_form limit (cond (is_symbol symbols.Semicolon kind) (Ok (forms.Predicate, xs)) (predicate n xs))
  predicate_step at (kinds.Symbol symbols.Semicolon) xs next = passes limit (part.items ∷ []) (deep at) (scan limit (part.items ∷ []) xs) fits
  predicate_step at kind xs next = passes limit (part.to_semicolon ∷ part.items ∷ []) (deep at) (scan limit (part.to_semicolon ∷ part.items ∷ []) xs) fits ∙ next

  predicate_tracks : (xs : List Sign) → scan limit (part.to_semicolon ∷ part.items ∷ []) xs ≡ follow_form limit (predicate n xs)
  unfolding predicate
  predicate_tracks [] = refl
  predicate_tracks (x ∷ xs) = predicate_step x.at x.kind xs (predicate_tracks xs)

  goal_step : (at : ℕ) (kind : TokenKind) (bytes : List ℕ) (xs : List Sign) → scan limit (part.goal ∷ part.semicolon ∷ []) (sign at kind bytes ∷ xs) ≡ follow limit (part.semicolon ∷ []) (goal_by n kind at xs)
  unfolding minimize maximize
  goal_step at (kinds.Word words.Satisfy) bytes xs = passes limit (part.semicolon ∷ []) (deep at) (scan limit (part.semicolon ∷ []) xs) fits
  goal_step at (kinds.Word words.Minimize) bytes xs =
      passes limit (part.expression ∷ part.semicolon ∷ []) (deep at) (scan limit (part.expression ∷ part.semicolon ∷ []) xs) fits ∙ (expression_tracks limit n (part.semicolon ∷ []) xs fits ∙ follow_with limit (part.semicolon ∷ []) (expression n xs) (λ e. goals.Minimize e))
  goal_step at (kinds.Word words.Maximize) bytes xs =
      passes limit (part.expression ∷ part.semicolon ∷ []) (deep at) (scan limit (part.expression ∷ part.semicolon ∷ []) xs) fits ∙ (expression_tracks limit n (part.semicolon ∷ []) xs fits ∙ follow_with limit (part.semicolon ∷ []) (expression n xs) (λ e. goals.Maximize e))
  goal_step at kind bytes xs = refl

  goal_tracks : (xs : List Sign) → scan limit (part.goal ∷ part.semicolon ∷ []) xs ≡ follow limit (part.semicolon ∷ []) (goal n xs)
  unfolding goal first
  goal_tracks [] = refl
  goal_tracks (x ∷ xs) = goal_step x.at x.kind x.bytes xs

  solve_tracks : (xs : List Sign) → scan limit (part.annotations ∷ part.goal ∷ part.semicolon ∷ []) xs ≡ follow_form limit (solve n depth xs)
  unfolding solve
  solve_tracks xs =
      annotations_tracks limit n depth (part.goal ∷ part.semicolon ∷ []) xs room ∙ bind_to limit (part.goal ∷ part.semicolon ∷ []) (annotations n depth xs) _ target (λ e. refl)
      (λ as_ h. goal_tracks as_.1 ∙ bind_to limit (part.semicolon ∷ []) (goal n as_.1) _ target (λ e. refl)
      (λ g k. must_tracks limit n (kinds.Symbol symbols.Semicolon) whats.Semicolon [] g.1 fits ∙ bind_to limit [] (after_symbol n symbols.Semicolon whats.Semicolon g.1) _ target (λ e. refl) (λ s m. refl)))

  form_step : (at : ℕ) (kind : TokenKind) (bytes : List ℕ) (xs : List Sign) → scan limit (part.items ∷ []) (sign at kind bytes ∷ xs) ≡ follow_form limit (item_by n depth kind at xs)
  form_step at (kinds.Word words.Predicate) bytes xs = passes limit [] (deep at) (scan limit (part.to_semicolon ∷ part.items ∷ []) xs) fits ∙ predicate_tracks xs
  form_step at (kinds.Word words.Bool) bytes xs = passes limit [] (deep at) (scan limit part.param_rest xs) fits ∙ param_tracks (record { at = at; form = types.Bool }) xs
  form_step at (kinds.Word words.Int) bytes xs = passes limit [] (deep at) (scan limit part.param_rest xs) fits ∙ param_tracks (record { at = at; form = types.Int }) xs
  form_step at (kinds.Word words.Float) bytes xs = passes limit [] (deep at) (scan limit part.param_rest xs) fits ∙ param_tracks (record { at = at; form = types.Float }) xs
  form_step at (kinds.Word words.Set) bytes xs = passes limit [] (deep at) (scan limit (part.of_int ++ part.param_rest) xs) fits ∙ set_param_tracks xs
  form_step at (kinds.Word words.Var) bytes xs = passes limit [] (deep at) (scan limit (part.a_var_type ∷ part.variable_rest) xs) fits ∙ variable_tracks xs
  form_step at (kinds.Word words.Array) bytes xs = passes limit [] (deep at) (scan limit part.array_rest xs) fits ∙ array_item_tracks xs
  form_step at (kinds.Word words.Constraint) bytes xs = passes limit [] (deep at) (scan limit part.constraint_rest xs) fits ∙ constraint_tracks xs
  form_step at (kinds.Word words.Solve) bytes xs = passes limit [] (deep at) (scan limit (part.annotations ∷ part.goal ∷ part.semicolon ∷ []) xs) fits ∙ solve_tracks xs
  form_step at kind bytes xs = refl

  with_place : (at : ℕ) (r : Result (Form × List Sign) SyntaxFault) → follow_form limit r ≡ follow_item limit (r >>= (λ f. let i : Item = record { at = at; form = f.0 } in Ok (i, f.1)))
  with_place at (Ok q) = refl
  with_place at (Err e) = refl

  item_tracks : (xs : List Sign) → scan limit (part.items ∷ []) xs ≡ follow_item limit (item n depth xs)
  unfolding item first
  item_tracks [] = refl
  item_tracks (x ∷ xs) = form_step x.at x.kind x.bytes xs ∙ with_place x.at (item_by n depth x.kind x.at xs)

  end_tracks : (xs : List Sign) → scan limit [] xs ≡ outcome_of_all (at_end xs)
  end_tracks [] = refl
  end_tracks (x ∷ xs) = refl

  with_item : (i : Item) (r : Result (List Item) SyntaxFault) → outcome_of_all r ≡ outcome_of_all (r >>= (λ is. Ok (i ∷ is)))
  with_item i (Ok is) = refl
  with_item i (Err e) = refl

  rest_tracks : (rest : List Sign → Result (List Item) SyntaxFault) (i : Item) (ys : List Sign) (last : Bool) → scan limit (part.items ∷ []) ys ≡ outcome_of_all (rest ys)
      → scan limit (cond last [] (part.items ∷ [])) ys ≡ outcome_of_all (cond last (at_end ys) (rest ys) >>= (λ is. Ok (i ∷ is)))
  rest_tracks rest i ys true next = end_tracks ys ∙ with_item i (at_end ys)
  rest_tracks rest i ys false next = next ∙ with_item i (rest ys)

  item_bind : (r : Result (Item × List Sign) SyntaxFault) (rest : List Sign → Result (List Item) SyntaxFault)
      → ((q : Item × List Sign) → r ≡ Ok q → scan limit (part.items ∷ []) q.1 ≡ outcome_of_all (rest q.1)) → follow_item limit r ≡ outcome_of_all (r >>= one_item rest)
  item_bind (Ok q) rest next = rest_tracks rest q.0 q.1 (is_solve q.0.form) (next q refl)
  item_bind (Err e) rest next = refl

  kept : (k : ℕ) (xs : List Sign) (q : Item × List Sign) → item n depth xs ≡ Ok q → length xs ≤ suc k → length q.1 ≤ k
  kept k xs q h l = let less : length q.1 < length xs = (takes_shrinks (item n depth) (item_takes n depth)).less xs q.0 q.1 h in omega arith

  items_in_tracks : (turns : ℕ) (xs : List Sign) → length xs ≤ turns → scan limit (part.items ∷ []) xs ≡ outcome_of_all (items_in n depth turns xs)
  unfolding items_in
  items_in_tracks zero [] l = refl
  items_in_tracks zero (x ∷ xs) l = absurd (omega arith)
  items_in_tracks (suc turns) xs l = item_tracks xs ∙ item_bind (item n depth xs) (items_in n depth turns) (λ q h. items_in_tracks turns q.1 (kept turns xs q h l))

  -- the reading of a model ends as its tokens do
  pub model_tracks : (xs : List Sign) → scan limit (part.items ∷ []) xs ≡ outcome_of_all (model n depth xs)
  unfolding model
  model_tracks xs = items_in_tracks (length xs) xs (omega arith)
