-- Items are spelled as read.
use Rattle.std.proofs.Common.{◌≡◌, ℕ, zero, suc, Bool, true, false, cond, List, [], ◌∷◌, ◌++◌, length, Result, Ok, Err, sym, refl, ap, ◌∙◌, subst, append_assoc}
use Rattle.std.proofs.Common.{pos, ℤ}
use Rattle.std.proofs.lemmas.List.{append-nil}
use Rattle.std.proofs.lemmas.List.Elements.{All-nil, All-cons}
use Rattle.std.proofs.lemmas.Bool.Decides.{Decides-int_eq}
use Rattle.fzn_reader.specs.declared.tokens.TokenKind.{TokenKind}
use Rattle.fzn_reader.specs.declared.tokens.TokenKind.TheVariants as kinds
use Rattle.fzn_reader.specs.declared.tokens.Word.TheVariants as words
use Rattle.fzn_reader.specs.declared.tokens.Symbol.TheVariants as symbols
use Rattle.fzn_parser.specs.declared.faults.What.TheVariants as whats
use Rattle.fzn_parser.specs.declared.faults.SyntaxFault.{SyntaxFault}
use Rattle.fzn_parser.specs.declared.faults.SyntaxFault.TheVariants as faults
use Rattle.fzn_parser.specs.declared.tree.Number.{Number}
use Rattle.fzn_parser.specs.declared.tree.Expr.TheVariants as exprs
use Rattle.fzn_parser.specs.declared.tree.TypeExpr.{TypeExpr}
use Rattle.fzn_parser.specs.declared.tree.TypeForm.{TypeForm}
use Rattle.fzn_parser.specs.declared.tree.TypeForm.TheVariants as types
use Rattle.fzn_parser.specs.Grammar as spell
use Rattle.fzn_parser.specs.Grammar.{Sign, Pattern, skipped, none, IsSkipped, token, named, placed, Match, Fits, begun_at, closed}
use Rattle.fzn_parser.specs.ToCome.{same_kind, is_symbol}
use Rattle.fzn_parser.specs.Reading.{◌>>=◌, first, after, after_symbol, more, a_list, integer, ident, array, expression, value, set_of_int, var_type, element_type, annotations, param, set_param, variable, array_length, array_item, constraint, predicate, minimize, maximize, goal_by, goal, solve, item_by, item, is_solve, at_end, one_item, items_in, model}
use Rattle.fzn_parser.proofs.SameKinds.{symbol_is}
use Rattle.fzn_parser.proofs.Sounds.{Says, Back, says_bind, sign, symbol_says, word_says, unplaced, integer_says, ident_says}
use Rattle.fzn_parser.proofs.SoundsParts.{array_says, expression_says, value_spelled, arguments_says, set_of_int_says, var_rest, var_type_says, element, element_type_says}
use Rattle.fzn_parser.specs.declared.tree.Ident.{Ident}
use Rattle.fzn_parser.specs.declared.tree.Ann.{Ann}
use Rattle.fzn_parser.specs.declared.tree.Form.{Form}
use Rattle.fzn_parser.specs.declared.tree.Form.TheVariants as forms
use Rattle.fzn_parser.specs.declared.tree.Item.{Item}

param_final : (zs : List Sign) (at : ℕ) (sort : TypeExpr) (front : List Pattern) (is_front : (rest : List Pattern) → begun_at at (spell.param_type sort ++ rest) ≡ front ++ rest)
    (i : Ident) (a : List Ann) (e : exprs.the_data) (qs : List Pattern)
    → Match (front ++ spell.symbol symbols.Colon ∷ (spell.ident i ++ (spell.annotations a ++ (spell.symbol symbols.Equals ∷ (spell.expression e ++ (spell.symbol symbols.Semicolon ∷ qs)))))) zs
    → Match (begun_at at (spell.item_form (forms.Param sort i a e)) ++ qs) zs
param_final zs at sort front is_front i a e qs m =
    let rest : List Pattern = spell.symbol symbols.Colon ∷ (spell.ident i ++ (spell.annotations a ++ spell.symbol symbols.Equals ∷ (spell.expression e ++ spell.semicolon))) in
    let grouped : front ++ spell.symbol symbols.Colon ∷ (spell.ident i ++ (spell.annotations a ++ (spell.symbol symbols.Equals ∷ (spell.expression e ++ (spell.symbol symbols.Semicolon ∷ qs))))) ≡ front ++ (rest ++ qs) = simp append_assoc in
    subst (λ ps. Match ps zs) (grouped ∙ (sym (append_assoc front rest qs) ∙ ap (λ ps. ps ++ qs) (sym (is_front rest)))) m

-- the token 1
one_kind : (kind : TokenKind) → same_kind (kinds.Int (pos 1)) kind ≡ true → kind ≡ kinds.Int (pos 1)
one_kind (kinds.Int z) h = ap (λ (v : ℤ). kinds.Int v) (sym ((Decides-int_eq (pos 1) z).0 h))
one_kind kinds.Name h = absurd (cc)
one_kind (kinds.Word w) h = absurd (cc)
one_kind kinds.LargeInt h = absurd (cc)
one_kind kinds.Float h = absurd (cc)
one_kind kinds.Text h = absurd (cc)
one_kind (kinds.Symbol t) h = absurd (cc)

one_step : (x : Sign) (xs : List Sign) (b : Bool) → same_kind (kinds.Int (pos 1)) x.kind ≡ b
    → Says (x ∷ xs) (λ (at : ℕ). placed at (token (kinds.Int (pos 1))) ∷ []) (cond b (Ok (x.at, xs)) (Err (faults.Expected x.at whats.One)))
one_step x xs true is = λ qs m. ((refl, one_kind x.kind is), m)
one_step x xs false is = tt

one_says : (n : ℕ) (xs : List Sign) → Says xs (λ (at : ℕ). placed at (token (kinds.Int (pos 1))) ∷ []) (after n (kinds.Int (pos 1)) whats.One xs)
unfolding after first
one_says n [] = tt
one_says n (x ∷ xs) = one_step x xs (same_kind (kinds.Int (pos 1)) x.kind) refl

abbrev length_patterns : Number → List Pattern
length_patterns len =
    spell.symbol symbols.OpenSquare ∷ token (kinds.Int (pos 1)) ∷ spell.symbol symbols.DotDot ∷ (spell.integer len ++ spell.symbol symbols.CloseSquare ∷ spell.word words.Of ∷ [])

length_says : (n : ℕ) (xs : List Sign) → Says xs length_patterns (array_length n xs)
unfolding array_length
length_says n xs =
    says_bind xs xs (λ (at : ℕ). placed at (spell.symbol symbols.OpenSquare) ∷ []) length_patterns (after_symbol n symbols.OpenSquare whats.OpenSquare xs) _ (symbol_says n symbols.OpenSquare whats.OpenSquare xs)
    (λ o b_o. says_bind xs o.1 (λ (at : ℕ). placed at (token (kinds.Int (pos 1))) ∷ []) length_patterns (after n (kinds.Int (pos 1)) whats.One o.1) _ (one_says n o.1)
    (λ one b_one. says_bind xs one.1 (λ (at : ℕ). placed at (spell.symbol symbols.DotDot) ∷ []) length_patterns (after_symbol n symbols.DotDot whats.Range one.1) _ (symbol_says n symbols.DotDot whats.Range one.1)
    (λ to b_to. says_bind xs to.1 spell.integer length_patterns (integer n to.1) _ (integer_says n to.1)
    (λ len b_len. says_bind xs len.1 (λ (at : ℕ). placed at (spell.symbol symbols.CloseSquare) ∷ []) length_patterns (after_symbol n symbols.CloseSquare whats.CloseSquare len.1) _ (symbol_says n symbols.CloseSquare whats.CloseSquare len.1)
    (λ close b_close. says_bind xs close.1 (λ (at : ℕ). placed at (spell.word words.Of) ∷ []) length_patterns (after n (kinds.Word words.Of) whats.Of close.1) _ (word_says n words.Of whats.Of close.1)
    (λ of_ b_of_ qs m. unplaced (kinds.Symbol symbols.OpenSquare) o.0 (token (kinds.Int (pos 1)) ∷ (spell.symbol symbols.DotDot ∷ (spell.integer len.0 ++ (spell.symbol symbols.CloseSquare ∷ (spell.word words.Of ∷ qs))))) xs (b_o (token (kinds.Int (pos 1)) ∷ (spell.symbol symbols.DotDot ∷ (spell.integer len.0 ++ (spell.symbol symbols.CloseSquare ∷ (spell.word words.Of ∷ qs))))) (unplaced (kinds.Int (pos 1)) one.0 (spell.symbol symbols.DotDot ∷ (spell.integer len.0 ++ (spell.symbol symbols.CloseSquare ∷ (spell.word words.Of ∷ qs)))) o.1 (b_one (spell.symbol symbols.DotDot ∷ (spell.integer len.0 ++ (spell.symbol symbols.CloseSquare ∷ (spell.word words.Of ∷ qs)))) (unplaced (kinds.Symbol symbols.DotDot) to.0 (spell.integer len.0 ++ (spell.symbol symbols.CloseSquare ∷ (spell.word words.Of ∷ qs))) one.1 (b_to (spell.integer len.0 ++ (spell.symbol symbols.CloseSquare ∷ (spell.word words.Of ∷ qs))) (b_len (spell.symbol symbols.CloseSquare ∷ (spell.word words.Of ∷ qs)) (unplaced (kinds.Symbol symbols.CloseSquare) close.0 (spell.word words.Of ∷ qs) len.1 (b_close (spell.word words.Of ∷ qs) (unplaced (kinds.Word words.Of) of_.0 qs close.1 (b_of_ qs m))))))))))))))))

-- the patterns of an item, the solve item included
abbrev pub form_patterns : Form → List Pattern
form_patterns (forms.Solve a g) = spell.solve_form (forms.Solve a g)
form_patterns form = spell.item_form form

abbrev pub item_patterns : Item → List Pattern
item_patterns i = begun_at i.at (form_patterns i.form)

module _ (n depth : ℕ) (anns_says : (xs : List Sign) → Says xs spell.annotations (annotations n depth xs)) where
  param_says : (zs xs : List Sign) (at : ℕ) (sort : TypeExpr) (front : List Pattern) → ((rest : List Pattern) → begun_at at (spell.param_type sort ++ rest) ≡ front ++ rest)
      → ((qs : List Pattern) → Match qs xs → Match (front ++ qs) zs) → Says zs (λ form. begun_at at (form_patterns form)) (param n depth sort xs)
  unfolding param
  param_says zs xs at sort front is_front pre =
      says_bind zs xs (λ (at : ℕ). placed at (spell.symbol symbols.Colon) ∷ []) (λ form. begun_at at (form_patterns form)) (after_symbol n symbols.Colon whats.Colon xs) _ (symbol_says n symbols.Colon whats.Colon xs)
      (λ c b_c. says_bind zs c.1 spell.ident (λ form. begun_at at (form_patterns form)) (ident n whats.Name c.1) _ (ident_says n whats.Name c.1)
      (λ i b_i. says_bind zs i.1 spell.annotations (λ form. begun_at at (form_patterns form)) (annotations n depth i.1) _ (anns_says i.1)
      (λ a b_a. says_bind zs a.1 (λ (at : ℕ). placed at (spell.symbol symbols.Equals) ∷ []) (λ form. begun_at at (form_patterns form)) (after_symbol n symbols.Equals whats.Equals a.1) _ (symbol_says n symbols.Equals whats.Equals a.1)
      (λ is b_is. says_bind zs is.1 spell.expression (λ form. begun_at at (form_patterns form)) (expression n is.1) _ (expression_says n is.1)
      (λ e b_e. says_bind zs e.1 (λ (at : ℕ). placed at (spell.symbol symbols.Semicolon) ∷ []) (λ form. begun_at at (form_patterns form)) (after_symbol n symbols.Semicolon whats.Semicolon e.1) _ (symbol_says n symbols.Semicolon whats.Semicolon e.1)
      (λ s b_s. λ qs m. param_final zs at sort front is_front i.0 a.0 e.0 qs (pre (spell.symbol symbols.Colon ∷ (spell.ident i.0 ++ (spell.annotations a.0 ++ (spell.symbol symbols.Equals ∷ (spell.expression e.0 ++ (spell.symbol symbols.Semicolon ∷ qs)))))) (unplaced (kinds.Symbol symbols.Colon) c.0 (spell.ident i.0 ++ (spell.annotations a.0 ++ (spell.symbol symbols.Equals ∷ (spell.expression e.0 ++ (spell.symbol symbols.Semicolon ∷ qs))))) xs (b_c (spell.ident i.0 ++ (spell.annotations a.0 ++ (spell.symbol symbols.Equals ∷ (spell.expression e.0 ++ (spell.symbol symbols.Semicolon ∷ qs))))) (b_i (spell.annotations a.0 ++ (spell.symbol symbols.Equals ∷ (spell.expression e.0 ++ (spell.symbol symbols.Semicolon ∷ qs)))) (b_a (spell.symbol symbols.Equals ∷ (spell.expression e.0 ++ (spell.symbol symbols.Semicolon ∷ qs))) (unplaced (kinds.Symbol symbols.Equals) is.0 (spell.expression e.0 ++ (spell.symbol symbols.Semicolon ∷ qs)) a.1 (b_is (spell.expression e.0 ++ (spell.symbol symbols.Semicolon ∷ qs)) (b_e (spell.symbol symbols.Semicolon ∷ qs) (unplaced (kinds.Symbol symbols.Semicolon) s.0 qs e.1 (b_s qs m))))))))))))))))

  variable_says : (x : Sign) (xs : List Sign) → x.kind ≡ kinds.Word words.Var → Says (x ∷ xs) (λ form. begun_at x.at (form_patterns form)) (variable n depth xs)
  unfolding variable
  variable_says x xs is =
      says_bind (x ∷ xs) xs var_rest (λ form. begun_at x.at (form_patterns form)) (var_type n xs) _ (var_type_says n xs)
      (λ t b_t. says_bind (x ∷ xs) t.1 (λ (at : ℕ). placed at (spell.symbol symbols.Colon) ∷ []) (λ form. begun_at x.at (form_patterns form)) (after_symbol n symbols.Colon whats.Colon t.1) _ (symbol_says n symbols.Colon whats.Colon t.1)
      (λ c b_c. says_bind (x ∷ xs) c.1 spell.ident (λ form. begun_at x.at (form_patterns form)) (ident n whats.Name c.1) _ (ident_says n whats.Name c.1)
      (λ i b_i. says_bind (x ∷ xs) i.1 spell.annotations (λ form. begun_at x.at (form_patterns form)) (annotations n depth i.1) _ (anns_says i.1)
      (λ a b_a. says_bind (x ∷ xs) a.1 spell.value (λ form. begun_at x.at (form_patterns form)) (value n a.1) _ (value_spelled n a.1)
      (λ v b_v. says_bind (x ∷ xs) v.1 (λ (at : ℕ). placed at (spell.symbol symbols.Semicolon) ∷ []) (λ form. begun_at x.at (form_patterns form)) (after_symbol n symbols.Semicolon whats.Semicolon v.1) _ (symbol_says n symbols.Semicolon whats.Semicolon v.1)
      (λ s b_s qs m. let grouped : var_rest t.0 ++ (spell.symbol symbols.Colon ∷ (spell.ident i.0 ++ (spell.annotations a.0 ++ (spell.value v.0 ++ (spell.symbol symbols.Semicolon ∷ qs))))) ≡ (var_rest t.0 ++ spell.symbol symbols.Colon ∷ (spell.ident i.0 ++ (spell.annotations a.0 ++ (spell.value v.0 ++ spell.semicolon)))) ++ qs = simp append_assoc in ((refl, is), subst (λ ps. Match ps xs) grouped (b_t (spell.symbol symbols.Colon ∷ (spell.ident i.0 ++ (spell.annotations a.0 ++ (spell.value v.0 ++ (spell.symbol symbols.Semicolon ∷ qs))))) (unplaced (kinds.Symbol symbols.Colon) c.0 (spell.ident i.0 ++ (spell.annotations a.0 ++ (spell.value v.0 ++ (spell.symbol symbols.Semicolon ∷ qs)))) t.1 (b_c (spell.ident i.0 ++ (spell.annotations a.0 ++ (spell.value v.0 ++ (spell.symbol symbols.Semicolon ∷ qs)))) (b_i (spell.annotations a.0 ++ (spell.value v.0 ++ (spell.symbol symbols.Semicolon ∷ qs))) (b_a (spell.value v.0 ++ (spell.symbol symbols.Semicolon ∷ qs)) (b_v (spell.symbol symbols.Semicolon ∷ qs) (unplaced (kinds.Symbol symbols.Semicolon) s.0 qs v.1 (b_s qs m)))))))))))))))

  front_is : (at a : ℕ) (form : TypeForm) (rest : List Pattern) → begun_at at (spell.param_type_form a form ++ rest) ≡ begun_at at (spell.param_type_form a form) ++ rest
  front_is at a types.Bool rest = refl
  front_is at a types.Int rest = refl
  front_is at a types.Float rest = refl
  front_is at a types.SetOfInt rest = refl
  front_is at a (types.Within s) rest = refl
  front_is at a (types.SetWithin s) rest = refl

  set_param_says : (x : Sign) (xs : List Sign) → x.kind ≡ kinds.Word words.Set → Says (x ∷ xs) (λ form. begun_at x.at (form_patterns form)) (set_param n depth xs)
  unfolding set_param
  set_param_says x xs is =
      says_bind (x ∷ xs) (x ∷ xs) (λ t. begun_at x.at (spell.param_type t)) (λ form. begun_at x.at (form_patterns form)) (set_of_int n xs) _ (set_of_int_says n (x ∷ xs) xs (λ t. begun_at x.at (spell.param_type t)) (λ i qs m. ((refl, is), m)))
      (λ t back. param_says (x ∷ xs) t.1 x.at t.0 (begun_at x.at (spell.param_type t.0)) (front_is x.at t.0.at t.0.form) back)

  constraint_says : (x : Sign) (xs : List Sign) → x.kind ≡ kinds.Word words.Constraint → Says (x ∷ xs) (λ form. begun_at x.at (form_patterns form)) (constraint n depth xs)
  unfolding constraint
  constraint_says x xs is =
      says_bind (x ∷ xs) xs spell.ident (λ form. begun_at x.at (form_patterns form)) (ident n whats.Name xs) _ (ident_says n whats.Name xs)
      (λ i b_i. says_bind (x ∷ xs) i.1 (λ (at : ℕ). placed at (spell.symbol symbols.OpenRound) ∷ []) (λ form. begun_at x.at (form_patterns form)) (after_symbol n symbols.OpenRound whats.OpenRound i.1) _ (symbol_says n symbols.OpenRound whats.OpenRound i.1)
      (λ o b_o. says_bind (x ∷ xs) o.1 (λ es. closed spell.expression es symbols.CloseRound) (λ form. begun_at x.at (form_patterns form)) (a_list n (expression n) symbols.CloseRound whats.CommaOrRound o.1) _ (arguments_says n o.1)
      (λ l b_l. says_bind (x ∷ xs) l.1 spell.annotations (λ form. begun_at x.at (form_patterns form)) (annotations n depth l.1) _ (anns_says l.1)
      (λ a b_a. says_bind (x ∷ xs) a.1 (λ (at : ℕ). placed at (spell.symbol symbols.Semicolon) ∷ []) (λ form. begun_at x.at (form_patterns form)) (after_symbol n symbols.Semicolon whats.Semicolon a.1) _ (symbol_says n symbols.Semicolon whats.Semicolon a.1)
      (λ s b_s qs m. let grouped : spell.ident i.0 ++ (spell.symbol symbols.OpenRound ∷ (closed spell.expression l.0 symbols.CloseRound ++ (spell.annotations a.0 ++ (spell.symbol symbols.Semicolon ∷ qs)))) ≡ (spell.ident i.0 ++ spell.symbol symbols.OpenRound ∷ (closed spell.expression l.0 symbols.CloseRound ++ (spell.annotations a.0 ++ spell.semicolon))) ++ qs = simp append_assoc in ((refl, is), subst (λ ps. Match ps xs) grouped (b_i (spell.symbol symbols.OpenRound ∷ (closed spell.expression l.0 symbols.CloseRound ++ (spell.annotations a.0 ++ (spell.symbol symbols.Semicolon ∷ qs)))) (unplaced (kinds.Symbol symbols.OpenRound) o.0 (closed spell.expression l.0 symbols.CloseRound ++ (spell.annotations a.0 ++ (spell.symbol symbols.Semicolon ∷ qs))) i.1 (b_o (closed spell.expression l.0 symbols.CloseRound ++ (spell.annotations a.0 ++ (spell.symbol symbols.Semicolon ∷ qs))) (b_l (spell.annotations a.0 ++ (spell.symbol symbols.Semicolon ∷ qs)) (b_a (spell.symbol symbols.Semicolon ∷ qs) (unplaced (kinds.Symbol symbols.Semicolon) s.0 qs a.1 (b_s qs m)))))))))))))

  goal_step : (at : ℕ) (kind : TokenKind) (bytes : List ℕ) (xs : List Sign) → Says (sign at kind bytes ∷ xs) spell.goal (goal_by n kind at xs)
  unfolding minimize maximize
  goal_step at (kinds.Word words.Satisfy) bytes xs = λ qs m. (refl, m)
  goal_step at (kinds.Word words.Minimize) bytes xs = says_bind (sign at (kinds.Word words.Minimize) bytes ∷ xs) xs spell.expression spell.goal (expression n xs) _ (expression_says n xs) (λ r back qs m. (refl, back qs m))
  goal_step at (kinds.Word words.Maximize) bytes xs = says_bind (sign at (kinds.Word words.Maximize) bytes ∷ xs) xs spell.expression spell.goal (expression n xs) _ (expression_says n xs) (λ r back qs m. (refl, back qs m))
  goal_step at _ bytes xs = tt

  goal_says : (xs : List Sign) → Says xs spell.goal (goal n xs)
  unfolding goal first
  goal_says [] = tt
  goal_says (x ∷ xs) = goal_step x.at x.kind x.bytes xs

  solve_says : (x : Sign) (xs : List Sign) → x.kind ≡ kinds.Word words.Solve → Says (x ∷ xs) (λ form. begun_at x.at (form_patterns form)) (solve n depth xs)
  unfolding solve
  solve_says x xs is =
      says_bind (x ∷ xs) xs spell.annotations (λ form. begun_at x.at (form_patterns form)) (annotations n depth xs) _ (anns_says xs)
      (λ a b_a. says_bind (x ∷ xs) a.1 spell.goal (λ form. begun_at x.at (form_patterns form)) (goal n a.1) _ (goal_says a.1)
      (λ g b_g. says_bind (x ∷ xs) g.1 (λ (at : ℕ). placed at (spell.symbol symbols.Semicolon) ∷ []) (λ form. begun_at x.at (form_patterns form)) (after_symbol n symbols.Semicolon whats.Semicolon g.1) _ (symbol_says n symbols.Semicolon whats.Semicolon g.1)
      (λ s b_s qs m. let grouped : spell.annotations a.0 ++ (spell.goal g.0 ++ (spell.symbol symbols.Semicolon ∷ qs)) ≡ (spell.annotations a.0 ++ (spell.goal g.0 ++ spell.semicolon)) ++ qs = simp append_assoc in ((refl, is), subst (λ ps. Match ps xs) grouped (b_a (spell.goal g.0 ++ (spell.symbol symbols.Semicolon ∷ qs)) (b_g (spell.symbol symbols.Semicolon ∷ qs) (unplaced (kinds.Symbol symbols.Semicolon) s.0 qs g.1 (b_s qs m))))))))

  array_item_says : (x : Sign) (xs : List Sign) → x.kind ≡ kinds.Word words.Array → Says (x ∷ xs) (λ form. begun_at x.at (form_patterns form)) (array_item n depth xs)
  unfolding array_item
  array_item_says x xs is =
      says_bind (x ∷ xs) xs length_patterns (λ form. begun_at x.at (form_patterns form)) (array_length n xs) _ (length_says n xs)
      (λ len b_len. says_bind (x ∷ xs) len.1 element (λ form. begun_at x.at (form_patterns form)) (element_type n len.1) _ (element_type_says n len.1)
      (λ t b_t. says_bind (x ∷ xs) t.1 (λ (at : ℕ). placed at (spell.symbol symbols.Colon) ∷ []) (λ form. begun_at x.at (form_patterns form)) (after_symbol n symbols.Colon whats.Colon t.1) _ (symbol_says n symbols.Colon whats.Colon t.1)
      (λ c b_c. says_bind (x ∷ xs) c.1 spell.ident (λ form. begun_at x.at (form_patterns form)) (ident n whats.Name c.1) _ (ident_says n whats.Name c.1)
      (λ i b_i. says_bind (x ∷ xs) i.1 spell.annotations (λ form. begun_at x.at (form_patterns form)) (annotations n depth i.1) _ (anns_says i.1)
      (λ a b_a. says_bind (x ∷ xs) a.1 (λ (at : ℕ). placed at (spell.symbol symbols.Equals) ∷ []) (λ form. begun_at x.at (form_patterns form)) (after_symbol n symbols.Equals whats.Equals a.1) _ (symbol_says n symbols.Equals whats.Equals a.1)
      (λ eq b_eq. says_bind (x ∷ xs) eq.1 (λ (at : ℕ). placed at (spell.symbol symbols.OpenSquare) ∷ []) (λ form. begun_at x.at (form_patterns form)) (after_symbol n symbols.OpenSquare whats.OpenSquare eq.1) _ (symbol_says n symbols.OpenSquare whats.OpenSquare eq.1)
      (λ o b_o. says_bind (x ∷ xs) o.1 (λ is. closed spell.basic is symbols.CloseSquare) (λ form. begun_at x.at (form_patterns form)) (array n o.1) _ (array_says n o.1)
      (λ is_ b_is_. says_bind (x ∷ xs) is_.1 (λ (at : ℕ). placed at (spell.symbol symbols.Semicolon) ∷ []) (λ form. begun_at x.at (form_patterns form)) (after_symbol n symbols.Semicolon whats.Semicolon is_.1) _ (symbol_says n symbols.Semicolon whats.Semicolon is_.1)
      (λ s b_s qs m. let grouped : length_patterns len.0 ++ (spell.element_type t.0.0 t.0.1 ++ (spell.symbol symbols.Colon ∷ (spell.ident i.0 ++ (spell.annotations a.0 ++ (spell.symbol symbols.Equals ∷ (placed o.0 (spell.symbol symbols.OpenSquare) ∷ (closed spell.basic is_.0 symbols.CloseSquare ++ (spell.symbol symbols.Semicolon ∷ qs)))))))) ≡ (spell.symbol symbols.OpenSquare ∷ token (kinds.Int (pos 1)) ∷ spell.symbol symbols.DotDot ∷ (spell.integer len.0 ++ spell.symbol symbols.CloseSquare ∷ spell.word words.Of ∷ (spell.element_type t.0.0 t.0.1 ++ spell.symbol symbols.Colon ∷ (spell.ident i.0 ++ (spell.annotations a.0 ++ spell.symbol symbols.Equals ∷ (begun_at o.0 (spell.array is_.0) ++ spell.semicolon)))))) ++ qs = simp append_assoc in ((refl, is), subst (λ ps. Match ps xs) grouped (b_len (spell.element_type t.0.0 t.0.1 ++ (spell.symbol symbols.Colon ∷ (spell.ident i.0 ++ (spell.annotations a.0 ++ (spell.symbol symbols.Equals ∷ (placed o.0 (spell.symbol symbols.OpenSquare) ∷ (closed spell.basic is_.0 symbols.CloseSquare ++ (spell.symbol symbols.Semicolon ∷ qs)))))))) (b_t (spell.symbol symbols.Colon ∷ (spell.ident i.0 ++ (spell.annotations a.0 ++ (spell.symbol symbols.Equals ∷ (placed o.0 (spell.symbol symbols.OpenSquare) ∷ (closed spell.basic is_.0 symbols.CloseSquare ++ (spell.symbol symbols.Semicolon ∷ qs))))))) (unplaced (kinds.Symbol symbols.Colon) c.0 (spell.ident i.0 ++ (spell.annotations a.0 ++ (spell.symbol symbols.Equals ∷ (placed o.0 (spell.symbol symbols.OpenSquare) ∷ (closed spell.basic is_.0 symbols.CloseSquare ++ (spell.symbol symbols.Semicolon ∷ qs)))))) t.1 (b_c (spell.ident i.0 ++ (spell.annotations a.0 ++ (spell.symbol symbols.Equals ∷ (placed o.0 (spell.symbol symbols.OpenSquare) ∷ (closed spell.basic is_.0 symbols.CloseSquare ++ (spell.symbol symbols.Semicolon ∷ qs)))))) (b_i (spell.annotations a.0 ++ (spell.symbol symbols.Equals ∷ (placed o.0 (spell.symbol symbols.OpenSquare) ∷ (closed spell.basic is_.0 symbols.CloseSquare ++ (spell.symbol symbols.Semicolon ∷ qs))))) (b_a (spell.symbol symbols.Equals ∷ (placed o.0 (spell.symbol symbols.OpenSquare) ∷ (closed spell.basic is_.0 symbols.CloseSquare ++ (spell.symbol symbols.Semicolon ∷ qs)))) (unplaced (kinds.Symbol symbols.Equals) eq.0 (placed o.0 (spell.symbol symbols.OpenSquare) ∷ (closed spell.basic is_.0 symbols.CloseSquare ++ (spell.symbol symbols.Semicolon ∷ qs))) a.1 (b_eq (placed o.0 (spell.symbol symbols.OpenSquare) ∷ (closed spell.basic is_.0 symbols.CloseSquare ++ (spell.symbol symbols.Semicolon ∷ qs))) (b_o (closed spell.basic is_.0 symbols.CloseSquare ++ (spell.symbol symbols.Semicolon ∷ qs)) (b_is_ (spell.symbol symbols.Semicolon ∷ qs) (unplaced (kinds.Symbol symbols.Semicolon) s.0 qs is_.1 (b_s qs m))))))))))))))))))))))

  -- what is passed over, with the semicolon
  abbrev SaysSkipped : List Sign → Result (Form × List Sign) SyntaxFault → Type 0
  SaysSkipped zs (Ok q) = (q.0 ≡ forms.Predicate) × ((qs : List Pattern) → Match qs q.1 → Match (skipped ∷ spell.symbol symbols.Semicolon ∷ qs) zs)
  SaysSkipped zs (Err e) = Unit {0}

  passed_over : (x : Sign) (xs : List Sign) (qs : List Pattern) → (x.kind ≡ kinds.Symbol symbols.Semicolon → ⊥) → Match (skipped ∷ qs) xs → Match (skipped ∷ qs) (x ∷ xs)
  passed_over x xs qs other m = (x ∷ m.0, m.1, ap (λ ys. x ∷ ys) m.2, All-cons IsSkipped x m.0 other m.3, m.4)

  predicate_step : (x : Sign) (xs : List Sign) (b : Bool) → is_symbol symbols.Semicolon x.kind ≡ b → SaysSkipped xs (predicate n xs) → SaysSkipped (x ∷ xs) (cond b (Ok (forms.Predicate, xs)) (predicate n xs))
  predicate_step x xs true is rest = (refl, λ qs m. ([], x ∷ xs, refl, All-nil IsSkipped, (symbol_is symbols.Semicolon x.kind is, m)))
  predicate_step x xs false is rest = onward (predicate n xs) rest
    where
      onward : (r : Result (Form × List Sign) SyntaxFault) → SaysSkipped xs r → SaysSkipped (x ∷ xs) r
      onward (Ok q) h = (h.0, λ qs m. passed_over x xs (spell.symbol symbols.Semicolon ∷ qs) (λ e. let bad : true ≡ false = sym (ap (is_symbol symbols.Semicolon) e) ∙ is in cc) (h.1 qs m))
      onward (Err e) h = tt

  predicate_says : (xs : List Sign) → SaysSkipped xs (predicate n xs)
  unfolding predicate
  predicate_says [] = tt
  predicate_says (x ∷ xs) = predicate_step x xs (is_symbol symbols.Semicolon x.kind) refl (predicate_says xs)

  skipped_says : (x : Sign) (xs : List Sign) (r : Result (Form × List Sign) SyntaxFault) → x.kind ≡ kinds.Word words.Predicate → SaysSkipped xs r → Says (x ∷ xs) (λ form. begun_at x.at (form_patterns form)) r
  skipped_says x xs (Ok q) is h = λ qs m. subst (λ (form : Form). Match (begun_at x.at (form_patterns form) ++ qs) (x ∷ xs)) (sym h.0) ((refl, is), h.1 qs m)
  skipped_says x xs (Err e) is h = tt

  form_step : (at : ℕ) (kind : TokenKind) (bytes : List ℕ) (xs : List Sign) → Says (sign at kind bytes ∷ xs) (λ form. begun_at at (form_patterns form)) (item_by n depth kind at xs)
  form_step at (kinds.Word words.Predicate) bytes xs = skipped_says (sign at (kinds.Word words.Predicate) bytes) xs (predicate n xs) refl (predicate_says xs)
  form_step at (kinds.Word words.Bool) bytes xs = param_says (sign at (kinds.Word words.Bool) bytes ∷ xs) xs at (record { at = at; form = types.Bool }) (placed at (placed at (spell.word words.Bool)) ∷ []) (λ rest. refl) (λ qs m. ((refl, (refl, refl)), m))
  form_step at (kinds.Word words.Int) bytes xs = param_says (sign at (kinds.Word words.Int) bytes ∷ xs) xs at (record { at = at; form = types.Int }) (placed at (placed at (spell.word words.Int)) ∷ []) (λ rest. refl) (λ qs m. ((refl, (refl, refl)), m))
  form_step at (kinds.Word words.Float) bytes xs = param_says (sign at (kinds.Word words.Float) bytes ∷ xs) xs at (record { at = at; form = types.Float }) (placed at (placed at (spell.word words.Float)) ∷ []) (λ rest. refl) (λ qs m. ((refl, (refl, refl)), m))
  form_step at (kinds.Word words.Set) bytes xs = set_param_says (sign at (kinds.Word words.Set) bytes) xs refl
  form_step at (kinds.Word words.Var) bytes xs = variable_says (sign at (kinds.Word words.Var) bytes) xs refl
  form_step at (kinds.Word words.Array) bytes xs = array_item_says (sign at (kinds.Word words.Array) bytes) xs refl
  form_step at (kinds.Word words.Constraint) bytes xs = constraint_says (sign at (kinds.Word words.Constraint) bytes) xs refl
  form_step at (kinds.Word words.Solve) bytes xs = solve_says (sign at (kinds.Word words.Solve) bytes) xs refl
  form_step at _ bytes xs = tt

  item_says : (xs : List Sign) → Says xs item_patterns (item n depth xs)
  unfolding item first
  item_says [] = tt
  item_says (x ∷ xs) = says_bind (x ∷ xs) (x ∷ xs) (λ form. begun_at x.at (form_patterns form)) item_patterns (item_by n depth x.kind x.at xs) _ (form_step x.at x.kind x.bytes xs) (λ r back. back)

  -- ---- the model

  abbrev pub SaysAll : List Sign → Result (List Item) SyntaxFault → Type 0
  SaysAll zs (Ok is) = Match (spell.model is) zs
  SaysAll zs (Err e) = Unit {0}

  solve_last : (form : Form) → is_solve form ≡ true → form_patterns form ≡ spell.solve_form form
  solve_last (forms.Solve a g) is = refl
  solve_last forms.Predicate is = absurd (cc)
  solve_last (forms.Param a b c d) is = absurd (cc)
  solve_last (forms.Variable a b c d) is = absurd (cc)
  solve_last (forms.Array a b c d e f g) is = absurd (cc)
  solve_last (forms.Constraint a b c) is = absurd (cc)

  not_last : (form : Form) → is_solve form ≡ false → form_patterns form ≡ spell.item_form form
  not_last (forms.Solve a g) is = absurd (cc)
  not_last forms.Predicate is = refl
  not_last (forms.Param a b c d) is = refl
  not_last (forms.Variable a b c d) is = refl
  not_last (forms.Array a b c d e f g) is = refl
  not_last (forms.Constraint a b c) is = refl

  end_says : (zs : List Sign) (i : Item) (ys : List Sign) → Back zs item_patterns (i, ys) → is_solve i.form ≡ true → SaysAll zs (at_end ys >>= (λ is. Ok (i ∷ is)))
  end_says zs i [] back is = subst (λ (ps : List Pattern). Match ps zs) (append-nil (item_patterns i) ∙ ap (begun_at i.at) (solve_last i.form is)) (back [] refl)
  end_says zs i (y ∷ ys) back is = tt

  none_first : (ys : List Sign) → Match (none ∷ []) ys → ⊥
  none_first [] m = m
  none_first (y ∷ ys) m = m.0

  more_says : (zs : List Sign) (i : Item) (ys : List Sign) (r : Result (List Item) SyntaxFault) → Back zs item_patterns (i, ys) → is_solve i.form ≡ false → SaysAll ys r → SaysAll zs (r >>= (λ is. Ok (i ∷ is)))
  more_says zs i ys (Ok []) back is h = absurd (none_first ys h)
  more_says zs i ys (Ok (j ∷ js)) back is h = subst (λ (ps : List Pattern). Match (begun_at i.at ps ++ spell.model (j ∷ js)) zs) (not_last i.form is) (back (spell.model (j ∷ js)) h)
  more_says zs i ys (Err e) back is h = tt

  one_says_all : (zs : List Sign) (rest : List Sign → Result (List Item) SyntaxFault) (i : Item) (ys : List Sign) (b : Bool) → is_solve i.form ≡ b → Back zs item_patterns (i, ys) → SaysAll ys (rest ys)
      → SaysAll zs (cond b (at_end ys) (rest ys) >>= (λ is. Ok (i ∷ is)))
  one_says_all zs rest i ys true is back h = end_says zs i ys back is
  one_says_all zs rest i ys false is back h = more_says zs i ys (rest ys) back is h

  bind_says_all : (zs : List Sign) (r : Result (Item × List Sign) SyntaxFault) (rest : List Sign → Result (List Item) SyntaxFault) → Says zs item_patterns r → ((ys : List Sign) → SaysAll ys (rest ys)) → SaysAll zs (r >>= one_item rest)
  bind_says_all zs (Ok q) rest h more = one_says_all zs rest q.0 q.1 (is_solve q.0.form) refl h (more q.1)
  bind_says_all zs (Err e) rest h more = tt

  items_in_says : (turns : ℕ) (xs : List Sign) → SaysAll xs (items_in n depth turns xs)
  unfolding items_in
  items_in_says zero xs = tt
  items_in_says (suc turns) xs = bind_says_all xs (item n depth xs) (items_in n depth turns) (item_says xs) (items_in_says turns)

  -- the tokens that are read spell the items
  pub model_says : (xs : List Sign) → SaysAll xs (model n depth xs)
  unfolding model
  model_says xs = items_in_says (length xs) xs
