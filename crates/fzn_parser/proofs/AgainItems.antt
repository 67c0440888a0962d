-- Items and whole models are read again, where no more tokens are there than brackets may be open.
use Rattle.std.proofs.Common.{◌≡◌, ℕ, zero, suc, ◌<◌, ◌≤◌, Bool, true, false, length, arith, List, [], ◌∷◌, ◌++◌, All, Option, Some, None, Result, Ok, sym, refl, ap, ◌∙◌, subst, append_assoc, pos}
use Rattle.std.proofs.lemmas.Bool.{cond-true, cond-false}
use Rattle.std.proofs.lemmas.List.{append-nil}
use Rattle.std.proofs.lemmas.List.Elements.{All-head, All-tail}
use Rattle.fzn_reader.specs.declared.tokens.TokenKind.{TokenKind}
use Rattle.fzn_reader.specs.declared.tokens.TokenKind.TheVariants as kinds
use Rattle.fzn_reader.specs.declared.tokens.Word.TheVariants as words
use Rattle.fzn_reader.specs.declared.tokens.Symbol.{Symbol}
use Rattle.fzn_reader.specs.declared.tokens.Symbol.TheVariants as symbols
use Rattle.fzn_parser.specs.declared.faults.What.TheVariants as whats
use Rattle.fzn_parser.specs.declared.faults.SyntaxFault.{SyntaxFault}
use Rattle.fzn_parser.specs.declared.tree.Num.TheVariants as nums
use Rattle.fzn_parser.specs.declared.tree.Number.{Number}
use Rattle.fzn_parser.specs.declared.tree.Basic.{Basic}
use Rattle.fzn_parser.specs.declared.tree.Expr.{Expr}
use Rattle.fzn_parser.specs.declared.tree.Ident.{Ident}
use Rattle.fzn_parser.specs.declared.tree.TypeExpr.{TypeExpr}
use Rattle.fzn_parser.specs.declared.tree.TypeForm.{TypeForm}
use Rattle.fzn_parser.specs.declared.tree.TypeForm.TheVariants as types
use Rattle.fzn_parser.specs.declared.tree.Ann.{Ann}
use Rattle.fzn_parser.specs.declared.tree.GoalForm.{GoalForm}
use Rattle.fzn_parser.specs.declared.tree.GoalForm.TheVariants as goals
use Rattle.fzn_parser.specs.declared.tree.Form.{Form}
use Rattle.fzn_parser.specs.declared.tree.Form.TheVariants as forms
use Rattle.fzn_parser.specs.declared.tree.Item.{Item}
use Rattle.fzn_parser.specs.Grammar as spell
use Rattle.fzn_parser.specs.Grammar.{Sign, Pattern, skipped, none, IsSkipped, Match, Fits, begun_at, closed, token, placed}
use Rattle.fzn_parser.specs.ToCome.{is_symbol}
use Rattle.fzn_parser.specs.Reading.{◌>>=◌, first, a_list, integer_by, integer, ident, array, expression, value, set_of_int, var_type, element_type, annotations, param, set_param, variable, array_length, array_item, constraint, predicate, minimize, maximize, goal_by, goal, solve, item_by, item, is_solve, at_end, one_item, items_in, model}
use Rattle.fzn_parser.proofs.SameKinds.{symbol_is}
use Rattle.fzn_parser.proofs.Leaves.{ident_keeps, set_of_int_keeps, var_type_keeps, array_length_keeps, element_type_keeps, a_list_keeps, expression_keeps, item_takes, takes_shrinks}
use Rattle.fzn_parser.proofs.SoundsParts.{var_rest}
use Rattle.fzn_parser.proofs.Again.{Again, again_bind, Avoids, ident_again}
use Rattle.fzn_parser.proofs.AgainExpressions.{array_again, expression_again, arguments_again, value_again}
use Rattle.fzn_parser.proofs.AgainTypes.{must_bind, placed_bind, read_bind, type_of, set_of_int_again, var_type_again, element_type_again}
use Rattle.fzn_parser.proofs.AgainAnnotations.{annotations_again}

-- ---- what follows annotations and values

next_symbol : (s t : Symbol) (qs : List Pattern) → is_symbol s (kinds.Symbol t) ≡ false → Avoids s (spell.symbol t ∷ qs)
next_symbol s t qs apart = λ y ys m. ap (is_symbol s) m.0 ∙ apart

next_value : (s : Symbol) (v : Option Expr) (qs : List Pattern) → is_symbol s (kinds.Symbol symbols.Equals) ≡ false → is_symbol s (kinds.Symbol symbols.Semicolon) ≡ false → Avoids s (spell.value v ++ (spell.symbol symbols.Semicolon ∷ qs))
next_value s None qs equals semicolon = next_symbol s symbols.Semicolon qs semicolon
next_value s (Some e) qs equals semicolon = next_symbol s symbols.Equals (spell.expression e ++ (spell.symbol symbols.Semicolon ∷ qs)) equals

next_goal : (s : Symbol) (g : GoalForm) (qs : List Pattern) → Avoids s (spell.goal g ++ qs)
next_goal s goals.Satisfy qs = λ y ys m. ap (is_symbol s) m.0
next_goal s (goals.Minimize e) qs = λ y ys m. ap (is_symbol s) m.0
next_goal s (goals.Maximize e) qs = λ y ys m. ap (is_symbol s) m.0

-- ---- INT

integer_read : (at : ℕ) (num : nums.the_data) (x : Sign) → Fits (placed at (spell.integer_num num)) x → integer_by x.kind x.at ≡ (let w : Number = record { at = at; num = num } in Ok w)
integer_read at (nums.Int z) x f = ap (λ k. integer_by k x.at) f.1 ∙ ap (λ p. let w : Number = record { at = p; num = nums.Int z } in Ok w) f.0
integer_read at nums.Large x f = ap (λ k. integer_by k x.at) f.1 ∙ ap (λ p. let w : Number = record { at = p; num = nums.Large } in Ok w) f.0
integer_read at nums.Float x f = absurd f.1

integer_again : (n : ℕ) (v : Number) (qs : List Pattern) (xs : List Sign) → Match (spell.integer v ++ qs) xs → Again (integer n xs) v qs
unfolding integer first
integer_again n v qs [] m = absurd m
integer_again n v qs (x ∷ xs) m = record { ys = xs; read = ap (λ (r : Result Number SyntaxFault). r >>= (λ w. Ok (w, xs))) (integer_read v.at v.num x m.0); fits = m.1 }

module _ (n depth : ℕ) where
  -- ---- parameters

  param_again : (sort : TypeExpr) (name : Ident) (anns : List Ann) (e : Expr) (qs : List Pattern) (xs : List Sign) → length xs ≤ depth
      → Match (spell.symbol symbols.Colon ∷ (spell.ident name ++ (spell.annotations anns ++ (spell.symbol symbols.Equals ∷ (spell.expression e ++ (spell.symbol symbols.Semicolon ∷ qs)))))) xs
      → Again (param n depth sort xs) (forms.Param sort name anns e) qs
  unfolding param
  param_again sort name anns e qs xs l m =
      let f : Form = forms.Param sort name anns e in
      let p3 : List Pattern = spell.expression e ++ (spell.symbol symbols.Semicolon ∷ qs) in
      let p2 : List Pattern = spell.symbol symbols.Equals ∷ p3 in
      let p1 : List Pattern = spell.annotations anns ++ p2 in
      must_bind n depth (kinds.Symbol symbols.Colon) whats.Colon _ f (spell.ident name ++ p1) qs xs l m
      (λ c ys l1 m1. read_bind depth (ident n whats.Name) _ name f p1 qs ys (ident_keeps n whats.Name) l1 (ident_again n whats.Name name p1 ys m1)
      (λ zs l2 m2. again_bind (annotations n depth zs) _ anns f p2 qs (annotations_again n depth anns p2 zs l2 (next_symbol symbols.ColonColon symbols.Equals p3 refl) (next_symbol symbols.OpenRound symbols.Equals p3 refl) m2)
      (λ us h m3. must_bind n (length us) (kinds.Symbol symbols.Equals) whats.Equals _ f p3 qs us (omega arith) m3
      (λ c vs l4 m4. again_bind (expression n vs) _ e f (spell.symbol symbols.Semicolon ∷ qs) qs (expression_again n e (spell.symbol symbols.Semicolon ∷ qs) vs (next_symbol symbols.DotDot symbols.Semicolon qs refl) m4)
      (λ ws h m5. must_bind n (length ws) (kinds.Symbol symbols.Semicolon) whats.Semicolon _ f qs qs ws (omega arith) m5 (λ c ts l6 m6. record { ys = ts; read = refl; fits = m6 }))))))

  set_param_again : (at : ℕ) (name : Ident) (anns : List Ann) (e : Expr) (qs : List Pattern) (xs : List Sign) → length xs ≤ depth
      → Match (spell.word words.Of ∷ placed at (spell.word words.Int) ∷ spell.symbol symbols.Colon ∷ (spell.ident name ++ (spell.annotations anns ++ (spell.symbol symbols.Equals ∷ (spell.expression e ++ (spell.symbol symbols.Semicolon ∷ qs)))))) xs
      → Again (set_param n depth xs) (forms.Param (type_of at types.SetOfInt) name anns e) qs
  unfolding set_param
  set_param_again at name anns e qs xs l m =
      let rest : List Pattern = spell.symbol symbols.Colon ∷ (spell.ident name ++ (spell.annotations anns ++ (spell.symbol symbols.Equals ∷ (spell.expression e ++ (spell.symbol symbols.Semicolon ∷ qs))))) in
      read_bind depth (set_of_int n) _ (type_of at types.SetOfInt) (forms.Param (type_of at types.SetOfInt) name anns e) rest qs xs (set_of_int_keeps n) l (set_of_int_again n at rest xs m)
      (λ ys l1 m1. param_again (type_of at types.SetOfInt) name anns e qs ys l1 m1)

  -- ---- variables

  variable_again : (sort : TypeExpr) (name : Ident) (anns : List Ann) (v : Option Expr) (qs : List Pattern) (xs : List Sign) → length xs ≤ depth
      → Match (var_rest sort ++ (spell.symbol symbols.Colon ∷ (spell.ident name ++ (spell.annotations anns ++ (spell.value v ++ (spell.symbol symbols.Semicolon ∷ qs)))))) xs
      → Again (variable n depth xs) (forms.Variable sort name anns v) qs
  unfolding variable
  variable_again sort name anns v qs xs l m =
      let f : Form = forms.Variable sort name anns v in
      let p2 : List Pattern = spell.value v ++ (spell.symbol symbols.Semicolon ∷ qs) in
      let p1 : List Pattern = spell.annotations anns ++ p2 in
      let p0 : List Pattern = spell.symbol symbols.Colon ∷ (spell.ident name ++ p1) in
      read_bind depth (var_type n) _ sort f p0 qs xs (var_type_keeps n) l (var_type_again n sort p0 xs m)
      (λ ys l0 m0. must_bind n depth (kinds.Symbol symbols.Colon) whats.Colon _ f (spell.ident name ++ p1) qs ys l0 m0
      (λ c ys l1 m1. read_bind depth (ident n whats.Name) _ name f p1 qs ys (ident_keeps n whats.Name) l1 (ident_again n whats.Name name p1 ys m1)
      (λ zs l2 m2. again_bind (annotations n depth zs) _ anns f p2 qs (annotations_again n depth anns p2 zs l2 (next_value symbols.ColonColon v qs refl refl) (next_value symbols.OpenRound v qs refl refl) m2)
      (λ us h m3. again_bind (value n us) _ v f (spell.symbol symbols.Semicolon ∷ qs) qs
      (value_again n v (spell.symbol symbols.Semicolon ∷ qs) us (next_symbol symbols.Equals symbols.Semicolon qs refl) (next_symbol symbols.DotDot symbols.Semicolon qs refl) m3)
      (λ ws h m5. must_bind n (length ws) (kinds.Symbol symbols.Semicolon) whats.Semicolon _ f qs qs ws (omega arith) m5 (λ c ts l6 m6. record { ys = ts; read = refl; fits = m6 }))))))

  -- ---- arrays

  length_again : (len : Number) (qs : List Pattern) (xs : List Sign)
      → Match (spell.symbol symbols.OpenSquare ∷ token (kinds.Int (pos 1)) ∷ spell.symbol symbols.DotDot ∷ (spell.integer len ++ (spell.symbol symbols.CloseSquare ∷ spell.word words.Of ∷ qs))) xs
      → Again (array_length n xs) len qs
  unfolding array_length
  length_again len qs xs m =
      let k : ℕ = length xs in
      let p4 : List Pattern = spell.symbol symbols.CloseSquare ∷ spell.word words.Of ∷ qs in
      let p3 : List Pattern = spell.integer len ++ p4 in
      must_bind n k (kinds.Symbol symbols.OpenSquare) whats.OpenSquare _ len (token (kinds.Int (pos 1)) ∷ spell.symbol symbols.DotDot ∷ p3) qs xs (omega arith) m
      (λ c ys l1 m1. must_bind n k (kinds.Int (pos 1)) whats.One _ len (spell.symbol symbols.DotDot ∷ p3) qs ys l1 m1
      (λ c ys l2 m2. must_bind n k (kinds.Symbol symbols.DotDot) whats.Range _ len p3 qs ys l2 m2
      (λ c ys l3 m3. again_bind (integer n ys) _ len len p4 qs (integer_again n len p4 ys m3)
      (λ zs h m4. must_bind n (length zs) (kinds.Symbol symbols.CloseSquare) whats.CloseSquare _ len (spell.word words.Of ∷ qs) qs zs (omega arith) m4
      (λ c us l5 m5. must_bind n (length zs) (kinds.Word words.Of) whats.Of _ len qs qs us l5 m5 (λ c ts l6 m6. record { ys = ts; read = refl; fits = m6 }))))))

  array_item_again : (len : Number) (is_var : Bool) (sort : TypeExpr) (name : Ident) (anns : List Ann) (items_at : ℕ) (items : List Basic) (qs : List Pattern) (xs : List Sign) → length xs ≤ depth
      → Match (spell.symbol symbols.OpenSquare ∷ token (kinds.Int (pos 1)) ∷ spell.symbol symbols.DotDot ∷ (spell.integer len ++ (spell.symbol symbols.CloseSquare ∷ spell.word words.Of ∷ (spell.element_type is_var sort
      ++ (spell.symbol symbols.Colon ∷ (spell.ident name ++ (spell.annotations anns ++ (spell.symbol symbols.Equals ∷ (placed items_at (spell.symbol symbols.OpenSquare) ∷ (closed spell.basic items symbols.CloseSquare ++ (spell.symbol symbols.Semicolon ∷ qs))))))))))) xs
      → Again (array_item n depth xs) (forms.Array len is_var sort name anns items_at items) qs
  unfolding array_item
  array_item_again len is_var sort name anns items_at items qs xs l m =
      let f : Form = forms.Array len is_var sort name anns items_at items in
      let p5 : List Pattern = closed spell.basic items symbols.CloseSquare ++ (spell.symbol symbols.Semicolon ∷ qs) in
      let p4 : List Pattern = placed items_at (spell.symbol symbols.OpenSquare) ∷ p5 in
      let p3 : List Pattern = spell.symbol symbols.Equals ∷ p4 in
      let p2 : List Pattern = spell.annotations anns ++ p3 in
      let p1 : List Pattern = spell.symbol symbols.Colon ∷ (spell.ident name ++ p2) in
      let p0 : List Pattern = spell.element_type is_var sort ++ p1 in
      read_bind depth (array_length n) _ len f p0 qs xs (array_length_keeps n) l (length_again len p0 xs m)
      (λ ys l0 m0. read_bind depth (element_type n) _ (is_var, sort) f p1 qs ys (element_type_keeps n) l0 (element_type_again n is_var sort p1 ys m0)
      (λ ys l1 m1. must_bind n depth (kinds.Symbol symbols.Colon) whats.Colon _ f (spell.ident name ++ p2) qs ys l1 m1
      (λ c ys l2 m2. read_bind depth (ident n whats.Name) _ name f p2 qs ys (ident_keeps n whats.Name) l2 (ident_again n whats.Name name p2 ys m2)
      (λ zs l3 m3. again_bind (annotations n depth zs) _ anns f p3 qs (annotations_again n depth anns p3 zs l3 (next_symbol symbols.ColonColon symbols.Equals p4 refl) (next_symbol symbols.OpenRound symbols.Equals p4 refl) m3)
      (λ us h m4. must_bind n (length us) (kinds.Symbol symbols.Equals) whats.Equals _ f p4 qs us (omega arith) m4
      (λ c vs l5 m5. placed_bind n (length us) items_at (kinds.Symbol symbols.OpenSquare) whats.OpenSquare _ f p5 qs vs l5 m5
      (λ ws l6 m6. again_bind (array n ws) _ items f (spell.symbol symbols.Semicolon ∷ qs) qs (array_again n items (spell.symbol symbols.Semicolon ∷ qs) ws m6)
      (λ rs h m7. must_bind n (length rs) (kinds.Symbol symbols.Semicolon) whats.Semicolon _ f qs qs rs (omega arith) m7 (λ c ts l8 m8. record { ys = ts; read = refl; fits = m8 })))))))))

  -- ---- constraints

  constraint_again : (name : Ident) (list : List Expr) (anns : List Ann) (qs : List Pattern) (xs : List Sign) → length xs ≤ depth
      → Match (spell.ident name ++ (spell.symbol symbols.OpenRound ∷ (closed spell.expression list symbols.CloseRound ++ (spell.annotations anns ++ (spell.symbol symbols.Semicolon ∷ qs))))) xs
      → Again (constraint n depth xs) (forms.Constraint name list anns) qs
  unfolding constraint
  constraint_again name list anns qs xs l m =
      let f : Form = forms.Constraint name list anns in
      let p3 : List Pattern = spell.symbol symbols.Semicolon ∷ qs in
      let p2 : List Pattern = spell.annotations anns ++ p3 in
      let p1 : List Pattern = closed spell.expression list symbols.CloseRound ++ p2 in
      let p0 : List Pattern = spell.symbol symbols.OpenRound ∷ p1 in
      read_bind depth (ident n whats.Name) _ name f p0 qs xs (ident_keeps n whats.Name) l (ident_again n whats.Name name p0 xs m)
      (λ ys l0 m0. must_bind n depth (kinds.Symbol symbols.OpenRound) whats.OpenRound _ f p1 qs ys l0 m0
      (λ c ys l1 m1. read_bind depth (a_list n (expression n) symbols.CloseRound whats.CommaOrRound) _ list f p2 qs ys (a_list_keeps n (expression n) symbols.CloseRound whats.CommaOrRound (expression_keeps n)) l1 (arguments_again n list p2 ys m1)
      (λ zs l2 m2. again_bind (annotations n depth zs) _ anns f p3 qs (annotations_again n depth anns p3 zs l2 (next_symbol symbols.ColonColon symbols.Semicolon qs refl) (next_symbol symbols.OpenRound symbols.Semicolon qs refl) m2)
      (λ ws h m3. must_bind n (length ws) (kinds.Symbol symbols.Semicolon) whats.Semicolon _ f qs qs ws (omega arith) m3 (λ c ts l4 m4. record { ys = ts; read = refl; fits = m4 })))))

  -- ---- predicate items

  skip_to : (front back : List Sign) (qs : List Pattern) → All IsSkipped front → Match (spell.symbol symbols.Semicolon ∷ qs) back → Again (predicate n (front ++ back)) forms.Predicate qs
  unfolding predicate
  skip_to [] [] qs over m = absurd m
  skip_to [] (x ∷ xs) qs over m = record { ys = xs; read = cond-true (is_symbol symbols.Semicolon x.kind) (Ok (forms.Predicate, xs)) (predicate n xs) (ap (is_symbol symbols.Semicolon) m.0); fits = m.1 }
  skip_to (x ∷ xs) back qs over m =
      let h = skip_to xs back qs (All-tail IsSkipped x xs over) m in
      record { ys = h.ys; read = cond-false (is_symbol symbols.Semicolon x.kind) (Ok (forms.Predicate, xs ++ back)) (predicate n (xs ++ back)) (other (is_symbol symbols.Semicolon x.kind) refl) ∙ h.read; fits = h.fits }
    where
      other : (b : Bool) → is_symbol symbols.Semicolon x.kind ≡ b → is_symbol symbols.Semicolon x.kind ≡ false
      other true is = absurd (All-head IsSkipped x xs over (symbol_is symbols.Semicolon x.kind is))
      other false is = is

  predicate_again : (qs : List Pattern) (xs : List Sign) → Match (skipped ∷ spell.symbol symbols.Semicolon ∷ qs) xs → Again (predicate n xs) forms.Predicate qs
  predicate_again qs xs m = subst (λ zs. Again (predicate n zs) forms.Predicate qs) (sym m.2) (skip_to m.0 m.1 qs m.3 m.4)

  -- ---- the solve item

  goal_as : (x : Sign) (xs : List Sign) (kind : TokenKind) (g : GoalForm) (qs : List Pattern) → x.kind ≡ kind → Again (goal_by n kind x.at xs) g qs → Again (goal n (x ∷ xs)) g qs
  unfolding goal first
  goal_as x xs kind g qs is h = record { ys = h.ys; read = ap (λ c. goal_by n c x.at xs) is ∙ h.read; fits = h.fits }

  goal_again : (g : GoalForm) (qs : List Pattern) (xs : List Sign) → Avoids symbols.DotDot qs → Match (spell.goal g ++ qs) xs → Again (goal n xs) g qs
  unfolding minimize maximize
  goal_again goals.Satisfy qs [] avoids m = absurd m
  goal_again goals.Satisfy qs (x ∷ xs) avoids m = goal_as x xs (kinds.Word words.Satisfy) goals.Satisfy qs m.0 (record { ys = xs; read = refl; fits = m.1 })
  goal_again (goals.Minimize e) qs [] avoids m = absurd m
  goal_again (goals.Minimize e) qs (x ∷ xs) avoids m =
      goal_as x xs (kinds.Word words.Minimize) (goals.Minimize e) qs m.0 (again_bind (expression n xs) _ e (goals.Minimize e) qs qs (expression_again n e qs xs avoids m.1) (λ ys h k. record { ys = ys; read = refl; fits = k }))
  goal_again (goals.Maximize e) qs [] avoids m = absurd m
  goal_again (goals.Maximize e) qs (x ∷ xs) avoids m =
      goal_as x xs (kinds.Word words.Maximize) (goals.Maximize e) qs m.0 (again_bind (expression n xs) _ e (goals.Maximize e) qs qs (expression_again n e qs xs avoids m.1) (λ ys h k. record { ys = ys; read = refl; fits = k }))

  solve_again : (anns : List Ann) (g : GoalForm) (qs : List Pattern) (xs : List Sign) → length xs ≤ depth → Match (spell.annotations anns ++ (spell.goal g ++ (spell.symbol symbols.Semicolon ∷ qs))) xs → Again (solve n depth xs) (forms.Solve anns g) qs
  unfolding solve
  solve_again anns g qs xs l m =
      let f : Form = forms.Solve anns g in
      let p1 : List Pattern = spell.symbol symbols.Semicolon ∷ qs in
      let p0 : List Pattern = spell.goal g ++ p1 in
      again_bind (annotations n depth xs) _ anns f p0 qs (annotations_again n depth anns p0 xs l (next_goal symbols.ColonColon g p1) (next_goal symbols.OpenRound g p1) m)
      (λ ys h m1. again_bind (goal n ys) _ g f p1 qs (goal_again g p1 ys (next_symbol symbols.DotDot symbols.Semicolon qs refl) m1)
      (λ ws h m2. must_bind n (length ws) (kinds.Symbol symbols.Semicolon) whats.Semicolon _ f qs qs ws (omega arith) m2 (λ c ts l3 m3. record { ys = ts; read = refl; fits = m3 })))

  -- ---- items

  abbrev item_of : ℕ → Form → Item
  item_of at form = record { at = at; form = form }

  by_kind : (x : Sign) (xs : List Sign) (kind : TokenKind) (at : ℕ) (form : Form) (qs : List Pattern) → x.kind ≡ kind → x.at ≡ at → Again (item_by n depth kind at xs) form qs → Again (item n depth (x ∷ xs)) (item_of at form) qs
  unfolding item first
  by_kind x xs kind at form qs is place h = record {
    ys = h.ys;
    read = ap (λ c. item_by n depth c x.at xs >>= (λ f. Ok (item_of x.at f.0, f.1))) is
        ∙ (ap (λ p. item_by n depth kind p xs >>= (λ f. Ok (item_of p f.0, f.1))) place ∙ ap (λ q. q >>= (λ f. Ok (item_of at f.0, f.1))) h.read);
    fits = h.fits;
  }

  -- patterns one after the other
  abbrev param_tail : Ident → List Ann → Expr → List Pattern
  param_tail name anns e = spell.symbol symbols.Colon ∷ (spell.ident name ++ (spell.annotations anns ++ spell.symbol symbols.Equals ∷ (spell.expression e ++ spell.semicolon)))

  param_apart : (name : Ident) (anns : List Ann) (e : Expr) (qs : List Pattern)
      → param_tail name anns e ++ qs ≡ spell.symbol symbols.Colon ∷ (spell.ident name ++ (spell.annotations anns ++ (spell.symbol symbols.Equals ∷ (spell.expression e ++ (spell.symbol symbols.Semicolon ∷ qs)))))
  param_apart name anns e qs = simp append_assoc

  -- a parameter whose type is one word
  word_param : (x : Sign) (xs : List Sign) (at sort_at : ℕ) (kind : TokenKind) (form : TypeForm) (name : Ident) (anns : List Ann) (e : Expr) (qs : List Pattern) → length xs ≤ depth → x.kind ≡ kind → x.at ≡ at → x.at ≡ sort_at
      → item_by n depth kind at xs ≡ param n depth (type_of at form) xs → Match (param_tail name anns e ++ qs) xs → Again (item n depth (x ∷ xs)) (item_of at (forms.Param (type_of sort_at form) name anns e)) qs
  word_param x xs at sort_at kind form name anns e qs l is place same by m =
      subst (λ p. Again (item n depth (x ∷ xs)) (item_of at (forms.Param (type_of p form) name anns e)) qs) (sym place ∙ same)
      (by_kind x xs kind at (forms.Param (type_of at form) name anns e) qs is place
      (let h = param_again (type_of at form) name anns e qs xs l (subst (λ ps. Match ps xs) (param_apart name anns e qs) m) in record { ys = h.ys; read = by ∙ h.read; fits = h.fits }))

  param_item : (at sort_at : ℕ) (form : TypeForm) (name : Ident) (anns : List Ann) (e : Expr) (qs : List Pattern) (x : Sign) (xs : List Sign) → length xs ≤ depth
      → Match (begun_at at (spell.item_form (forms.Param (type_of sort_at form) name anns e)) ++ qs) (x ∷ xs) → Again (item n depth (x ∷ xs)) (item_of at (forms.Param (type_of sort_at form) name anns e)) qs
  param_item at sort_at types.Bool name anns e qs x xs l m = word_param x xs at sort_at (kinds.Word words.Bool) types.Bool name anns e qs l m.0.1.1 m.0.0 m.0.1.0 refl m.1
  param_item at sort_at types.Int name anns e qs x xs l m = word_param x xs at sort_at (kinds.Word words.Int) types.Int name anns e qs l m.0.1.1 m.0.0 m.0.1.0 refl m.1
  param_item at sort_at types.Float name anns e qs x xs l m = word_param x xs at sort_at (kinds.Word words.Float) types.Float name anns e qs l m.0.1.1 m.0.0 m.0.1.0 refl m.1
  param_item at sort_at types.SetOfInt name anns e qs x xs l m =
      by_kind x xs (kinds.Word words.Set) at (forms.Param (type_of sort_at types.SetOfInt) name anns e) qs m.0.1 m.0.0
      (set_param_again sort_at name anns e qs xs l (subst (λ ps. Match (spell.word words.Of ∷ placed sort_at (spell.word words.Int) ∷ ps) xs) (param_apart name anns e qs) m.1))
  param_item at sort_at (types.Within s) name anns e qs x xs l m = absurd m.0.1
  param_item at sort_at (types.SetWithin s) name anns e qs x xs l m = absurd m.0.1

  variable_apart : (sort : TypeExpr) (name : Ident) (anns : List Ann) (v : Option Expr) (qs : List Pattern)
      → (var_rest sort ++ spell.symbol symbols.Colon ∷ (spell.ident name ++ (spell.annotations anns ++ (spell.value v ++ spell.semicolon)))) ++ qs
      ≡ var_rest sort ++ (spell.symbol symbols.Colon ∷ (spell.ident name ++ (spell.annotations anns ++ (spell.value v ++ (spell.symbol symbols.Semicolon ∷ qs)))))
  variable_apart sort name anns v qs = simp append_assoc

  array_apart : (len : Number) (is_var : Bool) (sort : TypeExpr) (name : Ident) (anns : List Ann) (items_at : ℕ) (items : List Basic) (qs : List Pattern)
      → (spell.integer len ++ spell.symbol symbols.CloseSquare ∷ spell.word words.Of ∷ (spell.element_type is_var sort ++ spell.symbol symbols.Colon ∷ (spell.ident name ++ (spell.annotations anns
      ++ spell.symbol symbols.Equals ∷ (begun_at items_at (spell.array items) ++ spell.semicolon))))) ++ qs
      ≡ spell.integer len ++ (spell.symbol symbols.CloseSquare ∷ spell.word words.Of ∷ (spell.element_type is_var sort ++ (spell.symbol symbols.Colon ∷ (spell.ident name ++ (spell.annotations anns
      ++ (spell.symbol symbols.Equals ∷ (placed items_at (spell.symbol symbols.OpenSquare) ∷ (closed spell.basic items symbols.CloseSquare ++ (spell.symbol symbols.Semicolon ∷ qs)))))))))
  array_apart len is_var sort name anns items_at items qs = simp append_assoc

  constraint_apart : (name : Ident) (list : List Expr) (anns : List Ann) (qs : List Pattern)
      → (spell.ident name ++ spell.symbol symbols.OpenRound ∷ (closed spell.expression list symbols.CloseRound ++ (spell.annotations anns ++ spell.semicolon))) ++ qs
      ≡ spell.ident name ++ (spell.symbol symbols.OpenRound ∷ (closed spell.expression list symbols.CloseRound ++ (spell.annotations anns ++ (spell.symbol symbols.Semicolon ∷ qs))))
  constraint_apart name list anns qs = simp append_assoc

  solve_apart : (anns : List Ann) (g : GoalForm) (qs : List Pattern) → (spell.annotations anns ++ (spell.goal g ++ spell.semicolon)) ++ qs ≡ spell.annotations anns ++ (spell.goal g ++ (spell.symbol symbols.Semicolon ∷ qs))
  solve_apart anns g qs = simp append_assoc

  -- an item other than the solve item
  form_again : (at : ℕ) (form : Form) (qs : List Pattern) (x : Sign) (xs : List Sign) → length xs ≤ depth → Match (begun_at at (spell.item_form form) ++ qs) (x ∷ xs) → Again (item n depth (x ∷ xs)) (item_of at form) qs
  form_again at forms.Predicate qs x xs l m = by_kind x xs (kinds.Word words.Predicate) at forms.Predicate qs m.0.1 m.0.0 (predicate_again qs xs m.1)
  form_again at (forms.Param sort name anns e) qs x xs l m = param_item at sort.at sort.form name anns e qs x xs l m
  form_again at (forms.Variable sort name anns v) qs x xs l m =
      by_kind x xs (kinds.Word words.Var) at (forms.Variable sort name anns v) qs m.0.1 m.0.0 (variable_again sort name anns v qs xs l (subst (λ ps. Match ps xs) (variable_apart sort name anns v qs) m.1))
  form_again at (forms.Array len is_var sort name anns items_at items) qs x xs l m =
      by_kind x xs (kinds.Word words.Array) at (forms.Array len is_var sort name anns items_at items) qs m.0.1 m.0.0
      (array_item_again len is_var sort name anns items_at items qs xs l
      (subst (λ ps. Match (spell.symbol symbols.OpenSquare ∷ token (kinds.Int (pos 1)) ∷ spell.symbol symbols.DotDot ∷ ps) xs) (array_apart len is_var sort name anns items_at items qs) m.1))
  form_again at (forms.Constraint name list anns) qs x xs l m =
      by_kind x xs (kinds.Word words.Constraint) at (forms.Constraint name list anns) qs m.0.1 m.0.0 (constraint_again name list anns qs xs l (subst (λ ps. Match ps xs) (constraint_apart name list anns qs) m.1))
  form_again at (forms.Solve anns g) qs x xs l m = absurd m.0.1

  -- the solve item
  last_again : (at : ℕ) (form : Form) (x : Sign) (xs : List Sign) → length xs ≤ depth → Match (begun_at at (spell.solve_form form)) (x ∷ xs) → Again (item n depth (x ∷ xs)) (item_of at form) []
  last_again at (forms.Solve anns g) x xs l m =
      by_kind x xs (kinds.Word words.Solve) at (forms.Solve anns g) [] m.0.1 m.0.0
      (solve_again anns g [] xs l (subst (λ ps. Match ps xs) (sym (append-nil (spell.annotations anns ++ (spell.goal g ++ spell.semicolon))) ∙ solve_apart anns g []) m.1))
  last_again at forms.Predicate x xs l m = absurd m.0.1
  last_again at (forms.Param a b c d) x xs l m = absurd m.0.1
  last_again at (forms.Variable a b c d) x xs l m = absurd m.0.1
  last_again at (forms.Array a b c d e f g) x xs l m = absurd m.0.1
  last_again at (forms.Constraint a b c) x xs l m = absurd m.0.1

  -- ---- the model

  is_last : (at : ℕ) (form : Form) (x : Sign) (xs : List Sign) → Match (begun_at at (spell.solve_form form)) (x ∷ xs) → is_solve form ≡ true
  is_last at (forms.Solve anns g) x xs m = refl
  is_last at forms.Predicate x xs m = absurd m.0.1
  is_last at (forms.Param a b c d) x xs m = absurd m.0.1
  is_last at (forms.Variable a b c d) x xs m = absurd m.0.1
  is_last at (forms.Array a b c d e f g) x xs m = absurd m.0.1
  is_last at (forms.Constraint a b c) x xs m = absurd m.0.1

  is_other : (at : ℕ) (form : Form) (qs : List Pattern) (x : Sign) (xs : List Sign) → Match (begun_at at (spell.item_form form) ++ qs) (x ∷ xs) → is_solve form ≡ false
  is_other at (forms.Solve anns g) qs x xs m = absurd m.0.1
  is_other at forms.Predicate qs x xs m = refl
  is_other at (forms.Param a b c d) qs x xs m = refl
  is_other at (forms.Variable a b c d) qs x xs m = refl
  is_other at (forms.Array a b c d e f g) qs x xs m = refl
  is_other at (forms.Constraint a b c) qs x xs m = refl

  no_form : (at : ℕ) (form : Form) (qs : List Pattern) → Match (begun_at at (spell.item_form form) ++ qs) [] → ⊥
  no_form at forms.Predicate qs m = m
  no_form at (forms.Param sort b c d) qs m = by_sort sort.at sort.form m
    where
      by_sort : (a : ℕ) (form : TypeForm) → Match (begun_at at (spell.item_form (forms.Param (type_of a form) b c d)) ++ qs) [] → ⊥
      by_sort a types.Bool k = k
      by_sort a types.Int k = k
      by_sort a types.Float k = k
      by_sort a types.SetOfInt k = k
      by_sort a (types.Within s) k = k
      by_sort a (types.SetWithin s) k = k
  no_form at (forms.Variable a b c d) qs m = m
  no_form at (forms.Array a b c d e f g) qs m = m
  no_form at (forms.Constraint a b c) qs m = m
  no_form at (forms.Solve a b) qs m = m

  no_solve : (at : ℕ) (form : Form) → Match (begun_at at (spell.solve_form form)) [] → ⊥
  no_solve at (forms.Solve anns g) m = m
  no_solve at forms.Predicate m = m
  no_solve at (forms.Param a b c d) m = m
  no_solve at (forms.Variable a b c d) m = m
  no_solve at (forms.Array a b c d e f g) m = m
  no_solve at (forms.Constraint a b c) m = m

  none_first : (xs : List Sign) → Match (none ∷ []) xs → ⊥
  none_first [] m = m
  none_first (x ∷ xs) m = m.0

  items_again : (turns : ℕ) (items : List Item) (xs : List Sign) → length xs ≤ turns → length xs ≤ depth → Match (spell.model items) xs → items_in n depth turns xs ≡ Ok items
  unfolding items_in
  items_again turns [] xs t l m = absurd (none_first xs m)
  items_again turns (i ∷ []) [] t l m = absurd (no_solve i.at i.form m)
  items_again turns (i ∷ j ∷ js) [] t l m = absurd (no_form i.at i.form (spell.model (j ∷ js)) m)
  items_again zero (i ∷ is) (x ∷ xs) t l m = absurd (omega arith)
  items_again (suc turns) (i ∷ []) (x ∷ xs) t l m =
      let h = last_again i.at i.form x xs (omega arith) m in
      ap (λ (r : Result (Item × List Sign) SyntaxFault). r >>= one_item (items_in n depth turns)) h.read
      ∙ (ap (λ (q : Result (List Item) SyntaxFault). q >>= (λ is. Ok (i ∷ is))) (cond-true (is_solve i.form) (at_end h.ys) (items_in n depth turns h.ys) (is_last i.at i.form x xs m))
      ∙ ap (λ ys. at_end ys >>= (λ is. Ok (i ∷ is))) h.fits)
  items_again (suc turns) (i ∷ j ∷ js) (x ∷ xs) t l m =
      let h = form_again i.at i.form (spell.model (j ∷ js)) x xs (omega arith) m in
      let less : length h.ys < length (x ∷ xs) = (takes_shrinks (item n depth) (item_takes n depth)).less (x ∷ xs) i h.ys h.read in
      let rest = items_again turns (j ∷ js) h.ys (omega arith) (omega arith) h.fits in
      ap (λ (r : Result (Item × List Sign) SyntaxFault). r >>= one_item (items_in n depth turns)) h.read
      ∙ (ap (λ (q : Result (List Item) SyntaxFault). q >>= (λ is. Ok (i ∷ is))) (cond-false (is_solve i.form) (at_end h.ys) (items_in n depth turns h.ys) (is_other i.at i.form (spell.model (j ∷ js)) x xs m))
      ∙ ap (λ (q : Result (List Item) SyntaxFault). q >>= (λ is. Ok (i ∷ is))) rest)

  -- tokens that spell items are read as these
  pub model_again : (items : List Item) (xs : List Sign) → length xs ≤ depth → Match (spell.model items) xs → model n depth xs ≡ Ok items
  unfolding model
  model_again items xs l m = items_again (length xs) items xs (omega arith) l m
