-- What the patterns of an item tell of its places and numbers.
use Rattle.std.proofs.Common.{ℕ, Bool, true, false, List, [], ◌∷◌, ◌++◌, map, Option, Some, None, sym, ap, ◌∙◌, subst}
use Rattle.std.specs.List.{flat_map}
use Rattle.std.specs.Prelude.{option_to_list}
use Rattle.fzn_reader.specs.declared.tokens.TokenKind.{TokenKind}
use Rattle.fzn_reader.specs.declared.tokens.Symbol.TheVariants as symbols
use Rattle.fzn_parser.specs.declared.tree.Num.TheVariants as nums
use Rattle.fzn_parser.specs.declared.tree.Number.{Number}
use Rattle.fzn_parser.specs.declared.tree.SetForm.{SetForm}
use Rattle.fzn_parser.specs.declared.tree.SetForm.TheVariants as sets
use Rattle.fzn_parser.specs.declared.tree.Basic.{Basic}
use Rattle.fzn_parser.specs.declared.tree.BasicForm.{BasicForm}
use Rattle.fzn_parser.specs.declared.tree.BasicForm.TheVariants as basics
use Rattle.fzn_parser.specs.declared.tree.Expr.{Expr}
use Rattle.fzn_parser.specs.declared.tree.Expr.TheVariants as exprs
use Rattle.fzn_parser.specs.declared.tree.TypeExpr.{TypeExpr}
use Rattle.fzn_parser.specs.declared.tree.TypeForm.{TypeForm}
use Rattle.fzn_parser.specs.declared.tree.TypeForm.TheVariants as types
use Rattle.fzn_parser.specs.declared.tree.Ident.{Ident}
use Rattle.fzn_parser.specs.declared.tree.Ann.{Ann, out-Ann, roll-out-Ann}
use Rattle.fzn_parser.specs.declared.tree.GoalForm.{GoalForm}
use Rattle.fzn_parser.specs.declared.tree.GoalForm.TheVariants as goals
use Rattle.fzn_parser.specs.declared.tree.Form.{Form}
use Rattle.fzn_parser.specs.declared.tree.Form.TheVariants as forms
use Rattle.fzn_parser.specs.Grammar as spell
use Rattle.fzn_parser.specs.Grammar.{Pattern, begun_at, closed}
use Rattle.fzn_parser.specs.Places.{numbers_of, numbers_at, numbers_in_part, numbers_in_expression, numbers_in_type, objective, numbers_in, place_of_annotation, places_in_expression, places_of_parts, places_in}
use Rattle.fzn_parser.proofs.SoundsAnnotations.{annotation_is}
use Rattle.fzn_parser.proofs.Told as told
use Rattle.fzn_parser.proofs.Told.{Each, each_append, each_weaker, each_map, each_flat_map}

module _ (P : ℕ → Type 0) (Q : TokenKind → Type 0) where
  abbrev Told : List Pattern → Type 0
  Told = told.Told P Q

  -- what is told of a number
  abbrev pub OfNumber : Number → Type 0
  OfNumber n = P n.at × told.Tells P Q (spell.num n.num)

  -- what is told of a part with its place and its numbers
  abbrev OfPart : ℕ → List Number → Type 0
  OfPart at numbers = P at × Each OfNumber numbers

  abbrev OfParts : List ℕ → List Number → Type 0
  OfParts places numbers = Each P places × Each OfNumber numbers

  -- ---- set literals

  numbers_told : (ns : List Number) → Told (closed spell.number ns symbols.CloseCurly) → Each OfNumber ns
  numbers_told ns h =
      each_weaker (λ n. Told (spell.number n)) OfNumber (λ n k. k.0) ns (told.told_closed P Q spell.number ns symbols.CloseCurly h)

  set_told : (at : ℕ) (s : SetForm) → Told (begun_at at (spell.set_literal s)) → OfPart at (numbers_of s)
  set_told at (sets.Range low high) h = (h.0.0, (h.0.1, (h.1.1.0, tt)))
  set_told at (sets.List ns) h = (h.0.0, numbers_told ns h.1)

  -- ---- expressions

  form_told : (at : ℕ) (form : BasicForm) → Told (begun_at at (spell.basic_form form)) → OfPart at (numbers_at at form)
  form_told at (basics.Bool b) h = (h.0.0, tt)
  form_told at (basics.Num n) h = (h.0.0, (h.0, tt))
  form_told at (basics.Set s) h = set_told at s h
  form_told at (basics.Name n) h = (h.0.0, tt)

  part_told : (b : Basic) → Told (spell.basic b) → OfPart b.at (numbers_in_part b)
  part_told b h = form_told b.at b.form h

  items_told : (items : List Basic) → Told (closed spell.basic items symbols.CloseSquare) → OfParts (map (λ (b : Basic). b.at) items) (flat_map numbers_in_part items)
  items_told items h =
      let each : Each (λ (b : Basic). OfPart b.at (numbers_in_part b)) items =
      each_weaker (λ b. Told (spell.basic b)) (λ b. OfPart b.at (numbers_in_part b)) part_told items (told.told_closed P Q spell.basic items symbols.CloseSquare h) in (
        each_map P (λ (b : Basic). b.at) items (each_weaker (λ b. OfPart b.at (numbers_in_part b)) (λ b. P b.at) (λ b k. k.0) items each),
        each_flat_map OfNumber numbers_in_part items (each_weaker (λ b. OfPart b.at (numbers_in_part b)) (λ b. Each OfNumber (numbers_in_part b)) (λ b k. k.1) items each),
      )

  array_told : (at : ℕ) (items : List Basic) → Told (begun_at at (spell.array items)) → OfParts (places_in_expression (exprs.List at items)) (flat_map numbers_in_part items)
  array_told at items h = let r = items_told items h.1 in ((h.0.0, r.0), r.1)

  expression_told : (e : Expr) → Told (spell.expression e) → OfParts (places_in_expression e) (numbers_in_expression e)
  expression_told (exprs.One b) h = let r = part_told b h in ((r.0, tt), r.1)
  expression_told (exprs.List at items) h = array_told at items h

  abbrev OfExpressions : List Expr → Type 0
  OfExpressions es = OfParts (flat_map places_in_expression es) (flat_map numbers_in_expression es)

  expressions_told : (es : List Expr) → Each (λ e. Told (spell.expression e)) es → OfExpressions es
  expressions_told es h =
      let each : Each (λ e. OfParts (places_in_expression e) (numbers_in_expression e)) es =
      each_weaker (λ e. Told (spell.expression e)) (λ e. OfParts (places_in_expression e) (numbers_in_expression e)) expression_told es h in (
        each_flat_map P places_in_expression es (each_weaker (λ e. OfParts (places_in_expression e) (numbers_in_expression e)) (λ e. Each P (places_in_expression e)) (λ e k. k.0) es each),
        each_flat_map OfNumber numbers_in_expression es (each_weaker (λ e. OfParts (places_in_expression e) (numbers_in_expression e)) (λ e. Each OfNumber (numbers_in_expression e)) (λ e k. k.1) es each),
      )

  -- ---- types

  param_told : (at : ℕ) (form : TypeForm) → Told (spell.param_type_form at form) → OfPart at (numbers_in_type form)
  param_told at types.Bool h = (h.0.0, tt)
  param_told at types.Int h = (h.0.0, tt)
  param_told at types.Float h = (h.0.0, tt)
  param_told at types.SetOfInt h = (h.1.1.0.0, tt)
  param_told at (types.Within s) h = absurd h.0
  param_told at (types.SetWithin s) h = absurd h.0

  var_told : (at : ℕ) (form : TypeForm) → Told (spell.var_type_form at form) → OfPart at (numbers_in_type form)
  var_told at types.Bool h = (h.0.0, tt)
  var_told at types.Int h = (h.0.0, tt)
  var_told at types.Float h = (h.0.0, tt)
  var_told at types.SetOfInt h = (h.1.1.0.0, tt)
  var_told at (types.Within s) h = set_told at s h
  var_told at (types.SetWithin s) h = set_told at s h.1.1

  element_told : (is_var : Bool) (t : TypeExpr) → Told (spell.element_type is_var t) → OfPart t.at (numbers_in_type t.form)
  element_told true t h = var_told t.at t.form h.1
  element_told false t h = param_told t.at t.form h

  length_told : (at : ℕ) (n : nums.the_data) → told.Tells P Q (spell.integer_num n) → told.Tells P Q (spell.num n)
  length_told at (nums.Int z) h = h
  length_told at nums.Large h = h
  length_told at nums.Float h = absurd h

  -- ---- annotations

  annotation_told : (a : Ann) → Told (spell.annotation a) → P (place_of_annotation a)
  annotation_told a h =
      let is = sym (ap spell.annotation (roll-out-Ann a)) ∙ annotation_is (out-Ann a).at (out-Ann a).name (out-Ann a).args in
      (subst Told is h).0.0

  annotations_told : (anns : List Ann) → Told (spell.annotations anns) → Each P (map place_of_annotation anns)
  annotations_told [] h = tt
  annotations_told (a ∷ anns) h =
      (annotation_told a (told.told_front P Q (spell.annotation a) (spell.annotations anns) h.1), annotations_told anns (told.told_back P Q (spell.annotation a) (spell.annotations anns) h.1))

  -- ---- items

  abbrev OfForm : Form → Type 0
  OfForm form = OfParts (places_of_parts form) (numbers_in form)

  value_told : (value : Option Expr) (qs : List Pattern) → Told (spell.value value ++ qs) → OfExpressions (option_to_list value)
  value_told None qs h = (tt, tt)
  value_told (Some e) qs h = expressions_told (e ∷ []) ((told.told_front P Q (spell.expression e) qs h.1, tt))

  goal_told : (goal : GoalForm) (qs : List Pattern) → Told (spell.goal goal ++ qs) → OfExpressions (option_to_list (objective goal))
  goal_told goals.Satisfy qs h = (tt, tt)
  goal_told (goals.Minimize e) qs h = expressions_told (e ∷ []) ((told.told_front P Q (spell.expression e) qs h.1, tt))
  goal_told (goals.Maximize e) qs h = expressions_told (e ∷ []) ((told.told_front P Q (spell.expression e) qs h.1, tt))

  -- the type, the colon and the name
  abbrev named : List Pattern → Ident → List Pattern → List Pattern
  named sort name rest = sort ++ spell.symbol symbols.Colon ∷ (spell.ident name ++ rest)

  sort_told : (sort : List Pattern) (name : Ident) (rest : List Pattern) → Told (named sort name rest) → Told sort
  sort_told sort name rest h = told.told_front P Q sort (spell.symbol symbols.Colon ∷ (spell.ident name ++ rest)) h

  behind_sort : (sort : List Pattern) (name : Ident) (rest : List Pattern) → Told (named sort name rest) → P name.at × Told rest
  behind_sort sort name rest h =
      let k : Told (spell.symbol symbols.Colon ∷ (spell.ident name ++ rest)) = told.told_back P Q sort (spell.symbol symbols.Colon ∷ (spell.ident name ++ rest)) h in (k.1.0.0, k.1.1)

  item_told : (form : Form) → Told (spell.item_form form) → OfForm form
  item_told forms.Predicate h = (tt, tt)
  item_told (forms.Param sort name anns value) h =
      let rest : List Pattern = spell.annotations anns ++ spell.symbol symbols.Equals ∷ (spell.expression value ++ spell.semicolon) in
      let s = param_told sort.at sort.form (sort_told (spell.param_type sort) name rest h) in
      let b = behind_sort (spell.param_type sort) name rest h in
      let as_ = annotations_told anns (told.told_front P Q (spell.annotations anns) (spell.symbol symbols.Equals ∷ (spell.expression value ++ spell.semicolon)) b.1) in
      let after : Told (spell.symbol symbols.Equals ∷ (spell.expression value ++ spell.semicolon)) = told.told_back P Q (spell.annotations anns) (spell.symbol symbols.Equals ∷ (spell.expression value ++ spell.semicolon)) b.1 in
      let e = expression_told value (told.told_front P Q (spell.expression value) spell.semicolon after.1) in
      ((s.0, (b.0, each_append P (map place_of_annotation anns) (places_in_expression value) as_ e.0)), each_append OfNumber (numbers_in_type sort.form) (numbers_in_expression value) s.1 e.1)
  item_told (forms.Variable sort name anns value) h =
      let rest : List Pattern = spell.annotations anns ++ (spell.value value ++ spell.semicolon) in
      let t = sort_told (spell.var_type sort) name rest h in
      let s = var_told sort.at sort.form t.1 in
      let b = behind_sort (spell.var_type sort) name rest h in
      let as_ = annotations_told anns (told.told_front P Q (spell.annotations anns) (spell.value value ++ spell.semicolon) b.1) in
      let e = value_told value spell.semicolon (told.told_back P Q (spell.annotations anns) (spell.value value ++ spell.semicolon) b.1) in
      ((s.0, (b.0, each_append P (map place_of_annotation anns) (flat_map places_in_expression (option_to_list value)) as_ e.0)), each_append OfNumber (numbers_in_type sort.form) (flat_map numbers_in_expression (option_to_list value)) s.1 e.1)
  item_told (forms.Array len is_var sort name anns at items) h =
      let end : List Pattern = spell.symbol symbols.Equals ∷ (begun_at at (spell.array items) ++ spell.semicolon) in
      let rest : List Pattern = spell.annotations anns ++ end in
      let l : OfNumber len = (h.1.1.1.1.0.0, length_told len.at len.num h.1.1.1.1.0.1) in
      let typed = h.1.1.1.1.1.1.1 in
      let s = element_told is_var sort (sort_told (spell.element_type is_var sort) name rest typed) in
      let b = behind_sort (spell.element_type is_var sort) name rest typed in
      let as_ = annotations_told anns (told.told_front P Q (spell.annotations anns) end b.1) in
      let after : Told end = told.told_back P Q (spell.annotations anns) end b.1 in
      let e = array_told at items (told.told_front P Q (begun_at at (spell.array items)) spell.semicolon after.1) in
      ((s.0, (b.0, each_append P (map place_of_annotation anns) (places_in_expression (exprs.List at items)) as_ e.0)), (l, each_append OfNumber (numbers_in_type sort.form) (flat_map numbers_in_part items) s.1 e.1))
  item_told (forms.Constraint name args anns) h =
      let end : List Pattern = spell.annotations anns ++ spell.semicolon in
      let inner = h.1.1.1 in
      let e = expressions_told args (told.told_closed P Q spell.expression args symbols.CloseRound (told.told_front P Q (closed spell.expression args symbols.CloseRound) end inner)) in
      let as_ = annotations_told anns (told.told_front P Q (spell.annotations anns) spell.semicolon (told.told_back P Q (closed spell.expression args symbols.CloseRound) end inner)) in
      ((h.1.0.0, each_append P (flat_map places_in_expression args) (map place_of_annotation anns) e.0 as_), e.1)
  item_told (forms.Solve anns goal) h = absurd h.0

  solve_told : (form : Form) → Told (spell.solve_form form) → OfForm form
  solve_told (forms.Solve anns goal) h =
      let as_ = annotations_told anns (told.told_front P Q (spell.annotations anns) (spell.goal goal ++ spell.semicolon) h.1) in
      let e = goal_told goal spell.semicolon (told.told_back P Q (spell.annotations anns) (spell.goal goal ++ spell.semicolon) h.1) in
      (each_append P (map place_of_annotation anns) (flat_map places_in_expression (option_to_list (objective goal))) as_ e.0, e.1)
  solve_told _ h = absurd h.0

  -- the place of the whole item is told with its first token
  unbegun : (at : ℕ) (ps : List Pattern) → Told (begun_at at ps) → Told ps
  unbegun at [] h = h
  unbegun at (p ∷ ps) h = (h.0.1, h.1)

  -- what is told of each place and of each number in an item
  abbrev pub OfItem : Form → Type 0
  OfItem form = Each P (places_in form) × Each OfNumber (numbers_in form)

  whole : (form : Form) → OfForm form → OfItem form
  whole form h =
      (each_append P (places_of_parts form) (map (λ (n : Number). n.at) (numbers_in form)) h.0 (each_map P (λ (n : Number). n.at) (numbers_in form) (each_weaker OfNumber (λ n. P n.at) (λ n k. k.0) (numbers_in form) h.1)), h.1)

  pub of_item : (at : ℕ) (form : Form) → Told (begun_at at (spell.item_form form)) → OfItem form
  of_item at form h = whole form (item_told form (unbegun at (spell.item_form form) h))

  pub of_solve : (at : ℕ) (form : Form) → Told (begun_at at (spell.solve_form form)) → OfItem form
  of_solve at form h = whole form (solve_told form (unbegun at (spell.solve_form form) h))
