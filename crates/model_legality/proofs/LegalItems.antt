-- What an item without faults adds is legal: its constraint, what it shows, and the goal.
use Rattle.std.proofs.Common.{◌≡◌, ℕ, Bool, true, false, List, [], ◌∷◌, ◌++◌, length, if◌then◌else◌, option_to_list, Option, Some, None, ℤ, refl, sym, ap, subst, ◌∙◌, inl, inr}
use Rattle.std.specs.Prelude.{All, Contains}
use Rattle.std.specs.List.{flat_map}
use Rattle.std.specs.List.Sorted.{IsStrictlySortedBy}
use Rattle.std.specs.Option.{option_map, option_and_then}
use Rattle.std.proofs.lemmas.Option.{none-some, same_Some}
use Rattle.std.proofs.lemmas.List.Elements.{All-cons, All-nil, All-weaker}
use Rattle.fzn_parser.specs.declared.tree.Number.{Number}
use Rattle.fzn_parser.specs.declared.tree.Basic.{Basic}
use Rattle.fzn_parser.specs.declared.tree.Expr.{Expr}
use Rattle.fzn_parser.specs.declared.tree.Expr.TheVariants as exprs
use Rattle.fzn_parser.specs.declared.tree.Ident.{Ident}
use Rattle.fzn_parser.specs.declared.tree.Ann.{Ann}
use Rattle.fzn_parser.specs.declared.tree.TypeExpr.{TypeExpr}
use Rattle.fzn_parser.specs.declared.tree.TypeForm.{TypeForm}
use Rattle.fzn_parser.specs.declared.tree.TypeForm.TheVariants as types
use Rattle.fzn_parser.specs.declared.tree.GoalForm.{GoalForm}
use Rattle.fzn_parser.specs.declared.tree.GoalForm.TheVariants as goals
use Rattle.fzn_parser.specs.declared.tree.Form.{Form}
use Rattle.fzn_parser.specs.declared.tree.Form.TheVariants as forms
use Rattle.fzn_parser.specs.declared.tree.Item.{Item}
use Rattle.fzn_parser.specs.Places.{IsSolve}
use Rattle.set_meaning.specs.declared.kinds.Kind.{Kind}
use Rattle.set_meaning.specs.declared.kinds.Kind.TheVariants as kind
use Rattle.set_meaning.specs.declared.kinds.Value.TheVariants as value
use Rattle.set_meaning.specs.declared.problems.VarId.{VarId}
use Rattle.set_meaning.specs.declared.problems.Term.TheVariants.{Const, Var}
use Rattle.set_meaning.specs.declared.problems.Arg.{Arg}
use Rattle.set_meaning.specs.declared.problems.Arg.TheVariants.{One, Many}
use Rattle.set_meaning.specs.declared.problems.Constraint.{Constraint}
use Rattle.set_meaning.specs.declared.problems.Dim.{Dim}
use Rattle.set_meaning.specs.declared.problems.Shown.{Shown}
use Rattle.set_meaning.specs.declared.problems.Goal.{Goal}
use Rattle.set_meaning.specs.declared.problems.Goal.TheVariants as objectives
use Rattle.set_meaning.specs.declared.rows.Sort.{Sort}
use Rattle.set_meaning.specs.declared.rows.Sort.TheVariants.{Boolean, Integer, IntegerSet}
use Rattle.set_meaning.specs.declared.rows.Shape.{Shape}
use Rattle.set_meaning.specs.declared.rows.Shape.TheVariants.{OneOf, ManyOf}
use Rattle.set_meaning.specs.Problems.{IsDim, IsGoal, IsKind, IsShown}
use Rattle.set_meaning.specs.Rows.{FitsRow, HasShape, HasSort, IsTerm}
use Rattle.set_meaning.specs.Sets.{IsAscending}
use Rattle.fzn_model.specs.declared.faults.ModelFault.TheVariants as faults
use Rattle.fzn_model.specs.Items.{objective_in, parts_of}
use Rattle.fzn_model.specs.Entities.{Naming, arg_of, array_of, count_variables, naming_after, sort_of}
use Rattle.fzn_model.specs.Shapes.{HasTyping, asked_if, typing_of_arg}
use Rattle.fzn_model.specs.Outputs.{Annotation, dims_shown, output_in, shows_scalar}
use Rattle.fzn_model.specs.ProblemOf.{constraint_named, constraints_in, equality_of, goal_of, goals_in, kinds_in, objective_of, objective_var, shown_array, shown_in, shown_scalar, terms_in, the_goal}
use Rattle.fzn_model.specs.FaultsOf.{IsFaultAfter}
use Rattle.fzn_model.specs.FirstFault.{AreNone}
use Rattle.fzn_model.proofs.Among.{in_flat_map, in_front}
use Rattle.fzn_model.proofs.Meant.{IsMeant, expression_fits, part_meant}
use Rattle.fzn_model.proofs.Sorts.{shape_from_typing, typing_told}
use Rattle.fzn_model.proofs.Sound.{IsBound, bound}
use Rattle.model_legality.proofs.Splits.{bind_some, map_some}
use Rattle.model_legality.proofs.MoreVariables.{fits_more, last_has_sort, shown_more, sort_more}
use Rattle.model_legality.proofs.FittingArguments.{constraint_fits, value_fits}
use Rattle.model_legality.proofs.ShownDimensions.{dims_legal}
use Rattle.model_legality.proofs.KnownNames.{IsKnown}

-- ---- shown items

abbrev scalar : List ℕ → ℕ → Shown
scalar name number = record { name = name; terms = Var (record { 0 = number }) ∷ []; dims = [] }

scalar_shown : (kinds : List Kind) (name : List ℕ) (number : ℕ) → IsTerm kinds (Var (record { 0 = number })) → (out : Option Annotation)
    → (ss : List Shown) → shown_scalar name number out ≡ Some ss → All (IsShown kinds) ss
scalar_shown kinds name number own None ss is = subst (All (IsShown kinds)) (same_Some [] ss is) (All-nil (IsShown kinds))
scalar_shown kinds name number own (Some a) ss is = by (shows_scalar a) is
  where
    by : (b : Bool) → (if b then Some (scalar name number ∷ []) else None) ≡ Some ss → All (IsShown kinds) ss
    by true e =
        subst (All (IsShown kinds)) (same_Some (scalar name number ∷ []) ss e)
        (All-cons (IsShown kinds) (scalar name number) [] (record {
          terms = All-cons (IsTerm kinds) (Var (record { 0 = number })) [] own (All-nil (IsTerm kinds));
          dims = All-nil IsDim;
          scalar = λ q. refl;
        }) (All-nil (IsShown kinds)))
    by false e = absurd (none-some ss e)

terms_of_sort : (kinds : List Kind) (sort : Sort) (a : Arg) → HasShape kinds (ManyOf sort) a → All (IsTerm kinds) (terms_in a)
terms_of_sort kinds sort (One t) h = absurd h
terms_of_sort kinds sort (Many ts) h = All-weaker (HasSort kinds sort) (IsTerm kinds) (λ t k. (sort, k)) ts h

array_shown : (kinds : List Kind) (anns : List Ann) (name : List ℕ) (count : ℕ) (array : Option Arg)
    → ((a : Arg) → array ≡ Some a → All (IsTerm kinds) (terms_in a)) → (out : Option Annotation) → output_in anns ≡ out
    → (ss : List Shown) → shown_array name count array out ≡ Some ss → All (IsShown kinds) ss
array_shown kinds anns name count array terms None found ss is = subst (All (IsShown kinds)) (same_Some [] ss is) (All-nil (IsShown kinds))
array_shown kinds anns name count array terms (Some a) found ss is =
    let item : List Dim → Arg → Shown = λ ds z. record { name = name; terms = terms_in z; dims = ds } in
    let d = bind_some (dims_shown count a) (λ (ds : List Dim). option_and_then (λ (z : Arg). Some (item ds z ∷ [])) array) ss is in
    let z = bind_some array (λ (w : Arg). Some (item d.0 w ∷ [])) ss d.2 in
    let legal = dims_legal anns a found count d.0 d.1 in
    subst (All (IsShown kinds)) (same_Some (item d.0 z.0 ∷ []) ss z.2)
    (All-cons (IsShown kinds) (item d.0 z.0) [] (record {
      terms = terms z.0 z.1;
      dims = legal.0;
      scalar = λ q. absurd (legal.1 q);
    }) (All-nil (IsShown kinds)))

-- ---- the goal

one_ascends : (x : ℤ) → IsAscending (x ∷ [])
unfolding IsStrictlySortedBy
one_ascends x = (tt, tt)

-- the variable of an objective is an integer one, with the kind of one more variable
record IsIntegerObjective (kinds : List Kind) (o : VarId × List Kind) : Type 0 where
  own : HasSort (kinds ++ o.1) Integer (Var o.0)
  legal : All IsKind o.1

-- a goal over these variables and those that it adds
pub record IsLegalGoal (kinds : List Kind) (g : Goal × List Kind) : Type 0 where
  pub goal : IsGoal (kinds ++ g.1) g.0
  pub legal : All IsKind g.1

integer_objective : (kinds : List Kind) (number : ℕ) → number ≡ length kinds → (a : Arg) → HasShape kinds (OneOf Integer) a
    → (o : VarId × List Kind) → objective_var number a ≡ Some o → IsIntegerObjective kinds o
integer_objective kinds number numbered (Many ts) h o is = absurd h
integer_objective kinds number numbered (One (Const (value.Bool b))) h o is = absurd h
integer_objective kinds number numbered (One (Const (value.Set s))) h o is = absurd h
integer_objective kinds number numbered (One (Var v)) h o is =
    subst (IsIntegerObjective kinds) (same_Some (v, []) o is) (record { own = sort_more kinds [] Integer (Var v) h; legal = All-nil IsKind })
integer_objective kinds number numbered (One (Const (value.Int x))) h o is =
    subst (IsIntegerObjective kinds) (same_Some (record { 0 = number }, kind.Int (x ∷ []) ∷ []) o is) (record {
      own = last_has_sort kinds (kind.Int (x ∷ [])) Integer number numbered refl;
      legal = All-cons IsKind (kind.Int (x ∷ [])) [] (one_ascends x, λ e. cc) (All-nil IsKind);
    })

-- ---- an item

-- only a float has no sort
a_float : (t : TypeForm) → sort_of t ≡ None → t ≡ types.Float
a_float types.Bool e = absurd (none-some Boolean (sym e))
a_float types.Int e = absurd (none-some Integer (sym e))
a_float types.Float e = refl
a_float types.SetOfInt e = absurd (none-some IntegerSet (sym e))
a_float (types.Within s) e = absurd (none-some Integer (sym e))
a_float (types.SetWithin s) e = absurd (none-some IntegerSet (sym e))

-- the variable of this number has a kind of its type's sort
record IsDeclared (kinds : List Kind) (number : ℕ) (t : TypeForm) : Type 0 where
  sort : Sort
  sorted : sort_of t ≡ Some sort
  own : HasSort kinds sort (Var (record { 0 = number }))

module _ (before : List Item) (k : IsKnown before) where
  abbrev naming : Naming
  naming = naming_after before

  abbrev number : ℕ
  number = count_variables before

  declared : (at : ℕ) (t : TypeExpr) (ident : Ident) (anns : List Ann) (e : Option Expr)
      → AreNone (IsFaultAfter before (record { at = at; form = forms.Variable t ident anns e }))
      → (new : List Kind) → kinds_in (forms.Variable t ident anns e) ≡ Some new → IsDeclared (k.kinds ++ new) number t.form
  declared at t ident anns e none new is =
      let b : IsBound t.form = bound before k.kinds k.names number k.counted at t.at t.form ident anns e none in
      let same : b.of ∷ [] ≡ new = same_Some (b.of ∷ []) new (sym (ap (λ (o : Option Kind). option_map (λ z. z ∷ []) o) b.is) ∙ is) in
      record {
        sort = b.sort;
        sorted = b.sorted;
        own = subst (λ (ks : List Kind). HasSort (k.kinds ++ ks) b.sort (Var (record { 0 = number }))) same
            (last_has_sort k.kinds b.of b.sort number k.counted b.same);
      }

  no_constraint : (new : List Kind) (cs : List Constraint) → Some [] ≡ Some cs → All (FitsRow (k.kinds ++ new)) cs
  no_constraint new cs is = subst (All (FitsRow (k.kinds ++ new))) (same_Some [] cs is) (All-nil (FitsRow (k.kinds ++ new)))

  one_constraint : (new : List Kind) (o : Option Constraint) (cs : List Constraint)
      → ((c : Constraint) → o ≡ Some c → FitsRow (k.kinds ++ new) c) → option_map (λ c. c ∷ []) o ≡ Some cs → All (FitsRow (k.kinds ++ new)) cs
  one_constraint new o cs h is =
      let m = map_some o (λ c. c ∷ []) cs is in
      subst (All (FitsRow (k.kinds ++ new))) m.2
      (All-cons (FitsRow (k.kinds ++ new)) m.0 [] (h m.0 m.1) (All-nil (FitsRow (k.kinds ++ new))))

  -- the constraint that it adds fits its row, over the variables up to it
  pub constraints_fit : (at : ℕ) (form : Form) → AreNone (IsFaultAfter before (record { at = at; form = form }))
      → (new : List Kind) → kinds_in form ≡ Some new
      → (cs : List Constraint) → constraints_in naming number form ≡ Some cs → All (FitsRow (k.kinds ++ new)) cs
  constraints_fit at forms.Predicate none new kinds_are cs is = no_constraint new cs is
  constraints_fit at (forms.Param t ident anns e) none new kinds_are cs is = no_constraint new cs is
  constraints_fit at (forms.Variable t ident anns None) none new kinds_are cs is = no_constraint new cs is
  constraints_fit at (forms.Variable t ident anns (Some e)) none new kinds_are cs is =
      let d : IsDeclared (k.kinds ++ new) number t.form = declared at t ident anns (Some e) none new kinds_are in
      one_constraint new (equality_of naming number t.form e) cs
      (λ c q. value_fits before k.kinds k.names at t ident anns e none d.sort d.sorted number new d.own c q) is
  constraints_fit at (forms.Array len is_var t ident anns items_at items) none new kinds_are cs is = no_constraint new cs is
  constraints_fit at (forms.Constraint ident es anns) none new kinds_are cs is =
      one_constraint new (constraint_named naming ident.name es) cs
      (λ c q. fits_more k.kinds new c (constraint_fits before k.kinds k.names at ident es anns none c q)) is
  constraints_fit at (forms.Solve anns g) none new kinds_are cs is = no_constraint new cs is

  none_shown : (new : List Kind) (ss : List Shown) → Some [] ≡ Some ss → All (IsShown (k.kinds ++ new)) ss
  none_shown new ss is = subst (All (IsShown (k.kinds ++ new))) (same_Some [] ss is) (All-nil (IsShown (k.kinds ++ new)))

  array_terms : (at : ℕ) (len : Number) (t : TypeExpr) (ident : Ident) (anns : List Ann) (items_at : ℕ) (items : List Basic)
      → AreNone (IsFaultAfter before (record { at = at; form = forms.Array len true t ident anns items_at items }))
      → (o : Option Sort) → sort_of t.form ≡ o → (a : Arg) → array_of naming items ≡ Some a → All (IsTerm k.kinds) (terms_in a)
  array_terms at len t ident anns items_at items none None q a is =
      absurd (none (faults.Float t.at) (inr (inl (inl (record { declared = t; typed = refl; float = a_float t.form q; place = refl })))))
  array_terms at len t ident anns items_at items none (Some sort) q a is =
      let item : Item = record { at = at; form = forms.Array len true t ident anns items_at items } in
      let e : Expr = exprs.List items_at items in
      let asked : Contains {X = Shape × Expr} (asked_if ManyOf t e) (ManyOf sort, e) =
      subst (λ (o : Option Sort). Contains {X = Shape × Expr} (option_to_list (option_map (λ s. (ManyOf s, e)) o)) (ManyOf sort, e)) (sym q)
      (in_front (ManyOf sort, e) []) in
      let f = expression_fits before k.kinds k.names item (λ g h. none g (inl h)) (ManyOf sort) e (in_front e []) asked in
      subst (λ (z : Arg). All (IsTerm k.kinds) (terms_in z)) (same_Some f.0 a (sym f.1 ∙ is)) (terms_of_sort k.kinds sort f.0 f.2)

  -- what it shows is there, over the variables up to it
  pub shown_are : (at : ℕ) (form : Form) → AreNone (IsFaultAfter before (record { at = at; form = form }))
      → (new : List Kind) → kinds_in form ≡ Some new
      → (ss : List Shown) → shown_in naming number form ≡ Some ss → All (IsShown (k.kinds ++ new)) ss
  shown_are at forms.Predicate none new kinds_are ss is = none_shown new ss is
  shown_are at (forms.Param t ident anns e) none new kinds_are ss is = none_shown new ss is
  shown_are at (forms.Variable t ident anns e) none new kinds_are ss is =
      let d : IsDeclared (k.kinds ++ new) number t.form = declared at t ident anns e none new kinds_are in
      scalar_shown (k.kinds ++ new) ident.name number (d.sort, d.own) (output_in anns) ss is
  shown_are at (forms.Array len false t ident anns items_at items) none new kinds_are ss is = none_shown new ss is
  shown_are at (forms.Array len true t ident anns items_at items) none new kinds_are ss is =
      All-weaker (IsShown k.kinds) (IsShown (k.kinds ++ new)) (shown_more k.kinds new) ss
      (array_shown k.kinds anns ident.name (length items) (array_of naming items)
      (array_terms at len t ident anns items_at items none (sort_of t.form) refl) (output_in anns) refl ss is)
  shown_are at (forms.Constraint ident es anns) none new kinds_are ss is = none_shown new ss is
  shown_are at (forms.Solve anns g) none new kinds_are ss is = none_shown new ss is

  objective_is : (at : ℕ) (anns : List Ann) (g : GoalForm) (e : Expr) → objective_in g ≡ Some e
      → AreNone (IsFaultAfter before (record { at = at; form = forms.Solve anns g }))
      → (a : Arg) → arg_of naming e ≡ Some a → HasShape k.kinds (OneOf Integer) a
  objective_is at anns g (exprs.List lat items) q none a is =
      absurd (none (faults.ObjectiveNotInt lat) (inr (inr (inr (record {
        expression = exprs.List lat items;
        objective = q;
        none = λ x. x;
        place = refl;
      })))))
  objective_is at anns g (exprs.One b) q none a is =
      let used : Contains (flat_map parts_of (option_to_list (objective_in g))) b =
      subst (λ (o : Option Expr). Contains (flat_map parts_of (option_to_list o)) b) (sym q)
      (in_flat_map parts_of (exprs.One b ∷ []) (exprs.One b) b (in_front (exprs.One b) []) (in_front b [])) in
      let item : Item = record { at = at; form = forms.Solve anns g } in
      let m : IsMeant k.kinds naming b.form = part_meant before k.kinds k.names item (λ f h. none f (inl h)) b.at b.form used in
      elim (typing_told (OneOf Integer) (typing_of_arg m.sort m.arg)) [
        | inl has ↦ subst (HasShape k.kinds (OneOf Integer)) (same_Some m.arg a (sym m.is ∙ is))
            (shape_from_typing k.kinds (OneOf Integer) m.sort m.arg m.sorted has)
        | inr not ↦ absurd (none (faults.ObjectiveNotInt b.at) (inr (inr (inr (record {
          expression = exprs.One b;
          objective = q;
          none = λ s. not (subst (HasTyping (OneOf Integer)) (same_Some s.typing (typing_of_arg m.sort m.arg) (sym s.typed ∙ m.typed)) s.asked);
          place = refl;
        })))))
      ]

  objective_legal : (at : ℕ) (anns : List Ann) (g : GoalForm) (e : Expr) → objective_in g ≡ Some e
      → AreNone (IsFaultAfter before (record { at = at; form = forms.Solve anns g }))
      → (o : VarId × List Kind) → objective_of naming number e ≡ Some o → IsIntegerObjective k.kinds o
  objective_legal at anns g e q none o is =
      let a = bind_some (arg_of naming e) (objective_var number) o is in
      integer_objective k.kinds number k.counted a.0 (objective_is at anns g e q none a.0 a.1) o a.2

  goal_legal : (at : ℕ) (anns : List Ann) (g : GoalForm) → AreNone (IsFaultAfter before (record { at = at; form = forms.Solve anns g }))
      → (made : Goal × List Kind) → goal_of naming number g ≡ Some made → IsLegalGoal k.kinds made
  goal_legal at anns goals.Satisfy none made is =
      subst (IsLegalGoal k.kinds) (same_Some (objectives.Satisfy, []) made is) (record { goal = tt; legal = All-nil IsKind })
  goal_legal at anns (goals.Minimize e) none made is =
      let m = map_some (objective_of naming number e) (λ o. (objectives.Minimize o.0, o.1)) made is in
      let o : IsIntegerObjective k.kinds m.0 = objective_legal at anns (goals.Minimize e) e refl none m.0 m.1 in
      subst (IsLegalGoal k.kinds) m.2 (record { goal = o.own; legal = o.legal })
  goal_legal at anns (goals.Maximize e) none made is =
      let m = map_some (objective_of naming number e) (λ o. (objectives.Maximize o.0, o.1)) made is in
      let o : IsIntegerObjective k.kinds m.0 = objective_legal at anns (goals.Maximize e) e refl none m.0 m.1 in
      subst (IsLegalGoal k.kinds) m.2 (record { goal = o.own; legal = o.legal })

  -- the one goal of a solve item
  pub solve_legal : (at : ℕ) (form : Form) → IsSolve form → AreNone (IsFaultAfter before (record { at = at; form = form }))
      → (gs : List (Goal × List Kind)) → goals_in naming number form ≡ Some gs
      → (g : Goal × List Kind) → the_goal gs ≡ Some g → IsLegalGoal k.kinds g
  solve_legal at forms.Predicate solve none gs is g the = absurd solve
  solve_legal at (forms.Param t i anns x) solve none gs is g the = absurd solve
  solve_legal at (forms.Variable t i anns x) solve none gs is g the = absurd solve
  solve_legal at (forms.Array len is_var t i anns items_at items) solve none gs is g the = absurd solve
  solve_legal at (forms.Constraint i es anns) solve none gs is g the = absurd solve
  solve_legal at (forms.Solve anns form) solve none gs is g the =
      let m = map_some (goal_of naming number form) (λ o. o ∷ []) gs is in
      subst (IsLegalGoal k.kinds) (same_Some m.0 g (ap the_goal m.2 ∙ the)) (goal_legal at anns form none m.0 m.1)
