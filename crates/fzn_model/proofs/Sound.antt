-- An item without faults, behind items without faults, has each of its meanings.
use Rattle.std.proofs.Common.{◌≡◌, ◌≢◌, ◌⊎◌, ◌↔◌, ℕ, zero, suc, ◌+◌, ◌<◌, ◌≤◌, ◌==◌, Bool, true, false, List, [], ◌∷◌, ◌++◌, length, map, reverse, if◌then◌else◌, option_to_list, Option, Some, None, is_some, ℤ, refl, sym, ap, subst, ◌∙◌, inl, inr, arith, zero-add}
use Rattle.std.specs.Prelude.{sum_by, All, Any, Contains, IsTrue, IsSome, IfSome, slice_get, ⊤}
use Rattle.std.specs.List.{AllZip, flat_map, zip}
use Rattle.std.specs.Option.{option_map, option_and_then}
use Rattle.std.proofs.lemmas.Option.{none-some, same_Some}
use Rattle.std.proofs.lemmas.Bool.Decides.{Decides-eqb}
use Rattle.std.proofs.lemmas.List.{append-nil, reverse-append, reverse-reverse}
use Rattle.std.proofs.lemmas.List.Elements.{Contains-append_left, All-cons, All-nil, All-weaker}
use Rattle.fzn_parser.specs.declared.tree.Num.TheVariants as nums
use Rattle.fzn_parser.specs.declared.tree.Number.{Number}
use Rattle.fzn_parser.specs.declared.tree.SetForm.{SetForm}
use Rattle.fzn_parser.specs.declared.tree.Basic.{Basic}
use Rattle.fzn_parser.specs.declared.tree.Expr.{Expr}
use Rattle.fzn_parser.specs.declared.tree.Expr.TheVariants as exprs
use Rattle.fzn_parser.specs.declared.tree.Ident.{Ident}
use Rattle.fzn_parser.specs.declared.tree.Ann.{Ann}
use Rattle.fzn_parser.specs.declared.tree.TypeExpr.{TypeExpr}
use Rattle.fzn_parser.specs.declared.tree.TypeForm.{TypeForm}
use Rattle.fzn_parser.specs.declared.tree.TypeForm.TheVariants as types
use Rattle.fzn_parser.specs.declared.tree.GoalForm.{GoalForm}
use Rattle.fzn_parser.specs.declared.tree.GoalForm.TheVariants as goals
use Rattle.fzn_parser.specs.declared.tree.Form.{Form}
use Rattle.fzn_parser.specs.declared.tree.Form.TheVariants as forms
use Rattle.fzn_parser.specs.declared.tree.Item.{Item}
use Rattle.set_meaning.specs.declared.kinds.Kind.{Kind}
use Rattle.set_meaning.specs.declared.kinds.Kind.TheVariants as kind
use Rattle.set_meaning.specs.declared.kinds.Value.TheVariants as value
use Rattle.set_meaning.specs.declared.problems.VarId.{VarId}
use Rattle.set_meaning.specs.declared.problems.Term.{Term}
use Rattle.set_meaning.specs.declared.problems.Term.TheVariants.{Const, Var}
use Rattle.set_meaning.specs.declared.problems.Arg.{Arg}
use Rattle.set_meaning.specs.declared.problems.Arg.TheVariants.{One, Many}
use Rattle.set_meaning.specs.declared.problems.Relation.{Relation}
use Rattle.set_meaning.specs.declared.problems.Constraint.{Constraint}
use Rattle.set_meaning.specs.declared.problems.Shown.{Shown}
use Rattle.set_meaning.specs.declared.problems.Dim.{Dim}
use Rattle.set_meaning.specs.declared.problems.Goal.{Goal}
use Rattle.set_meaning.specs.declared.problems.Goal.TheVariants.{Minimize, Maximize}
use Rattle.set_meaning.specs.declared.rows.Sort.{Sort}
use Rattle.set_meaning.specs.declared.rows.Sort.TheVariants.{Boolean, Integer, IntegerSet}
use Rattle.set_meaning.specs.declared.rows.Shape.{Shape}
use Rattle.set_meaning.specs.declared.rows.Shape.TheVariants.{OneOf, ManyOf, ConstantOf, ConstantsOf}
use Rattle.set_meaning.specs.Problems.{IsKind}
use Rattle.set_meaning.specs.Rows.{HasShape, HasSort, row_of, shapes_of, sort_of_kind}
use Rattle.set_meaning.specs.Sets.{IsAscending}
use Rattle.set_meaning.specs.Arguments.{cons_some}
use Rattle.bit_layout.specs.Words.{span}
use Rattle.bit_layout.specs.Limits.{IsNarrow}
use Rattle.fzn_model.specs.Entities.{Entity}
use Rattle.fzn_model.specs.declared.names.ConstraintName.{ConstraintName}
use Rattle.fzn_model.specs.declared.faults.ModelFault.{ModelFault}
use Rattle.fzn_model.specs.declared.faults.ModelFault.TheVariants as faults
use Rattle.fzn_model.specs.Limits.{span_limit}
use Rattle.fzn_model.specs.Lists.{each_of}
use Rattle.fzn_model.specs.Names.{named}
use Rattle.fzn_model.specs.Items.{adds_constraint, constrained_in, is_variable, expressions_in, ident_in, numbers_in_type, numbers_of, objective_in, parts_of, type_in}
use Rattle.fzn_model.specs.Entities.{Naming, arg_of, array_of, elements_of, entity, entity_of, naming_after, sort_of, variable}
use Rattle.fzn_model.specs.Shapes.{argument_shapes, array_shape, asked_if, asked_in, shapes_named, typing_of_arg, HasTyping}
use Rattle.fzn_model.specs.Outputs.{Annotation, dims_shown, output_in, shows_scalar}
use Rattle.fzn_model.specs.ProblemOf.{constraint_named, constraint_of, constraints_in, equality, equality_of, goal_of, goals_in, kind_of, kinds_in, objective_of, objective_var, reified_constraint, shown_array, shown_in, shown_scalar, terms_in}
use Rattle.fzn_model.specs.FaultsOf.{constant_elements, constrained_parts, own_terms, terms_of, InConstraint, InDeclaration, InExpressions, InObjective, IsFaultAfter, declared_numbers}
use Rattle.fzn_model.specs.FirstFault.{AreNone}
use Rattle.fzn_model.specs.Meanings.{elements_in}
use Rattle.fzn_model.specs.Drafts.{AreSorted, IsOfSort, elements_of_constraint, terms_of_constraint}
use Rattle.fzn_model.proofs.Among.{in_front, in_rest, in_flat_map}
use Rattle.fzn_model.proofs.Sorts.{sort_from_shape, shape_from_typing, typing_told}
use Rattle.fzn_model.proofs.Weighed.{CountsAs, all_elements, all_terms, expression_elements, expression_terms, plain_counts, reified_counts}
use Rattle.fzn_model.proofs.Meant.{AreKnown, IsMeant, expression_fits, known_num, known_set, part_meant}

-- ---- plain facts

pub le_unless : (a b : ℕ) → (a < b → ⊥) → b ≤ a
le_unless a b h = omega (arith, h)

eq_unless : (a b : ℕ) → (a ≢ b → ⊥) → a ≡ b
eq_unless a b h = by (a == b) refl
  where
    by : (t : Bool) → a == b ≡ t → a ≡ b
    by true e = (Decides-eqb a b).0 e
    by false e = absurd (h (λ p. let y = (Decides-eqb a b).1 p in cc))

-- where as many are asked as there are, and each that is asked is given, all are
zip_gives : {S A B : Type 0} (f : A → Option B) (P : S → B → Type 0) (ss : List S) (xs : List A) → length xs ≡ length ss
    → ((s : S) (x : A) → Contains xs x → Contains (zip ss xs) (s, x) → (y : B) × (f x ≡ Some y) × P s y)
    → (ys : List B) × (each_of f xs ≡ Some ys) × AllZip P ss ys
zip_gives f P [] [] e h = ([], refl, tt)
zip_gives f P [] (x ∷ xs) e h = absurd (omega arith)
zip_gives f P (s ∷ ss) [] e h = absurd (omega arith)
zip_gives f P (s ∷ ss) (x ∷ xs) e h =
    let a = h s x (in_front x xs) (in_front (s, x) (zip ss xs)) in
    let r = zip_gives f P ss xs (omega arith) (λ t y c d. h t y (in_rest x xs y c) (in_rest (s, x) (zip ss xs) (t, y) d)) in
    (a.0 ∷ r.0, (λ i. cons_some (a.1 i) (r.1 i)), (a.2, r.2))

-- the last of as many
zip_last : {S B : Type 0} (P : S → B → Type 0) (ss : List S) (s : S) (ys : List B) → AllZip P (ss ++ s ∷ []) ys
    → (front : List B) × (y : B) × (ys ≡ front ++ y ∷ []) × AllZip P ss front × P s y
zip_last P [] s [] h = absurd h
zip_last P [] s (y ∷ []) h = ([], y, refl, tt, h.0)
zip_last P [] s (y ∷ z ∷ ys) h = absurd h.1
zip_last P (r ∷ ss) s [] h = absurd h
zip_last P (r ∷ ss) s (y ∷ ys) h =
    let l = zip_last P ss s ys h.1 in
    (y ∷ l.0, l.1, ap (λ zs. y ∷ zs) l.2, (h.0, l.3), l.4)

-- ---- what an item comes to

-- the constraints of an item, and what they count
pub record AreWeighed (naming : Naming) (number : ℕ) (form : Form) : Type 0 where
  pub list : List Constraint
  pub are : constraints_in naming number form ≡ Some list
  pub many : length list ≡ (if adds_constraint form then 1 else 0)
  pub elements : sum_by elements_of_constraint list ≡ sum_by (constant_elements naming) (constrained_parts form)
  pub terms : sum_by terms_of_constraint list ≡ own_terms form + sum_by (λ e. length (terms_of (arg_of naming e))) (constrained_in form)

pub record IsSound (kinds : List Kind) (naming : Naming) (number : ℕ) (form : Form) : Type 0 where
  pub new : List Kind
  pub kinds_are : kinds_in form ≡ Some new
  pub counted : length new ≡ (if is_variable form then 1 else 0)
  pub legal : All IsKind new
  pub narrow : All IsNarrow new
  pub entities : IfSome (ident_in form) (λ ident. (e : Entity) × (entity_of naming number form ≡ Some e) × IsOfSort (kinds ++ new) e.sort e.arg)
  pub constraints : AreWeighed naming number form
  pub shows : (ss : List Shown) × (shown_in naming number form ≡ Some ss)
  pub goals_are : (gs : List (Goal × List Kind)) × (goals_in naming number form ≡ Some gs)

-- more kinds leave sorts as they are
slice_get_front : {A : Type 0} (xs ys : List A) (i : ℕ) (x : A) → slice_get xs i ≡ Some x → slice_get (xs ++ ys) i ≡ Some x
slice_get_front [] ys i x e = let n = e in absurd (cc)
slice_get_front (z ∷ xs) ys zero x e = e
slice_get_front (z ∷ xs) ys (suc i) x e = slice_get_front xs ys i x e

slice_get_behind : {A : Type 0} (xs : List A) (y : A) → slice_get (xs ++ y ∷ []) (length xs) ≡ Some y
slice_get_behind [] y = refl
slice_get_behind (x ∷ xs) y = slice_get_behind xs y

sort_of_more : (kinds new : List Kind) (sort : Sort) (t : Term) → HasSort kinds sort t → HasSort (kinds ++ new) sort t
sort_of_more kinds new sort (Const v) h = h
sort_of_more kinds new sort (Var x) h = by (slice_get kinds x.0) refl
  where
    by : (o : Option Kind) → slice_get kinds x.0 ≡ o → option_map sort_of_kind (slice_get (kinds ++ new) x.0) ≡ Some sort
    by None q = absurd (none-some sort (sym (ap (λ o. option_map sort_of_kind o) q) ∙ h))
    by (Some k) q =
        ap (λ o. option_map sort_of_kind o) (slice_get_front kinds new x.0 k q) ∙ (sym (ap (λ o. option_map sort_of_kind o) q) ∙ h)

pub arg_of_more : (kinds new : List Kind) (sort : Sort) (a : Arg) → IsOfSort kinds sort a → IsOfSort (kinds ++ new) sort a
arg_of_more kinds new sort (One t) h = sort_of_more kinds new sort t h
arg_of_more kinds new sort (Many ts) h = All-weaker (HasSort kinds sort) (HasSort (kinds ++ new) sort) (λ t. sort_of_more kinds new sort t) ts h

entity_is : (t : TypeForm) (sort : Sort) (o : Option Arg) (a : Arg) → sort_of t ≡ Some sort → o ≡ Some a
    → entity t o ≡ Some (record { sort = sort; arg = a })
entity_is t sort o a p q = λ i. option_and_then (λ (s : Sort). option_map (λ (z : Arg). record { sort = s; arg = z }) (q i)) (p i)

known_sort : (t : TypeForm) → (t ≡ types.Float → ⊥) → (sort : Sort) × (sort_of t ≡ Some sort)
known_sort types.Bool h = (Boolean, refl)
known_sort types.Int h = (Integer, refl)
known_sort types.Float h = absurd (h refl)
known_sort types.SetOfInt h = (IntegerSet, refl)
known_sort (types.Within s) h = (Integer, refl)
known_sort (types.SetWithin s) h = (IntegerSet, refl)

asked_sort : (shape : Sort → Shape) (t : TypeExpr) (e : Expr) (sort : Sort) → sort_of t.form ≡ Some sort → Contains (asked_if shape t e) (shape sort, e)
asked_sort shape t e sort q =
    subst (λ (o : Option Sort). Contains {X = Shape × Expr} (option_to_list (option_map (λ s. (shape s, e)) o)) (shape sort, e)) (sym q) (in_front (shape sort, e) [])

array_sort : (is_var : Bool) (kinds : List Kind) (sort : Sort) (a : Arg) → HasShape kinds (array_shape is_var sort) a → IsOfSort kinds sort a
array_sort true kinds sort a h = sort_from_shape kinds (ManyOf sort) a h
array_sort false kinds sort a h = sort_from_shape kinds (ConstantsOf sort) a h

-- what the type of a variable bounds
pub record IsBound (t : TypeForm) : Type 0 where
  pub of : Kind
  pub sort : Sort
  pub is : kind_of t ≡ Some of
  pub sorted : sort_of t ≡ Some sort
  pub same : sort_of_kind of ≡ sort
  pub legal : IsKind of
  pub narrow : IsNarrow of

module _ (before : List Item) (kinds : List Kind) (known : AreKnown before kinds) (number : ℕ) (numbered : number ≡ length kinds) where
  -- the type of a declaration is no float
  typed : (item : Item) (t : TypeExpr) → AreNone (IsFaultAfter before item) → type_in item.form ≡ Some t → (sort : Sort) × (sort_of t.form ≡ Some sort)
  typed item t none e =
      known_sort t.form (λ f. none (faults.Float t.at) (inr (inl (inl (record { declared = t; typed = e; float = f; place = refl })))))

  pub number_told : (item : Item) (t : TypeExpr) → AreNone (IsFaultAfter before item) → type_in item.form ≡ Some t
      → (n : Number) → Contains (numbers_in_type t.form) n → (x : ℤ) × (n.num ≡ nums.Int x)
  number_told item t none e n h =
      let among : Contains (declared_numbers item.form) n = Contains-append_left _ _ n
      (subst (λ (o : Option TypeExpr). Contains (flat_map (λ u. numbers_in_type u.form) (option_to_list o)) n) (sym e)
      (in_flat_map (λ (u : TypeExpr). numbers_in_type u.form) (t ∷ []) t n (in_front t []) h)) in
      known_num n.num
      (λ q. none (faults.NumberTooLarge n.at) (inr (inl (subst (λ m. Contains (declared_numbers item.form) (record { at = n.at; num = m })) q among))))
      (λ q. none (faults.Float n.at) (inr (inl (inr (subst (λ m. Contains (declared_numbers item.form) (record { at = n.at; num = m })) q among)))))

  pub bound : (at tat : ℕ) (t : TypeForm) (ident : Ident) (anns : List Ann) (e : Option Expr)
      → AreNone (IsFaultAfter before (record { at = at; form = forms.Variable (record { at = tat; form = t }) ident anns e })) → IsBound t
  bound at tat types.Bool ident anns e none =
      record { of = kind.Bool; sort = Boolean; is = refl; sorted = refl; same = refl; legal = tt; narrow = tt }
  bound at tat types.Int ident anns e none = absurd (none (faults.Unbounded tat) (inr (inl (refl, inl refl))))
  bound at tat types.Float ident anns e none =
      absurd (none (faults.Float tat) (inr (inl (inl (record { declared = record { at = tat; form = types.Float }; typed = refl; float = refl; place = refl })))))
  bound at tat types.SetOfInt ident anns e none = absurd (none (faults.Unbounded tat) (inr (inl (refl, inr refl))))
  bound at tat (types.Within s) ident anns e none =
      let item : Item = record { at = at; form = forms.Variable (record { at = tat; form = types.Within s }) ident anns e } in
      let r = known_set s (number_told item (record { at = tat; form = types.Within s }) none refl) in
      record {
        of = kind.Int r.0;
        sort = Integer;
        is = ap (λ o. option_map kind.Int o) r.1;
        sorted = refl;
        same = refl;
        legal = (r.2, λ q. none (faults.EmptyDomain tat) (inr (inl (s, refl, r.1 ∙ ap Some q, refl))));
        narrow = le_unless span_limit (span r.0) (λ w. none (faults.IntTooWide tat) (inr (inl (r.0, (s, refl, r.1, refl), w))));
      }
  bound at tat (types.SetWithin s) ident anns e none =
      let item : Item = record { at = at; form = forms.Variable (record { at = tat; form = types.SetWithin s }) ident anns e } in
      let r = known_set s (number_told item (record { at = tat; form = types.SetWithin s }) none refl) in
      record {
        of = kind.Set r.0;
        sort = IntegerSet;
        is = ap (λ o. option_map kind.Set o) r.1;
        sorted = refl;
        same = refl;
        legal = r.2;
        narrow = tt;
      }

  no_more : (sort : Sort) (a : Arg) → IsOfSort kinds sort a → IsOfSort (kinds ++ []) sort a
  no_more sort a h = arg_of_more kinds [] sort a h

  -- ---- parameters

  param : (at : ℕ) (t : TypeExpr) (ident : Ident) (anns : List Ann) (e : Expr)
      → AreNone (IsFaultAfter before (record { at = at; form = forms.Param t ident anns e }))
      → IsSound kinds (naming_after before) number (forms.Param t ident anns e)
  param at t ident anns e none =
      let item : Item = record { at = at; form = forms.Param t ident anns e } in
      let s = typed item t none refl in
      let f = expression_fits before kinds known item (λ g h. none g (inl h)) (ConstantOf s.0) e (in_front e []) (asked_sort ConstantOf t e s.0 s.1) in
      record {
        new = [];
        kinds_are = refl;
        counted = refl;
        legal = All-nil IsKind;
        narrow = All-nil IsNarrow;
        entities = (
          record { sort = s.0; arg = f.0 },
          entity_is t.form s.0 (arg_of (naming_after before) e) f.0 s.1 f.1,
          no_more s.0 f.0 (sort_from_shape kinds (ConstantOf s.0) f.0 f.2),
        );
        constraints = record { list = []; are = refl; many = refl; elements = refl; terms = refl };
        shows = ([], refl);
        goals_are = ([], refl);
      }

  -- ---- arrays

  array_shows : (name : List ℕ) (count : ℕ) (o : Option Arg) (a : Arg) → o ≡ Some a → (out : Option Annotation)
      → ((ann : Annotation) → out ≡ Some ann → dims_shown count ann ≡ None → ⊥)
      → (ss : List Shown) × (shown_array name count o out ≡ Some ss)
  array_shows name count o a q None h = ([], refl)
  array_shows name count o a q (Some ann) h = by (dims_shown count ann) refl
    where
      by : (d : Option (List Dim)) → dims_shown count ann ≡ d → (ss : List Shown) × (shown_array name count o (Some ann) ≡ Some ss)
      by None e = absurd (h ann refl e)
      by (Some dims) e = (
        record { name = name; terms = terms_in a; dims = dims } ∷ [],
        (λ i. option_and_then (λ ds. option_and_then (λ z. Some (record { name = name; terms = terms_in z; dims = ds } ∷ [])) (q i)) (e i)),
      )

  array : (at : ℕ) (len : Number) (is_var : Bool) (t : TypeExpr) (ident : Ident) (anns : List Ann) (items_at : ℕ) (items : List Basic)
      → AreNone (IsFaultAfter before (record { at = at; form = forms.Array len is_var t ident anns items_at items }))
      → IsSound kinds (naming_after before) number (forms.Array len is_var t ident anns items_at items)
  array at len is_var t ident anns items_at items none =
      let item : Item = record { at = at; form = forms.Array len is_var t ident anns items_at items } in
      let s = typed item t none refl in
      let f = expression_fits before kinds known item (λ g h. none g (inl h)) (array_shape is_var s.0) (exprs.List items_at items)
      (in_front (exprs.List items_at items) []) (asked_sort (array_shape is_var) t (exprs.List items_at items) s.0 s.1) in
      record {
        new = [];
        kinds_are = refl;
        counted = refl;
        legal = All-nil IsKind;
        narrow = All-nil IsNarrow;
        entities = (
          record { sort = s.0; arg = f.0 },
          entity_is t.form s.0 (array_of (naming_after before) items) f.0 s.1 f.1,
          no_more s.0 f.0 (array_sort is_var kinds s.0 f.0 f.2),
        );
        constraints = record { list = []; are = refl; many = refl; elements = refl; terms = refl };
        shows = shown is_var f.0 f.1 none;
        goals_are = ([], refl);
      }
    where
      shown : (v : Bool) (a : Arg) → array_of (naming_after before) items ≡ Some a
          → AreNone (IsFaultAfter before (record { at = at; form = forms.Array len v t ident anns items_at items }))
          → (ss : List Shown) × (shown_in (naming_after before) number (forms.Array len v t ident anns items_at items) ≡ Some ss)
      shown false a q n = ([], refl)
      shown true a q n =
          array_shows ident.name (length items) (array_of (naming_after before) items) a q (output_in anns)
          (λ ann o d. n (faults.BadOutput ann.at) (inr (inl (ann, o, d, refl))))

  -- ---- variables

  scalar_shows : (name : List ℕ) (out : Option Annotation) → ((ann : Annotation) → out ≡ Some ann → shows_scalar ann ≡ false → ⊥)
      → (ss : List Shown) × (shown_scalar name number out ≡ Some ss)
  scalar_shows name None h = ([], refl)
  scalar_shows name (Some ann) h = by (shows_scalar ann) refl
    where
      the : List Shown
      the = record { name = name; terms = Var (record { 0 = number }) ∷ []; dims = [] } ∷ []

      by : (b : Bool) → shows_scalar ann ≡ b → (ss : List Shown) × (shown_scalar name number (Some ann) ≡ Some ss)
      by false e = absurd (h ann refl e)
      by true e = (
        record { name = name; terms = Var (record { 0 = number }) ∷ []; dims = [] } ∷ [],
        ap (λ b. if b then Some (record { name = name; terms = Var (record { 0 = number }) ∷ []; dims = [] } ∷ []) else None) e,
      )

  own_sort : (k : Kind) (sort : Sort) → sort_of_kind k ≡ sort → IsOfSort (kinds ++ k ∷ []) sort (variable number)
  own_sort k sort same =
      subst (λ n. option_map sort_of_kind (slice_get (kinds ++ k ∷ []) n) ≡ Some sort) (sym numbered)
      (ap (λ o. option_map sort_of_kind o) (slice_get_behind kinds k) ∙ ap Some same)

  var : (at : ℕ) (t : TypeExpr) (ident : Ident) (anns : List Ann) (e : Option Expr)
      → AreNone (IsFaultAfter before (record { at = at; form = forms.Variable t ident anns e }))
      → IsSound kinds (naming_after before) number (forms.Variable t ident anns e)
  var at t ident anns e none =
      let b : IsBound t.form = bound at t.at t.form ident anns e none in
      record {
        new = b.of ∷ [];
        kinds_are = ap (λ o. option_map (λ k. k ∷ []) o) b.is;
        counted = refl;
        legal = All-cons IsKind b.of [] b.legal (All-nil IsKind);
        narrow = All-cons IsNarrow b.of [] b.narrow (All-nil IsNarrow);
        entities = (
          record { sort = b.sort; arg = variable number },
          entity_is t.form b.sort (Some (variable number)) (variable number) b.sorted refl,
          own_sort b.of b.sort b.same,
        );
        constraints = given e none;
        shows = scalar_shows ident.name (output_in anns) (λ ann o s. none (faults.BadOutput ann.at) (inr (inl (ann, o, s, refl))));
        goals_are = ([], refl);
      }
    where
      given : (v : Option Expr) → AreNone (IsFaultAfter before (record { at = at; form = forms.Variable t ident anns v }))
          → AreWeighed (naming_after before) number (forms.Variable t ident anns v)
      given None n = record { list = []; are = refl; many = refl; elements = refl; terms = refl }
      given (Some x) n =
          let b : IsBound t.form = bound at t.at t.form ident anns (Some x) n in
          let item : Item = record { at = at; form = forms.Variable t ident anns (Some x) } in
          let f = expression_fits before kinds known item (λ g h. n g (inl h)) (OneOf b.sort) x (in_front x [])
          (in_flat_map (asked_if OneOf t) (x ∷ []) x (OneOf b.sort, x) (in_front x []) (asked_sort OneOf t x b.sort b.sorted)) in
          record {
            list = record { relation = equality b.sort; args = variable number ∷ f.0 ∷ []; reif = None } ∷ [];
            many = refl;
            elements =
                (let one : sum_by (constant_elements (naming_after before)) (parts_of x) ≡ elements_in f.0 = expression_elements (naming_after before) x f.0 f.1 in
                let plain : sum_by (constant_elements (naming_after before)) (parts_of x ++ []) ≡ sum_by (constant_elements (naming_after before)) (parts_of x) = ap (sum_by (constant_elements (naming_after before))) (append-nil (parts_of x)) in
                omega (arith, one, plain));
            terms = (let one : length (terms_of (arg_of (naming_after before) x)) ≡ length (terms_in f.0) = expression_terms (naming_after before) x f.0 f.1 in omega (arith, one));
            are = (λ i. option_map (λ (c : Constraint). c ∷ []) (option_and_then (λ s. option_and_then (λ a. Some (record { relation = equality s; args = variable number ∷ a ∷ []; reif = None })) (f.1 i)) (b.sorted i)));
          }

  -- ---- constraints

  reified : (r : Relation) (front : List Arg) (b : Arg) → HasShape kinds (OneOf Boolean) b
      → (c : Constraint) × (reified_constraint r (reverse (front ++ b ∷ [])) ≡ Some c) × CountsAs c (front ++ b ∷ [])
  reified r front (One t) h =
      (record { relation = r; args = reverse (reverse front); reif = Some t }, ap (reified_constraint r) (reverse-append front (One t ∷ [])), reified_counts r front t)
  reified r front (Many ts) h = absurd h

  constrained : (n : ConstraintName) (args : List Arg) → AllZip (HasShape kinds) (argument_shapes n) args → (c : Constraint) × (constraint_of n args ≡ Some c) × CountsAs c args
  constrained n args h = by n.relation n.is_reified h
    where
      by : (r : Relation) (t : Bool) → AllZip (HasShape kinds) (argument_shapes (record { relation = r; is_reified = t })) args
          → (c : Constraint) × (constraint_of (record { relation = r; is_reified = t }) args ≡ Some c) × CountsAs c args
      by r false g = (record { relation = r; args = args; reif = None }, refl, plain_counts r args)
      by r true g =
          let l = zip_last (HasShape kinds) (shapes_of (row_of r)) (OneOf Boolean) args g in
          let c = reified r l.0 l.1 l.4 in
          (c.0, ap (λ xs. reified_constraint r (reverse xs)) l.2 ∙ c.1, subst (CountsAs c.0) (sym l.2) c.2)

  constraint : (at : ℕ) (ident : Ident) (es : List Expr) (anns : List Ann)
      → AreNone (IsFaultAfter before (record { at = at; form = forms.Constraint ident es anns }))
      → IsSound kinds (naming_after before) number (forms.Constraint ident es anns)
  constraint at ident es anns none =
      record {
        new = [];
        kinds_are = refl;
        counted = refl;
        legal = All-nil IsKind;
        narrow = All-nil IsNarrow;
        entities = tt;
        constraints = by (named ident.name) refl;
        shows = ([], refl);
        goals_are = ([], refl);
      }
    where
      item : Item
      item = record { at = at; form = forms.Constraint ident es anns }

      by : (o : Option ConstraintName) → named ident.name ≡ o
          → AreWeighed (naming_after before) number (forms.Constraint ident es anns)
      by None q = absurd (none (faults.UnknownConstraint ident.at) (inr (inr (inl (refl, q)))))
      by (Some n) q =
          let shapes : shapes_named ident.name ≡ argument_shapes n =
          ap (λ o. flat_map argument_shapes (option_to_list o)) q ∙ append-nil (argument_shapes n) in
          let count : length es ≡ length (shapes_named ident.name) = eq_unless (length es) (length (shapes_named ident.name))
          (λ ne. none (faults.WrongCount ident.at) (inr (inr (inl (inl (refl, ap is_some q, ne)))))) in
          let z = zip_gives (arg_of (naming_after before)) (HasShape kinds) (shapes_named ident.name) es count
          (λ s x used asked. expression_fits before kinds known (record { at = at; form = forms.Constraint ident es anns }) (λ g h. none g (inl h)) s x used asked) in
          let c = constrained n z.0 (subst (λ ss. AllZip (HasShape kinds) ss z.0) shapes z.2) in
          let counts : CountsAs c.0 z.0 = c.2 in
          record {
            list = c.0 ∷ [];
            are = (λ i. option_map (λ (d : Constraint). d ∷ []) (option_and_then (λ m. option_and_then (constraint_of m) (z.1 i)) (q i))) ∙ ap (λ o. option_map (λ (d : Constraint). d ∷ []) o) c.1;
            many = refl;
            elements = zero-add (elements_of_constraint c.0) ∙ counts.in_elements ∙ sym (all_elements (naming_after before) es z.0 z.1);
            terms = zero-add (terms_of_constraint c.0) ∙ counts.in_terms ∙ (sym (all_terms (naming_after before) es z.0 z.1) ∙ sym (zero-add (sum_by (λ e. length (terms_of (arg_of (naming_after before) e))) es)));
          }

  -- ---- the goal

  the_var : (a : Arg) → HasShape kinds (OneOf Integer) a → (v : VarId × List Kind) × (objective_var number a ≡ Some v)
  the_var (One (Var v)) h = ((v, []), refl)
  the_var (One (Const (value.Int x))) h = ((record { 0 = number }, kind.Int (x ∷ []) ∷ []), refl)
  the_var (One (Const (value.Bool b))) h = absurd h
  the_var (One (Const (value.Set s))) h = absurd h
  the_var (Many ts) h = absurd h

  objective : (at : ℕ) (anns : List Ann) (g : GoalForm) (e : Expr) → objective_in g ≡ Some e
      → AreNone (IsFaultAfter before (record { at = at; form = forms.Solve anns g }))
      → (v : VarId × List Kind) × (objective_of (naming_after before) number e ≡ Some v)
  objective at anns g (exprs.List lat items) q none =
      absurd (none (faults.ObjectiveNotInt lat) (inr (inr (inr (record { expression = exprs.List lat items; objective = q; none = λ x. x; place = refl })))))
  objective at anns g (exprs.One b) q none =
      let item : Item = record { at = at; form = forms.Solve anns g } in
      let used : Contains (flat_map parts_of (option_to_list (objective_in g))) b =
      subst (λ (o : Option Expr). Contains (flat_map parts_of (option_to_list o)) b) (sym q) (in_flat_map parts_of (exprs.One b ∷ []) (exprs.One b) b (in_front (exprs.One b) []) (in_front b [])) in
      let m : IsMeant kinds (naming_after before) b.form = part_meant before kinds known item (λ f h. none f (inl h)) b.at b.form used in
      elim (typing_told (OneOf Integer) (typing_of_arg m.sort m.arg)) [
        | inl has ↦
            (let v = the_var m.arg (shape_from_typing kinds (OneOf Integer) m.sort m.arg m.sorted has) in
            (v.0, ap (λ o. option_and_then (objective_var number) o) m.is ∙ v.1))
        | inr not ↦ absurd (none (faults.ObjectiveNotInt b.at) (inr (inr (inr (record {
          expression = exprs.One b;
          objective = q;
          none = λ s. not (subst (HasTyping (OneOf Integer)) (same_Some s.typing (typing_of_arg m.sort m.arg) (sym s.typed ∙ m.typed)) s.asked);
          place = refl;
        })))))
      ]

  solve : (at : ℕ) (anns : List Ann) (g : GoalForm)
      → AreNone (IsFaultAfter before (record { at = at; form = forms.Solve anns g }))
      → IsSound kinds (naming_after before) number (forms.Solve anns g)
  solve at anns g none = record {
    new = [];
    kinds_are = refl;
    counted = refl;
    legal = All-nil IsKind;
    narrow = All-nil IsNarrow;
    entities = tt;
    constraints = record { list = []; are = refl; many = refl; elements = refl; terms = refl };
    shows = ([], refl);
    goals_are = goal g none;
  }
    where
      goal : (h : GoalForm) → AreNone (IsFaultAfter before (record { at = at; form = forms.Solve anns h }))
          → (gs : List (Goal × List Kind)) × (goals_in (naming_after before) number (forms.Solve anns h) ≡ Some gs)
      goal goals.Satisfy n = (_, refl)
      goal (goals.Minimize e) n =
          let v = objective at anns (goals.Minimize e) e refl n in
          (_, ap (λ o. option_map (λ (x : Goal × List Kind). x ∷ []) (option_map (λ (w : VarId × List Kind). (Minimize w.0, w.1)) o)) v.1)
      goal (goals.Maximize e) n =
          let v = objective at anns (goals.Maximize e) e refl n in
          (_, ap (λ o. option_map (λ (x : Goal × List Kind). x ∷ []) (option_map (λ (w : VarId × List Kind). (Maximize w.0, w.1)) o)) v.1)

  -- ---- an item

  pub sound : (at : ℕ) (form : Form) → AreNone (IsFaultAfter before (record { at = at; form = form })) → IsSound kinds (naming_after before) number form
  sound at forms.Predicate none =
      record { new = []; kinds_are = refl; counted = refl; legal = All-nil IsKind; narrow = All-nil IsNarrow; entities = tt; constraints = record { list = []; are = refl; many = refl; elements = refl; terms = refl }; shows = ([], refl); goals_are = ([], refl) }
  sound at (forms.Param t ident anns e) none = param at t ident anns e none
  sound at (forms.Variable t ident anns e) none = var at t ident anns e none
  sound at (forms.Array len is_var t ident anns items_at items) none = array at len is_var t ident anns items_at items none
  sound at (forms.Constraint ident es anns) none = constraint at ident es anns none
  sound at (forms.Solve anns g) none = solve at anns g none
