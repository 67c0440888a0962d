-- The constraint of an item without faults has the arguments of its relation.
use Rattle.std.proofs.Common.{◌≡◌, ◌≢◌, ℕ, ◌≤◌, Bool, true, false, List, [], ◌∷◌, ◌++◌, length, reverse, option_to_list, Option, Some, None, is_some, refl, sym, ap, subst, ◌∙◌, inl, inr, arith}
use Rattle.std.specs.Prelude.{Contains, IsTrue, IfSome}
use Rattle.std.specs.List.{AllZip, flat_map, zip}
use Rattle.std.specs.Option.{option_map, option_and_then}
use Rattle.std.proofs.lemmas.Option.{same_Some}
use Rattle.std.proofs.lemmas.List.{append-nil, reverse-append, reverse-reverse}
use Rattle.fzn_parser.specs.declared.tree.Expr.{Expr}
use Rattle.fzn_parser.specs.declared.tree.Ident.{Ident}
use Rattle.fzn_parser.specs.declared.tree.Ann.{Ann}
use Rattle.fzn_parser.specs.declared.tree.TypeExpr.{TypeExpr}
use Rattle.fzn_parser.specs.declared.tree.Form.TheVariants as forms
use Rattle.fzn_parser.specs.declared.tree.Item.{Item}
use Rattle.set_meaning.specs.declared.kinds.Kind.{Kind}
use Rattle.set_meaning.specs.declared.problems.Term.TheVariants.{Var}
use Rattle.set_meaning.specs.declared.problems.Arg.{Arg}
use Rattle.set_meaning.specs.declared.problems.Arg.TheVariants.{One, Many}
use Rattle.set_meaning.specs.declared.problems.Relation.{Relation}
use Rattle.set_meaning.specs.declared.problems.Constraint.{Constraint}
use Rattle.set_meaning.specs.declared.rows.Sort.{Sort}
use Rattle.set_meaning.specs.declared.rows.Sort.TheVariants.{Boolean, Integer, IntegerSet}
use Rattle.set_meaning.specs.declared.rows.Shape.{Shape}
use Rattle.set_meaning.specs.declared.rows.Shape.TheVariants.{OneOf}
use Rattle.set_meaning.specs.Rows.{AreOfOneLength, ArePaired, FitsRow, HasShape, HasSort, row_of, shapes_of}
use Rattle.fzn_model.specs.declared.names.ConstraintName.{ConstraintName}
use Rattle.fzn_model.specs.declared.faults.ModelFault.TheVariants as faults
use Rattle.fzn_model.specs.Lists.{each_of}
use Rattle.fzn_model.specs.Names.{named}
use Rattle.fzn_model.specs.Entities.{arg_of, naming_after, sort_of, variable}
use Rattle.fzn_model.specs.Shapes.{argument_shapes, asked_if, shapes_named}
use Rattle.fzn_model.specs.ProblemOf.{constraint_named, constraint_of, equality, equality_of, reified_constraint}
use Rattle.fzn_model.specs.FaultsOf.{IsFaultAfter}
use Rattle.fzn_model.specs.FirstFault.{AreNone}
use Rattle.fzn_model.proofs.Among.{in_flat_map, in_front, in_rest}
use Rattle.fzn_model.proofs.Meant.{AreKnown, expression_fits}
use Rattle.fzn_model.proofs.Sound.{le_unless}
use Rattle.model_legality.proofs.Splits.{bind_some, both_there}
use Rattle.model_legality.proofs.MoreVariables.{shape_more}
use Rattle.model_legality.proofs.ReifiedNames.{reified_is_reifiable}

-- ---- lists

-- of as many as are asked, each is what it is asked to be
zip_fits : {S A B : Type 0} (f : A → Option B) (P : S → B → Type 0) (ss : List S) (xs : List A) (ys : List B)
    → length xs ≡ length ss → each_of f xs ≡ Some ys
    → ((s : S) (x : A) (y : B) → Contains xs x → Contains (zip ss xs) (s, x) → f x ≡ Some y → P s y) → AllZip P ss ys
zip_fits f P [] [] ys e is h = subst (AllZip P []) (same_Some [] ys is) tt
zip_fits f P [] (x ∷ xs) ys e is h = absurd (omega arith)
zip_fits f P (s ∷ ss) [] ys e is h = absurd (omega arith)
zip_fits f P (s ∷ ss) (x ∷ xs) ys e is h =
    let b = both_there (f x) (each_of f xs) ys is in
    subst (AllZip P (s ∷ ss)) (sym b.all) (
      h s x b.head (in_front x xs) (in_front (s, x) (zip ss xs)) b.first,
      zip_fits f P ss xs b.tail (omega arith) b.rest (λ t z w c d g. h t z w (in_rest x xs z c) (in_rest (s, x) (zip ss xs) (t, z) d) g),
    )

-- the last of as many
record EndsIn {S B : Type 0} (P : S → B → Type 0) (ss : List S) (s : S) (ys : List B) : Type 0 where
  front : List B
  last : B
  split : ys ≡ front ++ last ∷ []
  first : AllZip P ss front
  own : P s last

ends_in : {S B : Type 0} (P : S → B → Type 0) (ss : List S) (s : S) (ys : List B) → AllZip P (ss ++ s ∷ []) ys → EndsIn P ss s ys
ends_in P [] s [] h = absurd h
ends_in P [] s (y ∷ []) h = record { front = []; last = y; split = refl; first = tt; own = h.0 }
ends_in P [] s (y ∷ z ∷ ys) h = absurd h.1
ends_in P (r ∷ ss) s [] h = absurd h
ends_in P (r ∷ ss) s (y ∷ ys) h =
    let e = ends_in P ss s ys h.1 in
    record { front = y ∷ e.front; last = e.last; split = ap (λ zs. y ∷ zs) e.split; first = (h.0, e.first); own = e.own }

-- ---- what can be told

eq_unless : (a b : ℕ) → (a ≢ b → ⊥) → a ≡ b
eq_unless a b h =
    let down : b ≤ a = le_unless a b (λ w. h (λ e. omega (arith, w, e))) in
    let up : a ≤ b = le_unless b a (λ w. h (λ e. omega (arith, w, e))) in
    omega (arith, down, up)

one_length_unless : (a b : Arg) → ((AreOfOneLength a b → ⊥) → ⊥) → AreOfOneLength a b
one_length_unless (Many cs) (Many xs) h = eq_unless (length cs) (length xs) h
one_length_unless (Many cs) (One t) h = absurd (h (λ x. x))
one_length_unless (One t) b h = absurd (h (λ x. x))

paired_unless : (args : List Arg) → ((ArePaired args → ⊥) → ⊥) → ArePaired args
paired_unless [] h = absurd (h (λ x. x))
paired_unless (a ∷ []) h = absurd (h (λ x. x))
paired_unless (a ∷ b ∷ args) h = one_length_unless a b h

-- ---- a constraint of some arguments

-- its arguments are those of its relation, but for the lengths of arrays
record Takes (kinds : List Kind) (c : Constraint) : Type 0 where
  args : AllZip (HasShape kinds) (shapes_of (row_of c.relation)) c.args
  reif : IfSome c.reif (λ t. IsTrue (row_of c.relation).reifiable × HasSort kinds Boolean t)

module _ (kinds : List Kind) where
  with_truth_value : (r : Relation) → IsTrue (row_of r).reifiable
      → (front : List Arg) → AllZip (HasShape kinds) (shapes_of (row_of r)) front → (last : Arg) → HasShape kinds (OneOf Boolean) last
      → (c : Constraint) → reified_constraint r (last ∷ reverse front) ≡ Some c → Takes kinds c
  with_truth_value r can front h (Many ts) own c e = absurd own
  with_truth_value r can front h (One t) own c e =
      subst (Takes kinds) (same_Some (record { relation = r; args = reverse (reverse front); reif = Some t }) c e) (record {
        args = subst (AllZip (HasShape kinds) (shapes_of (row_of r))) (sym (reverse-reverse front)) h;
        reif = (can, own);
      })

  reified_takes : (r : Relation) → IsTrue (row_of r).reifiable
      → (args : List Arg) → AllZip (HasShape kinds) (shapes_of (row_of r) ++ OneOf Boolean ∷ []) args
      → (c : Constraint) → reified_constraint r (reverse args) ≡ Some c → Takes kinds c
  reified_takes r can args h c e =
      let l = ends_in (HasShape kinds) (shapes_of (row_of r)) (OneOf Boolean) args h in
      with_truth_value r can l.front l.first l.last l.own c
      (sym (ap (λ xs. reified_constraint r (reverse xs)) l.split ∙ ap (reified_constraint r) (reverse-append l.front (l.last ∷ []))) ∙ e)

  of_name : (r : Relation) (t : Bool) → (t ≡ true → IsTrue (row_of r).reifiable) → (args : List Arg)
      → AllZip (HasShape kinds) (argument_shapes (record { relation = r; is_reified = t })) args
      → (c : Constraint) → constraint_of (record { relation = r; is_reified = t }) args ≡ Some c → Takes kinds c
  of_name r true can args h c e = reified_takes r (can refl) args h c e
  of_name r false can args h c e =
      subst (Takes kinds) (same_Some (record { relation = r; args = args; reif = None }) c e) (record { args = h; reif = tt })

  -- that a term of a sort is equal to another
  equality_fits : (sort : Sort) (a b : Arg) → HasShape kinds (OneOf sort) a → HasShape kinds (OneOf sort) b
      → FitsRow kinds (record { relation = equality sort; args = a ∷ b ∷ []; reif = None })
  equality_fits Boolean a b h g = record { args = (h, (g, tt)); paired = λ f. absurd (cc); reif = tt }
  equality_fits Integer a b h g = record { args = (h, (g, tt)); paired = λ f. absurd (cc); reif = tt }
  equality_fits IntegerSet a b h g = record { args = (h, (g, tt)); paired = λ f. absurd (cc); reif = tt }

-- ---- the constraint of an item

module _ (before : List Item) (kinds : List Kind) (known : AreKnown before kinds) where
  pub constraint_fits : (at : ℕ) (ident : Ident) (es : List Expr) (anns : List Ann)
      → AreNone (IsFaultAfter before (record { at = at; form = forms.Constraint ident es anns }))
      → (c : Constraint) → constraint_named (naming_after before) ident.name es ≡ Some c → FitsRow kinds c
  constraint_fits at ident es anns none c is =
      let n = bind_some (named ident.name)
      (λ (k : ConstraintName). option_and_then (constraint_of k) (each_of (arg_of (naming_after before)) es)) c is in
      let given = bind_some (each_of (arg_of (naming_after before)) es) (constraint_of n.0) c n.2 in
      let shapes : shapes_named ident.name ≡ argument_shapes n.0 =
      ap (λ o. flat_map argument_shapes (option_to_list o)) n.1 ∙ append-nil (argument_shapes n.0) in
      let count : length es ≡ length (shapes_named ident.name) = eq_unless (length es) (length (shapes_named ident.name))
      (λ ne. none (faults.WrongCount ident.at) (inr (inr (inl (inl (refl, ap is_some n.1, ne)))))) in
      let fit : AllZip (HasShape kinds) (shapes_named ident.name) given.0 =
      zip_fits (arg_of (naming_after before)) (HasShape kinds) (shapes_named ident.name) es given.0 count given.1
      (λ s x y used asked e.
      let item : Item = record { at = at; form = forms.Constraint ident es anns } in
      let f = expression_fits before kinds known item (λ g h. none g (inl h)) s x used asked in
      subst (HasShape kinds s) (same_Some f.0 y (sym f.1 ∙ e)) f.2) in
      let takes : Takes kinds c = of_name kinds n.0.relation n.0.is_reified (reified_is_reifiable ident.name n.0 n.1) given.0
      (subst (λ ss. AllZip (HasShape kinds) ss given.0) shapes fit) c given.2 in
      record {
        args = takes.args;
        paired = λ linear. paired_unless c.args (λ u. none (faults.WrongCount ident.at) (inr (inr (inl (inr (record {
          good = λ g h. none g (inl h);
          constraint = c;
          is = (refl, is);
          linear = linear;
          unpaired = u;
        }))))));
        reif = takes.reif;
      }

  abbrev AreAsked : Expr → Sort → Option Sort → Type 0
  AreAsked e sort o = Contains {X = Shape × Expr} (option_to_list (option_map (λ s. (OneOf s, e)) o)) (OneOf sort, e)

  asked_value : (t : TypeExpr) (e : Expr) (sort : Sort) → sort_of t.form ≡ Some sort
      → Contains {X = Shape × Expr} (asked_if OneOf t e) (OneOf sort, e)
  asked_value t e sort q = subst (AreAsked e sort) (sym q) (in_front (OneOf sort, e) [])

  -- the value of a variable, which is the last of these and more
  pub value_fits : (at : ℕ) (t : TypeExpr) (ident : Ident) (anns : List Ann) (e : Expr)
      → AreNone (IsFaultAfter before (record { at = at; form = forms.Variable t ident anns (Some e) }))
      → (sort : Sort) → sort_of t.form ≡ Some sort
      → (number : ℕ) (more : List Kind) → HasSort (kinds ++ more) sort (Var (record { 0 = number }))
      → (c : Constraint) → equality_of (naming_after before) number t.form e ≡ Some c → FitsRow (kinds ++ more) c
  value_fits at t ident anns e none sort sorted number more own c is =
      let item : Item = record { at = at; form = forms.Variable t ident anns (Some e) } in
      let f = expression_fits before kinds known item (λ g h. none g (inl h)) (OneOf sort) e (in_front e [])
      (in_flat_map (asked_if OneOf t) (e ∷ []) e (OneOf sort, e) (in_front e []) (asked_value t e sort sorted)) in
      let equal : Sort → Arg → Constraint = λ s a. record { relation = equality s; args = variable number ∷ a ∷ []; reif = None } in
      let made : equality_of (naming_after before) number t.form e ≡ Some (equal sort f.0) =
      λ i. option_and_then (λ s. option_and_then (λ a. Some (equal s a)) (f.1 i)) (sorted i) in
      subst (FitsRow (kinds ++ more)) (same_Some (equal sort f.0) c (sym made ∙ is))
      (equality_fits (kinds ++ more) sort (variable number) f.0 own (shape_more kinds more (OneOf sort) f.0 f.2))
