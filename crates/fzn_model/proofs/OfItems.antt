-- The faults in the expressions of an item are those of its parts.
use Rattle.std.proofs.Common.{◌≡◌, ◌≢◌, ◌⊎◌, ◌↔◌, ℕ, ◌+◌, ◌<◌, List, [], ◌∷◌, ◌++◌, map, Option, Some, None, ℤ, refl, sym, ap, ◌∙◌, subst, inl, inr, arith}
use Rattle.std.specs.Prelude.{Contains, Any, IsSome, IsTrue, sum_by, option_to_list}
use Rattle.std.specs.List.{flat_map, zip}
use Rattle.std.specs.Option.{option_map}
use Rattle.std.proofs.lemmas.List.{append-nil}
use Rattle.std.proofs.lemmas.List.Concat.{flat_map_single}
use Rattle.std.proofs.lemmas.List.Folds.{flat_map-map}
use Rattle.std.proofs.lemmas.List.Elements.{Contains-append_left, Contains-append_right, Contains-append_cases, Contains-push, Contains-push_cases}
use Rattle.std.proofs.lemmas.Option.{none-some, same_Some}
use Rattle.fzn_parser.specs.declared.tree.Num.{Num}
use Rattle.fzn_parser.specs.declared.tree.Num.TheVariants as nums
use Rattle.fzn_parser.specs.declared.tree.Number.{Number}
use Rattle.fzn_parser.specs.declared.tree.SetForm.{SetForm}
use Rattle.fzn_parser.specs.declared.tree.Basic.{Basic}
use Rattle.fzn_parser.specs.declared.tree.BasicForm.{BasicForm}
use Rattle.fzn_parser.specs.declared.tree.BasicForm.TheVariants as basics
use Rattle.fzn_parser.specs.declared.tree.Expr.{Expr}
use Rattle.fzn_parser.specs.declared.tree.Expr.TheVariants as exprs
use Rattle.fzn_parser.specs.declared.tree.GoalForm.TheVariants as goals
use Rattle.fzn_parser.specs.declared.tree.Form.{Form}
use Rattle.fzn_parser.specs.declared.tree.Form.TheVariants as forms
use Rattle.fzn_parser.specs.declared.tree.Item.{Item}
use Rattle.set_meaning.specs.declared.rows.Sort.{Sort}
use Rattle.set_meaning.specs.declared.rows.Shape.{Shape}
use Rattle.set_meaning.specs.declared.rows.Shape.TheVariants.{OneOf, ManyOf, ConstantOf, ConstantsOf}
use Rattle.fzn_model.specs.declared.faults.ModelFault.{ModelFault}
use Rattle.fzn_model.specs.declared.faults.ModelFault.TheVariants as faults
use Rattle.fzn_model.specs.Lists.{sum_after}
use Rattle.fzn_model.specs.Items.{declares, expressions_in, numbers_at, numbers_in_part, parts_of, place_of}
use Rattle.fzn_model.specs.Entities.{Naming, elements_of, naming_after, sort_of}
use Rattle.fzn_model.specs.Measures.{number_fault}
use Rattle.fzn_model.specs.Shapes.{IsStrayArray, Suits, array_shape, asked_in, asked_of_parts, shapes_named}
use Rattle.fzn_model.specs.FaultsOf.{ArePastAllSets, HasLargeElement, InExpressions, IsConstantSet, IsStray, IsUndeclared, IsUnsuited, IsWideConstant, all_parts, constant_elements, constant_elements_after, constrained_parts}
use Rattle.fzn_model.specs.PartFaults.{IsSingle, IsUnknownName, IsUnsuitedTo, OfElements, OfExpression, OfItem, OfPart, OfPast, literal_elements, own_asked, part_shape, with_shapes}

-- ---- membership

pub contains_one : {A : Type 0} (x y : A) → Contains (x ∷ []) y → x ≡ y
contains_one x y h = elim (Contains-push_cases [] x y h) [ inl k ↦ let l = k.1 in absurd (omega arith) | inr e ↦ e ]

pub none_in : {A : Type 0} (y : A) → Contains [] y → ⊥
none_in y h = let l = h.1 in omega arith

in_flat : {A B : Type 0} (f : A → List B) (xs : List A) (y : B) → Contains (flat_map f xs) y → (x : A) × Contains xs x × Contains (f x) y
in_flat f [] y h = absurd (none_in y h)
in_flat f (x ∷ xs) y h =
    elim (Contains-append_cases (f x) (flat_map f xs) y h) [
      | inl here ↦ (x, Contains-append_left (x ∷ []) xs x (Contains-push [] x), here)
      | inr there ↦ let w = in_flat f xs y there in (w.0, Contains-append_right (x ∷ []) xs w.0 w.1, w.2)
    ]

pub to_flat : {A B : Type 0} (f : A → List B) (xs : List A) (x : A) (y : B) → Contains xs x → Contains (f x) y → Contains (flat_map f xs) y
to_flat f [] x y h k = absurd (none_in x h)
to_flat f (z ∷ xs) x y h k =
    elim (Contains-append_cases (z ∷ []) xs x h) [
      | inl here ↦ Contains-append_left (f z) (flat_map f xs) y (subst (λ w. Contains (f w) y) (sym (contains_one z x here)) k)
      | inr there ↦ Contains-append_right (f z) (flat_map f xs) y (to_flat f xs x y there k)
    ]

in_map : {A B : Type 0} (f : A → B) (xs : List A) (y : B) → Contains (map f xs) y → (x : A) × Contains xs x × (f x ≡ y)
in_map f xs y h =
    let w = in_flat (λ x. f x ∷ []) xs y (subst (λ ys. Contains ys y) (sym (flat_map_single f xs)) h) in
    (w.0, w.1, contains_one (f w.0) y w.2)

to_map : {A B : Type 0} (f : A → B) (xs : List A) (x : A) → Contains xs x → Contains (map f xs) (f x)
to_map f xs x h =
    subst (λ ys. Contains ys (f x)) (flat_map_single f xs) (to_flat (λ x. f x ∷ []) xs x (f x) h (Contains-push [] (f x)))

-- ---- the expressions of an item

abbrev asked_pair : (Option Shape × Expr) → List (Shape × Expr)
asked_pair a = option_to_list (option_map (λ s. (s, a.1)) a.0)

asked_one : (shape : Sort → Shape) (o : Option Sort) (e : Expr)
    → option_to_list (option_map (λ sort. (shape sort, e)) o) ≡ flat_map asked_pair ((option_map shape o, e) ∷ [])
asked_one shape None e = refl
asked_one shape (Some s) e = refl

zip_is : (shapes : List Shape) (es : List Expr) → zip shapes es ≡ flat_map asked_pair (with_shapes shapes es)
zip_is [] [] = refl
zip_is [] (e ∷ es) = zip_is [] es
zip_is (s ∷ shapes) [] = refl
zip_is (s ∷ shapes) (e ∷ es) = ap (λ zs. (s, e) ∷ zs) (zip_is shapes es)

asked_is : (form : Form) → asked_in form ≡ flat_map asked_pair (own_asked form)
asked_is forms.Predicate = refl
asked_is (forms.Param t ident anns e) = asked_one ConstantOf (sort_of t.form) e
asked_is (forms.Variable t ident anns None) = refl
asked_is (forms.Variable t ident anns (Some e)) = append-nil _ ∙ asked_one OneOf (sort_of t.form) e
asked_is (forms.Array len is_var t ident anns at items) = asked_one (array_shape is_var) (sort_of t.form) (exprs.List at items)
asked_is (forms.Constraint ident es anns) = zip_is (shapes_named ident.name) es
asked_is (forms.Solve anns goals.Satisfy) = refl
asked_is (forms.Solve anns (goals.Minimize e)) = refl
asked_is (forms.Solve anns (goals.Maximize e)) = refl

without_shapes : (shapes : List Shape) (es : List Expr) → es ≡ map (λ a. a.1) (with_shapes shapes es)
without_shapes shapes [] = refl
without_shapes [] (e ∷ es) = ap (λ zs. e ∷ zs) (without_shapes [] es)
without_shapes (s ∷ shapes) (e ∷ es) = ap (λ zs. e ∷ zs) (without_shapes shapes es)

expressions_are : (form : Form) → expressions_in form ≡ map (λ a. a.1) (own_asked form)
expressions_are forms.Predicate = refl
expressions_are (forms.Param t ident anns e) = refl
expressions_are (forms.Variable t ident anns None) = refl
expressions_are (forms.Variable t ident anns (Some e)) = refl
expressions_are (forms.Array len is_var t ident anns at items) = refl
expressions_are (forms.Constraint ident es anns) = without_shapes (shapes_named ident.name) es
expressions_are (forms.Solve anns goals.Satisfy) = refl
expressions_are (forms.Solve anns (goals.Minimize e)) = refl
expressions_are (forms.Solve anns (goals.Maximize e)) = refl

abbrev asked_parts : (Option Shape × Expr) → List Basic
asked_parts a = parts_of a.1

parts_are : (form : Form) → all_parts form ≡ flat_map asked_parts (own_asked form)
parts_are form = ap (flat_map parts_of) (expressions_are form) ∙ flat_map-map parts_of (λ a. a.1) (own_asked form)

-- a part of the item is one of an expression that is asked
part_of_asked : (form : Form) (part : Basic) → Contains (all_parts form) part
    → (a : Option Shape × Expr) × Contains (own_asked form) a × Contains (parts_of a.1) part
part_of_asked form part h = in_flat asked_parts (own_asked form) part (subst (λ ps. Contains ps part) (parts_are form) h)

asked_has_part : (form : Form) (a : Option Shape × Expr) (part : Basic) → Contains (own_asked form) a → Contains (parts_of a.1) part
    → Contains (all_parts form) part
asked_has_part form a part h k = subst (λ ps. Contains ps part) (sym (parts_are form)) (to_flat asked_parts (own_asked form) a part h k)

asked_pair_is : (o : Option Shape) (e f : Expr) (shape : Shape) → Contains (asked_pair (o, e)) (shape, f) → (o ≡ Some shape) × (e ≡ f)
asked_pair_is None e f shape h = absurd (none_in (shape, f) h)
asked_pair_is (Some s) e f shape h =
    let p : (s, e) ≡ (shape, f) = contains_one (s, e) (shape, f) h in
    (ap (λ (x : Shape × Expr). Some x.0) p, ap (λ (x : Shape × Expr). x.1) p)

-- what is asked of an expression of the item
asked_expression : (form : Form) (shape : Shape) (e : Expr) → Contains (asked_in form) (shape, e) → Contains (own_asked form) (Some shape, e)
asked_expression form shape e h =
    let w = in_flat asked_pair (own_asked form) (shape, e) (subst (λ pairs. Contains pairs (shape, e)) (asked_is form) h) in
    let s = asked_pair_is w.0.0 w.0.1 e shape w.2 in
    subst (λ o. Contains (own_asked form) (o, e)) s.0 (subst (λ x. Contains (own_asked form) (w.0.0, x)) s.1 w.1)

expression_asked : (form : Form) (shape : Shape) (e : Expr) → Contains (own_asked form) (Some shape, e) → Contains (asked_in form) (shape, e)
expression_asked form shape e h =
    subst (λ pairs. Contains pairs (shape, e)) (sym (asked_is form))
    (to_flat asked_pair (own_asked form) (Some shape, e) (shape, e) h (Contains-push [] (shape, e)))

-- ---- the parts of an expression

part_in : (naming : Naming) (shape : Option Shape) (e : Expr) (part : Basic) (f : ModelFault) → Contains (parts_of e) part
    → OfPart naming (part_shape shape e) part f → OfExpression naming shape e f
part_in naming shape (exprs.One b) part f h k = subst (λ x. OfPart naming shape x f) (sym (contains_one b part h)) k
part_in naming shape (exprs.List at items) part f h k = inr (record { part = part; used = h; faulty = k })

abbrev IsStrayHere : Option Shape → Expr → Type 0
IsStrayHere shape (exprs.One b) = ⊥
IsStrayHere shape (exprs.List at items) = IsSingle shape

stray_in : (naming : Naming) (shape : Option Shape) (e : Expr) → IsStrayHere shape e → OfExpression naming shape e (faults.WrongType (place_of e))
stray_in naming shape (exprs.One b) h = absurd h
stray_in naming shape (exprs.List at items) h = inl (refl, h)

part_out : (naming : Naming) (shape : Option Shape) (e : Expr) (f : ModelFault) → OfExpression naming shape e f
    → ((f ≡ faults.WrongType (place_of e)) × IsStrayHere shape e)
    ⊎ ((part : Basic) × Contains (parts_of e) part × OfPart naming (part_shape shape e) part f)
part_out naming shape (exprs.One b) f h = inr (b, Contains-push [] b, h)
part_out naming shape (exprs.List at items) f (inl s) = inl s
part_out naming shape (exprs.List at items) f (inr h) = inr (h.part, h.used, h.faulty)

stray_here : (shape : Shape) (e : Expr) → IsStrayArray shape e → IsStrayHere (Some shape) e
stray_here (OneOf sort) (exprs.One b) h = h
stray_here (ManyOf sort) (exprs.One b) h = h
stray_here (ConstantOf sort) (exprs.One b) h = h
stray_here (ConstantsOf sort) (exprs.One b) h = h
stray_here (OneOf sort) (exprs.List at items) h = h
stray_here (ManyOf sort) (exprs.List at items) h = h
stray_here (ConstantOf sort) (exprs.List at items) h = h
stray_here (ConstantsOf sort) (exprs.List at items) h = h

stray_array : (shape : Shape) (e : Expr) → IsStrayHere (Some shape) e → IsStrayArray shape e
stray_array (OneOf sort) (exprs.One b) h = h
stray_array (ManyOf sort) (exprs.One b) h = h
stray_array (ConstantOf sort) (exprs.One b) h = h
stray_array (ConstantsOf sort) (exprs.One b) h = h
stray_array (OneOf sort) (exprs.List at items) h = h
stray_array (ManyOf sort) (exprs.List at items) h = h
stray_array (ConstantOf sort) (exprs.List at items) h = h
stray_array (ConstantsOf sort) (exprs.List at items) h = h

not_stray : (e : Expr) → IsStrayHere None e → ⊥
not_stray (exprs.One b) h = h
not_stray (exprs.List at items) h = h

-- what is asked of the parts
pairs_in : (made shape : Shape) (items : List Basic) (part : Basic) → Contains {X = Shape × Basic} (map (λ b. (made, b)) items) (shape, part)
    → Contains items part × (Some made ≡ Some shape)
pairs_in made shape items part h =
    let w = in_map (λ b. (made, b)) items (shape, part) h in
    let b : w.0 ≡ part = ap (λ (x : Shape × Basic). x.1) w.2 in
    (subst (λ x. Contains items x) b w.1, ap (λ (x : Shape × Basic). Some x.0) w.2)

asked_part_in : (s shape : Shape) (e : Expr) (part : Basic) → Contains (asked_of_parts s e) (shape, part)
    → Contains (parts_of e) part × (part_shape (Some s) e ≡ Some shape)
asked_part_in s shape (exprs.One b) part h =
    let p : (s, b) ≡ (shape, part) = contains_one (s, b) (shape, part) h in
    (subst (λ x. Contains (b ∷ []) x) (ap (λ (x : Shape × Basic). x.1) p) (Contains-push [] b), ap (λ (x : Shape × Basic). Some x.0) p)
asked_part_in (OneOf sort) shape (exprs.List at items) part h = absurd (none_in (shape, part) h)
asked_part_in (ManyOf sort) shape (exprs.List at items) part h = pairs_in (OneOf sort) shape items part h
asked_part_in (ConstantOf sort) shape (exprs.List at items) part h = absurd (none_in (shape, part) h)
asked_part_in (ConstantsOf sort) shape (exprs.List at items) part h = pairs_in (ConstantOf sort) shape items part h

to_pair : (made shape : Shape) (items : List Basic) (part : Basic) → Contains items part → Some made ≡ Some shape
    → Contains {X = Shape × Basic} (map (λ b. (made, b)) items) (shape, part)
to_pair made shape items part h e =
    subst (λ s. Contains {X = Shape × Basic} (map (λ b. (made, b)) items) (s, part)) (same_Some made shape e) (to_map (λ b. (made, b)) items part h)

part_asked : (s shape : Shape) (e : Expr) (part : Basic) → Contains (parts_of e) part → part_shape (Some s) e ≡ Some shape
    → Contains (asked_of_parts s e) (shape, part)
part_asked s shape (exprs.One b) part h e =
    subst (λ x. Contains ((s, b) ∷ []) x) (ap (λ x. (s, x)) (contains_one b part h) ∙ ap (λ x. (x, part)) (same_Some s shape e)) (Contains-push [] (s, b))
part_asked (OneOf sort) shape (exprs.List at items) part h e = absurd (none-some shape e)
part_asked (ManyOf sort) shape (exprs.List at items) part h e = to_pair (OneOf sort) shape items part h e
part_asked (ConstantOf sort) shape (exprs.List at items) part h e = absurd (none-some shape e)
part_asked (ConstantsOf sort) shape (exprs.List at items) part h e = to_pair (ConstantOf sort) shape items part h e

-- ---- from the rules to the parts

abbrev pub IsDeclaredIn : Naming → List Item → Type 0
IsDeclaredIn naming before = (name : List ℕ) → IsSome (naming name) ↔ Any (λ earlier. IsTrue (declares name earlier.form)) before

none_from : {A : Type 0} (o : Option A) → (IsSome o → ⊥) → o ≡ None
none_from None h = refl
none_from (Some x) h = absurd (h refl)

-- a part of the item that has the fault
item_of_part : (naming : Naming) (start : ℕ) (form : Form) (part : Basic) (f : ModelFault) → Contains (all_parts form) part
    → ((shape : Option Shape) → OfPart naming shape part f) → OfItem naming start form f
item_of_part naming start form part f h k =
    let w = part_of_asked form part h in
    inl (record { part = w.0; used = w.1; faulty = part_in naming w.0.0 w.0.1 part f w.2 (k (part_shape w.0.0 w.0.1)) })

undeclared_to : (naming : Naming) (start : ℕ) (before : List Item) (item : Item) (at : ℕ) → IsDeclaredIn naming before
    → IsUndeclared before item at → OfItem naming start item.form (faults.Undeclared at)
undeclared_to naming start before item at iff h =
    let none : naming h.name ≡ None = none_from (naming h.name) (λ s. h.declared ((iff h.name).0 s)) in
    item_of_part naming start item.form h.part (faults.Undeclared at) h.used
    (λ shape. inl (ap faults.Undeclared h.place, subst (IsUnknownName naming) (sym h.named) none))

stray_to : (naming : Naming) (start : ℕ) (before : List Item) (item : Item) (at : ℕ)
    → IsStray before item at → OfItem naming start item.form (faults.WrongType at)
stray_to naming start before item at h =
    inl (record {
      part = (Some h.shape, h.expression);
      used = asked_expression item.form h.shape h.expression h.asked;
      faulty = subst (λ p. OfExpression naming (Some h.shape) h.expression (faults.WrongType p)) (sym h.place)
          (stray_in naming (Some h.shape) h.expression (stray_here h.shape h.expression h.stray));
    })

unsuited_to : (naming : Naming) (start : ℕ) (before : List Item) (item : Item) (at : ℕ) → naming ≡ naming_after before
    → IsUnsuited before item at → OfItem naming start item.form (faults.WrongType at)
unsuited_to naming start before item at same h =
    let w = in_flat (λ (a : Shape × Expr). asked_of_parts a.0 a.1) (asked_in item.form) (h.shape, h.part) h.asked in
    let p = asked_part_in w.0.0 h.shape w.0.1 h.part w.2 in
    let unsuited : IsUnsuitedTo naming (part_shape (Some w.0.0) w.0.1) h.part.form
    = subst (λ o. IsUnsuitedTo naming o h.part.form) (sym p.1)
    (h.float, λ suits. h.suits (subst (λ n. Suits n h.shape h.part.form) same suits)) in
    inl (record {
      part = (Some w.0.0, w.0.1);
      used = asked_expression item.form w.0.0 w.0.1 w.1;
      faulty = part_in naming (Some w.0.0) w.0.1 h.part (faults.WrongType at) p.0 (inr (inl (ap faults.WrongType h.place, unsuited)));
    })

number_to : (naming : Naming) (start : ℕ) (form : Form) (n : Number) (f : ModelFault) → number_fault n ≡ Some f
    → Contains (flat_map numbers_in_part (all_parts form)) n → OfItem naming start form f
number_to naming start form n f e h =
    let w = in_flat numbers_in_part (all_parts form) n h in
    item_of_part naming start form w.0 f w.1 (λ shape. inr (inr (inl (record { part = n; used = w.2; faulty = e }))))

elements_to : (naming : Naming) (start : ℕ) (item : Item) (at : ℕ) (elements : List ℤ) (f : ModelFault) (h : IsConstantSet item at elements)
    → OfElements h.part.at (Some elements) f → OfItem naming start item.form f
elements_to naming start item at elements f h k =
    item_of_part naming start item.form h.part f h.used
    (λ shape. inr (inr (inr (subst (λ known. OfElements h.part.at known f) (sym (ap literal_elements h.is ∙ h.known)) k))))

wide_to : (naming : Naming) (start : ℕ) (item : Item) (at : ℕ) → IsWideConstant item at → OfItem naming start item.form (faults.SetTooWide at)
wide_to naming start item at h =
    elements_to naming start item at h.elements (faults.SetTooWide at) h.constant
    (inl (ap faults.SetTooWide h.constant.place, (h.elements, refl, h.wide)))

large_to : (naming : Naming) (start : ℕ) (item : Item) (at : ℕ) → HasLargeElement item at → OfItem naming start item.form (faults.ElementRange at)
large_to naming start item at h =
    elements_to naming start item at h.elements (faults.ElementRange at) h.constant
    (inr (ap faults.ElementRange h.constant.place, (h.elements, refl, h.large)))

past_to : (naming : Naming) (start : ℕ) (before : List Item) (item : Item) (at : ℕ) → naming ≡ naming_after before
    → start ≡ sum_after constant_elements_after [] before → ArePastAllSets before item at → OfItem naming start item.form (faults.SetTooWide at)
past_to naming start before item at same total h =
    inr (
      at,
      refl,
      record {
        front = h.front;
        part = h.part;
        back = h.back;
        occurs = h.occurs;
        place = h.place;
        many = subst (λ s. 16777216 < s + sum_by (constant_elements naming) (h.front ++ h.part ∷ [])) (sym total)
            (subst (λ n. 16777216 < sum_after constant_elements_after [] before + sum_by (constant_elements n) (h.front ++ h.part ∷ [])) (sym same) h.many);
      },
    )

pub rules_to : (naming : Naming) (start : ℕ) (before : List Item) (item : Item) → naming ≡ naming_after before → IsDeclaredIn naming before
    → start ≡ sum_after constant_elements_after [] before → (f : ModelFault) → InExpressions before item f → OfItem naming start item.form f
rules_to naming start before item same iff total (faults.Undeclared at) h = undeclared_to naming start before item at iff h
rules_to naming start before item same iff total (faults.WrongType at) (inl h) = stray_to naming start before item at h
rules_to naming start before item same iff total (faults.WrongType at) (inr h) = unsuited_to naming start before item at same h
rules_to naming start before item same iff total (faults.Float at) h = number_to naming start item.form (record { at = at; num = nums.Float }) (faults.Float at) refl h
rules_to naming start before item same iff total (faults.NumberTooLarge at) h = number_to naming start item.form (record { at = at; num = nums.Large }) (faults.NumberTooLarge at) refl h
rules_to naming start before item same iff total (faults.SetTooWide at) (inl h) = wide_to naming start item at h
rules_to naming start before item same iff total (faults.SetTooWide at) (inr h) = past_to naming start before item at same total h
rules_to naming start before item same iff total (faults.ElementRange at) h = large_to naming start item at h
rules_to naming start before item same iff total (faults.DeclaredTwice at) h = absurd h
rules_to naming start before item same iff total (faults.UnknownConstraint at) h = absurd h
rules_to naming start before item same iff total (faults.WrongCount at) h = absurd h
rules_to naming start before item same iff total (faults.Unbounded at) h = absurd h
rules_to naming start before item same iff total (faults.EmptyDomain at) h = absurd h
rules_to naming start before item same iff total (faults.IntTooWide at) h = absurd h
rules_to naming start before item same iff total (faults.ScopeTooWide at) h = absurd h
rules_to naming start before item same iff total (faults.TooManyBits at) h = absurd h
rules_to naming start before item same iff total (faults.TooManyConstraints at) h = absurd h
rules_to naming start before item same iff total (faults.BadOutput at) h = absurd h
rules_to naming start before item same iff total (faults.ObjectiveNotInt at) h = absurd h
rules_to naming start before item same iff total faults.Memory h = absurd h

-- ---- from the parts to the rules

unknown_is : (naming : Naming) (form : BasicForm) → IsUnknownName naming form → (name : List ℕ) × (form ≡ basics.Name name) × (naming name ≡ None)
unknown_is naming (basics.Name name) h = (name, refl, h)
unknown_is naming (basics.Bool b) h = absurd h
unknown_is naming (basics.Num n) h = absurd h
unknown_is naming (basics.Set s) h = absurd h

some_none_apart : {A : Type 0} (o : Option A) → o ≡ None → IsSome o → ⊥
some_none_apart None e s = (cc)
some_none_apart (Some x) e s = none-some x (sym e)

undeclared_from : (naming : Naming) (before : List Item) (item : Item) (part : Basic) → IsDeclaredIn naming before → Contains (all_parts item.form) part
    → IsUnknownName naming part.form → IsUndeclared before item part.at
undeclared_from naming before item part iff used h =
    let w = unknown_is naming part.form h in
    record {
      part = part;
      used = used;
      name = w.0;
      named = w.1;
      place = refl;
      declared = λ any. some_none_apart (naming w.0) w.2 ((iff w.0).1 any);
    }

stray_from : (before : List Item) (item : Item) (o : Option Shape) (e : Expr) → Contains (own_asked item.form) (o, e) → IsStrayHere o e
    → IsStray before item (place_of e)
stray_from before item None e used h = absurd (not_stray e h)
stray_from before item (Some s) e used h = record {
  shape = s;
  expression = e;
  asked = expression_asked item.form s e used;
  stray = stray_array s e h;
  place = refl;
}

no_part_shape : (e : Expr) (shape : Shape) → part_shape None e ≡ Some shape → ⊥
no_part_shape (exprs.One b) shape h = none-some shape h
no_part_shape (exprs.List at items) shape h = none-some shape h

unsuited_shape : (naming : Naming) (o : Option Shape) (form : BasicForm) → IsUnsuitedTo naming o form
    → (shape : Shape) × (o ≡ Some shape) × (form ≢ basics.Num nums.Float) × (Suits naming shape form → ⊥)
unsuited_shape naming None form h = absurd h
unsuited_shape naming (Some s) form h = (s, refl, h.0, h.1)

unsuited_at : (before : List Item) (item : Item) (o : Option Shape) (e : Expr) (part : Basic) (shape : Shape)
    → Contains (own_asked item.form) (o, e) → Contains (parts_of e) part → part_shape o e ≡ Some shape
    → part.form ≢ basics.Num nums.Float → (Suits (naming_after before) shape part.form → ⊥) → IsUnsuited before item part.at
unsuited_at before item None e part shape used has made float suits = absurd (no_part_shape e shape made)
unsuited_at before item (Some s) e part shape used has made float suits = record {
  shape = shape;
  part = part;
  float = float;
  suits = suits;
  place = refl;
  asked = to_flat (λ (a : Shape × Expr). asked_of_parts a.0 a.1) (asked_in item.form) (s, e) (shape, part) (expression_asked item.form s e used)
      (part_asked s shape e part has made);
}

number_at_is : (at : ℕ) (num : Num) (f : ModelFault) → number_fault (record { at = at; num = num }) ≡ Some f
    → ((f ≡ faults.Float at) × (num ≡ nums.Float)) ⊎ ((f ≡ faults.NumberTooLarge at) × (num ≡ nums.Large))
number_at_is at (nums.Int x) f h = absurd (none-some f h)
number_at_is at nums.Large f h = inr (sym (same_Some (faults.NumberTooLarge at) f h), refl)
number_at_is at nums.Float f h = inl (sym (same_Some (faults.Float at) f h), refl)

number_from : (before : List Item) (item : Item) (part : Basic) (n : Number) (f : ModelFault) → Contains (all_parts item.form) part
    → Contains (numbers_at part.at part.form) n → number_fault n ≡ Some f → InExpressions before item f
number_from before item part n f used has e =
    let all : Contains (flat_map numbers_in_part (all_parts item.form)) n = to_flat numbers_in_part (all_parts item.form) part n used has in
    elim (number_at_is n.at n.num f e) [
      | inl w ↦ subst (λ g. InExpressions before item g) (sym w.0)
          (subst (λ num. Contains (flat_map numbers_in_part (all_parts item.form)) (record { at = n.at; num = num })) w.1 all)
      | inr w ↦ subst (λ g. InExpressions before item g) (sym w.0)
          (subst (λ num. Contains (flat_map numbers_in_part (all_parts item.form)) (record { at = n.at; num = num })) w.1 all)
    ]

literal_is : (form : BasicForm) (elements : List ℤ) → literal_elements form ≡ Some elements
    → (literal : SetForm) × (form ≡ basics.Set literal) × (elements_of literal ≡ Some elements)
literal_is (basics.Set s) elements h = (s, refl, h)
literal_is (basics.Bool b) elements h = absurd (none-some elements h)
literal_is (basics.Num n) elements h = absurd (none-some elements h)
literal_is (basics.Name n) elements h = absurd (none-some elements h)

constant_from : (item : Item) (part : Basic) (elements : List ℤ) → Contains (all_parts item.form) part → literal_elements part.form ≡ Some elements
    → IsConstantSet item part.at elements
constant_from item part elements used h =
    let w = literal_is part.form elements h in
    record { part = part; used = used; literal = w.0; is = w.1; known = w.2; place = refl }

elements_from : (before : List Item) (item : Item) (part : Basic) (f : ModelFault) → Contains (all_parts item.form) part
    → OfElements part.at (literal_elements part.form) f → InExpressions before item f
elements_from before item part f used (inl h) =
    subst (λ g. InExpressions before item g) (sym h.0)
    (inl (record { elements = h.1.0; constant = constant_from item part h.1.0 used h.1.1; wide = h.1.2 }))
elements_from before item part f used (inr h) =
    subst (λ g. InExpressions before item g) (sym h.0)
    (record { elements = h.1.0; constant = constant_from item part h.1.0 used h.1.1; large = h.1.2 })

part_from : (naming : Naming) (before : List Item) (item : Item) (o : Option Shape) (e : Expr) (part : Basic) (f : ModelFault)
    → naming ≡ naming_after before → IsDeclaredIn naming before
    → Contains (own_asked item.form) (o, e) → Contains (parts_of e) part → OfPart naming (part_shape o e) part f → InExpressions before item f
part_from naming before item o e part f same iff used has (inl h) =
    subst (λ g. InExpressions before item g) (sym h.0) (undeclared_from naming before item part iff (asked_has_part item.form (o, e) part used has) h.1)
part_from naming before item o e part f same iff used has (inr (inl h)) =
    let w = unsuited_shape naming (part_shape o e) part.form h.1 in
    subst (λ g. InExpressions before item g) (sym h.0)
    (inr (unsuited_at before item o e part w.0 used has w.1 w.2 (λ suits. w.3 (subst (λ n. Suits n w.0 part.form) (sym same) suits))))
part_from naming before item o e part f same iff used has (inr (inr (inl h))) =
    number_from before item part h.part f (asked_has_part item.form (o, e) part used has) h.used h.faulty
part_from naming before item o e part f same iff used has (inr (inr (inr h))) =
    elements_from before item part f (asked_has_part item.form (o, e) part used has) h

past_from : (naming : Naming) (start : ℕ) (before : List Item) (item : Item) (f : ModelFault) → naming ≡ naming_after before
    → start ≡ sum_after constant_elements_after [] before → OfPast naming start (constrained_parts item.form) f → InExpressions before item f
past_from naming start before item f same total h =
    let p = h.2 in
    subst (λ g. InExpressions before item g) (sym h.1)
    (inr (record {
      front = p.front;
      part = p.part;
      back = p.back;
      occurs = p.occurs;
      place = p.place;
      many = subst (λ n. 16777216 < sum_after constant_elements_after [] before + sum_by (constant_elements n) (p.front ++ p.part ∷ [])) same
          (subst (λ s. 16777216 < s + sum_by (constant_elements naming) (p.front ++ p.part ∷ [])) total p.many);
    }))

pub rules_from : (naming : Naming) (start : ℕ) (before : List Item) (item : Item) → naming ≡ naming_after before → IsDeclaredIn naming before
    → start ≡ sum_after constant_elements_after [] before → (f : ModelFault) → OfItem naming start item.form f → InExpressions before item f
rules_from naming start before item same iff total f (inr h) = past_from naming start before item f same total h
rules_from naming start before item same iff total f (inl h) =
    elim (part_out naming h.part.0 h.part.1 f h.faulty) [
      | inl s ↦ subst (λ g. InExpressions before item g) (sym s.0) (inl (stray_from before item h.part.0 h.part.1 h.used s.1))
      | inr w ↦ part_from naming before item h.part.0 h.part.1 w.0 f same iff h.used w.1 w.2
    ]
