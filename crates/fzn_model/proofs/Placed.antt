-- The place of each fault of an item is a place in the item.
use Rattle.std.proofs.Common.{◌≡◌, ◌⊎◌, ℕ, Bool, true, false, cond, ◌||◌, List, [], ◌∷◌, ◌++◌, map, option_to_list, Option, Some, None, refl, sym, ap, subst, ◌∙◌, inl, inr, arith}
use Rattle.std.specs.Prelude.{Contains}
use Rattle.std.specs.List.{find, flat_map, zip}
use Rattle.std.specs.Option.{option_map}
use Rattle.std.proofs.lemmas.Option.{none-some, same_Some}
use Rattle.std.proofs.lemmas.List.Elements.{Contains-append_cases, Contains-append_left, Contains-append_right}
use Rattle.fzn_parser.specs.declared.tree.Number.{Number}
use Rattle.fzn_parser.specs.declared.tree.SetForm.{SetForm}
use Rattle.fzn_parser.specs.declared.tree.SetForm.TheVariants as sets
use Rattle.fzn_parser.specs.declared.tree.Basic.{Basic}
use Rattle.fzn_parser.specs.declared.tree.BasicForm.{BasicForm}
use Rattle.fzn_parser.specs.declared.tree.BasicForm.TheVariants as basics
use Rattle.fzn_parser.specs.declared.tree.Expr.{Expr}
use Rattle.fzn_parser.specs.declared.tree.Expr.TheVariants as exprs
use Rattle.fzn_parser.specs.declared.tree.Ident.{Ident}
use Rattle.fzn_parser.specs.declared.tree.Ann.{Ann, out-Ann, roll-Ann, roll-out-Ann}
use Rattle.fzn_parser.specs.declared.tree.AnnForm.TheFolds.{fold-roll-Ann}
use Rattle.fzn_parser.specs.declared.tree.TypeExpr.{TypeExpr}
use Rattle.fzn_parser.specs.declared.tree.TypeForm.{TypeForm}
use Rattle.fzn_parser.specs.declared.tree.TypeForm.TheVariants as types
use Rattle.fzn_parser.specs.declared.tree.GoalForm.{GoalForm}
use Rattle.fzn_parser.specs.declared.tree.GoalForm.TheVariants as goals
use Rattle.fzn_parser.specs.declared.tree.Form.{Form}
use Rattle.fzn_parser.specs.declared.tree.Form.TheVariants as forms
use Rattle.fzn_parser.specs.declared.tree.Item.{Item}
use Rattle.fzn_parser.specs.Places as places
use Rattle.fzn_parser.specs.Places.{places_in, places_of_parts, places_in_expression, place_of_annotation}
use Rattle.set_meaning.specs.declared.rows.Sort.{Sort}
use Rattle.set_meaning.specs.declared.rows.Shape.{Shape}
use Rattle.set_meaning.specs.declared.rows.Shape.TheVariants.{OneOf, ManyOf, ConstantOf, ConstantsOf}
use Rattle.fzn_model.specs.declared.faults.ModelFault.{ModelFault}
use Rattle.fzn_model.specs.declared.faults.ModelFault.TheVariants as faults
use Rattle.fzn_model.specs.Items.{constrained_in, expressions_in, ident_in, length_in, numbers_at, numbers_in_part, numbers_in_type, numbers_of, objective_in, parts_of, place_of, type_in}
use Rattle.fzn_model.specs.Entities.{sort_of}
use Rattle.fzn_model.specs.Shapes.{array_shape, asked_if, asked_in, asked_of_parts, shapes_named}
use Rattle.fzn_model.specs.Outputs.{Annotation, Argument, ann_level, annotation_of, argument_level, form_level, is_output_array, is_output_var, output_in}
use Rattle.fzn_model.specs.FaultsOf.{IsConstraintAt, IsFaultAfter, InConstraint, InDeclaration, InExpressions, InObjective, IsObjective, all_parts, constrained_parts, declared_numbers, place_of_fault}
use Rattle.fzn_model.proofs.Among.{in_empty, in_flat_map, in_front, in_map, in_rest, front_or_rest}

-- ---- members, the way back

from_flat_map : {A B : Type 0} (f : A → List B) (xs : List A) (y : B) → Contains (flat_map f xs) y → (x : A) × Contains xs x × Contains (f x) y
from_flat_map f [] y h = absurd (in_empty y h)
from_flat_map f (x ∷ xs) y h = elim (Contains-append_cases (f x) (flat_map f xs) y h) [
  | inl c ↦ (x, in_front x xs, c)
  | inr c ↦ (let r = from_flat_map f xs y c in (r.0, in_rest x xs r.0 r.1, r.2))
]

from_map : {A B : Type 0} (f : A → B) (xs : List A) (y : B) → Contains (map f xs) y → (x : A) × Contains xs x × (f x ≡ y)
from_map f [] y h = absurd (in_empty y h)
from_map f (x ∷ xs) y h = elim (front_or_rest (f x) (map f xs) y h) [
  | inl e ↦ (x, in_front x xs, e)
  | inr c ↦ (let r = from_map f xs y c in (r.0, in_rest x xs r.0 r.1, r.2))
]

from_zip : {A B : Type 0} (xs : List A) (ys : List B) (x : A) (y : B) → Contains {X = A × B} (zip xs ys) (x, y) → Contains ys y
from_zip [] ys x y h = absurd (in_empty (x, y) h)
from_zip (a ∷ xs) [] x y h = absurd (in_empty (x, y) h)
from_zip {A} {B} (a ∷ xs) (b ∷ ys) x y h = elim (front_or_rest {A = A × B} (a, b) (zip xs ys) (x, y) h) [
  | inl e ↦ subst (λ z. Contains (b ∷ ys) z) (λ i. (e i).1) (in_front b ys)
  | inr c ↦ in_rest b ys y (from_zip xs ys x y c)
]

-- ---- places of expressions

part_in : (e : Expr) (b : Basic) → Contains (parts_of e) b → Contains (places_in_expression e) b.at
part_in (exprs.One c) b h = elim (front_or_rest c [] b h) [
  | inl q ↦ subst (λ (z : Basic). Contains (c.at ∷ []) z.at) q (in_front c.at [])
  | inr n ↦ absurd (in_empty b n)
]
part_in (exprs.List at items) b h = in_rest at (map (λ (z : Basic). z.at) items) b.at (in_map (λ (z : Basic). z.at) items b h)

own_in : (e : Expr) → Contains (places_in_expression e) (place_of e)
own_in (exprs.One b) = in_front b.at []
own_in (exprs.List at items) = in_front at (map (λ (z : Basic). z.at) items)

single_in : (e x : Expr) (p : ℕ) → Contains (e ∷ []) x → Contains (places_in_expression x) p → Contains (places_in_expression e) p
single_in e x p h c = elim (front_or_rest e [] x h) [
  | inl q ↦ subst (λ z. Contains (places_in_expression z) p) (sym q) c
  | inr n ↦ absurd (in_empty x n)
]

abbrev behind_param : List Ann → Expr → List ℕ
behind_param anns e = map place_of_annotation anns ++ places_in_expression e

abbrev behind_variable : List Ann → Option Expr → List ℕ
behind_variable anns e = map place_of_annotation anns ++ flat_map places_in_expression (option_to_list e)

abbrev behind_array : List Ann → ℕ → List Basic → List ℕ
behind_array anns at items = map place_of_annotation anns ++ places_in_expression (exprs.List at items)

expression_in : (form : Form) (x : Expr) (p : ℕ) → Contains (expressions_in form) x → Contains (places_in_expression x) p → Contains (places_of_parts form) p
expression_in forms.Predicate x p h c = absurd (in_empty x h)
expression_in (forms.Param t ident anns e) x p h c =
    in_rest t.at (ident.at ∷ (behind_param anns e)) p (in_rest ident.at (behind_param anns e) p (Contains-append_right (map place_of_annotation anns) (places_in_expression e) p (single_in e x p h c)))
expression_in (forms.Variable t ident anns e) x p h c =
    in_rest t.at (ident.at ∷ (behind_variable anns e)) p (in_rest ident.at (behind_variable anns e) p (Contains-append_right (map place_of_annotation anns) (flat_map places_in_expression (option_to_list e)) p
    (in_flat_map places_in_expression (option_to_list e) x p h c)))
expression_in (forms.Array len is_var t ident anns at items) x p h c =
    in_rest t.at (ident.at ∷ (behind_array anns at items)) p (in_rest ident.at (behind_array anns at items) p (Contains-append_right (map place_of_annotation anns) (places_in_expression (exprs.List at items)) p (single_in (exprs.List at items) x p h c)))
expression_in (forms.Constraint ident es anns) x p h c =
    in_rest ident.at (flat_map places_in_expression es ++ map place_of_annotation anns) p (Contains-append_left (flat_map places_in_expression es) (map place_of_annotation anns) p (in_flat_map places_in_expression es x p h c))
expression_in (forms.Solve anns goal) x p h c = Contains-append_right (map place_of_annotation anns) (flat_map places_in_expression (option_to_list (places.objective goal))) p
    (in_flat_map places_in_expression (option_to_list (places.objective goal)) x p (subst (λ o. Contains (option_to_list o) x) (same_objective goal) h) c)
  where
    same_objective : (g : GoalForm) → objective_in g ≡ places.objective g
    same_objective goals.Satisfy = refl
    same_objective (goals.Minimize e) = refl
    same_objective (goals.Maximize e) = refl

-- ---- numbers

same_set_numbers : (s : SetForm) → numbers_of s ≡ places.numbers_of s
same_set_numbers (sets.Range low high) = refl
same_set_numbers (sets.List ns) = refl

same_numbers_at : (at : ℕ) (form : BasicForm) → numbers_at at form ≡ places.numbers_at at form
same_numbers_at at (basics.Bool b) = refl
same_numbers_at at (basics.Num n) = refl
same_numbers_at at (basics.Set s) = same_set_numbers s
same_numbers_at at (basics.Name n) = refl

same_type_numbers : (t : TypeForm) → numbers_in_type t ≡ places.numbers_in_type t
same_type_numbers types.Bool = refl
same_type_numbers types.Int = refl
same_type_numbers types.Float = refl
same_type_numbers types.SetOfInt = refl
same_type_numbers (types.Within s) = same_set_numbers s
same_type_numbers (types.SetWithin s) = same_set_numbers s

number_in_expression : (e : Expr) (b : Basic) (n : Number) → Contains (parts_of e) b → Contains (numbers_in_part b) n → Contains (places.numbers_in_expression e) n
number_in_expression (exprs.One c) b n h k = elim (front_or_rest c [] b h) [
  | inl q ↦ subst (λ z. Contains (places.numbers_in_part z) n) (sym q) (subst (λ ns. Contains ns n) (same_numbers_at b.at b.form) k)
  | inr m ↦ absurd (in_empty b m)
]
number_in_expression (exprs.List at items) b n h k = in_flat_map places.numbers_in_part items b n h (subst (λ ns. Contains ns n) (same_numbers_at b.at b.form) k)

single_number : (e x : Expr) (n : Number) → Contains (e ∷ []) x → Contains (places.numbers_in_expression x) n → Contains (places.numbers_in_expression e) n
single_number e x n h c = elim (front_or_rest e [] x h) [
  | inl q ↦ subst (λ z. Contains (places.numbers_in_expression z) n) (sym q) c
  | inr m ↦ absurd (in_empty x m)
]

expression_number : (form : Form) (x : Expr) (n : Number) → Contains (expressions_in form) x → Contains (places.numbers_in_expression x) n → Contains (places.numbers_in form) n
expression_number forms.Predicate x n h c = absurd (in_empty x h)
expression_number (forms.Param t ident anns e) x n h c = Contains-append_right (places.numbers_in_type t.form) (places.numbers_in_expression e) n (single_number e x n h c)
expression_number (forms.Variable t ident anns e) x n h c =
    Contains-append_right (places.numbers_in_type t.form) (flat_map places.numbers_in_expression (option_to_list e)) n (in_flat_map places.numbers_in_expression (option_to_list e) x n h c)
expression_number (forms.Array len is_var t ident anns at items) x n h c =
    in_rest len _ n (Contains-append_right (places.numbers_in_type t.form) (flat_map places.numbers_in_part items) n (single_number (exprs.List at items) x n h c))
expression_number (forms.Constraint ident es anns) x n h c = in_flat_map places.numbers_in_expression es x n h c
expression_number (forms.Solve anns goals.Satisfy) x n h c = absurd (in_empty x h)
expression_number (forms.Solve anns (goals.Minimize e)) x n h c = in_flat_map places.numbers_in_expression (e ∷ []) x n h c
expression_number (forms.Solve anns (goals.Maximize e)) x n h c = in_flat_map places.numbers_in_expression (e ∷ []) x n h c

one_type : (t : TypeExpr) (n : Number) → Contains (flat_map (λ (u : TypeExpr). numbers_in_type u.form) (t ∷ [])) n → Contains (places.numbers_in_type t.form) n
one_type t n h =
    let f = from_flat_map (λ (u : TypeExpr). numbers_in_type u.form) (t ∷ []) n h in
    elim (front_or_rest t [] f.0 f.1) [
      | inl q ↦ subst (λ ns. Contains ns n) (same_type_numbers t.form) (subst (λ (z : TypeExpr). Contains (numbers_in_type z.form) n) (sym q) f.2)
      | inr m ↦ absurd (in_empty f.0 m)
    ]

pub declared_number : (form : Form) (n : Number) → Contains (declared_numbers form) n → Contains (places.numbers_in form) n
declared_number forms.Predicate n h = absurd (in_empty n h)
declared_number (forms.Param t ident anns e) n h = elim (Contains-append_cases (flat_map (λ (u : TypeExpr). numbers_in_type u.form) (t ∷ [])) [] n h) [
  | inl c ↦ Contains-append_left (places.numbers_in_type t.form) _ n (one_type t n c)
  | inr c ↦ absurd (in_empty n c)
]
declared_number (forms.Variable t ident anns e) n h = elim (Contains-append_cases (flat_map (λ (u : TypeExpr). numbers_in_type u.form) (t ∷ [])) [] n h) [
  | inl c ↦ Contains-append_left (places.numbers_in_type t.form) _ n (one_type t n c)
  | inr c ↦ absurd (in_empty n c)
]
declared_number (forms.Array len is_var t ident anns at items) n h = elim (Contains-append_cases (flat_map (λ (u : TypeExpr). numbers_in_type u.form) (t ∷ [])) (len ∷ []) n h) [
  | inl c ↦ in_rest len _ n (Contains-append_left (places.numbers_in_type t.form) _ n (one_type t n c))
  | inr c ↦ elim (front_or_rest len [] n c) [ inl q ↦ subst (λ (z : Number). Contains (len ∷ (places.numbers_in_type t.form ++ flat_map places.numbers_in_part items)) z) q (in_front len (places.numbers_in_type t.form ++ flat_map places.numbers_in_part items)) | inr m ↦ absurd (in_empty n m) ]
]
declared_number (forms.Constraint ident es anns) n h = absurd (in_empty n h)
declared_number (forms.Solve anns goal) n h = absurd (in_empty n h)

-- ---- the parts of an item

module _ (form : Form) where
  pub of_parts : (p : ℕ) → Contains (places_of_parts form) p → Contains (places_in form) p
  of_parts p h = Contains-append_left (places_of_parts form) (map (λ (n : Number). n.at) (places.numbers_in form)) p h

  pub of_numbers : (n : Number) → Contains (places.numbers_in form) n → Contains (places_in form) n.at
  of_numbers n h = Contains-append_right (places_of_parts form) (map (λ (n : Number). n.at) (places.numbers_in form)) n.at (in_map (λ (m : Number). m.at) (places.numbers_in form) n h)

  pub at_part : (b : Basic) (p : ℕ) → p ≡ b.at → Contains (all_parts form) b → Contains (places_in form) p
  at_part b p e h =
      let f = from_flat_map parts_of (expressions_in form) b h in
      subst (λ q. Contains (places_in form) q) (sym e) (of_parts b.at (expression_in form f.0 b.at f.1 (part_in f.0 b f.2)))

  pub at_expression : (e : Expr) (p : ℕ) → p ≡ place_of e → Contains (expressions_in form) e → Contains (places_in form) p
  at_expression x p e h = subst (λ q. Contains (places_in form) q) (sym e) (of_parts (place_of x) (expression_in form x (place_of x) h (own_in x)))

  pub at_number : (n : Number) → Contains (flat_map numbers_in_part (all_parts form)) n → Contains (places_in form) n.at
  at_number n h =
      let f = from_flat_map numbers_in_part (all_parts form) n h in
      let g = from_flat_map parts_of (expressions_in form) f.0 f.1 in
      of_numbers n (expression_number form g.0 n g.1 (number_in_expression g.0 f.0 n g.2 f.2))

asked_one : (o : Option Sort) (shape : Sort → Shape) (e x : Expr) (s : Shape) → Contains {X = Shape × Expr} (option_to_list (option_map (λ sort. (shape sort, e)) o)) (s, x) → Contains (e ∷ []) x
asked_one None shape e x s h = absurd (in_empty (s, x) h)
asked_one (Some sort) shape e x s h = elim (front_or_rest {A = Shape × Expr} (shape sort, e) [] (s, x) h) [
  | inl q ↦ subst (λ z. Contains (e ∷ []) z) (λ i. (q i).1) (in_front e [])
  | inr n ↦ absurd (in_empty (s, x) n)
]

pub asked_is_used : (form : Form) (s : Shape) (x : Expr) → Contains (asked_in form) (s, x) → Contains (expressions_in form) x
asked_is_used forms.Predicate s x h = absurd (in_empty (s, x) h)
asked_is_used (forms.Param t ident anns e) s x h = asked_one (sort_of t.form) ConstantOf e x s h
asked_is_used (forms.Variable t ident anns None) s x h = absurd (in_empty (s, x) h)
asked_is_used (forms.Variable t ident anns (Some e)) s x h = elim (Contains-append_cases (asked_if OneOf t e) [] (s, x) h) [
  | inl c ↦ asked_one (sort_of t.form) OneOf e x s c
  | inr n ↦ absurd (in_empty (s, x) n)
]
asked_is_used (forms.Array len is_var t ident anns at items) s x h = asked_one (sort_of t.form) (array_shape is_var) (exprs.List at items) x s h
asked_is_used (forms.Constraint ident es anns) s x h = from_zip (shapes_named ident.name) es s x h
asked_is_used (forms.Solve anns goal) s x h = absurd (in_empty (s, x) h)

asked_part : (s : Shape) (e : Expr) (r : Shape) (b : Basic) → Contains (asked_of_parts s e) (r, b) → Contains (parts_of e) b
asked_part s (exprs.One c) r b h = elim (front_or_rest {A = Shape × Basic} (s, c) [] (r, b) h) [
  | inl q ↦ subst (λ z. Contains (c ∷ []) z) (λ i. (q i).1) (in_front c [])
  | inr n ↦ absurd (in_empty (r, b) n)
]
asked_part (OneOf sort) (exprs.List at items) r b h = absurd (in_empty (r, b) h)
asked_part (ConstantOf sort) (exprs.List at items) r b h = absurd (in_empty (r, b) h)
asked_part (ManyOf sort) (exprs.List at items) r b h =
    let m = from_map {B = Shape × Basic} (λ c. (OneOf sort, c)) items (r, b) h in subst (λ z. Contains items z) (λ i. (m.2 i).1) m.1
asked_part (ConstantsOf sort) (exprs.List at items) r b h =
    let m = from_map {B = Shape × Basic} (λ c. (ConstantOf sort, c)) items (r, b) h in subst (λ z. Contains items z) (λ i. (m.2 i).1) m.1

pub asked_part_is_used : (form : Form) (s : Shape) (b : Basic) → Contains {X = Shape × Basic} (flat_map (λ a. asked_of_parts a.0 a.1) (asked_in form)) (s, b) → Contains (all_parts form) b
asked_part_is_used form s b h =
    let f = from_flat_map {A = Shape × Expr} {B = Shape × Basic} (λ a. asked_of_parts a.0 a.1) (asked_in form) (s, b) h in
    in_flat_map parts_of (expressions_in form) f.0.1 b (asked_is_used form f.0.0 f.0.1 f.1) (asked_part f.0.0 f.0.1 s b f.2)

constrained_is_used : (form : Form) (e : Expr) → Contains (constrained_in form) e → Contains (expressions_in form) e
constrained_is_used forms.Predicate e h = h
constrained_is_used (forms.Param t ident anns x) e h = absurd (in_empty e h)
constrained_is_used (forms.Variable t ident anns x) e h = h
constrained_is_used (forms.Array len is_var t ident anns at items) e h = absurd (in_empty e h)
constrained_is_used (forms.Constraint ident es anns) e h = h
constrained_is_used (forms.Solve anns goal) e h = absurd (in_empty e h)

pub constrained_part : (form : Form) (b : Basic) → Contains (constrained_parts form) b → Contains (all_parts form) b
constrained_part form b h =
    let f = from_flat_map parts_of (constrained_in form) b h in
    in_flat_map parts_of (expressions_in form) f.0 b (constrained_is_used form f.0 f.1) f.2

-- ---- names, types and annotations

pub ident_place : (form : Form) (ident : Ident) → ident_in form ≡ Some ident → Contains (places_of_parts form) ident.at
ident_place forms.Predicate ident e = absurd (none-some ident e)
ident_place (forms.Param t i anns x) ident e = subst (λ (z : Ident). Contains (places_of_parts (forms.Param t i anns x)) z.at) (same_Some i ident e) (in_rest t.at (i.at ∷ (behind_param anns x)) i.at (in_front i.at (behind_param anns x)))
ident_place (forms.Variable t i anns x) ident e = subst (λ (z : Ident). Contains (places_of_parts (forms.Variable t i anns x)) z.at) (same_Some i ident e) (in_rest t.at (i.at ∷ (behind_variable anns x)) i.at (in_front i.at (behind_variable anns x)))
ident_place (forms.Array len is_var t i anns at items) ident e = subst (λ (z : Ident). Contains (places_of_parts (forms.Array len is_var t i anns at items)) z.at) (same_Some i ident e) (in_rest t.at (i.at ∷ (behind_array anns at items)) i.at (in_front i.at (behind_array anns at items)))
ident_place (forms.Constraint i es anns) ident e = absurd (none-some ident e)
ident_place (forms.Solve anns goal) ident e = absurd (none-some ident e)

pub type_place : (form : Form) (t : TypeExpr) → type_in form ≡ Some t → Contains (places_of_parts form) t.at
type_place forms.Predicate t e = absurd (none-some t e)
type_place (forms.Param u i anns x) t e = subst (λ (z : TypeExpr). Contains (places_of_parts (forms.Param u i anns x)) z.at) (same_Some u t e) (in_front u.at (i.at ∷ (behind_param anns x)))
type_place (forms.Variable u i anns x) t e = subst (λ (z : TypeExpr). Contains (places_of_parts (forms.Variable u i anns x)) z.at) (same_Some u t e) (in_front u.at (i.at ∷ (behind_variable anns x)))
type_place (forms.Array len is_var u i anns at items) t e = subst (λ (z : TypeExpr). Contains (places_of_parts (forms.Array len is_var u i anns at items)) z.at) (same_Some u t e) (in_front u.at (i.at ∷ (behind_array anns at items)))
type_place (forms.Constraint i es anns) t e = absurd (none-some t e)
type_place (forms.Solve anns goal) t e = absurd (none-some t e)

own_place : (x : Ann) → place_of_annotation x ≡ (annotation_of x).at
own_place x =
    sym (ap (λ (r : Annotation). r.at) (fold-roll-Ann Argument Annotation Argument form_level ann_level argument_level (out-Ann x)))
    ∙ ap (λ (z : Ann). (annotation_of z).at) (roll-out-Ann x)

pub annotation_place : (anns : List Ann) (a : Annotation) → output_in anns ≡ Some a → Contains (map place_of_annotation anns) a.at
annotation_place [] a e = absurd (none-some a e)
annotation_place (x ∷ anns) a e = by (is_output_var (annotation_of x) || is_output_array (annotation_of x)) refl (annotation_place anns a)
  where
    by : (b : Bool) → (is_output_var (annotation_of x) || is_output_array (annotation_of x)) ≡ b
        → (output_in anns ≡ Some a → Contains (map place_of_annotation anns) a.at) → Contains (map place_of_annotation (x ∷ anns)) a.at
    by true h rest =
        let same : annotation_of x ≡ a = same_Some (annotation_of x) a (sym (ap (λ b. cond b (Some (annotation_of x)) (output_in anns)) h) ∙ e) in
        subst (λ (z : Annotation). Contains (map place_of_annotation (x ∷ anns)) z.at) same (subst (λ p. Contains (map place_of_annotation (x ∷ anns)) p) (own_place x) (in_front (place_of_annotation x) (map place_of_annotation anns)))
    by false h rest =
        in_rest (place_of_annotation x) (map place_of_annotation anns) a.at (rest (sym (ap (λ b. cond b (Some (annotation_of x)) (output_in anns)) h) ∙ e))
