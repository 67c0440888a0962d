-- Each fault of an item has its place in the item, and so the first fault of the first faulty item is that of the tree.
use Rattle.std.proofs.Common.{◌≡◌, ◌⊎◌, ℕ, suc, ◌<◌, Bool, true, false, List, [], ◌∷◌, ◌++◌, length, map, option_to_list, Option, Some, None, is_some, ℤ, refl, sym, ap, subst, ◌∙◌, inl, inr, arith}
use Rattle.std.specs.Prelude.{Contains}
use Rattle.std.specs.List.{flat_map}
use Rattle.std.proofs.lemmas.Option.{none-some, same_Some}
use Rattle.std.proofs.lemmas.List.Elements.{Contains-append_left, Contains-append_right}
use Rattle.fzn_parser.specs.declared.tree.Number.{Number}
use Rattle.fzn_parser.specs.declared.tree.Basic.{Basic}
use Rattle.fzn_parser.specs.declared.tree.Expr.{Expr}
use Rattle.fzn_parser.specs.declared.tree.Ident.{Ident}
use Rattle.fzn_parser.specs.declared.tree.Ann.{Ann}
use Rattle.fzn_parser.specs.declared.tree.TypeExpr.{TypeExpr}
use Rattle.fzn_parser.specs.declared.tree.GoalForm.{GoalForm}
use Rattle.fzn_parser.specs.declared.tree.Form.{Form}
use Rattle.fzn_parser.specs.declared.tree.Form.TheVariants as forms
use Rattle.fzn_parser.specs.declared.tree.Item.{Item}
use Rattle.fzn_parser.specs.declared.tree.Tree.{Tree}
use Rattle.fzn_parser.specs.Places.{AreInOrder, places_in, places_of_parts, places_in_expression, place_of_annotation}
use Rattle.set_meaning.specs.declared.problems.Constraint.{Constraint}
use Rattle.fzn_model.specs.declared.faults.ModelFault.{ModelFault}
use Rattle.fzn_model.specs.declared.faults.ModelFault.TheVariants as faults
use Rattle.fzn_model.specs.Items.{expressions_in, ident_in, objective_in, place_of}
use Rattle.fzn_model.specs.FaultsOf.{HasFault, HasNoFault, HasWrongCount, InConstraint, InDeclaration, InExpressions, InObjective, IsBadOutput, IsConstraintAfter, IsConstraintAt, IsDomain, IsFaultAfter, IsFirstFault, IsObjective, IsToldBefore, IsUnbounded, IsUniverse, IsVariableAt, IsWrongLength, all_parts, constrained_parts, place_of_fault}
use Rattle.fzn_model.specs.FirstFault.{AreNone, IsFirst}
use Rattle.fzn_model.proofs.Among.{in_front}
use Rattle.fzn_model.proofs.Placed.{annotation_place, asked_is_used, asked_part_is_used, at_expression, at_number, at_part, constrained_part, declared_number, ident_place, of_numbers, of_parts, type_place}

module _ (before : List Item) (item : Item) where
  abbrev Lies : ℕ → Type 0
  Lies p = Contains (places_in item.form) p

  pub in_expressions : (f : ModelFault) → InExpressions before item f → Contains (places_in item.form) (place_of_fault f)
  in_expressions (faults.Undeclared at) h = at_part item.form h.part at h.place h.used
  in_expressions (faults.WrongType at) h = elim h [
    | inl x ↦ at_expression item.form x.expression at x.place (asked_is_used item.form x.shape x.expression x.asked)
    | inr x ↦ at_part item.form x.part at x.place (asked_part_is_used item.form x.shape x.part x.asked)
  ]
  in_expressions (faults.Float at) h = at_number item.form _ h
  in_expressions (faults.NumberTooLarge at) h = at_number item.form _ h
  in_expressions (faults.SetTooWide at) h = elim h [
    | inl x ↦ at_part item.form x.constant.part at x.constant.place x.constant.used
    | inr x ↦ at_part item.form x.part at x.place (constrained_part item.form x.part
        (subst (λ (ps : List Basic). Contains ps x.part) (sym x.occurs) (Contains-append_right x.front (x.part ∷ x.back) x.part (in_front x.part x.back))))
  ]
  in_expressions (faults.ElementRange at) h = at_part item.form h.constant.part at h.constant.place h.constant.used
  in_expressions (faults.DeclaredTwice at) h = absurd h
  in_expressions (faults.UnknownConstraint at) h = absurd h
  in_expressions (faults.WrongCount at) h = absurd h
  in_expressions (faults.Unbounded at) h = absurd h
  in_expressions (faults.EmptyDomain at) h = absurd h
  in_expressions (faults.IntTooWide at) h = absurd h
  in_expressions (faults.ScopeTooWide at) h = absurd h
  in_expressions (faults.TooManyBits at) h = absurd h
  in_expressions (faults.TooManyConstraints at) h = absurd h
  in_expressions (faults.BadOutput at) h = absurd h
  in_expressions (faults.ObjectiveNotInt at) h = absurd h
  in_expressions faults.Memory h = absurd h

  pub at_place : (p q : ℕ) → p ≡ q → Contains (places_of_parts item.form) q → Contains (places_in item.form) p
  at_place p q e h = subst (λ r. Contains (places_in item.form) r) (sym e) (of_parts item.form q h)

-- ---- rules by the form

domain_place : (form : Form) (at : ℕ) (xs : List ℤ) → IsDomain form at xs → Contains (places_of_parts form) at
domain_place forms.Predicate at xs h = absurd h
domain_place (forms.Param t i anns e) at xs h = absurd h
domain_place (forms.Variable t i anns e) at xs h = subst (λ p. Contains (places_of_parts (forms.Variable t i anns e)) p) (sym h.3) (type_place (forms.Variable t i anns e) t refl)
domain_place (forms.Array len is_var t i anns items_at items) at xs h = absurd h
domain_place (forms.Constraint i es anns) at xs h = absurd h
domain_place (forms.Solve anns goal) at xs h = absurd h

universe_place : (form : Form) (at : ℕ) (xs : List ℤ) → IsUniverse form at xs → Contains (places_of_parts form) at
universe_place forms.Predicate at xs h = absurd h
universe_place (forms.Param t i anns e) at xs h = absurd h
universe_place (forms.Variable t i anns e) at xs h = subst (λ p. Contains (places_of_parts (forms.Variable t i anns e)) p) (sym h.3) (type_place (forms.Variable t i anns e) t refl)
universe_place (forms.Array len is_var t i anns items_at items) at xs h = absurd h
universe_place (forms.Constraint i es anns) at xs h = absurd h
universe_place (forms.Solve anns goal) at xs h = absurd h

length_place : (form : Form) (at : ℕ) → IsWrongLength form at → Contains (places_of_parts form) at
length_place forms.Predicate at h = absurd h
length_place (forms.Param t i anns e) at h = absurd h
length_place (forms.Variable t i anns e) at h = absurd h
length_place (forms.Array len is_var t i anns items_at items) at h =
    subst (λ p. Contains (places_of_parts (forms.Array len is_var t i anns items_at items)) p) (sym h.0) (ident_place (forms.Array len is_var t i anns items_at items) i refl)
length_place (forms.Constraint i es anns) at h = absurd h
length_place (forms.Solve anns goal) at h = absurd h

unbounded_place : (form : Form) (at : ℕ) → IsUnbounded form at → Contains (places_of_parts form) at
unbounded_place forms.Predicate at h = absurd h
unbounded_place (forms.Param t i anns e) at h = absurd h
unbounded_place (forms.Variable t i anns e) at h = subst (λ p. Contains (places_of_parts (forms.Variable t i anns e)) p) (sym h.0) (type_place (forms.Variable t i anns e) t refl)
unbounded_place (forms.Array len is_var t i anns items_at items) at h = absurd h
unbounded_place (forms.Constraint i es anns) at h = absurd h
unbounded_place (forms.Solve anns goal) at h = absurd h

variable_place : (form : Form) (at : ℕ) → IsVariableAt form at → Contains (places_of_parts form) at
variable_place forms.Predicate at h = absurd h
variable_place (forms.Param t i anns e) at h = absurd h
variable_place (forms.Variable t i anns e) at h = subst (λ p. Contains (places_of_parts (forms.Variable t i anns e)) p) (sym h) (ident_place (forms.Variable t i anns e) i refl)
variable_place (forms.Array len is_var t i anns items_at items) at h = absurd h
variable_place (forms.Constraint i es anns) at h = absurd h
variable_place (forms.Solve anns goal) at h = absurd h

output_place : (form : Form) (at : ℕ) → IsBadOutput form at → Contains (places_of_parts form) at
output_place forms.Predicate at h = absurd h
output_place (forms.Param t i anns e) at h = absurd h
output_place (forms.Variable t i anns e) at h =
    subst (λ p. Contains (places_of_parts (forms.Variable t i anns e)) p) (sym h.3)
    (Contains-append_right (t.at ∷ i.at ∷ []) (map place_of_annotation anns ++ flat_map places_in_expression (option_to_list e)) h.0.at
    (Contains-append_left (map place_of_annotation anns) (flat_map places_in_expression (option_to_list e)) h.0.at (annotation_place anns h.0 h.1)))
output_place (forms.Array len true t i anns items_at items) at h =
    subst (λ p. Contains (places_of_parts (forms.Array len true t i anns items_at items)) p) (sym h.3)
    (Contains-append_right (t.at ∷ i.at ∷ []) (map place_of_annotation anns ++ (items_at ∷ map (λ (b : Basic). b.at) items)) h.0.at
    (Contains-append_left (map place_of_annotation anns) (items_at ∷ map (λ (b : Basic). b.at) items) h.0.at (annotation_place anns h.0 h.1)))
output_place (forms.Array len false t i anns items_at items) at h = absurd h
output_place (forms.Constraint i es anns) at h = absurd h
output_place (forms.Solve anns goal) at h = absurd h

constraint_name_place : (i : Ident) (es : List Expr) (anns : List Ann) (at : ℕ) → at ≡ i.at → Contains (places_of_parts (forms.Constraint i es anns)) at
constraint_name_place i es anns at e =
    subst (λ p. Contains (places_of_parts (forms.Constraint i es anns)) p) (sym e) (in_front i.at (flat_map places_in_expression es ++ map place_of_annotation anns))

unknown_place : (form : Form) (at : ℕ) → InConstraint [] (record { at = 0; form = form }) (faults.UnknownConstraint at) → Contains (places_of_parts form) at
unknown_place forms.Predicate at h = absurd h
unknown_place (forms.Param t i anns e) at h = absurd h
unknown_place (forms.Variable t i anns e) at h = absurd h
unknown_place (forms.Array len is_var t i anns items_at items) at h = absurd h
unknown_place (forms.Constraint i es anns) at h = constraint_name_place i es anns at h.0
unknown_place (forms.Solve anns goal) at h = absurd h

count_place : (form : Form) (at : ℕ) → HasWrongCount form at → Contains (places_of_parts form) at
count_place forms.Predicate at h = absurd h
count_place (forms.Param t i anns e) at h = absurd h
count_place (forms.Variable t i anns e) at h = absurd h
count_place (forms.Array len is_var t i anns items_at items) at h = absurd h
count_place (forms.Constraint i es anns) at h = constraint_name_place i es anns at h.0
count_place (forms.Solve anns goal) at h = absurd h

after_place : (before : List Item) (form : Form) (at : ℕ) (c : Constraint) → IsConstraintAfter before form at c → Contains (places_of_parts form) at
after_place before forms.Predicate at c h = absurd h
after_place before (forms.Param t i anns e) at c h = absurd h
after_place before (forms.Variable t i anns e) at c h = absurd h
after_place before (forms.Array len is_var t i anns items_at items) at c h = absurd h
after_place before (forms.Constraint i es anns) at c h = constraint_name_place i es anns at h.0
after_place before (forms.Solve anns goal) at c h = absurd h

adding_place : (form : Form) (at : ℕ) → IsConstraintAt form at → Contains (places_of_parts form) at
adding_place forms.Predicate at h = absurd h
adding_place (forms.Param t i anns e) at h = absurd h
adding_place (forms.Variable t i anns None) at h = absurd h
adding_place (forms.Variable t i anns (Some e)) at h = subst (λ p. Contains (places_of_parts (forms.Variable t i anns (Some e))) p) (sym h) (ident_place (forms.Variable t i anns (Some e)) i refl)
adding_place (forms.Array len is_var t i anns items_at items) at h = absurd h
adding_place (forms.Constraint i es anns) at h = constraint_name_place i es anns at h
adding_place (forms.Solve anns goal) at h = absurd h

objective_is_used : (form : Form) (e : Expr) → IsObjective form e → Contains (expressions_in form) e
objective_is_used forms.Predicate e h = absurd h
objective_is_used (forms.Param t i anns x) e h = absurd h
objective_is_used (forms.Variable t i anns x) e h = absurd h
objective_is_used (forms.Array len is_var t i anns items_at items) e h = absurd h
objective_is_used (forms.Constraint i es anns) e h = absurd h
objective_is_used (forms.Solve anns goal) e h = subst (λ (o : Option Expr). Contains (option_to_list o) e) (sym h) (in_front e [])

module _ (before : List Item) (item : Item) where
  in_declaration : (f : ModelFault) → InDeclaration before item f → Contains (places_in item.form) (place_of_fault f)
  in_declaration (faults.DeclaredTwice at) h = at_place before item at h.ident.at h.place (ident_place item.form h.ident h.declared)
  in_declaration (faults.WrongCount at) h = of_parts item.form at (length_place item.form at h)
  in_declaration (faults.Unbounded at) h = of_parts item.form at (unbounded_place item.form at h)
  in_declaration (faults.Float at) h = elim h [
    | inl x ↦ at_place before item at x.declared.at x.place (type_place item.form x.declared x.typed)
    | inr x ↦ of_numbers item.form _ (declared_number item.form _ x)
  ]
  in_declaration (faults.NumberTooLarge at) h = of_numbers item.form _ (declared_number item.form _ h)
  in_declaration (faults.EmptyDomain at) h = of_parts item.form at (domain_place item.form at [] h)
  in_declaration (faults.IntTooWide at) h = of_parts item.form at (domain_place item.form at h.0 h.1)
  in_declaration (faults.SetTooWide at) h = of_parts item.form at (universe_place item.form at h.0 h.1)
  in_declaration (faults.ElementRange at) h = of_parts item.form at (universe_place item.form at h.0 h.1)
  in_declaration (faults.TooManyBits at) h = of_parts item.form at (variable_place item.form at h.place)
  in_declaration (faults.BadOutput at) h = of_parts item.form at (output_place item.form at h)
  in_declaration (faults.Undeclared at) h = absurd h
  in_declaration (faults.WrongType at) h = absurd h
  in_declaration (faults.UnknownConstraint at) h = absurd h
  in_declaration (faults.ScopeTooWide at) h = absurd h
  in_declaration (faults.TooManyConstraints at) h = absurd h
  in_declaration (faults.ObjectiveNotInt at) h = absurd h
  in_declaration faults.Memory h = absurd h

  in_constraint : (f : ModelFault) → InConstraint before item f → Contains (places_in item.form) (place_of_fault f)
  in_constraint (faults.UnknownConstraint at) h = of_parts item.form at (unknown_place item.form at h)
  in_constraint (faults.WrongCount at) h = elim h [
    | inl x ↦ of_parts item.form at (count_place item.form at x)
    | inr x ↦ of_parts item.form at (after_place before item.form at x.constraint x.is)
  ]
  in_constraint (faults.ScopeTooWide at) h = of_parts item.form at (after_place before item.form at h.constraint h.is)
  in_constraint (faults.TooManyConstraints at) h = of_parts item.form at (adding_place item.form at h.0)
  in_constraint (faults.Undeclared at) h = absurd h
  in_constraint (faults.DeclaredTwice at) h = absurd h
  in_constraint (faults.WrongType at) h = absurd h
  in_constraint (faults.Unbounded at) h = absurd h
  in_constraint (faults.Float at) h = absurd h
  in_constraint (faults.NumberTooLarge at) h = absurd h
  in_constraint (faults.EmptyDomain at) h = absurd h
  in_constraint (faults.IntTooWide at) h = absurd h
  in_constraint (faults.SetTooWide at) h = absurd h
  in_constraint (faults.ElementRange at) h = absurd h
  in_constraint (faults.TooManyBits at) h = absurd h
  in_constraint (faults.BadOutput at) h = absurd h
  in_constraint (faults.ObjectiveNotInt at) h = absurd h
  in_constraint faults.Memory h = absurd h

  in_objective : (f : ModelFault) → InObjective before item f → Contains (places_in item.form) (place_of_fault f)
  in_objective (faults.TooManyBits at) h = at_expression item.form h.expression at h.place (objective_is_used item.form h.expression h.objective)
  in_objective (faults.ObjectiveNotInt at) h = at_expression item.form h.expression at h.place (objective_is_used item.form h.expression h.objective)
  in_objective (faults.Undeclared at) h = absurd h
  in_objective (faults.DeclaredTwice at) h = absurd h
  in_objective (faults.WrongType at) h = absurd h
  in_objective (faults.UnknownConstraint at) h = absurd h
  in_objective (faults.WrongCount at) h = absurd h
  in_objective (faults.Unbounded at) h = absurd h
  in_objective (faults.Float at) h = absurd h
  in_objective (faults.NumberTooLarge at) h = absurd h
  in_objective (faults.EmptyDomain at) h = absurd h
  in_objective (faults.IntTooWide at) h = absurd h
  in_objective (faults.SetTooWide at) h = absurd h
  in_objective (faults.ElementRange at) h = absurd h
  in_objective (faults.ScopeTooWide at) h = absurd h
  in_objective (faults.TooManyConstraints at) h = absurd h
  in_objective (faults.BadOutput at) h = absurd h
  in_objective faults.Memory h = absurd h

  pub fault_place : (f : ModelFault) → IsFaultAfter before item f → Contains (places_in item.form) (place_of_fault f)
  fault_place f h = elim h [
    | inl x ↦ in_expressions before item f x
    | inr y ↦ elim y [
      | inl x ↦ in_declaration f x
      | inr z ↦ elim z [ inl x ↦ in_constraint f x | inr x ↦ in_objective f x ]
    ]
  ]
