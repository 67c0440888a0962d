-- A variable that is given a value is given a single term, so the scope has two variables at most.
use Rattle.std.proofs.Common.{◌≡◌, ℕ, ◌≤◌, Bool, true, false, List, [], ◌∷◌, ◌++◌, option_to_list, Option, Some, None, ℤ, refl, sym, ap, subst, ◌∙◌, inl, inr}
use Rattle.std.specs.Prelude.{All, Contains, sum_by, filter_map}
use Rattle.std.specs.Option.{option_map}
use Rattle.std.proofs.lemmas.Option.{none-some, same_Some}
use Rattle.std.proofs.lemmas.List.Elements.{All-cons, All-contains, All-nil}
use Rattle.fzn_parser.specs.declared.tree.Num.TheVariants as nums
use Rattle.fzn_parser.specs.declared.tree.BasicForm.{BasicForm}
use Rattle.fzn_parser.specs.declared.tree.BasicForm.TheVariants as basics
use Rattle.fzn_parser.specs.declared.tree.Expr.{Expr}
use Rattle.fzn_parser.specs.declared.tree.Expr.TheVariants as exprs
use Rattle.fzn_parser.specs.declared.tree.Ident.{Ident}
use Rattle.fzn_parser.specs.declared.tree.Ann.{Ann}
use Rattle.fzn_parser.specs.declared.tree.TypeExpr.{TypeExpr}
use Rattle.fzn_parser.specs.declared.tree.Form.TheVariants as forms
use Rattle.fzn_parser.specs.declared.tree.Item.{Item}
use Rattle.set_meaning.specs.declared.kinds.Kind.{Kind}
use Rattle.set_meaning.specs.declared.kinds.Value.TheVariants as value
use Rattle.set_meaning.specs.declared.problems.VarId.{VarId}
use Rattle.set_meaning.specs.declared.problems.Term.{Term}
use Rattle.set_meaning.specs.declared.problems.Term.TheVariants.{Const, Var}
use Rattle.set_meaning.specs.declared.problems.Arg.{Arg}
use Rattle.set_meaning.specs.declared.problems.Arg.TheVariants.{One, Many}
use Rattle.set_meaning.specs.declared.problems.Relation.{Relation}
use Rattle.set_meaning.specs.declared.problems.Constraint.{Constraint}
use Rattle.set_meaning.specs.declared.rows.Sort.{Sort}
use Rattle.set_meaning.specs.declared.rows.Shape.{Shape}
use Rattle.set_meaning.specs.declared.rows.Shape.TheVariants.{OneOf}
use Rattle.set_meaning.specs.Relations.{IsScope, variable_of, variables_of}
use Rattle.problem_limits.specs.Limits.{width_in}
use Rattle.fzn_model.specs.declared.faults.ModelFault.TheVariants as faults
use Rattle.fzn_model.specs.Entities.{Naming, arg_of, arg_of_part, elements_of, naming_after, sort_of, variable}
use Rattle.fzn_model.specs.Shapes.{Suits, asked_if, asked_in, asked_of_parts, typing_of_arg}
use Rattle.fzn_model.specs.FaultsOf.{IsFaultAfter}
use Rattle.fzn_model.specs.FirstFault.{AreNone}
use Rattle.fzn_model.proofs.Among.{all_from_members, in_front, in_flat_map}
use Rattle.model_limits.proofs.NarrowScopes.{IsEither, IsThin, two_narrow}

-- what stands for an array is no single term
no_array_set : (o : Option (List ℤ)) (ts : List Term) → option_map (λ xs. One (Const (value.Set xs))) o ≡ Some (Many ts) → ⊥
no_array_set None ts e = absurd (none-some (Many ts) e)
no_array_set (Some xs) ts e = let f = same_Some (One (Const (value.Set xs))) (Many ts) e in absurd (cc)

-- over any types of entities and typings, since those of fzn_model cannot be named here
no_array_name : {E T : Type 0} (o : Option E) (arg : E → Arg) (sort : E → Sort) (typing_of : Sort → Arg → T) (is_array : T → Bool)
    → ((s : Sort) (ts : List Term) → is_array (typing_of s (Many ts)) ≡ true) → (ts : List Term) (typing : T) → option_map arg o ≡ Some (Many ts)
    → option_map (λ (e : E). typing_of (sort e) (arg e)) o ≡ Some typing → is_array typing ≡ false → ⊥
no_array_name None arg sort typing_of is_array arrays ts typing e t f = absurd (none-some (Many ts) e)
no_array_name (Some z) arg sort typing_of is_array arrays ts typing e t f =
    let a : arg z ≡ Many ts = same_Some (arg z) (Many ts) e in
    let s : typing_of (sort z) (arg z) ≡ typing = same_Some (typing_of (sort z) (arg z)) typing t in
    let v : true ≡ false = sym (arrays (sort z) ts) ∙ (ap (λ b. is_array (typing_of (sort z) b)) (sym a) ∙ (ap is_array s ∙ f)) in
    absurd (cc)

no_array : (naming : Naming) (sort : Sort) (form : BasicForm) (ts : List Term) → arg_of_part naming form ≡ Some (Many ts) → Suits naming (OneOf sort) form → ⊥
no_array naming sort (basics.Bool b) ts e s = let f = same_Some (One (Const (value.Bool b))) (Many ts) e in absurd (cc)
no_array naming sort (basics.Num (nums.Int x)) ts e s = let f = same_Some (One (Const (value.Int x))) (Many ts) e in absurd (cc)
no_array naming sort (basics.Num nums.Large) ts e s = absurd (none-some (Many ts) e)
no_array naming sort (basics.Num nums.Float) ts e s = absurd (none-some (Many ts) e)
no_array naming sort (basics.Set l) ts e s = no_array_set (elements_of l) ts e
no_array naming sort (basics.Name name) ts e s =
    no_array_name (naming name) (λ z. z.arg) (λ z. z.sort) typing_of_arg (λ w. w.is_array) (λ sort xs. refl) ts s.typing e s.typed s.asked.1

asked_one : (t : TypeExpr) (e : Expr) (sort : Sort) → sort_of t.form ≡ Some sort → Contains {X = Shape × Expr} (asked_if OneOf t e ++ []) (OneOf sort, e)
asked_one t e sort q =
    subst (λ (o : Option Sort). Contains {X = Shape × Expr} (option_to_list (option_map (λ s. (OneOf s, e)) o) ++ []) (OneOf sort, e)) (sym q)
    (in_front (OneOf sort, e) [])

-- the value is a single term
pub one_value : (before : List Item) (at : ℕ) (t : TypeExpr) (ident : Ident) (anns : List Ann) (e : Expr) (sort : Sort) (arg : Arg)
    → AreNone (IsFaultAfter before (record { at = at; form = forms.Variable t ident anns (Some e) }))
    → sort_of t.form ≡ Some sort → arg_of (naming_after before) e ≡ Some arg → (term : Term) × (arg ≡ One term)
one_value before at t ident anns e sort (One term) none s is = (term, refl)
one_value before at t ident anns (exprs.List eat items) sort (Many ts) none s is =
    absurd (none (faults.WrongType eat) (inl (inl (record {
      shape = OneOf sort;
      expression = exprs.List eat items;
      asked = asked_one t (exprs.List eat items) sort s;
      stray = tt;
      place = refl;
    }))))
one_value before at t ident anns (exprs.One b) sort (Many ts) none s is =
    absurd (none (faults.WrongType b.at) (inl (inr (record {
      shape = OneOf sort;
      part = b;
      asked = in_flat_map (λ a. asked_of_parts a.0 a.1) (asked_in (forms.Variable t ident anns (Some (exprs.One b)))) (OneOf sort, exprs.One b) (OneOf sort, b)
          (asked_one t (exprs.One b) sort s) (in_front (OneOf sort, b) []);
      float = λ f. none-some (Many ts) (sym (ap (arg_of_part (naming_after before)) f) ∙ is);
      suits = λ h. no_array (naming_after before) sort b.form ts is h;
      place = refl;
    }))))

-- ---- the scope

two_variables : (number : ℕ) (t : Term) → (b : VarId) × All (IsEither (record { 0 = number }) b) (filter_map variable_of (Var (record { 0 = number }) ∷ t ∷ []))
two_variables number (Const v) =
    let a : VarId = record { 0 = number } in
    (a, All-cons (IsEither a a) a [] (inl refl) (All-nil (IsEither a a)))
two_variables number (Var x) =
    let a : VarId = record { 0 = number } in
    (x, All-cons (IsEither a x) a (x ∷ []) (inl refl) (All-cons (IsEither a x) x [] (inr refl) (All-nil (IsEither a x))))

pub equality_narrow : (kinds : List Kind) → All IsThin kinds → (number : ℕ) (r : Relation) (t : Term) (scope : List VarId)
    → IsScope (record { relation = r; args = variable number ∷ One t ∷ []; reif = None }) scope → sum_by (width_in kinds) scope ≤ 1024
equality_narrow kinds thin number r t scope is =
    let w = two_variables number t in
    let a : VarId = record { 0 = number } in
    let c : Constraint = record { relation = r; args = variable number ∷ One t ∷ []; reif = None } in
    two_narrow kinds thin a w.0 scope is.ascending
    (all_from_members (IsEither a w.0) scope (λ v h. All-contains (IsEither a w.0) (variables_of c) v w.1 ((is.members v).0 h)))
