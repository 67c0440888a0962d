-- The goal of a tree without faults: its one more kind is good, and there are not too many bits with it.
use Rattle.std.proofs.Common.{◌≡◌, ℕ, ◌≤◌, List, [], ◌∷◌, ◌++◌, Some, ℤ, refl, sym, ap, subst, ◌∙◌, inl, inr, arith}
use Rattle.std.proofs.lemmas.Int.{ints}
use Rattle.std.specs.Prelude.{All, sum_by}
use Rattle.std.specs.List.Sorted.{IsStrictlySortedBy}
use Rattle.std.proofs.lemmas.Option.{none-some, same_Some}
use Rattle.std.proofs.lemmas.List.{append-nil}
use Rattle.std.proofs.lemmas.List.Elements.{All-cons, All-head, All-nil}
use Rattle.fzn_parser.specs.declared.tree.Expr.{Expr}
use Rattle.fzn_parser.specs.declared.tree.Ann.{Ann}
use Rattle.fzn_parser.specs.declared.tree.GoalForm.{GoalForm}
use Rattle.fzn_parser.specs.declared.tree.GoalForm.TheVariants as goals
use Rattle.fzn_parser.specs.declared.tree.Form.{Form}
use Rattle.fzn_parser.specs.declared.tree.Form.TheVariants as forms
use Rattle.fzn_parser.specs.declared.tree.Item.{Item}
use Rattle.fzn_parser.specs.Places.{IsSolve, numbers_in, numbers_in_expression}
use Rattle.set_meaning.specs.declared.kinds.Kind.{Kind}
use Rattle.set_meaning.specs.declared.kinds.Kind.TheVariants as kind
use Rattle.set_meaning.specs.declared.kinds.Value.TheVariants as value
use Rattle.set_meaning.specs.declared.problems.VarId.{VarId}
use Rattle.set_meaning.specs.declared.problems.Term.TheVariants.{Const, Var}
use Rattle.set_meaning.specs.declared.problems.Arg.{Arg}
use Rattle.set_meaning.specs.declared.problems.Arg.TheVariants.{One, Many}
use Rattle.set_meaning.specs.declared.problems.Goal.{Goal}
use Rattle.set_meaning.specs.declared.problems.Goal.TheVariants as goal
use Rattle.set_meaning.specs.Sets.{IsAscending}
use Rattle.bit_layout.specs.Words.{span}
use Rattle.bit_layout.specs.Limits.{counted_bits}
use Rattle.problem_limits.specs.Limits.{IsSmallNumber}
use Rattle.fzn_model.specs.declared.faults.ModelFault.TheVariants as faults
use Rattle.fzn_model.specs.Items.{place_of}
use Rattle.fzn_model.specs.Entities.{arg_of, count_variables, naming_after}
use Rattle.fzn_model.specs.ProblemOf.{goal_of, goals_in, kinds_of, objective_of, objective_var, the_goal}
use Rattle.fzn_model.specs.FaultsOf.{HaveTooManyBits, IsFaultAfter, IsObjective, integer_values}
use Rattle.fzn_model.specs.FirstFault.{AreNone}
use Rattle.fzn_model.proofs.Sound.{le_unless}
use Rattle.model_limits.proofs.FineTerms.{AreFine, IsFine, IsFineNaming, IsSmallAt, expression_fine}
use Rattle.model_limits.proofs.FineConstraints.{bind_some, map_some}
use Rattle.model_limits.proofs.Splits.{all_front}
use Rattle.model_limits.proofs.SmallKinds.{IsGoodKind}
use Rattle.model_limits.proofs.KeptKinds.{AreFew}

-- what is added behind these kinds is good, and all of them have few bits and few values
pub record CanBeAdded (kinds new : List Kind) : Type 0 where
  pub good : All IsGoodKind new
  pub few : AreFew (kinds ++ new)

nothing : (kinds : List Kind) → AreFew kinds → CanBeAdded kinds []
nothing kinds few = record { good = All-nil IsGoodKind; few = subst AreFew (sym (append-nil kinds)) few }

one_ascends : (x : ℤ) → IsAscending (x ∷ [])
unfolding IsStrictlySortedBy
one_ascends x = (tt, tt)

one_value : (x : ℤ) → IsSmallNumber x → IsGoodKind (kind.Int (x ∷ []))
one_value x small = record {
  legal = (one_ascends x, λ e. cc);
  narrow = let s : span (x ∷ []) ≤ 65535 = omega (arith, ints) in s;
  numbers = All-cons IsSmallNumber x [] small (All-nil IsSmallNumber);
  few = tt;
  universe = tt;
}

module _ (before : List Item) (kinds : List Kind) (known : kinds_of before ≡ Some kinds) (few : AreFew kinds)
    (fine : IsFineNaming (count_variables before) (naming_after before)) where
  -- the unnamed variable of a constant objective is not too much
  one_more : (at : ℕ) (form : Form) (e : Expr) → AreNone (IsFaultAfter before (record { at = at; form = form })) → IsObjective form e
      → (x : ℤ) → arg_of (naming_after before) e ≡ Some (One (Const (value.Int x))) → AreFew (kinds ++ kind.Int (x ∷ []) ∷ [])
  one_more at form e none objective x is =
      let told : HaveTooManyBits (kinds ++ kind.Int (x ∷ []) ∷ []) → ⊥ = λ many. none (faults.TooManyBits (place_of e)) (inr (inr (inr (record {
        expression = e;
        objective = objective;
        number = x;
        constant = is;
        kinds = kinds;
        known = known;
        many = many;
        place = refl;
      })))) in
      record {
        bits = le_unless 1048576 (sum_by counted_bits (kinds ++ kind.Int (x ∷ []) ∷ [])) (λ w. told (inl w));
        values = le_unless 67108864 (sum_by integer_values (kinds ++ kind.Int (x ∷ []) ∷ [])) (λ w. told (inr w));
      }

  of_arg : (at : ℕ) (form : Form) (e : Expr) → AreNone (IsFaultAfter before (record { at = at; form = form })) → IsObjective form e
      → (a : Arg) → arg_of (naming_after before) e ≡ Some a → AreFine (count_variables before) a
      → (o : VarId × List Kind) → objective_var (count_variables before) a ≡ Some o → CanBeAdded kinds o.1
  of_arg at form e none objective (Many ts) is h o made = absurd (none-some o made)
  of_arg at form e none objective (One (Var v)) is h o made = subst (λ (p : VarId × List Kind). CanBeAdded kinds p.1) (same_Some (v, []) o made) (nothing kinds few)
  of_arg at form e none objective (One (Const (value.Bool b))) is h o made = absurd (none-some o made)
  of_arg at form e none objective (One (Const (value.Set s))) is h o made = absurd (none-some o made)
  of_arg at form e none objective (One (Const (value.Int x))) is h o made =
      let f : IsFine (count_variables before) (Const (value.Int x)) = All-head (IsFine (count_variables before)) (Const (value.Int x)) [] h in
      subst (λ (p : VarId × List Kind). CanBeAdded kinds p.1) (same_Some (record { 0 = count_variables before }, kind.Int (x ∷ []) ∷ []) o made) (record {
        good = All-cons IsGoodKind (kind.Int (x ∷ [])) [] (one_value x f.small) (All-nil IsGoodKind);
        few = one_more at form e none objective x is;
      })

  of_objective : (at : ℕ) (form : Form) (e : Expr) → AreNone (IsFaultAfter before (record { at = at; form = form })) → IsObjective form e
      → All IsSmallAt (numbers_in_expression e) → (o : VarId × List Kind)
      → objective_of (naming_after before) (count_variables before) e ≡ Some o → CanBeAdded kinds o.1
  of_objective at form e none objective small o is =
      let a = bind_some (arg_of (naming_after before) e) (objective_var (count_variables before)) o is in
      of_arg at form e none objective a.0 a.1 (expression_fine (count_variables before) (naming_after before) fine e a.0 a.1 small) o a.2

  of_goal : (at : ℕ) (anns : List Ann) (g : GoalForm) → AreNone (IsFaultAfter before (record { at = at; form = forms.Solve anns g }))
      → All IsSmallAt (numbers_in (forms.Solve anns g)) → (made : Goal × List Kind)
      → goal_of (naming_after before) (count_variables before) g ≡ Some made → CanBeAdded kinds made.1
  of_goal at anns goals.Satisfy none small made is =
      subst (λ (p : Goal × List Kind). CanBeAdded kinds p.1) (same_Some (goal.Satisfy, []) made is) (nothing kinds few)
  of_goal at anns (goals.Minimize e) none small made is =
      let m = map_some (objective_of (naming_after before) (count_variables before) e) (λ o. (goal.Minimize o.0, o.1)) made is in
      subst (λ (p : Goal × List Kind). CanBeAdded kinds p.1) m.2
      (of_objective at (forms.Solve anns (goals.Minimize e)) e none refl (all_front IsSmallAt (numbers_in_expression e) [] small) m.0 m.1)
  of_goal at anns (goals.Maximize e) none small made is =
      let m = map_some (objective_of (naming_after before) (count_variables before) e) (λ o. (goal.Maximize o.0, o.1)) made is in
      subst (λ (p : Goal × List Kind). CanBeAdded kinds p.1) m.2
      (of_objective at (forms.Solve anns (goals.Maximize e)) e none refl (all_front IsSmallAt (numbers_in_expression e) [] small) m.0 m.1)

  -- the one goal of a solve item
  pub of_solve : (at : ℕ) (form : Form) → IsSolve form → AreNone (IsFaultAfter before (record { at = at; form = form })) → All IsSmallAt (numbers_in form)
      → (gs : List (Goal × List Kind)) → goals_in (naming_after before) (count_variables before) form ≡ Some gs
      → (g : Goal × List Kind) → the_goal gs ≡ Some g → CanBeAdded kinds g.1
  of_solve at forms.Predicate solve none small gs is g the = absurd solve
  of_solve at (forms.Param t i anns x) solve none small gs is g the = absurd solve
  of_solve at (forms.Variable t i anns x) solve none small gs is g the = absurd solve
  of_solve at (forms.Array len is_var t i anns items_at items) solve none small gs is g the = absurd solve
  of_solve at (forms.Constraint i es anns) solve none small gs is g the = absurd solve
  of_solve at (forms.Solve anns form) solve none small gs is g the =
      let m = map_some (goal_of (naming_after before) (count_variables before) form) (λ o. o ∷ []) gs is in
      let same : m.0 ≡ g = same_Some m.0 g (ap the_goal m.2 ∙ the) in
      subst (λ (p : Goal × List Kind). CanBeAdded kinds p.1) same (of_goal at anns form none small m.0 m.1)
