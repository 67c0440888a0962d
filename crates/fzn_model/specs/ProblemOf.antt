-- The problem of a tree, where it has no faults. This project's own, after the FlatZinc grammar of the MiniZinc
-- Handbook.
use Rattle.std.specs.Prelude.{ℕ, true, if◌then◌else◌, List, [], ◌∷◌, ◌++◌, length, map, reverse, Option, Some, None}
use Rattle.std.specs.List.{flat_map}
use Rattle.std.specs.Option.{option_map}
use Rattle.fzn_parser.specs.declared.tree.Expr.{Expr}
use Rattle.fzn_parser.specs.declared.tree.TypeForm.{TypeForm}
use Rattle.fzn_parser.specs.declared.tree.TypeForm.TheVariants as types
use Rattle.fzn_parser.specs.declared.tree.GoalForm.{GoalForm}
use Rattle.fzn_parser.specs.declared.tree.GoalForm.TheVariants as goals
use Rattle.fzn_parser.specs.declared.tree.Form.{Form}
use Rattle.fzn_parser.specs.declared.tree.Form.TheVariants as forms
use Rattle.fzn_parser.specs.declared.tree.Item.{Item}
use Rattle.fzn_parser.specs.declared.tree.Tree.{Tree}
use Rattle.set_meaning.specs.declared.kinds.Kind.{Kind}
use Rattle.set_meaning.specs.declared.kinds.Kind.TheVariants as kind
use Rattle.set_meaning.specs.declared.kinds.Value.TheVariants as value
use Rattle.set_meaning.specs.declared.problems.VarId.{VarId}
use Rattle.set_meaning.specs.declared.problems.Term.{Term}
use Rattle.set_meaning.specs.declared.problems.Term.TheVariants.{Const, Var}
use Rattle.set_meaning.specs.declared.problems.Arg.{Arg}
use Rattle.set_meaning.specs.declared.problems.Arg.TheVariants.{One, Many}
use Rattle.set_meaning.specs.declared.problems.Relation.{Relation}
use Rattle.set_meaning.specs.declared.problems.Relation.TheVariants.{SetEq, IntEq, BoolEq}
use Rattle.set_meaning.specs.declared.problems.Constraint.{Constraint}
use Rattle.set_meaning.specs.declared.problems.Goal.{Goal}
use Rattle.set_meaning.specs.declared.problems.Goal.TheVariants as goal
use Rattle.set_meaning.specs.declared.problems.Shown.{Shown}
use Rattle.set_meaning.specs.declared.problems.Problem.{Problem}
use Rattle.set_meaning.specs.declared.rows.Sort.{Sort}
use Rattle.set_meaning.specs.declared.rows.Sort.TheVariants.{Boolean, Integer, IntegerSet}
use Rattle.fzn_model.specs.declared.names.ConstraintName.{ConstraintName}
use Rattle.fzn_model.specs.Lists.{◌>>=◌, each_of, each_after}
use Rattle.fzn_model.specs.Names.{named}
use Rattle.fzn_model.specs.Entities.{Naming, arg_of, array_of, count_variables, elements_of, naming_after, sort_of, variable}
use Rattle.fzn_model.specs.Outputs.{Annotation, dims_shown, output_in, shows_scalar}

-- ---- variables

-- what a variable of the type may take
abbrev pub kind_of : TypeForm → Option Kind
kind_of types.Bool = Some kind.Bool
kind_of (types.Within s) = option_map kind.Int (elements_of s)
kind_of (types.SetWithin s) = option_map kind.Set (elements_of s)
kind_of _ = None

-- the kind of the variable that the item declares, if it declares one
abbrev pub kinds_in : Form → Option (List Kind)
kinds_in (forms.Variable t ident anns e) = option_map (λ k. k ∷ []) (kind_of t.form)
kinds_in _ = Some []

abbrev pub names_in : Form → List (List ℕ)
names_in (forms.Variable t ident anns e) = ident.name ∷ []
names_in _ = []

-- the kinds of the variables that the items declare, in file order
abbrev pub kinds_of : List Item → Option (List Kind)
kinds_of items = each_after (λ before item. kinds_in item.form) [] items

-- ---- constraints

-- a relation of arguments, and the term that is its truth value, where the last argument is to be that: the arguments
-- are given last first
abbrev pub reified_constraint : Relation → List Arg → Option Constraint
reified_constraint r (One t ∷ args) = Some (record { relation = r; args = reverse args; reif = Some t })
reified_constraint r _ = None

abbrev pub constraint_of : ConstraintName → List Arg → Option Constraint
constraint_of n args =
    if n.is_reified then reified_constraint n.relation (reverse args)
    else Some (record { relation = n.relation; args = args; reif = None })

abbrev pub equality : Sort → Relation
equality Boolean = BoolEq
equality Integer = IntEq
equality IntegerSet = SetEq

-- the constraint that the variable of this number is equal to the expression
abbrev pub equality_of : Naming → ℕ → TypeForm → Expr → Option Constraint
equality_of naming number t e = do
  sort ← sort_of t
  arg ← arg_of naming e
  Some (record { relation = equality sort; args = variable number ∷ arg ∷ []; reif = None })

-- the constraint of this name over what its arguments stand for
abbrev pub constraint_named : Naming → List ℕ → List Expr → Option Constraint
constraint_named naming name es = do
  n ← named name
  args ← each_of (arg_of naming) es
  constraint_of n args

-- the constraint that the item adds, if it adds one. The number is that of the next variable
abbrev pub constraints_in : Naming → ℕ → Form → Option (List Constraint)
constraints_in naming number (forms.Constraint ident es anns) = option_map (λ c. c ∷ []) (constraint_named naming ident.name es)
constraints_in naming number (forms.Variable t ident anns (Some e)) = option_map (λ c. c ∷ []) (equality_of naming number t.form e)
constraints_in naming number _ = Some []

-- the same of an item behind others
abbrev pub constraints_after : List Item → Item → Option (List Constraint)
constraints_after before item = constraints_in (naming_after before) (count_variables before) item.form

-- ---- what is shown

abbrev pub shown_scalar : List ℕ → ℕ → Option Annotation → Option (List Shown)
shown_scalar name number None = Some []
shown_scalar name number (Some a) =
    if shows_scalar a then Some (record { name = name; terms = Var (record { 0 = number }) ∷ []; dims = [] } ∷ []) else None

abbrev pub terms_in : Arg → List Term
terms_in (One t) = t ∷ []
terms_in (Many ts) = ts

abbrev pub shown_array : List ℕ → ℕ → Option Arg → Option Annotation → Option (List Shown)
shown_array name count array None = Some []
shown_array name count array (Some a) = do
  dims ← dims_shown count a
  arg ← array
  Some (record { name = name; terms = terms_in arg; dims = dims } ∷ [])

-- what the item shows: a scalar variable or an array of variables with an output annotation
abbrev pub shown_in : Naming → ℕ → Form → Option (List Shown)
shown_in naming number (forms.Variable t ident anns e) = shown_scalar ident.name number (output_in anns)
shown_in naming number (forms.Array len true t ident anns at items) =
    shown_array ident.name (length items) (array_of naming items) (output_in anns)
shown_in naming number _ = Some []

abbrev pub shown_after : List Item → Item → Option (List Shown)
shown_after before item = shown_in (naming_after before) (count_variables before) item.form

-- ---- the goal

-- the variable of an objective, with the kind of one more variable where it is a constant. The number is that of the
-- next variable
abbrev pub objective_var : ℕ → Arg → Option (VarId × List Kind)
objective_var number (One (Var v)) = Some (v, [])
objective_var number (One (Const (value.Int x))) = Some (record { 0 = number }, kind.Int (x ∷ []) ∷ [])
objective_var number _ = None

abbrev pub objective_of : Naming → ℕ → Expr → Option (VarId × List Kind)
objective_of naming number e = arg_of naming e >>= objective_var number

abbrev pub goal_of : Naming → ℕ → GoalForm → Option (Goal × List Kind)
goal_of naming number goals.Satisfy = Some (goal.Satisfy, [])
goal_of naming number (goals.Minimize e) = option_map (λ o. (goal.Minimize o.0, o.1)) (objective_of naming number e)
goal_of naming number (goals.Maximize e) = option_map (λ o. (goal.Maximize o.0, o.1)) (objective_of naming number e)

abbrev pub goals_in : Naming → ℕ → Form → Option (List (Goal × List Kind))
goals_in naming number (forms.Solve anns g) = option_map (λ o. o ∷ []) (goal_of naming number g)
goals_in naming number _ = Some []

abbrev pub goals_after : List Item → Item → Option (List (Goal × List Kind))
goals_after before item = goals_in (naming_after before) (count_variables before) item.form

-- ---- the problem

-- the one goal, and the kind of one more variable where it has a constant objective
abbrev pub the_goal : List (Goal × List Kind) → Option (Goal × List Kind)
the_goal (g ∷ []) = Some g
the_goal _ = None

-- variables, constraints and shown items in file order, every name replaced by what it stands for; the goal; and
-- behind all variables an unnamed one for a constant objective
abbrev pub problem_of : Tree → Option Problem
problem_of tree = do
  kinds ← kinds_of tree.items
  constraints ← each_after constraints_after [] tree.items
  shown ← each_after shown_after [] tree.items
  goals ← each_after goals_after [] tree.items
  g ← the_goal goals
  Some (record {
    kinds = kinds ++ g.1;
    names = flat_map (λ item. names_in item.form) tree.items ++ map (λ k. []) g.1;
    constraints = constraints;
    goal = g.0;
    shown = shown;
  })
