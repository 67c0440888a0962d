-- The faults at the name of a constraint, or of a variable that is given a value. This project's own, after the
-- FlatZinc builtins of the MiniZinc Handbook.
use Rattle.std.specs.Prelude.{◌≡◌, ◌≢◌, ◌⊎◌, ℕ, ◌+◌, ◌<◌, IsTrue, List, [], length, count_by, sum_by, Option, Some, None, IsSome}
use Rattle.std.specs.Option.{IsSomeAnd}
use Rattle.fzn_parser.specs.declared.tree.Expr.{Expr}
use Rattle.fzn_parser.specs.declared.tree.Item.{Item}
use Rattle.set_meaning.specs.declared.kinds.Kind.{Kind}
use Rattle.set_meaning.specs.declared.problems.VarId.{VarId}
use Rattle.set_meaning.specs.declared.problems.Constraint.{Constraint}
use Rattle.set_meaning.specs.Relations.{IsScope}
use Rattle.set_meaning.specs.Rows.{ArePaired, row_of}
use Rattle.fzn_model.specs.declared.faults.ModelFault.{ModelFault}
use Rattle.fzn_model.specs.declared.faults.ModelFault.TheVariants as faults
use Rattle.fzn_model.specs.declared.so_far.SoFar.{SoFar}
use Rattle.fzn_model.specs.State.{naming_of}
use Rattle.fzn_model.specs.Limits.{constraint_limit, scope_limit, term_limit}
use Rattle.fzn_model.specs.Lists.{sum_after}
use Rattle.fzn_model.specs.Names.{named}
use Rattle.fzn_model.specs.Items.{adds_constraint}
use Rattle.fzn_model.specs.Entities.{Naming, arg_of, naming_after}
use Rattle.fzn_model.specs.ProblemOf.{constraint_named, kinds_of}
use Rattle.fzn_model.specs.Shapes.{shapes_named}
use Rattle.fzn_model.specs.FaultsOf.{bits_at, terms_after, terms_of}
use Rattle.fzn_model.specs.PartFaults.{Told}

-- ---- the name and the number of arguments

abbrev pub HasOtherCount : List ℕ → ℕ → Type 0
HasOtherCount name count = IsSome (named name) × (count ≢ length (shapes_named name))

-- the faults of a constraint at this place that has this name and so many arguments
abbrev pub OfNaming : ℕ → List ℕ → ℕ → ModelFault → Type 0
OfNaming at name count fault =
    Told (faults.UnknownConstraint at) (named name ≡ None) fault ⊎ Told (faults.WrongCount at) (HasOtherCount name count) fault

-- ---- the arguments

abbrev pub IsUnpaired : Constraint → Type 0
IsUnpaired c = IsTrue (row_of c.relation).paired × (ArePaired c.args → ⊥)

-- its variables have too many bits
abbrev pub IsWide : List Kind → Constraint → Type 0
IsWide kinds c = (scope : List VarId) × IsScope c scope × (scope_limit < sum_by (bits_at kinds) scope)

-- the faults of a constraint at this place, where there is one
abbrev pub OfMade : ℕ → List Kind → Option Constraint → ModelFault → Type 0
OfMade at kinds made fault =
    Told (faults.WrongCount at) (IsSomeAnd made IsUnpaired) fault ⊎ Told (faults.ScopeTooWide at) (IsSomeAnd made (IsWide kinds)) fault

-- the faults of a constraint at this place whose arguments have none
abbrev pub OfGood : Type 0 → ℕ → List Kind → Option Constraint → ModelFault → Type 0
OfGood IsGood at kinds made fault = IsGood × OfMade at kinds made fault

-- ---- counts

-- how many terms an expression stands for
abbrev pub term_count : Naming → Expr → ℕ
term_count naming e = length (terms_of (arg_of naming e))

-- there are too many constraints with one more, or too many terms with so many more
abbrev pub ArePast : Type 0 → ℕ → ℕ → Type 0
ArePast IsGood constraints terms = (constraint_limit < constraints + 1) ⊎ (IsGood × (term_limit < terms))

-- ---- items

-- what the items before come to, of which the rules on constraints ask
pub record Before : Type 0 where
  pub naming : Naming
  pub kinds : List Kind
  pub constraints : ℕ
  pub terms : ℕ

-- too many constraints with one more at this place, or too many terms with those of these expressions and `own` more
abbrev pub OfCounts : Type 0 → ℕ → Before → ℕ → List Expr → ModelFault → Type 0
OfCounts IsGood at b own es =
    Told (faults.TooManyConstraints at) (ArePast IsGood b.constraints (b.terms + own + sum_by (term_count b.naming) es))

-- the faults of a constraint item whose name and expressions these are
abbrev pub OfConstraint : Type 0 → ℕ → Before → List ℕ → List Expr → ModelFault → Type 0
OfConstraint IsGood at b name es fault =
    OfNaming at name (length es) fault
    ⊎ OfGood IsGood at b.kinds (constraint_named b.naming name es) fault
    ⊎ OfCounts IsGood at b 0 es fault

-- the names, kinds and counts are those of the items before
pub record IsBefore (before : List Item) (b : Before) : Type 0 where
  pub same_naming : b.naming ≡ naming_after before
  pub known : kinds_of before ≡ Some b.kinds
  pub counted : b.constraints ≡ count_by (λ item. adds_constraint item.form) before
  pub summed : b.terms ≡ sum_after terms_after [] before

-- what the state says that the items before come to
abbrev pub before_of : SoFar → Before
before_of state = record {
  naming = naming_of state.declared;
  kinds = state.kinds.items;
  constraints = state.counts.constraints;
  terms = state.counts.terms;
}
