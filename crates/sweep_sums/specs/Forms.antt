-- Linear sums over the values of a problem's variables, which are compared with 0. That a Boolean counts as 0 or 1 is as in bool2int of the
-- FlatZinc builtins (MiniZinc Handbook); the form with a constant on the left is this project's own.
use Rattle.std.specs.Prelude.{◌≡◌, ◌≢◌, ◌↔◌, ◌≤◌, ◌^◌, ℤ, pos, ◌+ℤ◌, ◌*ℤ◌, ◌≤ℤ◌, unsigned_abs, if◌then◌else◌, List, [], ◌∷◌, length, slice_get, IsSomeAnd, All, Contains, filter_map}
use Rattle.std.specs.Option.{option_map_or}
use Rattle.std.specs.List.{flat_map}
use Rattle.set_meaning.specs.declared.kinds.Kind.{Kind}
use Rattle.set_meaning.specs.declared.kinds.Value.{Value}
use Rattle.set_meaning.specs.declared.kinds.Value.TheVariants as value
use Rattle.set_meaning.specs.declared.problems.VarId.{VarId}
use Rattle.set_meaning.specs.declared.problems.Arg.{Arg}
use Rattle.set_meaning.specs.declared.problems.Relation.{Relation}
use Rattle.set_meaning.specs.Kinds.{InKind}
use Rattle.set_meaning.specs.Relations.{HoldsOf, terms_of, variable_of}
use Rattle.sweep_sums.specs.declared.comparison.Comparison.{Comparison}
use Rattle.sweep_sums.specs.declared.comparison.Comparison.TheVariants.{Equal, Different, AtMost}
use Rattle.sweep_sums.specs.declared.forms.LinearTerm.{LinearTerm}
use Rattle.sweep_sums.specs.declared.forms.LinearSum.{LinearSum}

-- ---- numbers

-- the number that a value counts as: 0 or 1 for a Boolean, an integer itself; a set is no number here, and counts 0
abbrev pub number_of : Value → ℤ
number_of (value.Bool b) = if b then pos 1 else pos 0
number_of (value.Int x) = x
number_of (value.Set set) = pos 0

-- the number that a variable's value counts as
abbrev pub number_at : List Value → VarId → ℤ
number_at values v = option_map_or number_of (slice_get values v.0) (pos 0)

-- the number compares so with 0
abbrev pub Compares : Comparison → ℤ → Type 0
Compares Equal x = x ≡ pos 0
Compares Different x = x ≢ pos 0
Compares AtMost x = x ≤ℤ pos 0

-- ---- sums

-- the sum of the coefficients times the numbers of their variables
abbrev pub linear_sum : List LinearTerm → List Value → ℤ
linear_sum [] values = pos 0
linear_sum (t ∷ ts) values = (t.coefficient *ℤ number_at values t.variable) +ℤ linear_sum ts values

-- at most 4,194,304 terms with coefficients of at most 1,000,000,000 in size, and a constant of at most 2 ^ 100 in size
pub record AreTermsSmall (terms : List LinearTerm) (constant : ℤ) : Type 0 where
  pub coefficients : All (λ t. unsigned_abs t.coefficient ≤ 1000000000) terms
  pub few : length terms ≤ 4194304
  pub constant_size : unsigned_abs constant ≤ 2 ^ 100

abbrev pub IsSmallSum : LinearSum → Type 0
IsSmallSum s = AreTermsSmall s.terms s.constant

-- the constant and the terms together compare so with 0
abbrev pub SumHolds : List Value → LinearSum → Type 0
SumHolds values s = Compares s.comparison (s.constant +ℤ linear_sum s.terms values)

-- ---- relations

-- the variables that stand in the arguments
abbrev pub variables_in : List Arg → List VarId
variables_in args = filter_map variable_of (flat_map terms_of args)

-- a value of the variable's kind
abbrev pub IsInitialValue : List Kind → VarId → Value → Type 0
IsInitialValue kinds v x = IsSomeAnd (slice_get kinds v.0) (λ k. InKind k x)

-- each of these variables has an initial value
abbrev pub HaveValues : List Kind → List VarId → List Value → Type 0
HaveValues kinds scope values = (v : VarId) → Contains scope v → IsSomeAnd (slice_get values v.0) (IsInitialValue kinds v)

-- the sum compares so with 0 just where the relation holds
pub record IsSumOf (kinds : List Kind) (relation : Relation) (args : List Arg) (s : LinearSum) : Type 0 where
  pub meaning : (values : List Value) → HaveValues kinds (variables_in args) values → HoldsOf relation args values ↔ SumHolds values s
  pub variables : All (λ t. Contains (variables_in args) t.variable) s.terms
  pub small : IsSmallSum s
