-- Linear sums over the values of a problem's variables. That a Boolean counts as 0 or 1 is as in bool2int of the FlatZinc builtins (MiniZinc
-- Handbook); that a set counts as its cardinality is this project's own.
use Rattle.std.specs.Prelude.{ℕ, ◌≤◌, ◌^◌, ◌<◌, ℤ, pos, ◌+ℤ◌, ◌*ℤ◌, unsigned_abs, if◌then◌else◌, List, [], ◌∷◌, length, slice_get, All, Contains}
use Rattle.std.specs.Option.{option_map_or}
use Rattle.set_meaning.specs.declared.kinds.Value.{Value}
use Rattle.set_meaning.specs.declared.kinds.Value.TheVariants as value
use Rattle.set_meaning.specs.declared.problems.VarId.{VarId}
use Rattle.bit_layout.specs.Order.{LayoutState, width_at, bit_at}
use Rattle.linear_terms.specs.declared.terms.LinearTerm.{LinearTerm}

-- the number that a value counts as: 0 or 1 for a Boolean, an integer itself, how many elements for a set
abbrev pub number_of : Value → ℤ
number_of (value.Bool b) = if b then pos 1 else pos 0
number_of (value.Int x) = x
number_of (value.Set set) = pos (length set)

-- the number that a variable's value counts as
abbrev pub number_at : List Value → VarId → ℤ
number_at values v = option_map_or number_of (slice_get values v.0) (pos 0)

-- the sum of the coefficients times the numbers of their variables
abbrev pub linear_sum : List LinearTerm → List Value → ℤ
linear_sum [] values = pos 0
linear_sum (t ∷ ts) values = (t.coefficient *ℤ number_at values t.variable) +ℤ linear_sum ts values

-- each bit of the variable is listed
abbrev pub HasBitsOf : LayoutState → List ℕ → VarId → Type 0
HasBitsOf l bits v = (i : ℕ) → i < width_at l v → Contains bits (bit_at l v i)

-- at most 4,194,304 terms with coefficients of at most 1,000,000,000 in size, and a constant of at most 2 ^ 100 in size
pub record AreTermsSmall (terms : List LinearTerm) (constant : ℤ) : Type 0 where
  pub coefficients : All (λ t. unsigned_abs t.coefficient ≤ 1000000000) terms
  pub few : length terms ≤ 4194304
  pub constant_size : unsigned_abs constant ≤ 2 ^ 100
