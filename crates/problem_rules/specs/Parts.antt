-- The variables and constraints of a problem over sets, integers and Booleans, by number and over assignments as functions. This
-- project's own.
use Rattle.std.specs.Prelude.{ℕ, ◌==◌, nat_lt, ◌&&◌, Bool, true, false, List, [], length, slice_get, IsSomeAnd}
use Rattle.std.specs.List.{list_any}
use Rattle.std.specs.Option.{option_map_or}
use Rattle.set_meaning.specs.declared.kinds.Kind.{Kind}
use Rattle.set_meaning.specs.declared.kinds.Value.{Value}
use Rattle.set_meaning.specs.declared.problems.Constraint.{Constraint}
use Rattle.set_meaning.specs.declared.problems.Problem.{Problem}
use Rattle.set_meaning.specs.Kinds.{initial_values}
use Rattle.set_meaning.specs.Relations.{Holds, variables_of}
use Rattle.exact_steps.specs.Domains.{same_value}
use Rattle.exact_steps.specs.Rules.{listed}

-- ---- variables

-- whether the value is one of the variable's initial values. Beyond the last variable each value counts as one, since no assignment
-- is asked for anything there
abbrev pub initial_set : List Kind → ℕ → Value → Bool
initial_set kinds v x = option_map_or (λ k. list_any (same_value x) (initial_values k)) (slice_get kinds v) true

-- the initial values of the variable
abbrev pub values_at : List Kind → ℕ → List Value
values_at kinds v = option_map_or initial_values (slice_get kinds v) []

-- the values of the problem's variables, in file order
abbrev pub values_of : Problem → (ℕ → Value) → List Value
values_of p a = listed (length p.kinds) a

-- ---- constraints

-- whether the variable stands in the constraint
abbrev pub stands_in : ℕ → Constraint → Bool
stands_in v c = list_any (λ u. u.0 == v) (variables_of c)

-- whether the variable, one of the problem's, stands in constraint number c
abbrev pub is_scoped : Problem → ℕ → ℕ → Bool
is_scoped p c v = option_map_or (stands_in v) (slice_get p.constraints c) false && nat_lt v (length p.kinds)

-- constraint number c holds under the assignment
abbrev pub HoldsAt : Problem → ℕ → (ℕ → Value) → Type 0
HoldsAt p c a = IsSomeAnd (slice_get p.constraints c) (λ k. Holds k (values_of p a))
