-- Limits that the problem of a text keeps beside those of `KeepsLimits`: on universes, on what all variables and all
-- constraints have together, and on shown arrays. This project's own.
use Rattle.std.specs.Prelude.{◌≡◌, ◌≤◌, ℤ, unsigned_abs, List, ◌++◌, length, option_to_list, All, sum_by, ⊤}
use Rattle.std.specs.List.{flat_map}
use Rattle.set_meaning.specs.declared.kinds.Kind.{Kind}
use Rattle.set_meaning.specs.declared.kinds.Kind.TheVariants as kind
use Rattle.set_meaning.specs.declared.problems.Problem.{Problem}
use Rattle.set_meaning.specs.declared.kinds.Value.TheVariants as value
use Rattle.set_meaning.specs.declared.problems.Term.{Term}
use Rattle.set_meaning.specs.declared.problems.Term.TheVariants.{Const, Var}
use Rattle.set_meaning.specs.declared.problems.Constraint.{Constraint}
use Rattle.set_meaning.specs.declared.problems.Shown.{Shown}
use Rattle.set_meaning.specs.Relations.{terms_of}
use Rattle.fzn_model.specs.Outputs.{size_of}
use Rattle.fzn_model.specs.FaultsOf.{integer_values, set_size}

-- from -1,000,000 to 1,000,000
abbrev pub IsSmallElement : ℤ → Type 0
IsSmallElement x = unsigned_abs x ≤ 1000000

-- a set variable has at most 512 possible elements, all of them small
abbrev pub HasSmallUniverse : Kind → Type 0
HasSmallUniverse (kind.Set universe) = (length universe ≤ 512) × All IsSmallElement universe
HasSmallUniverse _ = ⊤

-- where the term is a constant set, it has at most 65,536 elements, all of them small
abbrev pub IsSmallSet : Term → Type 0
IsSmallSet (Const (value.Set s)) = (length s ≤ 65536) × All IsSmallElement s
IsSmallSet (Const (value.Bool b)) = ⊤
IsSmallSet (Const (value.Int x)) = ⊤
IsSmallSet (Var v) = ⊤

-- the terms of a constraint, its truth value among them
abbrev pub terms_in : Constraint → List Term
terms_in c = flat_map terms_of c.args ++ option_to_list c.reif

-- a shown item has as many terms as its dimensions multiply to; a scalar has none, and one term
abbrev pub HasItsLength : Shown → Type 0
HasItsLength s = size_of s.dims ≡ length s.terms

-- small universes, and at most 67,108,864 initial values of all integer variables together; of all constraints together
-- at most 4,194,304 terms, and at most 16,777,216 elements of constant sets; small constant sets; shown items of their
-- lengths
pub record KeepsSetLimits (p : Problem) : Type 0 where
  pub universes : All HasSmallUniverse p.kinds
  pub values : sum_by integer_values p.kinds ≤ 67108864
  pub terms : sum_by (λ c. length (terms_in c)) p.constraints ≤ 4194304
  pub elements : sum_by (λ c. sum_by set_size (terms_in c)) p.constraints ≤ 16777216
  pub constants : All (λ c. All IsSmallSet (terms_in c)) p.constraints
  pub shown : All (λ s. All IsSmallSet s.terms) p.shown
  pub lengths : All HasItsLength p.shown
