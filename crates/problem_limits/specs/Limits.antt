-- The limits on sizes that diagrams need; that the problem of a text keeps them has no proof yet. Of the limits of a
-- text those on the elements of sets, on the sizes of universes and constant sets, on the values of all integer
-- variables together and on the terms of all constraints together are not among them. This project's own.
use Rattle.std.specs.Prelude.{ℕ, ◌≤◌, ℤ, unsigned_abs, List, length, All, sum_by, slice_get, ⊤}
use Rattle.std.specs.List.{flat_map}
use Rattle.std.specs.Option.{option_map_or}
use Rattle.set_meaning.specs.declared.kinds.Value.TheVariants as value
use Rattle.set_meaning.specs.declared.kinds.Kind.{Kind}
use Rattle.set_meaning.specs.declared.kinds.Kind.TheVariants as kind
use Rattle.set_meaning.specs.declared.problems.VarId.{VarId}
use Rattle.set_meaning.specs.declared.problems.Term.{Term}
use Rattle.set_meaning.specs.declared.problems.Term.TheVariants.{Const, Var}
use Rattle.set_meaning.specs.declared.problems.Constraint.{Constraint}
use Rattle.set_meaning.specs.declared.problems.Problem.{Problem}
use Rattle.set_meaning.specs.Problems.{IsProblem}
use Rattle.set_meaning.specs.Relations.{IsScope, terms_of}
use Rattle.bit_layout.specs.Words.{width_of}
use Rattle.bit_layout.specs.Limits.{AreWithinLimits}

-- ---- integers

-- from -1,000,000,000 to 1,000,000,000
abbrev pub IsSmallNumber : ℤ → Type 0
IsSmallNumber x = unsigned_abs x ≤ 1000000000

-- an integer variable of the kind has small values
abbrev pub HasSmallNumbers : Kind → Type 0
HasSmallNumbers kind.Bool = ⊤
HasSmallNumbers (kind.Int numbers) = All IsSmallNumber numbers
HasSmallNumbers (kind.Set universe) = ⊤

-- where the term is an integer constant, it is small
abbrev pub IsSmallTerm : Term → Type 0
IsSmallTerm (Const (value.Int x)) = IsSmallNumber x
IsSmallTerm (Const (value.Bool b)) = ⊤
IsSmallTerm (Const (value.Set s)) = ⊤
IsSmallTerm (Var v) = ⊤

-- ---- constraints

-- how many bits a variable has; none where it is not one of the problem's
abbrev pub width_in : List Kind → VarId → ℕ
width_in kinds v = option_map_or width_of (slice_get kinds v.0) 0

-- small constants, at most 4,194,304 terms, and variables of at most 2,048 bits in all
pub record IsWithinLimits (kinds : List Kind) (c : Constraint) : Type 0 where
  pub constants : All IsSmallTerm (flat_map terms_of c.args)
  pub terms : length (flat_map terms_of c.args) ≤ 4194304
  pub scope : (scope : List VarId) → IsScope c scope → sum_by (width_in kinds) scope ≤ 2048

-- ---- problems

-- a well formed problem with small integers, at most 1,048,576 bits and at most 100,000 constraints
pub record KeepsLimits (p : Problem) : Type 0 where
  pub legal : IsProblem p
  pub kinds : AreWithinLimits p.kinds
  pub numbers : All HasSmallNumbers p.kinds
  pub constraints : All (IsWithinLimits p.kinds) p.constraints
  pub few : length p.constraints ≤ 100000
