-- Which problems are well formed. This project's own, after the FlatZinc grammar of the MiniZinc Handbook.
use Rattle.std.specs.Prelude.{◌≡◌, ◌≢◌, List, [], length, All, ⊤}
use Rattle.set_meaning.specs.declared.kinds.Kind.{Kind}
use Rattle.set_meaning.specs.declared.kinds.Kind.TheVariants as kind
use Rattle.set_meaning.specs.declared.problems.Term.TheVariants.{Var}
use Rattle.set_meaning.specs.declared.problems.Goal.{Goal}
use Rattle.set_meaning.specs.declared.problems.Goal.TheVariants.{Satisfy, Minimize, Maximize}
use Rattle.set_meaning.specs.declared.problems.Dim.{Dim}
use Rattle.set_meaning.specs.declared.problems.Dim.TheVariants as dim
use Rattle.set_meaning.specs.declared.problems.Shown.{Shown}
use Rattle.set_meaning.specs.declared.problems.Problem.{Problem}
use Rattle.set_meaning.specs.Sets.{IsAscending}
use Rattle.set_meaning.specs.declared.rows.Sort.TheVariants.{Integer}
use Rattle.set_meaning.specs.Rows.{HasSort, IsTerm, FitsRow}

-- an integer variable has a value; values and universes are sets
abbrev pub IsKind : Kind → Type 0
IsKind kind.Bool = ⊤
IsKind (kind.Int numbers) = IsAscending numbers × (numbers ≢ [])
IsKind (kind.Set universe) = IsAscending universe

-- an objective is an integer variable
abbrev pub IsGoal : List Kind → Goal → Type 0
IsGoal kinds Satisfy = ⊤
IsGoal kinds (Minimize v) = HasSort kinds Integer (Var v)
IsGoal kinds (Maximize v) = HasSort kinds Integer (Var v)

abbrev pub IsDim : Dim → Type 0
IsDim (dim.Range lo hi) = ⊤
IsDim (dim.List elements) = IsAscending elements

-- a shown item without dimensions has one term
pub record IsShown (kinds : List Kind) (item : Shown) : Type 0 where
  pub terms : All (IsTerm kinds) item.terms
  pub dims : All IsDim item.dims
  pub scalar : item.dims ≡ [] → length item.terms ≡ 1

-- what holds of every problem that a text spells, but for limits on sizes
pub record IsProblem (p : Problem) : Type 0 where
  pub kinds : All IsKind p.kinds
  pub names : length p.names ≡ length p.kinds
  pub constraints : All (FitsRow p.kinds) p.constraints
  pub goal : IsGoal p.kinds p.goal
  pub shown : All (IsShown p.kinds) p.shown
