-- Which nodes a search for the root family may make. This project's own.
use Rattle.std.specs.Prelude.{◌≡◌, ℕ, Bool, List, Contains}
use Rattle.set_meaning.specs.declared.kinds.Value.{Value}
use Rattle.set_meaning.specs.declared.problems.VarId.{VarId}
use Rattle.set_meaning.specs.declared.problems.Constraint.{Constraint}
use Rattle.set_meaning.specs.declared.problems.Problem.{Problem}
use Rattle.set_meaning.specs.Relations.{Holds, IsScope}
use Rattle.bit_layout.specs.Order.{LayoutState, IsLayout}
use Rattle.diagram_arena.specs.declared.nodes.Ref.{Ref}
use Rattle.diagram_arena.specs.Table.{Words}
use Rattle.diagram_arena.specs.Arena.{table}
use Rattle.node_reclaim.specs.Pool.{PoolState}
use Rattle.node_reclaim.specs.Holders.{AreHeld, MeansTheSame}
use Rattle.pin_lists.specs.Units.{AllAre}
use Rattle.search_rules.specs.Problem.{Steps}
use Rattle.exact_steps.specs.Parts.{IsWanted}
use Rattle.problem_rules.specs.Posed.{problem_of}
use Rattle.propagators.specs.Units.{IsOfUnit}

-- W is one of the sets of the step of a constraint on a family that steps lead to from the initial values
pub record IsOfStep (p : Problem) (l : LayoutState) (W : Words) : Type 0 where
  pub constraint : Constraint
  pub listed : Contains p.constraints constraint
  pub scope : List VarId
  pub is_scope : IsScope constraint scope
  pub family : ℕ → Value → Bool
  pub taken : List ℕ
  pub steps : Steps (problem_of p) (problem_of p).initial taken family
  pub wanted : IsWanted l scope (Holds constraint) family W

-- W is one of the sets of a unit: of the compilation, or of such a step
pub data IsOfRoot (p : Problem) (W : Words) : Type 0 where
  of_compilation : (l : LayoutState) → IsLayout l → l.kinds ≡ p.kinds → IsOfUnit l p W → IsOfRoot p W
  of_step : (l : LayoutState) → IsLayout l → l.kinds ≡ p.kinds → IsOfStep p l W → IsOfRoot p W

-- what a search for the root family leaves: what is pinned means what it meant, and each node has a set that stood before, or one of a unit
pub record RootLeaves (p : Problem) (old new : PoolState) : Type 0 where
  pub limit : new.arena.limit ≡ old.arena.limit
  pub kept : (rs : List Ref) → AreHeld old rs → MeansTheSame (table old.arena) (table new.arena) rs
  pub wanted : AllAre (table old.arena) (table new.arena) (IsOfRoot p)
