-- Which nodes propagation may make. This project's own; parts of a set are the residual words of a decision diagram
-- (Bryant, IEEE Transactions on Computers, 1986).
use Rattle.std.specs.Prelude.{◌≡◌, ◌⊎◌, ℕ, Bool, true, List, ◌∷◌, [], Some, slice_get}
use Rattle.set_meaning.specs.declared.kinds.Value.{Value}
use Rattle.set_meaning.specs.declared.problems.VarId.{VarId}
use Rattle.set_meaning.specs.declared.problems.Constraint.{Constraint}
use Rattle.set_meaning.specs.declared.problems.Problem.{Problem}
use Rattle.set_meaning.specs.Relations.{Holds, IsScope}
use Rattle.bit_layout.specs.Order.{LayoutState}
use Rattle.diagram_arena.specs.declared.nodes.NodeId.{NodeId}
use Rattle.diagram_arena.specs.declared.nodes.Ref.{Ref}
use Rattle.diagram_arena.specs.declared.nodes.Ref.TheVariants.{Node}
use Rattle.diagram_arena.specs.Table.{Words, Table, has, IsLive}
use Rattle.diagram_arena.specs.Arena.{table}
use Rattle.node_reclaim.specs.Pool.{PoolState}
use Rattle.node_reclaim.specs.Reclaim.{IsReached}
use Rattle.search_rules.specs.Family.{without}
use Rattle.search_rules.specs.Trail.{Entry, Stored, IsTrail}
use Rattle.exact_steps.specs.Domains.{AtVariable, family}
use Rattle.exact_steps.specs.Parts.{IsWanted}
use Rattle.problem_rules.specs.Posed.{problem_of}
use Rattle.propagators.specs.Units.{IsPartOfWords}
use Rattle.box_clauses.specs.declared.store.StoredBox.{StoredBox}
use Rattle.box_clauses.specs.Boxes.{box_of}
use Rattle.search_state.specs.Readings.{sides_at}
use Rattle.running_boxes.specs.declared.beginning.Conflict.{Conflict}
use Rattle.running_boxes.specs.declared.beginning.Conflict.TheVariants as conflict

-- W is one of the sets of the step of constraint number c on the family f
pub record IsOfStep (p : Problem) (l : LayoutState) (f : ℕ → Value → Bool) (c : ℕ) (W : Words) : Type 0 where
  pub constraint : Constraint
  pub at : slice_get p.constraints c ≡ Some constraint
  pub scope : List VarId
  pub is_scope : IsScope constraint scope
  pub wanted : IsWanted l scope (Holds constraint) f W

-- W is a part of the set of the words of what one variable has in the family f and not in the box b
pub record IsOfBoxStep (l : LayoutState) (f b : ℕ → Value → Bool) (W : Words) : Type 0 where
  pub variable : VarId
  pub part : IsPartOfWords l (variable ∷ [])
      (AtVariable variable (λ x. without (f variable.0) (b variable.0) x ≡ true)) W

-- a unit is the step of a constraint, or that of a box in store; these are its sets on the family f
abbrev pub IsOfUnit :
    Problem → LayoutState → Table → List StoredBox → (ℕ → Value → Bool) → Conflict → Words → Type 0
IsOfUnit p l t stored f (conflict.Constraint c) W = IsOfStep p l f c.0 W
IsOfUnit p l t stored f (conflict.Box b) W = IsOfBoxStep l f (box_of l t (sides_at stored b.0)) W

-- W is one of the sets of a unit on the family of some trail
pub data IsOfPropagation (p : Problem) (l : LayoutState) (W : Words) : Type 0 where
  of_step : {boxes : List (Stored Value)} {es : List (Entry Value)} {f : ℕ → Value → Bool} {c : ℕ}
      → IsTrail (problem_of p) boxes es f → IsOfStep p l f c W → IsOfPropagation p l W
  of_box : {boxes : List (Stored Value)} {es : List (Entry Value)} {f b : ℕ → Value → Bool}
      → IsTrail (problem_of p) boxes es f → IsOfBoxStep l f b W → IsOfPropagation p l W

-- each node is reached by a pin, or is one of the sets of one unit on the domains
abbrev pub AreReachedOrOfUnit : Problem → LayoutState → List StoredBox → List Ref → PoolState → Type 0
AreReachedOrOfUnit p l stored domains s =
    let t = table s.arena in (unit : Conflict) × ((i : NodeId) → IsLive t (Node i)
    → IsReached s i ⊎ IsOfUnit p l t stored (family l t domains) unit (has t (Node i)))
