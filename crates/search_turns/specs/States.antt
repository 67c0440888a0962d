-- What stands while a search is on, over diagrams. This project's own.
use Rattle.std.specs.Prelude.{◌≡◌, ℕ, ◌<◌, ◌^◌, false, List, ◌++◌, length}
use Rattle.std.specs.List.{count_by}
use Rattle.set_meaning.specs.declared.kinds.Value.{Value}
use Rattle.set_meaning.specs.declared.problems.Problem.{Problem}
use Rattle.bit_layout.specs.Order.{LayoutState}
use Rattle.diagram_arena.specs.declared.nodes.Ref.{Ref}
use Rattle.diagram_arena.specs.Table.{Table}
use Rattle.diagram_arena.specs.Arena.{table}
use Rattle.node_reclaim.specs.Pool.{PoolState}
use Rattle.node_reclaim.specs.Holders.{AreHeld}
use Rattle.problem_rules.specs.Posed.{problem_of}
use Rattle.propagators.specs.Compiled.{CompiledState, pinned_by, IsCompiled}
use Rattle.domain_trail.specs.Trail.{TrailState, held}
use Rattle.box_clauses.specs.declared.store.StoredBox.{StoredBox}
use Rattle.box_clauses.specs.Stored.{stored_sets}
use Rattle.search_state.specs.Readings.{boxes_of, IsTrailOf, IsLegalState}

-- what trail and stored boxes pin
abbrev pub held_by_search : TrailState → List StoredBox → List Ref
held_by_search trail stored = held trail ++ stored_sets stored

-- each constraint without variables holds
abbrev pub HoldWithoutVariables : Problem → Type 0
HoldWithoutVariables p =
    (c : ℕ) → c < length p.constraints → ((v : ℕ) → (problem_of p).scope c v ≡ false)
    → (a : ℕ → Value) → (problem_of p).holds c a

-- The compiled problem, a trail by the rules over the stored boxes, and their pins. Above level 0 constraints without
-- variables were seen to hold.
pub record IsStanding (p : Problem) (l : LayoutState) (s : PoolState) (k : CompiledState) (stored : List StoredBox)
    (trail : TrailState) : Type 0 where
  pub compiled : IsCompiled l p (table s.arena) k
  pub trail_is : IsTrailOf p l (table s.arena) stored trail
  pub few : length stored < 2 ^ 32
  pub pinned : AreHeld s (pinned_by k ++ held_by_search trail stored)
  pub grounded : 0 < trail.level → HoldWithoutVariables p

-- the state is legal, with some answers
abbrev pub IsLegalForSome : Problem → LayoutState → Table → List StoredBox → TrailState → Type 0
IsLegalForSome p l t stored trail = (answers : List (ℕ → Value)) × IsLegalState p l t answers stored trail

-- how many of the boxes are learned
abbrev pub learned_count : List StoredBox → ℕ
learned_count stored = count_by (λ (b : StoredBox). b.learned) stored

-- The search went on from a state of the table t to one of the table u: the boxes that it had mean what they meant,
-- these came after them, and with whatever answers the state was legal, it still is.
pub record IsFurther (p : Problem) (l : LayoutState) (t u : Table) (stored : List StoredBox) (trail : TrailState)
    (stored_now : List StoredBox) (trail_now : TrailState) : Type 0 where
  pub added : List StoredBox
  pub grown : stored_now ≡ stored ++ added
  pub boxes : boxes_of l u stored ≡ boxes_of l t stored
  pub legal : (answers : List (ℕ → Value)) → IsLegalState p l t answers stored trail
      → IsLegalState p l u answers stored_now trail_now
