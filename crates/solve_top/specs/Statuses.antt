-- The status that a run ends with, and the state that it hands out (this project's own).
use Rattle.std.specs.Prelude.{◌≡◌, ℕ, Option, Some, None, ⊤}
use Rattle.std.specs.FinMap as map
use Rattle.node_reclaim.specs.Pool.{pinned_refs}
use Rattle.learn_search.specs.declared.search.LastState.{LastState}
use Rattle.solve_top.specs.declared.status.Status.{Status}
use Rattle.solve_top.specs.declared.status.Status.TheVariants as status

-- the number that the program ends with
abbrev pub status_number : Status → ℕ
status_number status.Done = 0
status_number status.Nodes = 1
status_number status.Words = 2
status_number status.File = 3
status_number status.ReadFault = 4
status_number status.WriteFault = 5
status_number status.Memory = 6

-- its pool has 4,000,000 nodes, as its limit allows, and it names what is pinned there, each ref as often as it is
-- pinned
pub record IsLastState (last : LastState) : Type 0 where
  pub limit : last.pool.arena.limit ≡ 4000000
  pub full : map.len last.pool.arena.nodes ≡ 4000000
  pub named : last.named.items ≡ pinned_refs last.pool

-- there is such a state where the nodes ran out, and else none
abbrev pub StopsWith : Status → Option LastState → Type 0
StopsWith status.Nodes (Some last) = IsLastState last
StopsWith status.Nodes None = ⊥
StopsWith _ (Some last) = ⊥
StopsWith _ None = ⊤
