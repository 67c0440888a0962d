-- How a pool is kept: the counts in an ordered map.
use Rattle.std.specs.Prelude.{◌<◌, ◌≤◌}
use Rattle.std.specs.FinMap as map
use Rattle.diagram_arena.specs.declared.nodes.NodeId.{NodeId}
use Rattle.diagram_arena.specs.declared.nodes.Ref.TheVariants as ref
use Rattle.diagram_arena.specs.Table.{IsLive, IsReduced}
use Rattle.diagram_arena.specs.Arena.{table}
use Rattle.node_reclaim.specs.declared.pinning.Pool.TheInside.{Inside}
use Rattle.node_reclaim.specs.Pool.{PoolState, pins_of, node_count}

abbrev pub pool : Inside → PoolState
pool a = record { arena = a.arena; counts = map.from_entries a.pins.entries; units = a.units; made = a.made }

-- the nodes are a reduced table, each pinned node is there, and what was made since nodes were last reclaimed stands
pub record IsPool (p : PoolState) : Type 0 where
  pub reduced : IsReduced (table p.arena)
  pub live : (i : NodeId) → 0 < pins_of p i → IsLive (table p.arena) (ref.Node i)
  pub made : p.made ≤ node_count p
