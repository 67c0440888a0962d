-- What a reclamation keeps: the nodes that pins reach, as a garbage collection by marks (McCarthy, Communications of the ACM, 1960).
use Rattle.std.specs.Prelude.{◌≡◌, ◌<◌, Bool, List, Some}
use Rattle.std.specs.FinMap as map
use Rattle.diagram_arena.specs.declared.nodes.NodeId.{NodeId}
use Rattle.diagram_arena.specs.declared.nodes.Node.{Node as Stored}
use Rattle.diagram_arena.specs.declared.nodes.Ref.{Ref}
use Rattle.diagram_arena.specs.declared.nodes.Ref.TheVariants.{Node}
use Rattle.diagram_arena.specs.Table.{Table, IsLive, IsReduced}
use Rattle.diagram_arena.specs.Reach.{follow}
use Rattle.diagram_arena.specs.Arena.{table, Grows, unmarked}
use Rattle.node_reclaim.specs.Pool.{PoolState, pins_of}

-- a path of sides leads from r to the node i
abbrev pub Reaches : Table → Ref → NodeId → Type 0
Reaches t r i = (path : List Bool) × (follow t r path ≡ Node i)

-- a path of sides leads from a pinned node to the node i
abbrev pub IsReached : PoolState → NodeId → Type 0
IsReached s i = (j : NodeId) × (0 < pins_of s j) × Reaches (table s.arena) (Node j) i

-- the node i was there, and stands with its bit, its children and its tag; it has no mark
abbrev pub IsKept : PoolState → PoolState → NodeId → Type 0
IsKept old new i = (n : Stored) × (map.get old.arena.nodes i ≡ Some n) × (map.get new.arena.nodes i ≡ Some (unmarked n))

-- exactly the nodes that pins reach are kept, with their pins; every ref that is left means what it meant, and the counts of units
-- and of made nodes begin again
pub record Reclaims (old new : PoolState) : Type 0 where
  pub kept : (i : NodeId) → IsReached old i → IsKept old new i
  pub only : (i : NodeId) → IsLive (table new.arena) (Node i) → IsReached old i
  pub means : Grows (table new.arena) (table old.arena)
  pub reduced : IsReduced (table new.arena)
  pub limit : new.arena.limit ≡ old.arena.limit
  pub counts : new.counts ≡ old.counts
  pub units : new.units ≡ 0
  pub made : new.made ≡ 0
