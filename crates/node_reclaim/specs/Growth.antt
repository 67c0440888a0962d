-- What a call that makes nodes leaves of a pool: all that was there, and of the new nodes what sets they have. This project's own; the
-- sets of a diagram's nodes are the residual sets of its words (Bryant, IEEE Transactions on Computers, 1986).
use Rattle.std.specs.Prelude.{◌≡◌, ◌+◌, false, None, Some}
use Rattle.std.specs.FinMap as map
use Rattle.diagram_arena.specs.declared.nodes.NodeId.{NodeId}
use Rattle.diagram_arena.specs.declared.nodes.Node.{Node as Stored}
use Rattle.diagram_arena.specs.declared.nodes.Ref.{Ref}
use Rattle.diagram_arena.specs.declared.nodes.Ref.TheVariants.{Node}
use Rattle.diagram_arena.specs.Table.{Words, Table, has, IsLive, IsReduced}
use Rattle.diagram_arena.specs.Part.{IsPartOf}
use Rattle.diagram_arena.specs.Reach.{Bits, ReachesOnly}
use Rattle.diagram_arena.specs.Arena.{ArenaState, table, KeepsNodes, NewAreUntagged, Grows}
use Rattle.node_reclaim.specs.Pool.{PoolState, node_count}

-- the words of a ref of a pool
abbrev pub words_of : PoolState → Ref → Words
words_of s r = has (table s.arena) r

-- there are as many nodes as the limit allows
abbrev pub IsFull : PoolState → Type 0
IsFull s = map.len s.arena.nodes ≡ s.arena.limit

-- each node that was not there before has no mark
abbrev pub NewAreUnmarked : ArenaState → ArenaState → Type 0
NewAreUnmarked old new = (i : NodeId) (n : Stored) → map.get old.nodes i ≡ None → map.get new.nodes i ≡ Some n → n.mark ≡ false

-- every node that was there stands with its mark, its tag and its pins, every ref means what it meant, new nodes have no mark and
-- tag 0 and are counted as made, and no unit was begun
pub record Stays (old new : PoolState) : Type 0 where
  pub reduced : IsReduced (table new.arena)
  pub grows : Grows (table old.arena) (table new.arena)
  pub keeps : KeepsNodes old.arena new.arena
  pub unmarked : NewAreUnmarked old.arena new.arena
  pub untagged : NewAreUntagged old.arena new.arena
  pub limit : new.arena.limit ≡ old.arena.limit
  pub counts : new.counts ≡ old.counts
  pub units : new.units ≡ old.units
  pub made : new.made + node_count old ≡ old.made + node_count new

-- the set of each new node has this property
abbrev pub NewAre : Table → Table → (Words → Type 0) → Type 0
NewAre old new P = (i : NodeId) → old i ≡ None → IsLive new (Node i) → P (has new (Node i))

-- each new node is a part of V
abbrev pub NewArePartsOf : Table → Table → Words → Type 0
NewArePartsOf old new V = (i : NodeId) → old i ≡ None → IsLive new (Node i) → IsPartOf (has new (Node i)) V

-- each new node reaches only these bits
abbrev pub NewReachOnly : Table → Table → Bits → Type 0
NewReachOnly old new bits = (i : NodeId) → old i ≡ None → IsLive new (Node i) → ReachesOnly new bits (Node i)
