-- What a holder of pins does to the counts of a pool, and what stays where pins are held. This project's own.
use Rattle.std.specs.Prelude.{◌≡◌, ◌+◌, ◌≤◌, List, Contains}
use Rattle.diagram_arena.specs.declared.nodes.NodeId.{NodeId}
use Rattle.diagram_arena.specs.declared.nodes.Ref.{Ref}
use Rattle.diagram_arena.specs.Table.{Word, Table, has, IsLive}
use Rattle.node_reclaim.specs.Pool.{PoolState, pins_of, times}
use Rattle.node_reclaim.specs.Growth.{Stays}

-- each node has gained one pin for each time that it is listed; new nodes may have come
abbrev pub Gains : PoolState → PoolState → List Ref → Type 0
Gains old new rs = (i : NodeId) → pins_of new i ≡ pins_of old i + times i rs

-- each node is pinned at least as often as it is listed
abbrev pub AreHeld : PoolState → List Ref → Type 0
AreHeld s rs = (i : NodeId) → times i rs ≤ pins_of s i

-- each node has as many pins as before
abbrev pub KeepsPins : PoolState → PoolState → Type 0
KeepsPins old new = (i : NodeId) → pins_of new i ≡ pins_of old i

-- pins set aside, every node that was there stands with its mark and its tag, and new nodes have no mark and tag 0
abbrev pub StaysButPins : PoolState → PoolState → Type 0
StaysButPins old new = Stays old (record new { counts = old.counts })

-- the refs are in the second table too, and mean there what they mean in the first
abbrev pub MeansTheSame : Table → Table → List Ref → Type 0
MeansTheSame t u rs = (r : Ref) → Contains rs r → IsLive u r × ((w : Word) → has u r w ≡ has t r w)
