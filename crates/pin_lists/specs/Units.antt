-- What units of work leave of a pool, between which nodes may be reclaimed. Ids are used again, so nodes are told by their sets of words.
-- This project's own.
use Rattle.std.specs.Prelude.{◌≡◌, ℕ, ◌⊎◌, ◌+◌, ◌<◌, List, [], ◌∷◌, ◌++◌, slice_set}
use Rattle.diagram_arena.specs.declared.nodes.NodeId.{NodeId}
use Rattle.diagram_arena.specs.declared.nodes.Ref.{Ref}
use Rattle.diagram_arena.specs.declared.nodes.Ref.TheVariants.{Node}
use Rattle.diagram_arena.specs.Table.{Word, Words, Table, has, IsLive, IsReduced}
use Rattle.diagram_arena.specs.Arena.{table}
use Rattle.node_reclaim.specs.Pool.{PoolState, pins_of, times}
use Rattle.node_reclaim.specs.Holders.{AreHeld, MeansTheSame}
use Rattle.node_reclaim.specs.Reclaim.{IsReached}

-- each pinned node is there
abbrev pub PinnedAreLive : PoolState → Type 0
PinnedAreLive s = (i : NodeId) → 0 < pins_of s i → IsLive (table s.arena) (Node i)

-- the pins of each node changed as the list of what is held did
abbrev pub Moves : PoolState → PoolState → List Ref → List Ref → Type 0
Moves old new before after = (i : NodeId) → pins_of new i + times i before ≡ pins_of old i + times i after

-- the last ref of the list `aside` stands at this place of the other list now
pub record IsTakenBack (refs aside : List Ref) (now rest : List Ref) (at : ℕ) : Type 0 where
  pub last : Ref
  pub was : aside ≡ rest ++ last ∷ []
  pub is : now ≡ slice_set refs at last

-- what is pinned beside the list means what it meant
abbrev pub KeepsHeld : PoolState → PoolState → List Ref → Type 0
KeepsHeld old new before = (rs : List Ref) → AreHeld old (rs ++ before) → MeansTheSame (table old.arena) (table new.arena) rs

-- some node of the table has this set
abbrev pub StoodBefore : Table → Words → Type 0
StoodBefore t W = (j : NodeId) × IsLive t (Node j) × ((w : Word) → has t (Node j) w ≡ W w)

-- the set of each node is that of a node which stood before, or of P
abbrev pub AllAre : Table → Table → (Words → Type 0) → Type 0
AllAre old new P = (i : NodeId) → IsLive new (Node i) → StoodBefore old (has new (Node i)) ⊎ P (has new (Node i))

-- what units leave whose new sets are of P, while the list of what they hold went from one to another
pub record UnitsLeave (P : Words → Type 0) (old new : PoolState) (before after : List Ref) : Type 0 where
  pub reduced : IsReduced (table new.arena)
  pub limit : new.arena.limit ≡ old.arena.limit
  pub pins : Moves old new before after
  pub kept : KeepsHeld old new before
  pub sets : AllAre (table old.arena) (table new.arena) P

-- what a collection leaves: of what was there just the nodes that pins reach, and they reach them still
pub record Collects (old new : PoolState) : Type 0 where
  pub reduced : IsReduced (table new.arena)
  pub limit : new.arena.limit ≡ old.arena.limit
  pub counts : new.counts ≡ old.counts
  pub kept : (rs : List Ref) → AreHeld old rs → MeansTheSame (table old.arena) (table new.arena) rs
  pub stood : (i : NodeId) → IsLive (table new.arena) (Node i) → StoodBefore (table old.arena) (has (table new.arena) (Node i))
  pub swept : (i : NodeId) → IsLive (table new.arena) (Node i) → IsReached old i
  pub reached : (i : NodeId) → IsLive (table new.arena) (Node i) → IsReached new i
