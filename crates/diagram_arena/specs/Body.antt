-- How an arena is kept: each node in the slot of its id, and an index from what a node means to its id.
use Rattle.std.specs.Prelude.{◌≡◌, ℕ, ◌+◌, ◌<◌, ◌≤◌, ◌==◌, ◌&&◌, Bool, true, false, List, [], ◌∷◌, count_by, slice_index_or, Option, Some, None, is_some}
use Rattle.std.specs.Option.{option_map_or}
use Rattle.std.specs.FinMap as map
use Rattle.std.specs.Map.{lookup}
use Rattle.diagram_arena.specs.declared.nodes.NodeId.{NodeId}
use Rattle.diagram_arena.specs.declared.nodes.Ref.{Ref}
use Rattle.diagram_arena.specs.declared.nodes.Ref.TheVariants as ref
use Rattle.diagram_arena.specs.declared.nodes.Triple.{Triple}
use Rattle.diagram_arena.specs.declared.nodes.Node.{Node}
use Rattle.diagram_arena.specs.declared.hash_consing.Arena.TheInside.{Inside}
use Rattle.diagram_arena.specs.Table.{Table, IsReduced}
use Rattle.diagram_arena.specs.Arena.{most_nodes, ArenaState, table}

-- whether two refs are one
abbrev pub same_ref : Ref → Ref → Bool
same_ref ref.Zero ref.Zero = true
same_ref ref.Zero ref.One = false
same_ref ref.Zero (ref.Node j) = false
same_ref ref.One ref.Zero = false
same_ref ref.One ref.One = true
same_ref ref.One (ref.Node j) = false
same_ref (ref.Node i) ref.Zero = false
same_ref (ref.Node i) ref.One = false
same_ref (ref.Node i) (ref.Node j) = i.0 == j.0

-- whether two nodes mean the same
abbrev pub same_triple : Triple → Triple → Bool
same_triple n m = (n.bit == m.bit) && (same_ref n.lo m.lo && same_ref n.hi m.hi)

abbrev pub id : ℕ → NodeId
id k = record { 0 = k }

-- the nodes in these slots with their ids, where the first slot is that of the id k
abbrev pub with_ids : ℕ → List (Option Node) → List (NodeId × Node)
with_ids k [] = []
with_ids k (None ∷ slots) = with_ids (k + 1) slots
with_ids k (Some n ∷ slots) = (id k, n) ∷ with_ids (k + 1) slots

-- the arena with these slots under the ids 0, 1, 2 and so on
unfoldable pub state_of : List (Option Node) → ℕ → ArenaState
state_of slots limit = record { nodes = map.from_sorted (with_ids 0 slots); limit = limit }

abbrev pub state : Inside → ArenaState
state a = state_of a.nodes.slots a.limit

-- whether the slot k has a node with a mark
abbrev pub marked_at : List (Option Node) → ℕ → Bool
marked_at slots k = option_map_or (λ (n : Node). n.mark) (slice_index_or slots k None) false

-- the index names each node of the table, and nothing else
pub record IsIndex (t : Table) (entries : List (Triple × NodeId)) : Type 0 where
  pub sound : (n : Triple) (i : NodeId) → lookup (same_triple n) entries ≡ Some i → t i ≡ Some n
  pub complete : (i : NodeId) (n : Triple) → t i ≡ Some n → lookup (same_triple n) entries ≡ Some i

-- the invariant, of the slots, the limit and the index's entries
pub record IsKept (slots : List (Option Node)) (limit : ℕ) (entries : List (Triple × NodeId)) : Type 0 where
  pub reduced : IsReduced (table (state_of slots limit))
  pub few : count_by is_some slots ≤ limit
  pub some : 0 < limit
  pub most : limit ≤ most_nodes
  pub indexed : IsIndex (table (state_of slots limit)) entries

abbrev pub IsArena : Inside → Type 0
IsArena a = IsKept a.nodes.slots a.limit a.ids.entries
