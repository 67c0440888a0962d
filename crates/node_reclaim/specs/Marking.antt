-- Marks on the way of a reclamation. No public clause cites this module.
use Rattle.std.specs.Prelude.{◌≡◌, ℕ, ◌<◌, ◌⊎◌, true, List}
use Rattle.std.specs.Option.{option_map, unwrap_or}
use Rattle.std.specs.FinMap as map
use Rattle.diagram_arena.specs.declared.nodes.NodeId.{NodeId}
use Rattle.diagram_arena.specs.declared.nodes.Ref.{Ref}
use Rattle.diagram_arena.specs.declared.nodes.Ref.TheVariants.{Node}
use Rattle.diagram_arena.specs.Table.{id_cmp}
use Rattle.diagram_arena.specs.Arena.{ArenaState, table, has_mark, IsMarked, MarksReachDown, unmarked}
use Rattle.node_reclaim.specs.Reclaim.{Reaches}

-- only marks have changed
pub record ChangesMarks (old new : ArenaState) : Type 0 where
  pub nodes : (i : NodeId) → option_map unmarked (map.get new.nodes i) ≡ option_map unmarked (map.get old.nodes i)
  pub table : table new ≡ table old
  pub limit : new.limit ≡ old.limit

-- the nodes that r reaches are marked beside those that were, and the children of each marked node are marked
pub record MarksReached (old new : ArenaState) (r : Ref) : Type 0 where
  pub changes : ChangesMarks old new
  pub down : MarksReachDown new
  pub kept : (i : NodeId) → has_mark old i ≡ true → has_mark new i ≡ true
  pub here : IsMarked new r
  pub only : (i : NodeId) → has_mark new i ≡ true → (has_mark old i ≡ true) ⊎ Reaches (table old) r i

-- the number of pins that the counts give the id i
abbrev pub count_of : List (NodeId × ℕ) → NodeId → ℕ
count_of counts i = unwrap_or (map.get (map.from_entries {R = id_cmp} counts) i) 0

-- the nodes that nodes with a count reach are marked, and the children of each marked node are marked
pub record MarksCounted (old new : ArenaState) (counts : List (NodeId × ℕ)) : Type 0 where
  pub changes : ChangesMarks old new
  pub down : MarksReachDown new
  pub every : (i : NodeId) → 0 < count_of counts i → has_mark new i ≡ true
  pub only : (i : NodeId) → has_mark new i ≡ true → (j : NodeId) × (0 < count_of counts j) × Reaches (table old) (Node j) i
