-- When the number of a node of a log stands for a diagram: that of a ref whose words are over the bits of one variable. That a node of a
-- diagram has a number that is kept with it is this project's own; the diagrams are of Bryant, IEEE Transactions on Computers 1986.
use Rattle.std.specs.Prelude.{◌≡◌, ℕ, ◌<◌, ◌==◌, Bool, true, false, List, Some, slice_get, slice_index_or}
use Rattle.std.specs.Option.{option_map, option_map_or, unwrap_or}
use Rattle.std.specs.FinMap as map
use Rattle.set_meaning.specs.declared.problems.VarId.{VarId}
use Rattle.bit_layout.specs.declared.places.Place.{Place}
use Rattle.bit_layout.specs.Order.{LayoutState, width_at}
use Rattle.diagram_arena.specs.declared.nodes.NodeId.{NodeId}
use Rattle.diagram_arena.specs.declared.nodes.Node.{Node as Stored}
use Rattle.diagram_arena.specs.declared.nodes.Ref.{Ref}
use Rattle.diagram_arena.specs.declared.nodes.Ref.TheVariants as ref
use Rattle.diagram_arena.specs.Table.{Word, Table, has, depth}
use Rattle.diagram_arena.specs.Reach.{Bits, ReachesOnly}
use Rattle.diagram_arena.specs.Arena.{ArenaState, table, tag_of}
use Rattle.log_rules.specs.declared.nodes.Node.{Node}
use Rattle.log_rules.specs.Tables.{walk, next_node, IsDeeper}
use Rattle.log_rules.specs.Boxes.{FitsWidth}

-- ---- bits and places

-- the position in its variable's words for which a bit stands
abbrev pub position_of : LayoutState → ℕ → ℕ
position_of l b = option_map_or (λ (p : Place). p.position) (slice_get l.places b) 0

-- the bits of a variable
abbrev pub bits_of : LayoutState → VarId → Bits
bits_of l v b = option_map_or (λ (p : Place). p.variable.0 == v.0) (slice_get l.places b) false

-- each bit has the value that the word of a variable has at the position for which the bit stands
abbrev pub spread : LayoutState → List Bool → Word
spread l word b = option_map_or (λ (p : Place). slice_index_or word p.position false) (slice_get l.places b) false

-- the ref reaches only bits of one variable
pub record IsOfOneVariable (l : LayoutState) (t : Table) (r : Ref) : Type 0 where
  pub variable : VarId
  pub reaches : ReachesOnly t (bits_of l variable) r

-- ---- numbers

-- Number n of the log's table stands for the ref: a word is accepted from it just where it is in the ref's set. Where the ref reaches
-- only bits of one variable, what is tested from n are positions of its words, and those behind each of its bits that lies above the ref.
pub record Names (l : LayoutState) (t : Table) (nodes : List Node) (r : Ref) (n : ℕ) : Type 0 where
  pub known : n < next_node nodes
  pub means : (word : List Bool) → walk nodes n word ≡ has t r (spread l word)
  pub fits : (v : VarId) → ReachesOnly t (bits_of l v) r → FitsWidth nodes n (width_at l v)
  pub deeper : (v : VarId) (bit : ℕ) → ReachesOnly t (bits_of l v) r → bits_of l v bit ≡ true → bit < depth t r → IsDeeper nodes (position_of l bit) n

-- the tag of each node that has one above 0 is the number of a node of the log's table that stands for it
pub record IsNumbered (l : LayoutState) (a : ArenaState) (nodes : List Node) : Type 0 where
  pub each : (i : NodeId) (n : ℕ) → tag_of a i ≡ Some n → 0 < n → Names l (table a) nodes (ref.Node i) n

-- the number of a ref: 0 of Zero, 1 of One, and else the tag of its node
abbrev pub number_of : ArenaState → Ref → ℕ
number_of a ref.Zero = 0
number_of a ref.One = 1
number_of a (ref.Node i) = unwrap_or (tag_of a i) 0

-- the node without its tag
abbrev pub untagged : Stored → Stored
untagged n = record n { tag = 0 }

-- only tags have changed
pub record ChangesTags (old new : ArenaState) : Type 0 where
  pub nodes : (i : NodeId) → option_map untagged (map.get new.nodes i) ≡ option_map untagged (map.get old.nodes i)
  pub table : table new ≡ table old
  pub limit : new.limit ≡ old.limit
