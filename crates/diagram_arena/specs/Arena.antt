-- An arena as its callers see it, and what its calls do to it.
use Rattle.std.specs.Prelude.{◌≡◌, ◌≢◌, ℕ, ◌<◌, ◌≤◌, Bool, true, false, cond, Option, Some, None, refl}
use Rattle.std.specs.Option.{option_map, option_map_or}
use Rattle.std.specs.FinMap as map
use Rattle.std.specs.Coded.{Coded, code_by, coded×, coded_ℕ}
use Rattle.diagram_arena.specs.contracts.nodes.NodeId as id_row
use Rattle.diagram_arena.specs.contracts.nodes.Node as node_row
use Rattle.diagram_arena.specs.declared.nodes.NodeId.{NodeId}
use Rattle.diagram_arena.specs.declared.nodes.Ref.{Ref}
use Rattle.diagram_arena.specs.declared.nodes.Ref.TheVariants as ref
use Rattle.diagram_arena.specs.declared.nodes.Triple.{Triple}
use Rattle.diagram_arena.specs.declared.nodes.Node.{Node}
use Rattle.diagram_arena.specs.Table.{Word, Words, Table, id_cmp, child, bit_end, has, IsLive, depth}
use Rattle.diagram_arena.specs.Part.{IsPartOf}

-- the greatest limit that an arena may have
abbrev pub most_nodes : ℕ
most_nodes = 20000000

-- the nodes under their ids, and how many there may be
pub record ArenaState : Type 0 where
  pub nodes : map.FinMap id_cmp Node
  pub limit : ℕ

-- it is stored as the pair of the two
abbrev pub arena_code : Coded ArenaState
arena_code =
    code_by (map.FinMap id_cmp Node × ℕ) (coded× (map.code id_row.the_row.coded node_row.the_row.coded) coded_ℕ)
    (λ a. (a.nodes, a.limit)) (λ p. record { nodes = p.0; limit = p.1 }) (λ _. refl)

abbrev pub triple : ℕ → Ref → Ref → Triple
triple bit lo hi = record { bit = bit; lo = lo; hi = hi }

-- what a node means, without its mark and tag
abbrev pub triple_of : Node → Triple
triple_of n = triple n.bit n.lo n.hi

-- the arena's node table
unfoldable pub table : ArenaState → Table
table a = λ i. option_map triple_of (map.get a.nodes i)

-- the tag of a node that is there
abbrev pub tag_of : ArenaState → NodeId → Option ℕ
tag_of a i = option_map (λ (n : Node). n.tag) (map.get a.nodes i)

-- a node at its birth
abbrev pub new_node : Triple → Node
new_node n = record { bit = n.bit; lo = n.lo; hi = n.hi; mark = false; tag = 0 }

-- a node may stand above these children: both are there, and neither asks its bit or a lesser one
pub record CanMake (t : Table) (bit : ℕ) (lo hi : Ref) : Type 0 where
  pub lo_live : IsLive t lo
  pub hi_live : IsLive t hi
  pub lo_deeper : bit < depth t lo
  pub hi_deeper : bit < depth t hi

-- the set of bit, lo and hi has no ref yet: the children differ, and no node has just these
pub record IsNeeded (t : Table) (bit : ℕ) (lo hi : Ref) : Type 0 where
  pub differ : lo ≢ hi
  pub absent : (i : NodeId) → t i ≢ Some (triple bit lo hi)

-- under an id that was free there is now a new node, and nothing else changed
pub record AddsNode (old new : ArenaState) (bit : ℕ) (lo hi : Ref) (i : NodeId) : Type 0 where
  pub free : map.get old.nodes i ≡ None
  pub added : new ≡ record old { nodes = map.insert old.nodes i (new_node (triple bit lo hi)) }

-- what `make` answers: an equal child itself, a node that is there, or a new one
pub data IsMade (old new : ArenaState) (bit : ℕ) (lo hi r : Ref) : Type 0 where
  equal_children : lo ≡ hi → r ≡ lo → new ≡ old → IsMade old new bit lo hi r
  node_there : (i : NodeId) → lo ≢ hi → table old i ≡ Some (triple bit lo hi) → r ≡ ref.Node i → new ≡ old → IsMade old new bit lo hi r
  node_added : (i : NodeId) → IsNeeded (table old) bit lo hi → r ≡ ref.Node i → AddsNode old new bit lo hi i → IsMade old new bit lo hi r

-- each node that was there is there, with its mark and its tag
abbrev pub KeepsNodes : ArenaState → ArenaState → Type 0
KeepsNodes old new = (i : NodeId) (n : Node) → map.get old.nodes i ≡ Some n → map.get new.nodes i ≡ Some n

-- each node that was not there before has the tag 0
abbrev pub NewAreUntagged : ArenaState → ArenaState → Type 0
NewAreUntagged old new = (i : NodeId) (n : Node) → map.get old.nodes i ≡ None → map.get new.nodes i ≡ Some n → n.tag ≡ 0

-- nodes were added, and what was there means what it meant
pub record Grows (old new : Table) : Type 0 where
  pub kept : (i : NodeId) (n : Triple) → old i ≡ Some n → new i ≡ Some n
  pub live : (r : Ref) → IsLive old r → IsLive new r
  pub depths : (r : Ref) → IsLive old r → depth new r ≡ depth old r
  pub words : (r : Ref) → IsLive old r → (w : Word) → has new r w ≡ has old r w

-- r is the ref of the words in hi whose bit is true and those in lo whose bit is false
pub record Joins (old new : Table) (bit : ℕ) (lo hi r : Ref) : Type 0 where
  pub live : IsLive new r
  pub deep : bit ≤ depth new r
  pub words : (w : Word) → has new r w ≡ cond (w bit) (has old hi w) (has old lo w)

-- every node that was not there before is r
abbrev pub OnlyNew : Table → Table → Ref → Type 0
OnlyNew old new r = (i : NodeId) → old i ≡ None → IsLive new (ref.Node i) → r ≡ ref.Node i

-- the node under i has this bit and these children; each child is there, deeper, a part of the node's set and of
-- every set that the node's is a part of
pub record Stands (t : Table) (i : NodeId) (n : Triple) : Type 0 where
  pub at : t i ≡ Some n
  pub small : n.bit < bit_end
  pub level : depth t (ref.Node i) ≡ n.bit
  pub live : (v : Bool) → IsLive t (child n v)
  pub deeper : (v : Bool) → n.bit < depth t (child n v)
  pub words : (w : Word) → has t (ref.Node i) w ≡ has t (child n (w n.bit)) w
  pub parts : (v : Bool) → IsPartOf (has t (child n v)) (has t (ref.Node i))
  pub inherit : (v : Bool) (whole : Words) → IsPartOf (has t (ref.Node i)) whole → IsPartOf (has t (child n v)) whole

-- the node under i was changed by f, and nothing else
pub record ChangesNode (old new : ArenaState) (i : NodeId) (f : Node → Node) : Type 0 where
  pub changed : map.get new.nodes i ≡ option_map f (map.get old.nodes i)
  pub others : (j : NodeId) → j ≢ i → map.get new.nodes j ≡ map.get old.nodes j
  pub limit : new.limit ≡ old.limit

-- whether a node has a mark
abbrev pub has_mark : ArenaState → NodeId → Bool
has_mark a i = option_map_or (λ (n : Node). n.mark) (map.get a.nodes i) false

-- a ref that names no node, or a node with a mark
abbrev pub IsMarked : ArenaState → Ref → Type 0
IsMarked a ref.Zero = Unit {0}
IsMarked a ref.One = Unit {0}
IsMarked a (ref.Node i) = has_mark a i ≡ true

-- the children of each marked node are marked
abbrev pub MarksReachDown : ArenaState → Type 0
MarksReachDown a = (i : NodeId) (n : Triple) (v : Bool) → table a i ≡ Some n → has_mark a i ≡ true → IsMarked a (child n v)

-- the node without its mark
abbrev pub unmarked : Node → Node
unmarked n = record n { mark = false }

-- a node that has a mark, and nothing in place of another
abbrev pub if_marked : Option Node → Option Node
if_marked None = None
if_marked (Some n) = cond n.mark (Some n) None
