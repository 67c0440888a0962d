-- For this crate's proofs: sets of visited nodes.
use Rattle.std.specs.Prelude.{◌≡◌, ◌⊎◌, Bool, true, List, Some}
use Rattle.std.specs.List.{list_any}
use Rattle.diagram_arena.specs.declared.nodes.NodeId.{NodeId}
use Rattle.diagram_arena.specs.declared.nodes.Ref.{Ref}
use Rattle.diagram_arena.specs.declared.nodes.Ref.TheVariants.{Zero, One, Node}
use Rattle.diagram_arena.specs.declared.nodes.Triple.{Triple}
use Rattle.diagram_arena.specs.Table.{Table, child, id_eq}
use Rattle.diagram_arena.specs.Reach.{follow}

-- whether an id is among the visited
abbrev pub was_seen : List NodeId → NodeId → Bool
was_seen ids i = list_any (id_eq i) ids

-- the node of a ref was visited; Zero and One need no visit
abbrev pub IsSeen : List NodeId → Ref → Type 0
IsSeen ids Zero = Unit {0}
IsSeen ids One = Unit {0}
IsSeen ids (Node i) = was_seen ids i ≡ true

-- the visited nodes are there, and so are their children among them
abbrev pub IsClosed : Table → List NodeId → Type 0
IsClosed t ids = (i : NodeId) → was_seen ids i ≡ true → (n : Triple) × (t i ≡ Some n) × ((v : Bool) → IsSeen ids (child n v))

-- after a visit of r: what was visited stays, r is visited, and what is new is reached from r
pub record Visits (t : Table) (r : Ref) (old new : List NodeId) : Type 0 where
  pub closed : IsClosed t new
  pub kept : (i : NodeId) → was_seen old i ≡ true → was_seen new i ≡ true
  pub here : IsSeen new r
  pub reached : (i : NodeId) → was_seen new i ≡ true → (was_seen old i ≡ true) ⊎ ((path : List Bool) × (follow t r path ≡ Node i))
