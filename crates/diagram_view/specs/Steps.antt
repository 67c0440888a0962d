-- For this crate's proofs: a step of a walk down a diagram, and what is known of the diagram.
use Rattle.std.specs.Prelude.{◌≡◌, ◌≢◌, ℕ, ◌==◌, ◌↔◌, Bool, true, false, not, cond, Option, Some, None}
use Rattle.diagram_arena.specs.declared.nodes.NodeId.{NodeId}
use Rattle.diagram_arena.specs.declared.nodes.Ref.{Ref}
use Rattle.diagram_arena.specs.declared.nodes.Ref.TheVariants.{Zero, One, Node}
use Rattle.diagram_arena.specs.declared.nodes.Triple.{Triple}
use Rattle.diagram_arena.specs.Table.{Word, Table, child, has, IsLive, IsReduced}
use Rattle.diagram_arena.specs.Reach.{Bits, ReachesOnly, DependsOn}
use Rattle.diagram_arena.specs.Arena.{Stands}

-- what is known of a reduced table
pub record Laws (t : Table) : Type 0 where
  pub reduced : IsReduced t
  pub stands : (i : NodeId) (n : Triple) → t i ≡ Some n → Stands t i n
  pub same_words : (f g : Ref) → IsLive t f → IsLive t g → ((w : Word) → has t f w ≡ has t g w) → f ≡ g
  pub reach : (r : Ref) → IsLive t r → (bits : Bits) → ReachesOnly t bits r ↔ DependsOn bits (has t r)
  pub zero : (w : Word) → has t Zero w ≡ false
  pub one : (w : Word) → has t One w ≡ true

-- what is left of a ref once a bit that none above it asks has a value: the child on that side where the ref asks the bit,
-- else the ref itself
abbrev pub side : Table → Ref → ℕ → Bool → Ref
side t Zero b v = Zero
side t One b v = One
side t (Node i) b v = elim (t i) [ None ↦ Node i | Some n ↦ cond (n.bit == b) (child n v) (Node i) ]

-- the value that every word has at the bit, with what is left; None where there are words with either value
abbrev pub IsForced : Table → Ref → ℕ → Option (Bool × Ref) → Type 0
IsForced t r b None = (v : Bool) → side t r b v ≢ Zero
IsForced t r b (Some (v, s)) = (s ≡ side t r b v) × (side t r b (not v) ≡ Zero)
