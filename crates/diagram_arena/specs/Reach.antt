-- What a ref reaches by paths of sides, and which bits a set of words depends on.
use Rattle.std.specs.Prelude.{◌≡◌, ℕ, ◌==◌, Bool, true, List, [], ◌∷◌, Some}
use Rattle.std.specs.List.{list_any}
use Rattle.std.specs.Option.{option_map_or}
use Rattle.diagram_arena.specs.declared.nodes.NodeId.{NodeId}
use Rattle.diagram_arena.specs.declared.nodes.Ref.{Ref}
use Rattle.diagram_arena.specs.declared.nodes.Ref.TheVariants.{Zero, One, Node}
use Rattle.diagram_arena.specs.declared.nodes.Triple.{Triple}
use Rattle.diagram_arena.specs.Table.{Word, Words, Table, child}

-- a set of bits
abbrev pub Bits : Type 0
Bits = ℕ → Bool

-- the bits that a list holds
abbrev pub among : List ℕ → Bits
among bits b = list_any (λ c. b == c) bits

-- one step to a side; Zero and One have no sides
abbrev pub step : Table → Ref → Bool → Ref
step t Zero v = Zero
step t One v = One
step t (Node i) v = option_map_or (λ (n : Triple). child n v) (t i) (Node i)

-- the ref at the end of a path
abbrev pub follow : Table → Ref → List Bool → Ref
follow t r [] = r
follow t r (v ∷ vs) = follow t (step t r v) vs

-- each node that r reaches asks one of these bits
abbrev pub ReachesOnly : Table → Bits → Ref → Type 0
ReachesOnly t bits r = (path : List Bool) (i : NodeId) (n : Triple) → follow t r path ≡ Node i → t i ≡ Some n → bits n.bit ≡ true

-- words that agree on these bits are both in the set, or neither
abbrev pub DependsOn : Bits → Words → Type 0
DependsOn bits V = (w u : Word) → ((b : ℕ) → bits b ≡ true → w b ≡ u b) → V w ≡ V u
