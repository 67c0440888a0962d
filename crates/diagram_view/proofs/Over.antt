-- Refs over rising lists of bits, and what is left of them once the first bits have values.
use Rattle.std.proofs.Common.{◌≡◌, ℕ, ◌<◌, Bool, true, List, [], ◌∷◌}
use Rattle.diagram_arena.specs.declared.nodes.Ref.{Ref}
use Rattle.diagram_arena.specs.Table.{Table, has, IsLive}
use Rattle.diagram_arena.specs.Reach.{among, ReachesOnly}
use Rattle.diagram_view.specs.Words.{word_over}
use Rattle.diagram_view.specs.Steps.{side}

-- what is left of a ref once the first bits have these values
abbrev pub after : Table → Ref → List ℕ → List Bool → Ref
after t r [] vs = r
after t r (b ∷ bs) [] = r
after t r (b ∷ bs) (v ∷ vs) = after t (side t r b v) bs vs

-- each bit is less than those behind it
abbrev pub Rises : List ℕ → Type 0
Rises [] = Unit {0}
Rises (b ∷ bs) = ((c : ℕ) → among bs c ≡ true → b < c) × Rises bs

-- the ref is there, and these rising bits are all that it may ask
pub record IsOver (t : Table) (r : Ref) (bits : List ℕ) : Type 0 where
  pub live : IsLive t r
  pub rises : Rises bits
  pub reaches : ReachesOnly t (among bits) r

-- the test of the words of a ref over a list of bits
abbrev pub list_words : Table → Ref → List ℕ → List Bool → Bool
list_words t f bits vs = has t f (word_over bits vs)
