-- The words of a diagram on one side of a word. Words of private helpers.
use Rattle.std.specs.Prelude.{◌≡◌, ℕ, ◌<◌, ◌^◌, ◌&&◌, not, Bool, true, false, List, [], ◌∷◌, map, Result, Err, IfOk}
use Rattle.diagram_arena.specs.declared.nodes.Ref.{Ref}
use Rattle.diagram_arena.specs.declared.nodes.Ref.TheVariants.{Zero}
use Rattle.diagram_arena.specs.declared.nodes.Stop.{Stop}
use Rattle.diagram_arena.specs.declared.nodes.Stop.TheVariants.{Full}
use Rattle.diagram_arena.specs.Table.{Words, Table, has, depth}
use Rattle.diagram_arena.specs.Arena.{table}
use Rattle.diagram_arena.specs.Reach.{among}
use Rattle.node_reclaim.specs.Pool.{PoolState}
use Rattle.node_reclaim.specs.Growth.{IsFull, Stays, NewArePartsOf}
use Rattle.diagram_ops.specs.Words.{Denotes}
use Rattle.diagram_view.specs.Steps.{side}
use Rattle.objective_sides.specs.declared.sense.Sense.{Sense}
use Rattle.objective_sides.specs.declared.sense.Sense.TheVariants as sense

-- whether a word that has the other bit where this one has the given bit lies on this side
abbrev pub keeps_other : Sense → Bool → Bool
keeps_other sense.AtLeast value = not value
keeps_other sense.AtMost value = value

-- whether the second word, read as a binary number, lies on this side of the first
abbrev pub goes : Sense → List Bool → List Bool → Bool
goes s [] us = true
goes s (v ∷ vs) [] = true
goes s (false ∷ vs) (false ∷ us) = goes s vs us
goes s (true ∷ vs) (true ∷ us) = goes s vs us
goes s (false ∷ vs) (true ∷ us) = keeps_other s false
goes s (true ∷ vs) (false ∷ us) = keeps_other s true

-- the words of f whose values at these bits lie on this side of the word
abbrev pub cut_words : Table → Ref → List ℕ → List Bool → Sense → Words
cut_words t f bits word s = λ w. has t f w && goes s word (map w bits)

-- what is kept of f where the bit has the other value
abbrev pub other_side : Table → Ref → ℕ → Bool → Sense → Ref
other_side t f bit true sense.AtLeast = Zero
other_side t f bit false sense.AtLeast = side t f bit true
other_side t f bit true sense.AtMost = side t f bit false
other_side t f bit false sense.AtMost = Zero

-- what cutting f leaves
pub record Cuts (old new : PoolState) (f : Ref) (bits : List ℕ) (word : List Bool) (s : Sense)
    (result : Result Ref Stop) : Type 0 where
  pub words : IfOk result (Denotes (table new.arena) (cut_words (table old.arena) f bits word s))
  pub deep : IfOk result (λ r. (b : ℕ) → b < 2 ^ 32 → ((c : ℕ) → among bits c ≡ true → b < c)
      → b < depth (table new.arena) r)
  pub stays : Stays old new
  pub full : result ≡ Err Full → IsFull new
  pub parts : NewArePartsOf (table old.arena) (table new.arena) (cut_words (table old.arena) f bits word s)
