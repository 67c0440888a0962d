-- Which nodes a step may make. This project's own.
use Rattle.std.specs.Prelude.{◌≡◌, ℕ, Bool, List, [], ◌∷◌, None, Contains}
use Rattle.set_meaning.specs.declared.kinds.Value.{Value}
use Rattle.set_meaning.specs.declared.problems.VarId.{VarId}
use Rattle.bit_layout.specs.Order.{LayoutState}
use Rattle.diagram_arena.specs.declared.nodes.NodeId.{NodeId}
use Rattle.diagram_arena.specs.declared.nodes.Ref.TheVariants.{Node}
use Rattle.diagram_arena.specs.Table.{Words, Table, has, IsLive}
use Rattle.diagram_arena.specs.Reach.{among}
use Rattle.diagram_ops.specs.Words.{IsPartOfProjection}
use Rattle.scope_words.specs.Words.{AreBitsOf, AreWordsOf}
use Rattle.exact_steps.specs.Steps.{AreWithin}

-- the condition C, with values of the family at these variables
abbrev pub Within : (List Value → Type 0) → (ℕ → Value → Bool) → List VarId → List Value → Type 0
Within C f variables values = C values × AreWithin f variables values

-- The sets of the step of C: the projections, to the bits of one variable of the scope, of parts of the set of the words that satisfy C and
-- have values of the family at the scope. W is a part of one of them.
pub record IsWanted (l : LayoutState) (scope : List VarId) (C : List Value → Type 0) (f : ℕ → Value → Bool) (W : Words) : Type 0 where
  pub variable : VarId
  pub bits : List ℕ
  pub set : Words
  pub scoped : Contains scope variable
  pub bits_are : AreBitsOf l (variable ∷ []) bits
  pub words : AreWordsOf l scope (Within C f scope) set
  pub part : IsPartOfProjection (among bits) W set

-- each new node is a part of one of the step's sets
abbrev pub NewAreWanted : LayoutState → List VarId → (List Value → Type 0) → (ℕ → Value → Bool) → Table → Table → Type 0
NewAreWanted l scope C f old new = (i : NodeId) → old i ≡ None → IsLive new (Node i) → IsWanted l scope C f (has new (Node i))
