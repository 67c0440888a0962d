-- What is known of words and of reduced tables: laws of the crates below, as one record. Words of private helpers.
use Rattle.std.specs.Prelude.{◌≡◌, ◌↔◌, false, List, Contains, slice_get}
use Rattle.set_meaning.specs.declared.kinds.Value.{Value}
use Rattle.set_meaning.specs.declared.problems.VarId.{VarId}
use Rattle.bit_layout.specs.Order.{LayoutState, IsLayout}
use Rattle.diagram_arena.specs.declared.nodes.Ref.{Ref}
use Rattle.diagram_arena.specs.declared.nodes.Ref.TheVariants.{Zero}
use Rattle.diagram_arena.specs.Table.{Word, Table, has, IsLive, IsReduced}
use Rattle.diagram_arena.specs.Reach.{Bits, ReachesOnly, DependsOn}
use Rattle.scope_words.specs.Words.{Gives}

pub record WordLaws : Type 0 where
  pub once : (l : LayoutState) (scope : List VarId) (xs ys : List Value) (w : Word) (v : VarId) → IsLayout l
      → Gives l scope xs w → Gives l scope ys w → Contains scope v → slice_get xs v.0 ≡ slice_get ys v.0
  pub same_words : (t : Table) → IsReduced t → (f g : Ref) → IsLive t f → IsLive t g
      → ((w : Word) → has t f w ≡ has t g w) → f ≡ g
  pub reach : (t : Table) → IsReduced t → (r : Ref) → IsLive t r → (bits : Bits)
      → ReachesOnly t bits r ↔ DependsOn bits (has t r)
  pub zero : (t : Table) (w : Word) → has t Zero w ≡ false
