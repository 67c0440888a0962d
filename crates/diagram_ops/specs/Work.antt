-- For this crate's proofs: what a projection knows, and a step of it.
use Rattle.std.specs.Prelude.{◌≡◌, ℕ, ◌+◌, Bool, true, List}
use Rattle.std.specs.HashSet.{contains_by}
use Rattle.diagram_arena.specs.declared.nodes.Ref.{Ref}
use Rattle.diagram_arena.specs.Table.{Word, Words, Table, child, has, IsLive}
use Rattle.diagram_arena.specs.Part.{with_front}
use Rattle.diagram_arena.specs.Arena.{triple}
use Rattle.diagram_ops.specs.declared.product.Product.{Product}
use Rattle.diagram_ops.specs.declared.product.Pair.{Pair}
use Rattle.diagram_ops.specs.declared.projection.Work.{Work}
use Rattle.diagram_ops.specs.declared.projection.Step.{Step}
use Rattle.diagram_ops.specs.contracts.product.ProductPartialEq.TheImpl.{eq-value as same_product}
use Rattle.diagram_ops.specs.Words.{Lies}
use Rattle.diagram_ops.specs.Meanings.{first_of, Means, AreSidesOf, IsKnown}

-- all that is known is right
abbrev pub IsWork : Table → List ℕ → Work → Type 0
IsWork t keep work = IsKnown t work.pairs.pairs.items keep work.done.entries (λ (q : Product). contains_by (same_product.it q) work.empty) work.unions.entries

-- lo and hi hold what is left of a bound once the bit is false and true
pub record AreBounds (t : Table) (bound : Ref) (bit : ℕ) (lo hi : Ref) : Type 0 where
  pub live : (v : Bool) → IsLive t (child (triple bit lo hi) v)
  pub hold : (v : Bool) (w : Word) → has t bound (with_front (bit + 1) (λ _. v) w) ≡ true → has t (child (triple bit lo hi) v) w ≡ true

-- the first bit of p, its sides, and bounds of these
pub record IsStepOf (t : Table) (old new : List Pair) (p : Product) (s : Step) : Type 0 where
  pub at : s.bit ≡ first_of t old p
  pub sides : AreSidesOf t old new p s.bit s.lo s.hi
  pub lo_live : IsLive t s.bound_lo
  pub hi_live : IsLive t s.bound_hi
  pub lo_bounded : (V : Words) → Means t new s.lo V → Lies V (has t s.bound_lo)
  pub hi_bounded : (V : Words) → Means t new s.hi V → Lies V (has t s.bound_hi)
