-- What the parts of the step leave. Words of private helpers.
use Rattle.std.specs.Prelude.{◌≡◌, ◌≢◌, ◌⊎◌, ℕ, ◌++◌, Bool, true, List, [], ◌∷◌, take, Some, None, Contains, slice_get, filter_map}
use Rattle.std.specs.Ordering.{nat_cmp}
use Rattle.std.specs.List.Sorted.{IsStrictlySortedBy}
use Rattle.set_meaning.specs.declared.kinds.Value.{Value}
use Rattle.set_meaning.specs.declared.problems.VarId.{VarId}
use Rattle.bit_layout.specs.Order.{LayoutState}
use Rattle.diagram_arena.specs.declared.nodes.NodeId.{NodeId}
use Rattle.diagram_arena.specs.declared.nodes.Ref.{Ref}
use Rattle.diagram_arena.specs.declared.nodes.Ref.TheVariants.{Node}
use Rattle.diagram_arena.specs.Table.{Word, Words, Table, has, IsLive}
use Rattle.diagram_arena.specs.Reach.{among}
use Rattle.diagram_arena.specs.Arena.{table}
use Rattle.node_reclaim.specs.Pool.{PoolState}
use Rattle.node_reclaim.specs.Growth.{Stays}
use Rattle.diagram_ops.specs.Words.{Agree, IsProjection, IsPartOfProjection}
use Rattle.scope_words.specs.Words.{bits_at}
use Rattle.exact_steps.specs.Domains.{family}
use Rattle.exact_steps.specs.Steps.{IsInDiagram, narrowed_in}

-- the condition and the family of a step's arguments
abbrev pub stated : LayoutState → PoolState → Ref → List Value → Type 0
stated l s constraint = IsInDiagram l (table s.arena) constraint

abbrev pub given : LayoutState → PoolState → List Ref → ℕ → Value → Bool
given l s domains = family l (table s.arena) domains

-- ---- sets of words

-- the domains of these variables, in their order
abbrev pub domains_at : List Ref → List VarId → List Ref
domains_at domains variables = filter_map (λ v. slice_get domains v.0) variables

-- all words of the set have the same values at these bits
abbrev pub HasOneReading : List ℕ → Words → Type 0
HasOneReading bits V = (w u : Word) → V w ≡ true → V u ≡ true → Agree (among bits) w u

-- ---- projections

-- W is a part of the projection of a part of V to the bits of one of the variables
pub record IsProjectedPart (l : LayoutState) (scope : List VarId) (V W : Words) : Type 0 where
  pub variable : VarId
  pub scoped : Contains scope variable
  pub part : IsPartOfProjection (among (bits_at l variable)) W V

abbrev pub NewAreProjected : LayoutState → List VarId → Words → Table → Table → Type 0
NewAreProjected l scope V old new = (i : NodeId) → old i ≡ None → IsLive new (Node i) → IsProjectedPart l scope V (has new (Node i))

-- r is the projection of V to the bits of the variable, and another ref than its domain
pub record IsChanged (l : LayoutState) (vs : List VarId) (domains : List Ref) (V : Words) (t : Table) (v : VarId) (r : Ref) : Type 0 where
  pub scoped : Contains vs v
  pub live : IsLive t r
  pub words : IsProjection (among (bits_at l v)) V (has t r)
  pub other : (d : Ref) → slice_get domains v.0 ≡ Some d → r ≢ d

-- the list has, ascending, the variables whose projection is another ref than their domain
pub record AreChanged (l : LayoutState) (vs : List VarId) (domains : List Ref) (V : Words) (t : Table) (kept : List (VarId × Ref)) : Type 0 where
  pub ascending : IsStrictlySortedBy (λ v w. nat_cmp v.0 w.0) (narrowed_in kept)
  pub each : (v : VarId) (r : Ref) → Contains kept (v, r) → IsChanged l vs domains V t v r
  pub others : (v : VarId) → Contains vs v → (Contains (narrowed_in kept) v → ⊥) → (d : Ref) → slice_get domains v.0 ≡ Some d → IsProjection (among (bits_at l v)) V (has t d)

-- the projections of V to the first variables of the scope
pub record IsProjecting (l : LayoutState) (scope : List VarId) (V : Words) (domains : List Ref) (old : PoolState) (count : ℕ) (new : PoolState) (kept : List (VarId × Ref)) : Type 0 where
  pub found : AreChanged l (take count scope) domains V (table new.arena) kept
  pub stays : Stays old new
  pub parts : NewAreProjected l scope V (table old.arena) (table new.arena)

-- the domain d of the variable is the projection of V to its bits, and the list stays; or the variable was appended with that projection,
-- another ref
abbrev pub IsLookedAt : LayoutState → Ref → Words → Table → List (VarId × Ref) → List (VarId × Ref) → VarId → Type 0
IsLookedAt l d V t old new v = ((new ≡ old) × IsProjection (among (bits_at l v)) V (has t d))
    ⊎ ((r : Ref) × (new ≡ old ++ (v, r) ∷ []) × IsLive t r × IsProjection (among (bits_at l v)) V (has t r) × (r ≢ d))
