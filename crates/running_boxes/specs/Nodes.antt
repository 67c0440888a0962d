-- Which nodes a resolvent may make. This project's own; parts of a set are the residual words of a decision diagram
-- (Bryant, IEEE Transactions on Computers, 1986).
use Rattle.std.specs.Prelude.{◌≡◌, ◌⊎◌, ℕ, ◌+◌, ◌<◌, Bool, true, [], ◌∷◌, length}
use Rattle.set_meaning.specs.declared.kinds.Value.{Value}
use Rattle.set_meaning.specs.declared.problems.VarId.{VarId}
use Rattle.bit_layout.specs.Order.{LayoutState}
use Rattle.diagram_arena.specs.declared.nodes.NodeId.{NodeId}
use Rattle.diagram_arena.specs.declared.nodes.Ref.{Ref}
use Rattle.diagram_arena.specs.declared.nodes.Ref.TheVariants.{Node}
use Rattle.diagram_arena.specs.Table.{Words, has, IsLive}
use Rattle.diagram_arena.specs.Arena.{table}
use Rattle.node_reclaim.specs.Pool.{PoolState, IsPinned}
use Rattle.node_reclaim.specs.Reclaim.{IsReached}
use Rattle.search_rules.specs.Family.{without}
use Rattle.exact_steps.specs.Domains.{AtVariable, values_in}
use Rattle.value_sets.specs.Sets.{IsValueSet, both, either}
use Rattle.propagators.specs.Units.{IsPartOfWords}

-- W is a part of the set of the words of these values of the variable
abbrev pub IsPartOfValues : LayoutState → VarId → (Value → Bool) → Words → Type 0
IsPartOfValues l v f W = IsPartOfWords l (v ∷ []) (AtVariable v (λ x. f x ≡ true)) W

-- W is a part of the set of the words of some values of one variable of the problem
pub record IsOfVariable (l : LayoutState) (W : Words) : Type 0 where
  pub variable : VarId
  pub known : variable.0 < length l.kinds
  pub values : Value → Bool
  pub part : IsPartOfValues l variable values W

-- of sets of values of v that are pinned, at most so many unions, intersections and differences make the set of values
pub data IsMade (l : LayoutState) (s : PoolState) (v : VarId) : ℕ → (Value → Bool) → Type 0 where
  pinned : {n : ℕ} {r : Ref} → IsPinned s r → IsValueSet l (table s.arena) v r
      → IsMade l s v n (values_in l (table s.arena) v r)
  union : {m n : ℕ} {f g : Value → Bool} → IsMade l s v m f → IsMade l s v n g
      → IsMade l s v (m + n + 1) (either f g)
  intersection : {m n : ℕ} {f g : Value → Bool} → IsMade l s v m f → IsMade l s v n g
      → IsMade l s v (m + n + 1) (both f g)
  difference : {m n : ℕ} {f g : Value → Bool} → IsMade l s v m f → IsMade l s v n g
      → IsMade l s v (m + n + 1) (without f g)

-- W is a part of the set of the words of what at most three of them make
pub record IsMadeOf (l : LayoutState) (s : PoolState) (W : Words) : Type 0 where
  pub variable : VarId
  pub known : variable.0 < length l.kinds
  pub values : Value → Bool
  pub made : IsMade l s variable 3 values
  pub part : IsPartOfValues l variable values W

-- each node is reached by a pin, or was made of pinned sets
abbrev pub AreReachedOrMade : LayoutState → PoolState → Type 0
AreReachedOrMade l s =
    (i : NodeId) → IsLive (table s.arena) (Node i) → IsReached s i ⊎ IsMadeOf l s (has (table s.arena) (Node i))
