-- Which pins a call leaves that was to find the root family. This project's own.
use Rattle.std.specs.Prelude.{◌≡◌, List, ◌++◌, Some, slice_get}
use Rattle.set_meaning.specs.declared.problems.VarId.{VarId}
use Rattle.set_meaning.specs.declared.problems.Problem.{Problem}
use Rattle.bit_layout.specs.Order.{LayoutState, IsLayout}
use Rattle.diagram_arena.specs.declared.nodes.Ref.{Ref}
use Rattle.diagram_arena.specs.declared.nodes.Stop.{Stop}
use Rattle.diagram_arena.specs.declared.nodes.Stop.TheVariants.{Full, Memory}
use Rattle.diagram_arena.specs.Table.{Table}
use Rattle.diagram_arena.specs.Arena.{table}
use Rattle.node_reclaim.specs.Pool.{PoolState}
use Rattle.node_reclaim.specs.Holders.{Gains, KeepsPins}
use Rattle.exact_steps.specs.Domains.{IsDomain}
use Rattle.propagators.specs.Units.{AreDone}
use Rattle.learn_search.specs.declared.search.SearchEnd.{SearchEnd}
use Rattle.learn_search.specs.declared.search.SearchEnd.TheVariants as end

-- domains of the first variables, so many, in order
pub record AreDomainsOfFirst (l : LayoutState) (t : Table) (refs : List Ref) : Type 0 where
  pub each : (v : VarId) (r : Ref) → slice_get refs v.0 ≡ Some r → IsDomain l t v r

-- the domains of the initial values of the first variables, so many, the diagrams of the first constraints, so many, and domains on the way
-- to the root family have gained a pin each; nothing else was pinned
pub record LeavesPinned (p : Problem) (old new : PoolState) : Type 0 where
  pub layout : LayoutState
  pub ordered : IsLayout layout
  pub kinds : layout.kinds ≡ p.kinds
  pub domains : List Ref
  pub diagrams : List Ref
  pub done : AreDone layout p (table new.arena) domains diagrams
  pub way : List Ref
  pub on_way : AreDomainsOfFirst layout (table new.arena) way
  pub gains : Gains old new ((domains ++ diagrams) ++ way)

-- where there was no room for a node, pins of a part of the compiled problem may be left; after any other refusal each node has as many pins as
-- before
abbrev pub PinsAfterEnd : Problem → PoolState → PoolState → SearchEnd → Type 0
PinsAfterEnd p old new end.Nodes = LeavesPinned p old new
PinsAfterEnd p old new end.Conflicts = KeepsPins old new
PinsAfterEnd p old new end.Memory = KeepsPins old new
PinsAfterEnd p old new end.Ended = KeepsPins old new

-- the same, told by why a diagram could not be made
abbrev pub PinsAfterStop : Problem → PoolState → PoolState → Stop → Type 0
PinsAfterStop p old new Full = LeavesPinned p old new
PinsAfterStop p old new Memory = KeepsPins old new
