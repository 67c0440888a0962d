-- What the parts of a compilation leave. Words of private helpers.
use Rattle.std.specs.Prelude.{◌≡◌, ℕ, ◌≤◌, Bool, false, List, [], ◌++◌, None, Some, length, slice_get}
use Rattle.set_meaning.specs.declared.kinds.Value.{Value}
use Rattle.set_meaning.specs.declared.kinds.Value.TheVariants as value
use Rattle.set_meaning.specs.declared.problems.VarId.{VarId}
use Rattle.set_meaning.specs.declared.problems.Constraint.{Constraint}
use Rattle.set_meaning.specs.declared.problems.Problem.{Problem}
use Rattle.bit_layout.specs.Order.{LayoutState}
use Rattle.diagram_arena.specs.declared.nodes.NodeId.{NodeId}
use Rattle.diagram_arena.specs.declared.nodes.Ref.{Ref}
use Rattle.diagram_arena.specs.declared.nodes.Ref.TheVariants.{Node}
use Rattle.diagram_arena.specs.declared.nodes.Stop.{Stop}
use Rattle.diagram_arena.specs.declared.nodes.Stop.TheVariants.{Full, Memory}
use Rattle.diagram_arena.specs.Table.{Table, has, IsLive}
use Rattle.diagram_arena.specs.Arena.{table}
use Rattle.node_reclaim.specs.Pool.{PoolState, Unpins}
use Rattle.node_reclaim.specs.Growth.{Stays}
use Rattle.bit_machine.specs.Rules.{accepts, most_bits}
use Rattle.table_machine.specs.Tables.{Tables, AreTables, rules}
use Rattle.scope_words.specs.Words.{AreBitsOf, AreWordsOf}
use Rattle.pin_lists.specs.Units.{UnitsLeave}
use Rattle.propagators.specs.Compiled.{IsInitialDomain}
use Rattle.propagators.specs.Units.{Anything, IsPartOfWords, IsWantedBy, IsOfUnit, AreDone}

-- each new node is a part of the set of the words that give these variables values which satisfy C
abbrev pub NewAreOfWords : LayoutState → List VarId → (List Value → Type 0) → Table → Table → Type 0
NewAreOfWords l variables C old new = (i : NodeId) → old i ≡ None → IsLive new (Node i) → IsPartOfWords l variables C (has new (Node i))

-- each new node is a part of one of the constraint's sets
abbrev pub NewAreWantedBy : LayoutState → Constraint → Table → Table → Type 0
NewAreWantedBy l c old new = (i : NodeId) → old i ≡ None → IsLive new (Node i) → IsWantedBy l c (has new (Node i))

-- every node that was there stands, and each new node is a part of one of the constraint's sets
pub record LeavesFor (l : LayoutState) (c : Constraint) (old new : PoolState) : Type 0 where
  pub stays : Stays old new
  pub parts : NewAreWantedBy l c (table old.arena) (table new.arena)

-- the machine reads these variables' bits, and accepts just the words of their initial values
pub record AcceptsInitial (l : LayoutState) (variables : List VarId) (bits : List ℕ) (m : Tables) : Type 0 where
  pub bits_are : AreBitsOf l variables bits
  pub tables : AreTables m
  pub long : length m.readings ≡ length bits
  pub words : AreWordsOf l variables Anything (accepts (rules m) bits)

-- whether the value is the truth value true
abbrev pub truth_of : Value → Bool
truth_of (value.Bool b) = b
truth_of (value.Int x) = false
truth_of (value.Set s) = false

-- ---- units that are done and pinned

-- what units leave that hold these refs beside what was held
abbrev pub LeavesUnits : LayoutState → Problem → PoolState → PoolState → List Ref → Type 0
LeavesUnits l p old new rs = UnitsLeave (IsOfUnit l p) old new [] rs

-- and they stand at the end of the pins that are held
pub record AddsHeld (l : LayoutState) (p : Problem) (old new : PoolState) (before after rs : List Ref) : Type 0 where
  pub left : LeavesUnits l p old new rs
  pub held : after ≡ before ++ rs

-- the domains of the first variables
pub record AreFirstDomains (l : LayoutState) (p : Problem) (t : Table) (domains : List Ref) : Type 0 where
  pub few : length domains ≤ length p.kinds
  pub each : (v : VarId) (r : Ref) → slice_get domains v.0 ≡ Some r → IsInitialDomain l t v r

-- these domains are held, and beside them the diagrams of the first constraints, which were made and pinned
pub record HoldsConstraints (l : LayoutState) (p : Problem) (old new : PoolState) (domains held : List Ref) : Type 0 where
  pub diagrams : List Ref
  pub done : AreDone l p (table new.arena) domains diagrams
  pub left : LeavesUnits l p old new diagrams
  pub all : held ≡ domains ++ diagrams

-- all units that were done are held
pub record HoldsUnits (l : LayoutState) (p : Problem) (old new : PoolState) (held : List Ref) : Type 0 where
  pub domains : List Ref
  pub diagrams : List Ref
  pub done : AreDone l p (table new.arena) domains diagrams
  pub left : LeavesUnits l p old new held
  pub all : held ≡ domains ++ diagrams

-- the pins were spent: where there was no room the nodes stay pinned, and nothing changed; for want of memory they were taken back
abbrev pub IsGivenBack : Stop → PoolState → PoolState → List Ref → Type 0
IsGivenBack Full old new rs = new ≡ old
IsGivenBack Memory old new rs = Unpins old new rs
