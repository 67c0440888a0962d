-- Which nodes a compilation may make. This project's own; parts of a set are the residual words of a decision diagram (Bryant, IEEE
-- Transactions on Computers, 1986).
use Rattle.std.specs.Prelude.{◌≡◌, ◌⊎◌, ℕ, ◌<◌, ◌≤◌, Bool, true, List, [], ◌∷◌, ◌++◌, None, Some, IsSomeAnd, length, take, slice_get, Contains, filter_map, option_to_list, ⊤}
use Rattle.std.specs.List.{AllZip}
use Rattle.set_meaning.specs.declared.kinds.Value.{Value}
use Rattle.set_meaning.specs.declared.problems.VarId.{VarId}
use Rattle.set_meaning.specs.declared.problems.Constraint.{Constraint}
use Rattle.set_meaning.specs.declared.problems.Problem.{Problem}
use Rattle.set_meaning.specs.Arguments.{bool_of_term}
use Rattle.set_meaning.specs.Relations.{HoldsOf, Holds, IsTruthOf, variable_of, variables_of}
use Rattle.bit_layout.specs.Order.{LayoutState}
use Rattle.diagram_arena.specs.declared.nodes.NodeId.{NodeId}
use Rattle.diagram_arena.specs.declared.nodes.Ref.{Ref}
use Rattle.diagram_arena.specs.declared.nodes.Ref.TheVariants.{Node}
use Rattle.diagram_arena.specs.declared.nodes.Stop.{Stop}
use Rattle.diagram_arena.specs.declared.nodes.Stop.TheVariants.{Full, Memory}
use Rattle.diagram_arena.specs.Arena.{table}
use Rattle.node_reclaim.specs.Pool.{PoolState, pins_of}
use Rattle.diagram_arena.specs.Table.{Words, Table, has, IsLive}
use Rattle.diagram_arena.specs.Part.{IsPartOf}
use Rattle.diagram_arena.specs.Reach.{Bits, ReachesOnly}
use Rattle.scope_words.specs.Words.{variables_in, IsBitOf, AreWordsOf}
use Rattle.node_reclaim.specs.Holders.{Gains}
use Rattle.pin_lists.specs.Units.{StoodBefore}
use Rattle.propagators.specs.Compiled.{IsInitialDomain, IsDiagramOfConstraint}

-- ---- conditions on the values of a constraint's variables

-- any values
abbrev pub Anything : List Value → Type 0
Anything values = ⊤

-- the relation holds, or fails; the truth value is set aside
abbrev pub Relates : Constraint → List Value → Type 0
Relates c values = HoldsOf c.relation c.args values

abbrev pub Fails : Constraint → List Value → Type 0
Fails c values = HoldsOf c.relation c.args values → ⊥

-- a truth value is named, and it is this one
abbrev pub HasTruth : Constraint → Bool → List Value → Type 0
HasTruth c b values = IsSomeAnd c.reif (λ t. bool_of_term values t ≡ Some b)

-- the relation holds or fails, as this truth value says
abbrev pub IsRelated : Constraint → Bool → List Value → Type 0
IsRelated c b values = IsTruthOf (Some b) (Relates c values)

-- both
abbrev pub HasTruthOfRelation : Constraint → Bool → List Value → Type 0
HasTruthOfRelation c b values = HasTruth c b values × IsRelated c b values

-- the variable that stands for the truth value, if one does
abbrev pub truth_variables : Constraint → List VarId
truth_variables c = filter_map variable_of (option_to_list c.reif)

-- ---- the sets of a unit

-- W is a part of the set of words that give these variables values which satisfy C
pub record IsPartOfWords (l : LayoutState) (variables : List VarId) (C : List Value → Type 0) (W : Words) : Type 0 where
  pub set : Words
  pub words : AreWordsOf l variables C set
  pub part : IsPartOf W set

-- The sets of the compilation of a constraint: the words of initial values of the arguments' variables, those of them on which the relation holds,
-- and those on which it fails; a truth value; it together with the values on which the relation has it; and the words that
-- satisfy the constraint. W is a part of one of them.
pub data IsWantedBy (l : LayoutState) (c : Constraint) (W : Words) : Type 0 where
  initial : IsPartOfWords l (variables_in c.args) Anything W → IsWantedBy l c W
  holding : IsPartOfWords l (variables_in c.args) (Relates c) W → IsWantedBy l c W
  failing : IsPartOfWords l (variables_in c.args) (Fails c) W → IsWantedBy l c W
  truth : (b : Bool) → IsPartOfWords l (truth_variables c) (HasTruth c b) W → IsWantedBy l c W
  truth_of_relation : (b : Bool) → IsPartOfWords l (variables_of c) (HasTruthOfRelation c b) W → IsWantedBy l c W
  satisfying : IsPartOfWords l (variables_of c) (Holds c) W → IsWantedBy l c W

-- a unit is a variable, whose set is that of the words of its initial values, or a constraint
pub data IsOfUnit (l : LayoutState) (p : Problem) (W : Words) : Type 0 where
  of_variable : (v : VarId) → v.0 < length p.kinds → IsPartOfWords l (v ∷ []) Anything W → IsOfUnit l p W
  of_constraint : (c : Constraint) → Contains p.constraints c → IsWantedBy l c W → IsOfUnit l p W

-- each new node is a part of one of the sets of one of the units
abbrev pub NewAreOfUnits : LayoutState → Problem → Table → Table → Type 0
NewAreOfUnits l p old new = (i : NodeId) → old i ≡ None → IsLive new (Node i) → IsOfUnit l p (has new (Node i))

-- ---- the bits of a unit

-- r reaches only bits of these variables
abbrev pub ReachesOnlyBitsOf : LayoutState → List VarId → Table → Ref → Type 0
ReachesOnlyBitsOf l variables t r = (set : Bits) → ((b : ℕ) → IsBitOf l variables b → set b ≡ true) → ReachesOnly t set r

-- r reaches only bits of one variable, or of one constraint's variables
pub data ReachesUnit (l : LayoutState) (p : Problem) (t : Table) (r : Ref) : Type 0 where
  of_variable : (v : VarId) → v.0 < length p.kinds → ReachesOnlyBitsOf l (v ∷ []) t r → ReachesUnit l p t r
  of_constraint : (c : Constraint) → Contains p.constraints c → ReachesOnlyBitsOf l (variables_of c) t r → ReachesUnit l p t r

-- each node has a set that stood before, or reaches only these
abbrev pub AllReachUnits : LayoutState → Problem → Table → Table → Type 0
AllReachUnits l p old new = (i : NodeId) → IsLive new (Node i) → StoodBefore old (has new (Node i)) ⊎ ReachesUnit l p new (Node i)

-- ---- what stays pinned

-- the results of the units that are done, in order: the domains of the first variables, and the diagrams of the first constraints
pub record AreDone (l : LayoutState) (p : Problem) (t : Table) (domains diagrams : List Ref) : Type 0 where
  pub variables : length domains ≤ length p.kinds
  pub each : (v : VarId) (r : Ref) → slice_get domains v.0 ≡ Some r → IsInitialDomain l t v r
  pub constraints : AllZip (IsDiagramOfConstraint l t) (take (length diagrams) p.constraints) diagrams

-- which pins a compilation leaves that was stopped: where there was no room those of the units that were done, for want of memory none
abbrev pub PinsAfter : LayoutState → Problem → PoolState → PoolState → Stop → Type 0
PinsAfter l p old new Full = (domains : List Ref) × (diagrams : List Ref) × AreDone l p (table new.arena) domains diagrams × Gains old new (domains ++ diagrams)
PinsAfter l p old new Memory = (i : NodeId) → pins_of new i ≡ pins_of old i
