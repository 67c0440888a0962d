-- Lists of sides that are put in place of others, and what a unit begins with. Words of private helpers.
use Rattle.std.specs.Prelude.{◌≡◌, ◌≢◌, ◌==◌, ℕ, Bool, cond, if◌then◌else◌, List, [], ◌∷◌, ◌++◌, map, All}
use Rattle.std.specs.Prelude.{Contains, slice_set, slice_index_or}
use Rattle.set_meaning.specs.declared.kinds.Value.{Value}
use Rattle.set_meaning.specs.declared.problems.VarId.{VarId}
use Rattle.set_meaning.specs.declared.problems.Problem.{Problem}
use Rattle.bit_layout.specs.Order.{LayoutState}
use Rattle.diagram_arena.specs.declared.nodes.Ref.{Ref}
use Rattle.diagram_arena.specs.declared.nodes.Ref.TheVariants.{Zero}
use Rattle.diagram_arena.specs.Table.{Words, Table}
use Rattle.diagram_arena.specs.Arena.{table}
use Rattle.node_reclaim.specs.Pool.{PoolState}
use Rattle.node_reclaim.specs.Holders.{AreHeld}
use Rattle.search_rules.specs.Box.{resolvent}
use Rattle.exact_steps.specs.Domains.{values_in, family}
use Rattle.problem_rules.specs.Parts.{initial_set}
use Rattle.value_sets.specs.Sets.{both, either}
use Rattle.propagators.specs.Compiled.{CompiledState, pinned_by, IsCompiled}
use Rattle.domain_trail.specs.Trail.{TrailState, held}
use Rattle.box_clauses.specs.declared.sides.Side.{Side}
use Rattle.box_clauses.specs.declared.store.StoredBox.{StoredBox}
use Rattle.box_clauses.specs.Boxes.{IsSide}
use Rattle.box_clauses.specs.Stored.{stored_sets}
use Rattle.search_state.specs.Readings.{IsTrailOf}
use Rattle.running_boxes.specs.Running.{AreRunning}
use Rattle.running_boxes.specs.Nodes.{IsPartOfValues}

-- ---- lists of sides

abbrev pub var_of : Side → VarId
var_of s = s.var

abbrev pub side_with : VarId → Ref → Side
side_with v r = record { var = v; set = r }

-- each side's set at its variable's place
abbrev pub put_sides : List Side → List Ref → List Ref
put_sides [] running = running
put_sides (s ∷ sides) running = put_sides sides (slice_set running s.var.0 s.set)

-- these variables with their domains
abbrev pub domain_sides : List Ref → List VarId → List Side
domain_sides domains vs = map (λ (v : VarId). side_with v (slice_index_or domains v.0 Zero)) vs

-- likewise, but the variable v with another set
abbrev pub removed_sides : List Ref → VarId → Ref → List VarId → List Side
removed_sides domains v r vs =
    map (λ (u : VarId). side_with u (if u.0 == v.0 then r else slice_index_or domains u.0 Zero)) vs

-- the side's set is that which g has of its variable
pub record IsSideOf (l : LayoutState) (t : Table) (g : ℕ → Value → Bool) (s : Side) : Type 0 where
  pub side : IsSide l t s
  pub values : values_in l t s.var s.set ≡ g s.var.0

-- no side is of the variable
abbrev pub NoneIsOf : ℕ → List Side → Type 0
NoneIsOf v sides = All (λ (s : Side). s.var.0 ≢ v) sides

-- the sides are those of the box b, which has all initial values elsewhere
pub record AreSidesOf (l : LayoutState) (t : Table) (b : ℕ → Value → Bool) (sides : List Side) : Type 0 where
  pub each : All (IsSideOf l t b) sides
  pub others : (v : ℕ) → NoneIsOf v sides → b v ≡ initial_set l.kinds v

-- put in place of the running box's, the sides make it the family g
pub record AreChanges (l : LayoutState) (t u : Table) (running : List Ref) (g : ℕ → Value → Bool)
    (sides : List Side) : Type 0 where
  pub each : All (IsSideOf l u g) sides
  pub others : (v : ℕ) → NoneIsOf v sides → family l t running v ≡ g v

-- ---- resolvents side by side

-- the values at a side: the union at the variable v, the intersection elsewhere
abbrev pub resolved_values : LayoutState → Table → List Ref → VarId → Side → Value → Bool
resolved_values l t running v s =
    cond (s.var.0 == v.0) (either (family l t running s.var.0) (values_in l t s.var s.set))
    (both (family l t running s.var.0) (values_in l t s.var s.set))

-- r is the side of the resolvent at the variable of the side s
pub record IsResolvedSide (l : LayoutState) (t u : Table) (running : List Ref) (v : VarId) (s r : Side) : Type 0 where
  pub same : r.var ≡ s.var
  pub side : IsSide l u r
  pub values : values_in l u r.var r.set ≡ resolved_values l t running v s

-- each of these sides is resolved
pub record AreResolved (l : LayoutState) (t u : Table) (running : List Ref) (v : VarId)
    (sides resolved : List Side) : Type 0 where
  pub variables : map var_of resolved ≡ map var_of sides
  pub each : (b : ℕ → Value → Bool) → All (IsSideOf l t b) sides
      → All (IsSideOf l u (resolvent (family l t running) b v.0)) resolved

-- W is a part of what is made for one of the sides
pub record IsOfResolved (l : LayoutState) (t : Table) (running : List Ref) (v : VarId) (sides : List Side)
    (W : Words) : Type 0 where
  pub side : Side
  pub listed : Contains sides side
  pub part : IsPartOfValues l side.var (resolved_values l t running v side) W

-- ---- units

-- what a unit begins with
pub record IsReady (p : Problem) (l : LayoutState) (s : PoolState) (k : CompiledState) (trail : TrailState)
    (stored : List StoredBox) (running : List Ref) : Type 0 where
  pub compiled : IsCompiled l p (table s.arena) k
  pub legal : IsTrailOf p l (table s.arena) stored trail
  pub sets : AreRunning l (table s.arena) running
  pub pinned : AreHeld s (pinned_by k ++ (held trail ++ (stored_sets stored ++ running)))
