-- What the parts of a turn of the search begin with and leave. Words of private helpers.
use Rattle.std.specs.Prelude.{◌≡◌, ℕ, ◌<◌, ◌^◌, ◌+◌, ◌==◌, true, false, List, [], ◌∷◌, ◌++◌, length, find}
use Rattle.std.specs.Prelude.{Option, Some, None, Result, Err, IfOk, OnOk, OnErr}
use Rattle.std.specs.Option.{option_map}
use Rattle.set_meaning.specs.declared.problems.Problem.{Problem}
use Rattle.set_meaning.specs.declared.problems.BoxId.{BoxId}
use Rattle.set_meaning.specs.declared.problems.VarId.{VarId}
use Rattle.bit_layout.specs.Order.{LayoutState}
use Rattle.diagram_arena.specs.declared.nodes.Ref.{Ref}
use Rattle.diagram_arena.specs.Table.{Table}
use Rattle.diagram_arena.specs.Arena.{table}
use Rattle.node_reclaim.specs.Pool.{PoolState}
use Rattle.node_reclaim.specs.Holders.{AreHeld, MeansTheSame}
use Rattle.search_rules.specs.Family.{without}
use Rattle.search_rules.specs.Box.{IsBoxNarrowed}
use Rattle.search_rules.specs.Trail.{IsPart}
use Rattle.exact_steps.specs.Domains.{values_in, IsDomain, AreDomains, family}
use Rattle.problem_rules.specs.Branching.{IsDecision}
use Rattle.constraint_queue.specs.Queue.{QueueState, Reads, HasFlag}
use Rattle.propagators.specs.Compiled.{CompiledState}
use Rattle.domain_trail.specs.declared.entries.Reason.TheVariants as why
use Rattle.domain_trail.specs.Trail.{TrailState, narrowed, held}
use Rattle.box_clauses.specs.declared.sides.Side.{Side}
use Rattle.box_clauses.specs.declared.store.StoredBox.{StoredBox}
use Rattle.box_clauses.specs.Boxes.{box_of, AreSides}
use Rattle.box_clauses.specs.Sides.{sets_of}
use Rattle.box_clauses.specs.Stored.{stored as stored_box}
use Rattle.node_reclaim.specs.Growth.{IsFull}
use Rattle.pin_lists.specs.Units.{UnitsLeave}
use Rattle.running_boxes.specs.Nodes.{IsOfVariable}
use Rattle.running_boxes.specs.Running.{AreSidesOfRunning}
use Rattle.explain.specs.declared.analysing.AnalyseStop.{AnalyseStop}
use Rattle.explain.specs.declared.analysing.AnalyseStop.TheVariants as analysis
use Rattle.branching.specs.Decisions.{HaveOneValueBelow}
use Rattle.search_state.specs.Readings.{sides_at, AreReadable}
use Rattle.search_turns.specs.States.{held_by_search, IsStanding, IsFurther}
use Rattle.search_turns.specs.Outcomes.{UnlessMemory, IsFoundFrom, IsTurnOf}
use Rattle.search_turns.specs.Nodes.{IsOfSearch}
use Rattle.search_turns.specs.declared.outcomes.Turn.{Turn}
use Rattle.search_turns.specs.declared.outcomes.Found.{Found}
use Rattle.search_turns.specs.declared.outcomes.FindStop.{FindStop}
use Rattle.search_turns.specs.declared.outcomes.FindStop.TheVariants as stop

-- ---- the narrowing by a learned box

-- the set of the side of the variable, if it has one
abbrev pub set_of : List Side → ℕ → Option Ref
set_of sides v = option_map (λ (s : Side). s.set) (find (λ (s : Side). s.var.0 == v) sides)

-- the trail was narrowed by the stored box, to what the variable has outside its side
pub record IsNarrowedOutside (l : LayoutState) (t : Table) (stored : List StoredBox) (id : BoxId) (v : VarId)
    (old new : TrailState) : Type 0 where
  pub to : Ref
  pub is : new ≡ narrowed old v to (why.Box id)
  pub domain : IsDomain l t v to
  pub values : values_in l t v to
      ≡ without (family l t old.domains v.0) (box_of l t (sides_at stored id.0) v.0)

-- the stored box narrows the variable, and trail and boxes are pinned
pub record IsReadyToNarrow (l : LayoutState) (s : PoolState) (stored : List StoredBox) (trail : TrailState) (id : BoxId)
    (v : VarId) : Type 0 where
  pub readable : AreReadable l (table s.arena) stored trail
  pub known : id.0 < length stored
  pub within : v.0 < length l.kinds
  pub narrows : let f = family l (table s.arena) trail.domains in
      let b = box_of l (table s.arena) (sides_at stored id.0) in
      IsBoxNarrowed b f v.0 (without (f v.0) (b v.0))
  pub pinned : AreHeld s (held_by_search trail stored)

-- the box of these sides narrows the variable, and trail, boxes and sides are pinned
pub record IsReadyToAssert (l : LayoutState) (s : PoolState) (stored : List StoredBox) (trail : TrailState)
    (sides : List Side) (v : VarId) : Type 0 where
  pub readable : AreReadable l (table s.arena) stored trail
  pub few : length stored < 2 ^ 32
  pub sides_are : AreSides l (table s.arena) sides
  pub within : v.0 < length l.kinds
  pub narrows : let f = family l (table s.arena) trail.domains in let b = box_of l (table s.arena) sides in
      IsBoxNarrowed b f v.0 (without (f v.0) (b v.0))
  pub pinned : AreHeld s (held_by_search trail stored ++ sets_of sides)

-- the box was learned, and narrowed the variable
pub record IsAsserted (l : LayoutState) (t : Table) (stored : List StoredBox) (sides : List Side) (v : VarId)
    (old new : TrailState) : Type 0 where
  pub id : BoxId
  pub newest : id.0 ≡ length stored
  pub narrowed : IsNarrowedOutside l t (stored ++ stored_box sides 0 true ∷ []) id v old new

-- what learning the box and narrowing by it leaves
pub record AssertLeaves (l : LayoutState) (old new : PoolState) (stored : List StoredBox) (trail : TrailState)
    (stored_now : List StoredBox) (trail_now : TrailState) (sides : List Side) (v : VarId)
    (result : Result (Unit {0}) FindStop) : Type 0 where
  pub asserted : OnOk result (IsAsserted l (table new.arena) stored sides v trail trail_now)
  pub learned : UnlessMemory result (stored_now ≡ stored ++ stored_box sides 0 true ∷ [])
  pub few : length stored_now < 2 ^ 32
  pub same : OnErr result (trail_now ≡ trail)
  pub kept : MeansTheSame (table old.arena) (table new.arena) (held_by_search trail stored ++ sets_of sides)
  pub left : UnitsLeave (IsOfVariable l) old new (held_by_search trail stored ++ sets_of sides)
      (held_by_search trail_now stored_now)
  pub full : result ≡ Err stop.Full → IsFull new

-- where there was no room for a resolvent, the running box was stored unmarked, unless memory was wanting
abbrev pub IsKept : List StoredBox → List StoredBox → FindStop → AnalyseStop → Type 0
IsKept stored now result (analysis.Full sides) =
    result ≡ stop.Full → now ≡ stored ++ stored_box sides 0 false ∷ []
IsKept stored now result analysis.Memory = result ≡ stop.Memory

-- ---- decisions

-- there are domains, and the trail is pinned
pub record IsReadyToDecide (l : LayoutState) (s : PoolState) (trail : TrailState) : Type 0 where
  pub domains_are : AreDomains l (table s.arena) trail.domains
  pub pinned : AreHeld s (held trail)

-- a level was opened with the decision of the branching rule
pub record IsOpened (l : LayoutState) (t : Table) (old new : TrailState) (v : VarId) : Type 0 where
  pub to : Ref
  pub is : new ≡ narrowed (record old { level = old.level + 1 }) v to why.Decision
  pub known : v.0 < length l.kinds
  pub domain : IsDomain l t v to
  pub part : IsPart (values_in l t v to) (family l t old.domains v.0)
  pub decision : IsDecision l.kinds (family l t old.domains) v.0 (values_in l t v to)

-- the decision was taken, or every domain has one value
abbrev pub IsDecisionTaken : LayoutState → Table → TrailState → TrailState → Option VarId → Type 0
IsDecisionTaken l t old new None = (new ≡ old) × HaveOneValueBelow (length l.kinds) (family l t old.domains)
IsDecisionTaken l t old new (Some v) = IsOpened l t old new v

-- ---- turns

-- what a turn of the search leaves
pub record TurnLeaves (p : Problem) (l : LayoutState) (k : CompiledState) (old new : PoolState)
    (stored : List StoredBox) (trail : TrailState) (stored_now : List StoredBox) (trail_now : TrailState)
    (result : Result Turn FindStop) : Type 0 where
  pub turned : IfOk result (IsTurnOf p l (table old.arena) (table new.arena) stored trail stored_now trail_now)
  pub further : UnlessMemory result
      (IsFurther p l (table old.arena) (table new.arena) stored trail stored_now trail_now)
  pub standing : OnOk result (IsStanding p l new k stored_now trail_now)
  pub left : UnitsLeave (IsOfSearch p l) old new (held_by_search trail stored) (held_by_search trail_now stored_now)
  pub full : result ≡ Err stop.Full → IsFull new

-- the constraints that read the variable have flags
pub record FlagsReaders (old new : QueueState) (v : VarId) : Type 0 where
  pub scopes : new.scopes ≡ old.scopes
  pub long : length new.flags ≡ length old.flags
  pub flags : (c : ℕ) → Reads old c v → HasFlag new c

-- what a search that goes on leaves
pub record FindLeaves (p : Problem) (l : LayoutState) (k : CompiledState) (old new : PoolState)
    (stored : List StoredBox) (trail : TrailState) (stored_now : List StoredBox) (trail_now : TrailState)
    (result : Result Found FindStop) : Type 0 where
  pub found : IfOk result (IsFoundFrom p l (table old.arena) (table new.arena) stored trail stored_now trail_now)
  pub further : UnlessMemory result
      (IsFurther p l (table old.arena) (table new.arena) stored trail stored_now trail_now)
  pub standing : OnOk result (IsStanding p l new k stored_now trail_now)
  pub left : UnitsLeave (IsOfSearch p l) old new (held_by_search trail stored) (held_by_search trail_now stored_now)
  pub full : result ≡ Err stop.Full → IsFull new

-- ---- answers

-- the box of what the domains have was stored, unmarked
pub record HasStoredDomains (l : LayoutState) (t : Table) (stored : List StoredBox) (trail : TrailState)
    (stored_now : List StoredBox) (id : BoxId) : Type 0 where
  pub newest : id.0 ≡ length stored
  pub sides : List Side
  pub are : AreSidesOfRunning l t trail.domains sides
  pub added : stored_now ≡ stored ++ stored_box sides 0 false ∷ []
