-- What a search finds, and where a turn of it leads. This project's own.
use Rattle.std.specs.Prelude.{◌≡◌, ℕ, ◌<◌, false, List, length, Result, Ok, Err}
use Rattle.set_meaning.specs.declared.kinds.Value.{Value}
use Rattle.set_meaning.specs.declared.problems.Problem.{Problem}
use Rattle.bit_layout.specs.Order.{LayoutState}
use Rattle.diagram_arena.specs.Table.{Table}
use Rattle.search_rules.specs.Problem.{IsSolution, IsCovered, IsLeft}
use Rattle.exact_steps.specs.Domains.{family}
use Rattle.problem_rules.specs.Posed.{problem_of}
use Rattle.domain_trail.specs.Trail.{TrailState}
use Rattle.box_clauses.specs.declared.store.StoredBox.{StoredBox}
use Rattle.search_state.specs.Readings.{IsLegalState}
use Rattle.search_state.specs.Turns.{measure_of}
use Rattle.branching.specs.Decisions.{HaveOneValueBelow}
use Rattle.propagation.specs.Quiet.{AreAllQuiet}
use Rattle.search_turns.specs.States.{HoldWithoutVariables}
use Rattle.search_turns.specs.declared.outcomes.Turn.{Turn}
use Rattle.search_turns.specs.declared.outcomes.Turn.TheVariants as turn
use Rattle.search_turns.specs.declared.outcomes.Found.{Found}
use Rattle.search_turns.specs.declared.outcomes.Found.TheVariants as found
use Rattle.search_turns.specs.declared.outcomes.FindStop.{FindStop}
use Rattle.search_turns.specs.declared.outcomes.FindStop.TheVariants as stop

-- this holds, unless memory was wanting
abbrev pub UnlessMemory : {A : Type 0} → Result A FindStop → Type 0 → Type 0
UnlessMemory (Ok x) P = P
UnlessMemory (Err stop.Conflicts) P = P
UnlessMemory (Err stop.Full) P = P
UnlessMemory (Err stop.Memory) P = Unit {0}

-- with whatever answers the state is legal, they cover every solution
abbrev pub IsExhausted : Problem → LayoutState → Table → List StoredBox → TrailState → Type 0
IsExhausted p l t stored trail =
    (answers : List (ℕ → Value)) → IsLegalState p l t answers stored trail
    → (a : ℕ → Value) → IsSolution (problem_of p) a → IsCovered (problem_of p) answers a

-- each variable's domain has one value, and every constraint and every stored box leaves the domains as they are
pub record IsSingleState (p : Problem) (l : LayoutState) (t : Table) (stored : List StoredBox)
    (trail : TrailState) : Type 0 where
  pub single : HaveOneValueBelow (length l.kinds) (family l t trail.domains)
  pub quiet : AreAllQuiet p l t stored trail.domains

-- what was found from the state of the table t
abbrev pub IsFoundFrom :
    Problem → LayoutState → Table → Table → List StoredBox → TrailState → List StoredBox → TrailState → Found → Type 0
IsFoundFrom p l t u stored trail stored_now trail_now found.Single = IsSingleState p l u stored_now trail_now
IsFoundFrom p l t u stored trail stored_now trail_now found.Complete = IsExhausted p l t stored trail

-- The search narrowed this variable where every constraint left the domains as they were: those that do not read it do
-- so still. The measure fell.
pub record IsNarrowed (p : Problem) (l : LayoutState) (t u : Table) (stored : List StoredBox) (trail : TrailState)
    (stored_now : List StoredBox) (trail_now : TrailState) (v : ℕ) : Type 0 where
  pub falls : measure_of p l u stored_now trail_now < measure_of p l t stored trail
  pub settled : (c : ℕ) → c < length p.constraints → (problem_of p).scope c v ≡ false
      → IsLeft (problem_of p) c (family l u trail_now.domains)
  pub grounded : HoldWithoutVariables p

-- where a turn of the search leads
abbrev pub IsTurnOf :
    Problem → LayoutState → Table → Table → List StoredBox → TrailState → List StoredBox → TrailState → Turn → Type 0
IsTurnOf p l t u stored trail stored_now trail_now (turn.Narrowed v) =
    IsNarrowed p l t u stored trail stored_now trail_now v.0
IsTurnOf p l t u stored trail stored_now trail_now (turn.Ended found) =
    IsFoundFrom p l t u stored trail stored_now trail_now found
