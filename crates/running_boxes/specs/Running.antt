-- Running boxes of a walk back over the trail: what they are, the box of a conflict, and the resolvent with the reason
-- box of an entry. Source: this project's own (conflict analysis with boxes in place of clauses).
use Rattle.std.specs.Prelude.{◌≡◌, ℕ, ◌<◌, Bool, List, ◌∷◌, length, Some, slice_get}
use Rattle.set_meaning.specs.declared.kinds.Value.{Value}
use Rattle.set_meaning.specs.declared.problems.VarId.{VarId}
use Rattle.set_meaning.specs.declared.problems.Problem.{Problem}
use Rattle.bit_layout.specs.Order.{LayoutState}
use Rattle.diagram_arena.specs.declared.nodes.Ref.{Ref}
use Rattle.diagram_arena.specs.Table.{Table}
use Rattle.search_rules.specs.Box.{resolvent}
use Rattle.search_rules.specs.Trail.{undo}
use Rattle.search_rules.specs.Walk.{conflict_box, reason_box}
use Rattle.exact_steps.specs.Domains.{family}
use Rattle.problem_rules.specs.Posed.{problem_of}
use Rattle.value_sets.specs.Sets.{IsValueSet}
use Rattle.domain_trail.specs.declared.entries.Entry.{Entry}
use Rattle.domain_trail.specs.Trail.{TrailState, newest_first}
use Rattle.box_clauses.specs.declared.sides.Side.{Side}
use Rattle.box_clauses.specs.declared.store.StoredBox.{StoredBox}
use Rattle.box_clauses.specs.Boxes.{box_of, AreSides}
use Rattle.search_state.specs.Readings.{sides_at, reason_of, entry_of}
use Rattle.running_boxes.specs.declared.beginning.Conflict.{Conflict}
use Rattle.running_boxes.specs.declared.beginning.Conflict.TheVariants as conflict

-- a set of values for each variable
pub record AreRunning (l : LayoutState) (t : Table) (running : List Ref) : Type 0 where
  pub long : length running ≡ length l.kinds
  pub each : (v : VarId) (r : Ref) → slice_get running v.0 ≡ Some r → IsValueSet l t v r

-- ---- conflicts

-- the conflict is of a constraint of the problem, or of a box in store
abbrev pub IsConflictOf : Problem → List StoredBox → Conflict → Type 0
IsConflictOf p stored (conflict.Constraint c) = c.0 < length p.constraints
IsConflictOf p stored (conflict.Box b) = b.0 < length stored

-- its box, where the variables have these domains
abbrev pub box_of_conflict : Problem → LayoutState → Table → List StoredBox → List Ref → Conflict → ℕ → Value → Bool
box_of_conflict p l t stored domains (conflict.Constraint c) = conflict_box (problem_of p) c.0 (family l t domains)
box_of_conflict p l t stored domains (conflict.Box b) = box_of l t (sides_at stored b.0)

-- the running box is this family
pub record IsRunning (l : LayoutState) (t : Table) (f : ℕ → Value → Bool) (running : List Ref) : Type 0 where
  pub sets : AreRunning l t running
  pub values : family l t running ≡ f

-- ---- resolvents

-- the trail's newest entry
abbrev pub IsNewest : TrailState → Entry → Type 0
IsNewest s e = (rest : List Entry) × (newest_first s ≡ e ∷ rest)

-- the reason box of that entry
abbrev pub reason_box_of : Problem → LayoutState → Table → List StoredBox → TrailState → Entry → ℕ → Value → Bool
reason_box_of p l t stored s e =
    reason_box (problem_of p) (reason_of l t stored e.reason) (undo (family l t s.domains) (entry_of l t stored e))
    e.var.0
    (family l t s.domains e.var.0)

-- the running box resolved with it
abbrev pub resolvent_of :
    Problem → LayoutState → Table → List StoredBox → TrailState → Entry → List Ref → ℕ → Value → Bool
resolvent_of p l t stored s e running = resolvent (family l t running) (reason_box_of p l t stored s e) e.var.0

-- the running box `old` of the table t was resolved: `new` is the resolvent, in the table u
pub record IsResolved (p : Problem) (l : LayoutState) (t u : Table) (stored : List StoredBox) (s : TrailState)
    (old new : List Ref) : Type 0 where
  pub sets : AreRunning l u new
  pub values : (e : Entry) → IsNewest s e → family l u new ≡ resolvent_of p l t stored s e old

-- ---- sides

-- the sides are a box with the running box's sets
pub record AreSidesOfRunning (l : LayoutState) (t : Table) (running : List Ref) (sides : List Side) : Type 0 where
  pub ascending : AreSides l t sides
  pub values : box_of l t sides ≡ family l t running
