-- Steps of units and what they leave, one after another. Words of private helpers.
use Rattle.std.specs.Prelude.{◌≡◌, ◌≢◌, ℕ, ◌+◌, ◌*◌, ◌<◌, ◌≤◌, Bool, List, [], ◌∷◌, ◌++◌, length, All, Contains}
use Rattle.std.specs.Prelude.{Option, Some, None, Vec}
use Rattle.std.specs.declared.alloc.Global.{Global}
use Rattle.set_meaning.specs.declared.kinds.Value.{Value}
use Rattle.set_meaning.specs.declared.problems.VarId.{VarId}
use Rattle.set_meaning.specs.declared.problems.ConId.{ConId}
use Rattle.set_meaning.specs.declared.problems.Problem.{Problem}
use Rattle.bit_layout.specs.Order.{LayoutState}
use Rattle.diagram_arena.specs.declared.nodes.Ref.{Ref}
use Rattle.diagram_arena.specs.Table.{Table, IsLive}
use Rattle.diagram_arena.specs.Arena.{table}
use Rattle.node_reclaim.specs.Pool.{PoolState}
use Rattle.node_reclaim.specs.Holders.{AreHeld}
use Rattle.pin_lists.specs.Units.{UnitsLeave}
use Rattle.search_rules.specs.Family.{put}
use Rattle.search_rules.specs.Box.{IsBoxSame}
use Rattle.search_rules.specs.Trail.{IsPart, IsReason}
use Rattle.search_rules.specs.Walk.{conflict_box, IsConflictBox}
use Rattle.search_rules.specs.Measure.{total}
use Rattle.exact_steps.specs.declared.steps.StepResult.{StepResult}
use Rattle.exact_steps.specs.declared.steps.StepResult.TheVariants as step
use Rattle.exact_steps.specs.Domains.{variable, values_in, IsDomain, family}
use Rattle.exact_steps.specs.Steps.{narrowed_in}
use Rattle.problem_rules.specs.Posed.{problem_of}
use Rattle.propagators.specs.Compiled.{CompiledState, pinned_by, IsCompiled}
use Rattle.constraint_queue.specs.Queue.{QueueState, HasFlag, Reads, flag_count}
use Rattle.domain_trail.specs.declared.entries.Reason.{Reason}
use Rattle.domain_trail.specs.declared.entries.Reason.TheVariants as why
use Rattle.domain_trail.specs.Trail.{TrailState, held, narrowed}
use Rattle.box_clauses.specs.declared.store.StoredBox.{StoredBox}
use Rattle.box_clauses.specs.declared.stepping.BoxResult.{BoxResult}
use Rattle.box_clauses.specs.declared.stepping.BoxResult.TheVariants as of_box
use Rattle.box_clauses.specs.Boxes.{box_of}
use Rattle.box_clauses.specs.Stored.{stored_sets}
use Rattle.search_state.specs.Readings.{sides_at, boxes_of, reason_of, IsTrailOf}
use Rattle.running_boxes.specs.declared.beginning.Conflict.{Conflict}
use Rattle.running_boxes.specs.declared.beginning.Conflict.TheVariants as conflict
use Rattle.running_boxes.specs.Running.{IsConflictOf, box_of_conflict}
use Rattle.propagation.specs.Quiet.{IsQuietAt, HasNarrowed}
use Rattle.propagation.specs.Nodes.{IsOfPropagation}
use Rattle.propagation.specs.declared.turning.Turned.{Turned}
use Rattle.propagation.specs.declared.turning.Turned.TheVariants as turned

-- what two units did, one after the other; and whether that is a conflict
abbrev pub joined : Turned → Turned → Turned
joined first turned.Same = first
joined first turned.Narrowed = turned.Narrowed
joined first (turned.Conflict c) = turned.Conflict c

abbrev pub IsOfConflict : Turned → Type 0
IsOfConflict turned.Same = ⊥
IsOfConflict turned.Narrowed = ⊥
IsOfConflict (turned.Conflict c) = Unit {0}

-- ---- units: the step of a constraint, or that of a box in store

-- why a unit narrows, and the constraint that it is the step of
abbrev pub reason_for : Conflict → Reason
reason_for (conflict.Constraint c) = why.Constraint c
reason_for (conflict.Box b) = why.Box b

abbrev pub constraint_in : Conflict → Option ConId
constraint_in (conflict.Constraint c) = Some c
constraint_in (conflict.Box b) = None

-- the unit leaves the family as it is
abbrev pub IsUnitQuiet : Problem → LayoutState → Table → List StoredBox → (ℕ → Value → Bool) → Conflict → Type 0
IsUnitQuiet p l t stored f (conflict.Constraint c) = IsQuietAt p f c.0
IsUnitQuiet p l t stored f (conflict.Box b) = IsBoxSame (box_of l t (sides_at stored b.0)) f

-- the same of a constraint; of a box nothing is said
abbrev pub IsConstraintQuiet : Problem → (ℕ → Value → Bool) → Conflict → Type 0
IsConstraintQuiet p f (conflict.Constraint c) = IsQuietAt p f c.0
IsConstraintQuiet p f (conflict.Box b) = Unit {0}

-- the box of a conflict at this family
abbrev pub box_at_family :
    Problem → LayoutState → Table → List StoredBox → (ℕ → Value → Bool) → Conflict → ℕ → Value → Bool
box_at_family p l t stored f (conflict.Constraint c) = conflict_box (problem_of p) c.0 f
box_at_family p l t stored f (conflict.Box b) = box_of l t (sides_at stored b.0)

-- ---- narrowings one after another

-- the variable may be given this domain, for this reason
pub record CanPut (p : Problem) (l : LayoutState) (t : Table) (stored : List StoredBox) (reason : Reason)
    (f : ℕ → Value → Bool) (v : VarId) (r : Ref) : Type 0 where
  pub known : v.0 < length l.kinds
  pub domain : IsDomain l t v r
  pub part : IsPart (values_in l t v r) (f v.0)
  pub made : IsReason (problem_of p) (boxes_of l t stored) (reason_of l t stored reason) f v.0 (values_in l t v r)

abbrev pub AreNarrowings : Problem → LayoutState → Table → List StoredBox → Reason → (ℕ → Value → Bool)
    → List (VarId × Ref) → Type 0
AreNarrowings p l t stored reason f [] = Unit {0}
AreNarrowings p l t stored reason f ((v, r) ∷ kept) = CanPut p l t stored reason f v r
    × AreNarrowings p l t stored reason (put f v.0 (values_in l t v r)) kept

-- the family, and the trail, after all of them
abbrev pub put_all : LayoutState → Table → List (VarId × Ref) → (ℕ → Value → Bool) → ℕ → Value → Bool
put_all l t [] f = f
put_all l t ((v, r) ∷ kept) f = put_all l t kept (put f v.0 (values_in l t v r))

abbrev pub narrowed_by : Reason → List (VarId × Ref) → TrailState → TrailState
narrowed_by reason [] s = s
narrowed_by reason ((v, r) ∷ kept) s = narrowed_by reason kept (narrowed s v r reason)

-- the answer of a box, its narrowing as a list
abbrev pub IsListed : BoxResult → StepResult → Type 0
IsListed of_box.Same answer = answer ≡ step.Same
IsListed (of_box.Narrowed v r) answer =
    (kept : Vec (VarId × Ref) Global) × (answer ≡ step.Narrowed kept) × (kept.items ≡ (v, r) ∷ [])
IsListed of_box.Empty answer = answer ≡ step.Empty

-- what a step narrows
abbrev pub narrowings_in : StepResult → List (VarId × Ref)
narrowings_in step.Same = []
narrowings_in (step.Narrowed kept) = kept.items
narrowings_in step.Empty = []

-- what the step of a unit says of the family f
abbrev pub IsAnswerOf :
    Problem → LayoutState → Table → List StoredBox → (ℕ → Value → Bool) → Conflict → StepResult → Type 0
IsAnswerOf p l t stored f unit step.Same = IsUnitQuiet p l t stored f unit
IsAnswerOf p l t stored f unit (step.Narrowed kept) = (kept.items ≢ [])
    × AreNarrowings p l t stored (reason_for unit) f kept.items
    × IsConstraintQuiet p (put_all l t kept.items f) unit
IsAnswerOf p l t stored f unit step.Empty =
    IsConflictBox (problem_of p) (boxes_of l t stored) f (box_at_family p l t stored f unit)

-- ---- states

-- what a unit begins with
pub record IsReady (p : Problem) (l : LayoutState) (s : PoolState) (k : CompiledState) (stored : List StoredBox)
    (trail : TrailState) : Type 0 where
  pub compiled : IsCompiled l p (table s.arena) k
  pub legal : IsTrailOf p l (table s.arena) stored trail
  pub pinned : AreHeld s (pinned_by k ++ (held trail ++ stored_sets stored))

-- what units leave, each of which may narrow
pub record IsOnward (p : Problem) (l : LayoutState) (stored : List StoredBox) (a b : PoolState)
    (old new : TrailState) : Type 0 where
  pub left : UnitsLeave (IsOfPropagation p l) a b (held old) (held new)
  pub narrowed : HasNarrowed p l (table a.arena) (table b.arena) stored old new

-- how many values are left
abbrev pub values_left : Problem → LayoutState → Table → TrailState → ℕ
values_left p l t s = total (problem_of p) (family l t s.domains)

-- a unit narrowed the variables of the list and no others; its constraint is quiet now
pub record HasStepped (p : Problem) (l : LayoutState) (t u : Table) (unit : Conflict) (old new : TrailState)
    (kept : List (VarId × Ref)) : Type 0 where
  pub fewer : values_left p l u new < values_left p l t old
  pub live : All (λ e. IsLive u e.1) kept
  pub quiet : IsConstraintQuiet p (family l u new.domains) unit
  pub others : (v : ℕ) → (Contains (narrowed_in kept) (variable v) → ⊥)
      → family l u new.domains v ≡ family l t old.domains v

-- what a unit did to the trail
abbrev pub IsStepped : Problem → LayoutState → Table → Table → List StoredBox → Conflict → TrailState → TrailState
    → StepResult → Type 0
IsStepped p l t u stored unit old new step.Same = (new ≡ old) × (family l u new.domains ≡ family l t old.domains)
    × IsUnitQuiet p l u stored (family l u new.domains) unit
IsStepped p l t u stored unit old new (step.Narrowed kept) = HasStepped p l t u unit old new kept.items
IsStepped p l t u stored unit old new step.Empty = IsConflictBox (problem_of p) (boxes_of l u stored)
    (family l u new.domains)
    (box_of_conflict p l u stored new.domains unit)

-- ---- the queue

abbrev pub numbered : ℕ → ConId
numbered n = record { 0 = n }

-- each constraint without a flag is quiet, but that of the unit
abbrev pub AreQuietBut : Problem → (ℕ → Value → Bool) → QueueState → Conflict → Type 0
AreQuietBut p f q unit = (d : ℕ) → d < length p.constraints → constraint_in unit ≢ Some (numbered d)
    → (HasFlag q d → ⊥) → IsQuietAt p f d

-- each constraint without a flag is quiet
abbrev pub AreQuietApart : Problem → (ℕ → Value → Bool) → QueueState → Type 0
AreQuietApart p f q = (d : ℕ) → d < length p.constraints → (HasFlag q d → ⊥) → IsQuietAt p f d

-- the constraints that read a variable of the list have flags, but the one named, and those that had one still have it
pub record AreStirred (old new : QueueState) (but : Option ConId) (kept : List (VarId × Ref)) : Type 0 where
  pub scopes : new.scopes ≡ old.scopes
  pub long : length new.flags ≡ length old.flags
  pub still : (d : ℕ) → HasFlag old d → HasFlag new d
  pub readers : (v : VarId) (d : ℕ) → Contains (narrowed_in kept) v → Reads old d v → but ≢ Some (numbered d)
      → HasFlag new d

-- ---- turns

-- a conflict of these domains
abbrev pub IsConflictAt : Problem → LayoutState → Table → List StoredBox → TrailState → Conflict → Type 0
IsConflictAt p l t stored s c = IsConflictOf p stored c × IsConflictBox (problem_of p) (boxes_of l t stored)
    (family l t s.domains)
    (box_of_conflict p l t stored s.domains c)

-- nothing has changed, and so the constraints without flags are quiet still
pub record IsUnturned (p : Problem) (l : LayoutState) (t u : Table) (old new : TrailState)
    (before after : QueueState) : Type 0 where
  pub trail : new ≡ old
  pub values : family l u new.domains ≡ family l t old.domains
  pub queue : after ≡ before
  pub settled : AreQuietApart p (family l u new.domains) after

-- fewer values are left, and the constraints without flags are quiet
pub record IsTurned (p : Problem) (l : LayoutState) (t u : Table) (old new : TrailState)
    (after : QueueState) : Type 0 where
  pub fewer : values_left p l u new < values_left p l t old
  pub settled : AreQuietApart p (family l u new.domains) after

-- what a unit did, with the flags set after it
abbrev pub IsTurn : Problem → LayoutState → Table → Table → List StoredBox → Conflict → TrailState → TrailState
    → QueueState → QueueState → Turned → Type 0
IsTurn p l t u stored unit old new before after turned.Same =
    IsUnturned p l t u old new before after × IsUnitQuiet p l u stored (family l u new.domains) unit
IsTurn p l t u stored unit old new before after turned.Narrowed = IsTurned p l t u old new after
IsTurn p l t u stored unit old new before after (turned.Conflict c) = IsConflictAt p l u stored new c

-- the first boxes, so many, leave the family as it is
abbrev pub AreBoxesQuiet : LayoutState → Table → List StoredBox → (ℕ → Value → Bool) → ℕ → Type 0
AreBoxesQuiet l t stored f count = (b : ℕ) → b < count → IsBoxSame (box_of l t (sides_at stored b)) f

-- what the first boxes, so many, did one after another
abbrev pub IsRound : Problem → LayoutState → Table → Table → List StoredBox → ℕ → TrailState → TrailState
    → QueueState → QueueState → Turned → Type 0
IsRound p l t u stored count old new before after turned.Same =
    IsUnturned p l t u old new before after × AreBoxesQuiet l u stored (family l u new.domains) count
IsRound p l t u stored count old new before after turned.Narrowed = IsTurned p l t u old new after
IsRound p l t u stored count old new before after (turned.Conflict c) = IsConflictAt p l u stored new c

-- all boxes, and the constraints without flags, are quiet
pub record IsCalm (p : Problem) (l : LayoutState) (t : Table) (stored : List StoredBox) (s : TrailState)
    (q : QueueState) : Type 0 where
  pub settled : AreQuietApart p (family l t s.domains) q
  pub boxes : AreBoxesQuiet l t stored (family l t s.domains) (length stored)

abbrev pub IsCalmed : Problem → LayoutState → Table → List StoredBox → TrailState → QueueState → Option Conflict
    → Type 0
IsCalmed p l t stored s q None = IsCalm p l t stored s q
IsCalmed p l t stored s q (Some c) = IsConflictAt p l t stored s c

-- what is left to do: fewer values come first, then fewer flags
abbrev pub work : Problem → LayoutState → Table → TrailState → QueueState → ℕ
work p l t s q = values_left p l t s * (length p.constraints + 1) + flag_count q

abbrev pub IsNearer : Problem → LayoutState → Table → Table → TrailState → TrailState → QueueState → QueueState
    → Option Conflict → Type 0
IsNearer p l t u old new before after None = work p l u new after ≤ work p l t old before
IsNearer p l t u old new before after (Some c) = Unit {0}
