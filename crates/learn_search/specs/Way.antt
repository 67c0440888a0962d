-- The way to the root family: domains that steps lead to, and the queue of constraints on the way. Words of private helpers.
use Rattle.std.specs.Prelude.{◌≡◌, ◌≢◌, ℕ, ◌+◌, ◌*◌, ◌<◌, ◌≤◌, Bool, true, false, List, [], ◌∷◌, Some, slice_get, slice_set, length, All, Contains}
use Rattle.set_meaning.specs.declared.kinds.Value.{Value}
use Rattle.set_meaning.specs.declared.problems.VarId.{VarId}
use Rattle.set_meaning.specs.declared.problems.Bounds.{Bounds}
use Rattle.set_meaning.specs.declared.problems.Problem.{Problem}
use Rattle.bit_layout.specs.Order.{LayoutState}
use Rattle.diagram_arena.specs.declared.nodes.Ref.{Ref}
use Rattle.diagram_arena.specs.Table.{Table, IsLive}
use Rattle.diagram_view.specs.Residuals.{CountsResiduals}
use Rattle.search_rules.specs.Problem.{Steps, IsLeft, IsRootRefuted}
use Rattle.search_rules.specs.Measure.{total}
use Rattle.exact_steps.specs.Domains.{variable, values_in, AreDomains, family}
use Rattle.exact_steps.specs.Steps.{narrowed_in}
use Rattle.value_bounds.specs.Bounds.{AreBoundsOf}
use Rattle.propagators.specs.Compiled.{CompiledState}
use Rattle.constraint_queue.specs.Queue.{QueueState, HasFlag, Reads, flag_count}
use Rattle.problem_rules.specs.Posed.{problem_of}
use Rattle.learn_search.specs.declared.narrowing.Taken.{Taken}
use Rattle.learn_search.specs.declared.narrowing.Taken.TheVariants as taken

-- steps of the problem's constraints lead from the initial values to these domains
pub record IsOnWay (p : Problem) (l : LayoutState) (t : Table) (domains : List Ref) : Type 0 where
  pub domains_are : AreDomains l t domains
  pub constraints : List ℕ
  pub steps : Steps (problem_of p) (problem_of p).initial constraints (family l t domains)

-- how many values are left
abbrev pub left : Problem → LayoutState → Table → List Ref → ℕ
left p l t domains = total (problem_of p) (family l t domains)

-- some values of the family satisfy constraint number c, and its step leaves the family as it is
pub record IsQuietAt (p : Problem) (f : ℕ → Value → Bool) (c : ℕ) : Type 0 where
  pub stays : IsLeft (problem_of p) c f
  pub values : ℕ → Value
  pub inside : (u : ℕ) → (problem_of p).scope c u ≡ true → f u (values u) ≡ true
  pub holds : (problem_of p).holds c values

-- the first constraints, so many, are quiet
abbrev pub AreQuiet : Problem → (ℕ → Value → Bool) → ℕ → Type 0
AreQuiet p f count = (c : ℕ) → c < count → IsQuietAt p f c

-- the list with each of the refs at its place
abbrev pub put_each : List (VarId × Ref) → List Ref → List Ref
put_each [] domains = domains
put_each ((v, r) ∷ kept) domains = put_each kept (slice_set domains v.0 r)

-- the domains are the same, and mean what they meant
pub record IsUnchanged (p : Problem) (l : LayoutState) (t u : Table) (old new : List Ref) : Type 0 where
  pub same : new ≡ old
  pub way : IsOnWay p l u new
  pub values : family l u new ≡ family l t old

-- the step narrowed the variables of the list and no others, and leaves the domains that it led to as they are
pub record IsNarrowing (p : Problem) (l : LayoutState) (t u : Table) (c : ℕ) (old new : List Ref) (kept : List (VarId × Ref)) : Type 0 where
  pub way : IsOnWay p l u new
  pub fewer : left p l u new < left p l t old
  pub quiet : IsQuietAt p (family l u new) c
  pub live : All (λ e. IsLive u e.1) kept
  pub others : (v : ℕ) → (Contains (narrowed_in kept) (variable v) → ⊥) → family l u new v ≡ family l t old v

-- what the step of constraint number c does
abbrev pub IsTaken : Problem → LayoutState → Table → Table → ℕ → List Ref → List Ref → Taken → Type 0
IsTaken p l t u c old new taken.Quiet = IsUnchanged p l t u old new × IsQuietAt p (family l u new) c
IsTaken p l t u c old new (taken.Narrowed kept) = IsNarrowing p l t u c old new kept.items
IsTaken p l t u c old new taken.Violated = IsRootRefuted (problem_of p)

-- ---- the queue

-- the queue is one of the compiled constraints, with a flag for each
pub record IsQueueOf (p : Problem) (k : CompiledState) (q : QueueState) : Type 0 where
  pub scopes : q.scopes ≡ k.scopes
  pub long : length q.flags ≡ length p.constraints

-- each constraint without a flag, but for number c, is quiet
abbrev pub AreSettledBut : Problem → (ℕ → Value → Bool) → QueueState → ℕ → Type 0
AreSettledBut p f q c = (d : ℕ) → d < length p.constraints → d ≢ c → (HasFlag q d → ⊥) → IsQuietAt p f d

-- each constraint without a flag is quiet
abbrev pub AreSettled : Problem → (ℕ → Value → Bool) → QueueState → Type 0
AreSettled p f q = (d : ℕ) → d < length p.constraints → (HasFlag q d → ⊥) → IsQuietAt p f d

-- the constraints that read a variable of the list have flags, but for number c, and those that had one still have it
pub record AreStirred (old new : QueueState) (c : ℕ) (kept : List (VarId × Ref)) : Type 0 where
  pub scopes : new.scopes ≡ old.scopes
  pub long : length new.flags ≡ length old.flags
  pub still : (d : ℕ) → HasFlag old d → HasFlag new d
  pub readers : (v : VarId) (d : ℕ) → Contains (narrowed_in kept) v → Reads old d v → d ≢ c → HasFlag new d

-- what is left to do: fewer values come first, then fewer flags
abbrev pub work : Problem → LayoutState → Table → List Ref → QueueState → ℕ
work p l t domains q = left p l t domains * (length p.constraints + 1) + flag_count q

-- what the turn of a constraint leaves that has lost its flag: the domains on the way, every constraint without a flag quiet, and no more work
pub record IsTurned (p : Problem) (l : LayoutState) (t u : Table) (k : CompiledState) (old new : List Ref) (before after : QueueState) : Type 0 where
  pub way : IsOnWay p l u new
  pub queue : IsQueueOf p k after
  pub settled : AreSettled p (family l u new) after
  pub nearer : work p l u new after ≤ work p l t old before

-- the turn of a constraint, or that the root is refuted
abbrev pub IsTurn : Problem → LayoutState → Table → Table → CompiledState → List Ref → List Ref → QueueState → QueueState → Bool → Type 0
IsTurn p l t u k old new before after true = IsTurned p l t u k old new before after
IsTurn p l t u k old new before after false = IsRootRefuted (problem_of p)

-- the domains are those of the root family, or the root is refuted
pub record IsRootFamily (p : Problem) (l : LayoutState) (t : Table) (domains : List Ref) : Type 0 where
  pub way : IsOnWay p l t domains
  pub quiet : AreQuiet p (family l t domains) (length p.constraints)

abbrev pub IsFixed : Problem → LayoutState → Table → List Ref → Bool → Type 0
IsFixed p l t domains true = IsRootFamily p l t domains
IsFixed p l t domains false = IsRootRefuted (problem_of p)

-- the bounds and the size of the values of a domain
abbrev pub IsRowAt : LayoutState → Table → ℕ → Ref → Bounds × ℕ → Type 0
IsRowAt l t v r row = AreBoundsOf (values_in l t (variable v) r) row.0 × CountsResiduals t r row.1

-- a row for each of the first domains, so many
pub record AreRowsAt (l : LayoutState) (t : Table) (domains : List Ref) (count : ℕ) (rows : List (Bounds × ℕ)) : Type 0 where
  pub long : length rows ≡ count
  pub each : (v : ℕ) (row : Bounds × ℕ) → slice_get rows v ≡ Some row → (r : Ref) × (slice_get domains v ≡ Some r) × IsRowAt l t v r row
