-- What propagation begins with and leaves: constraints without flags, a trail with more narrowings, and a quiet family
-- or a conflict.
-- Source: this project's own (propagation to a fixpoint, with domains in place of literals; after Hawkins, Lagoon and
-- Stuckey, JAIR 2005).
use Rattle.std.specs.Prelude.{◌≡◌, ℕ, ◌<◌, ◌≤◌, Bool, true, false, List, ◌++◌, length}
use Rattle.set_meaning.specs.declared.kinds.Value.{Value}
use Rattle.set_meaning.specs.declared.problems.Problem.{Problem}
use Rattle.bit_layout.specs.Order.{LayoutState}
use Rattle.diagram_arena.specs.declared.nodes.Ref.{Ref}
use Rattle.diagram_arena.specs.Table.{Table}
use Rattle.search_rules.specs.Family.{AllLie}
use Rattle.search_rules.specs.Problem.{IsLeft}
use Rattle.search_rules.specs.Box.{IsBoxSame}
use Rattle.search_rules.specs.Trail.{IsStored}
use Rattle.search_rules.specs.Walk.{IsConflictBox}
use Rattle.exact_steps.specs.Domains.{family}
use Rattle.problem_rules.specs.Posed.{problem_of}
use Rattle.propagators.specs.Compiled.{CompiledState}
use Rattle.constraint_queue.specs.Queue.{QueueState, HasFlag, HasNoFlags}
use Rattle.domain_trail.specs.declared.entries.Entry.{Entry}
use Rattle.domain_trail.specs.Trail.{TrailState}
use Rattle.box_clauses.specs.declared.store.StoredBox.{StoredBox}
use Rattle.search_state.specs.Readings.{boxes_of, IsTrailOf, IsLegalState}
use Rattle.search_state.specs.Turns.{measure_of}
use Rattle.running_boxes.specs.Running.{IsConflictOf, box_of_conflict}
use Rattle.propagation.specs.declared.propagating.Found.{Found}
use Rattle.propagation.specs.declared.propagating.Found.TheVariants as found

-- ---- the queue

-- the queue is one of the compiled constraints, with a flag for each
pub record IsQueueOf (k : CompiledState) (q : QueueState) : Type 0 where
  pub scopes : q.scopes ≡ k.scopes
  pub long : length q.flags ≡ length k.scopes

-- the step of constraint number c leaves the family as it is, and it is not false where it has no variables
pub record IsSettledAt (p : Problem) (f : ℕ → Value → Bool) (c : ℕ) : Type 0 where
  pub stays : IsLeft (problem_of p) c f
  pub constant : ((v : ℕ) → (problem_of p).scope c v ≡ false) → (a : ℕ → Value) × (problem_of p).holds c a

-- each constraint without a flag is settled
abbrev pub AreSettled : Problem → (ℕ → Value → Bool) → QueueState → Type 0
AreSettled p f q = (c : ℕ) → c < length p.constraints → (HasFlag q c → ⊥) → IsSettledAt p f c

-- ---- the trail

-- The trail `old` of the table t has become the trail `new` of the table u by narrowings at its level. Where the state
-- was legal it is so still, and the measure is not greater.
pub record HasNarrowed (p : Problem) (l : LayoutState) (t u : Table) (stored : List StoredBox)
    (old new : TrailState) : Type 0 where
  pub trail : IsTrailOf p l u stored new
  pub level : new.level ≡ old.level
  pub older : (added : List Entry) × (new.entries ≡ old.entries ++ added)
  pub smaller : AllLie (family l u new.domains) (family l t old.domains)
  pub legal : (answers : List (ℕ → Value)) → IsLegalState p l t answers stored old
      → IsLegalState p l u answers stored new
  pub nearer : (answers : List (ℕ → Value)) → IsLegalState p l t answers stored old
      → measure_of p l u stored new ≤ measure_of p l t stored old

-- ---- the end

-- some values of the family satisfy constraint number c, and its step leaves the family as it is
pub record IsQuietAt (p : Problem) (f : ℕ → Value → Bool) (c : ℕ) : Type 0 where
  pub stays : IsLeft (problem_of p) c f
  pub values : ℕ → Value
  pub inside : (v : ℕ) → (problem_of p).scope c v ≡ true → f v (values v) ≡ true
  pub holds : (problem_of p).holds c values

-- every constraint is quiet, and every stored box, learned or not, leaves the family of the domains as it is
pub record AreAllQuiet (p : Problem) (l : LayoutState) (t : Table) (stored : List StoredBox)
    (domains : List Ref) : Type 0 where
  pub constraints : (c : ℕ) → c < length p.constraints → IsQuietAt p (family l t domains) c
  pub boxes : (b : ℕ → Value → Bool) → IsStored (boxes_of l t stored) b → IsBoxSame b (family l t domains)

-- everything is quiet and no constraint has a flag; or this is a conflict of the domains
abbrev pub IsFound : Problem → LayoutState → Table → List StoredBox → List Ref → QueueState → Found → Type 0
IsFound p l t stored domains q found.Quiet = AreAllQuiet p l t stored domains × HasNoFlags q
IsFound p l t stored domains q (found.Conflict c) = IsConflictOf p stored c
    × IsConflictBox (problem_of p) (boxes_of l t stored) (family l t domains)
    (box_of_conflict p l t stored domains c)
