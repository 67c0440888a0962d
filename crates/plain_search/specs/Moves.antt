-- What the parts of a turn say of the trail and the boxes.
-- Source: this project's own.
use Rattle.std.specs.Prelude.{◌≡◌, ◌≢◌, ℕ, ◌<◌, ◌≤◌, Bool, true, List, [], ◌∷◌, ◌++◌, length, slice_index, ◌⊎◌}
use Rattle.search_rules.specs.Family.{Lies, put, without}
use Rattle.search_rules.specs.Problem.{IsSolution, IsSingle}
use Rattle.search_rules.specs.Trail.{Decision, ByBox, Entry, Stored, IsPart, IsReason, undo, back, cut, narrowing_entry}
use Rattle.search_rules.specs.Walk.{IsConflictBox, SomeMatters, OnlyMatters, Stops, Walk, IsNewestOther, IsRootBox}
use Rattle.search_rules.specs.Measure.{measure}
use Rattle.plain_steps.specs.Sets.{has, family}
use Rattle.plain_steps.specs.Task.{Plain, problem_of}
use Rattle.plain_search.specs.State.{reason_of, entries_of, boxes_of, IsSized, IsState}
use Rattle.plain_search.specs.declared.trail.Trail.{Trail}
use Rattle.plain_search.specs.declared.trail.Undone.{Undone}
use Rattle.plain_search.specs.declared.trail.Cause.{Cause}
use Rattle.plain_search.specs.declared.standing.Standing.{Standing}
use Rattle.plain_search.specs.declared.standing.Standing.TheVariants.{Nowhere, One, Several}
use Rattle.plain_search.specs.declared.walking.Derived.{Derived}
use Rattle.plain_search.specs.declared.finding.Found.{Found}
use Rattle.plain_search.specs.declared.finding.Found.TheVariants.{Conflict, Narrowing, Quiet}
use Rattle.plain_search.specs.declared.turn.Turn.{Turn}
use Rattle.plain_search.specs.declared.turn.Turn.TheVariants.{On, Solved, Refuted}

-- the newest entry is taken from the trail, and the set of its variable from before is put back
pub record IsUndone (from to : Trail) (u : Undone) : Type 0 where
  pub entry : Entry ℕ
  pub newest : entries_of from.changes.items ≡ entry ∷ entries_of to.changes.items
  pub var : entry.var ≡ u.var
  pub reason : entry.reason ≡ reason_of u.cause
  pub kept : family from.domains.items u.var ≡ has u.kept
  pub family_is : family to.domains.items ≡ undo (family from.domains.items) entry

-- no entry matters to the box
abbrev pub NoneMatters : List (Entry ℕ) → (ℕ → ℕ → Bool) → Type 0
NoneMatters [] b = Unit {0}
NoneMatters (e ∷ es) b = Lies e.before (b e.var) × NoneMatters es b

-- no entry above level `l` matters
abbrev pub NoneAbove : List (Entry ℕ) → (ℕ → ℕ → Bool) → ℕ → Type 0
NoneAbove [] b l = Unit {0}
NoneAbove (e ∷ es) b l = (Lies e.before (b e.var) ⊎ (e.level ≤ l)) × NoneAbove es b l

-- entries of two variables matter at level `l`, and none above it
pub record AreSeveral (es : List (Entry ℕ)) (b : ℕ → ℕ → Bool) (l : ℕ) : Type 0 where
  pub one : ℕ
  pub other : ℕ
  pub apart : one ≢ other
  pub one_matters : SomeMatters es b l one
  pub other_matters : SomeMatters es b l other
  pub highest : NoneAbove es b l

-- the highest level at which an entry matters, and whether the entries that matter there are of one variable
abbrev pub IsStanding : List (Entry ℕ) → (ℕ → ℕ → Bool) → Standing → Type 0
IsStanding es b Nowhere = NoneMatters es b
IsStanding es b (One l v) = SomeMatters es b l v × OnlyMatters es b l v
IsStanding es b (Several l) = AreSeveral es b l

-- The walk from the conflict's box `first` stops at the trail `to` with these sides, for this variable: `Derives`, without the
-- conflict.
pub record IsStopped (p : Plain) (from : Trail) (first : List (List ℕ)) (to : Trail) (d : Derived) : Type 0 where
  pub long : length d.sides.items ≡ length p.sets
  pub level : ℕ
  pub walk : Walk (problem_of p) (entries_of from.changes.items) (family from.domains.items) (family first)
      (entries_of to.changes.items) (family to.domains.items) (family d.sides.items)
  pub stops : Stops (entries_of to.changes.items) (family d.sides.items) level d.var

-- the walk from the conflict's box `first` passes the first entry: `DerivesAtRoot`, without the conflict
pub record IsPassed (p : Plain) (from : Trail) (first : List (List ℕ)) : Type 0 where
  pub reached : ℕ → ℕ → Bool
  pub last : ℕ → ℕ → Bool
  pub walk : Walk (problem_of p) (entries_of from.changes.items) (family from.domains.items) (family first) [] reached last

-- From `from` the search went back to the level of the newest other entry that matters to the derived box, learned the box
-- and narrowed the variable by it.
pub record IsTakenUp (from : Trail) (d : Derived) (boxes : List (List (List ℕ))) (to : Trail) (learned : List (List (List ℕ))) : Type 0 where
  pub level : ℕ
  pub newest : IsNewestOther (entries_of from.changes.items) (family d.sides.items) d.var level
  pub entries : entries_of to.changes.items
      ≡ narrowing_entry (cut level (entries_of from.changes.items)) (back level (entries_of from.changes.items) (family from.domains.items))
      d.var (ByBox (family d.sides.items)) ∷ cut level (entries_of from.changes.items)
  pub family_is : family to.domains.items
      ≡ put (back level (entries_of from.changes.items) (family from.domains.items)) d.var
      (without (back level (entries_of from.changes.items) (family from.domains.items) d.var) (family d.sides.items d.var))
  pub sets : length to.domains.items ≡ length from.domains.items
  pub added : learned ≡ boxes ++ d.sides.items ∷ []

-- a constraint's step or a box's step leaves the variable this non-empty proper part of its set
pub record IsNarrowing (p : Plain) (boxes : List (Stored ℕ)) (f : ℕ → ℕ → Bool) (v : ℕ) (s : List ℕ) (cause : Cause) : Type 0 where
  pub known : v < length p.sets
  pub part : IsPart (has s) (f v)
  pub step : reason_of cause ≡ Decision → ⊥
  pub reason : IsReason (problem_of p) boxes (reason_of cause) f v (has s)
  pub sized : IsSized (length p.sets) cause

-- what was found in the family: a conflict, a narrowing, or neither, where `quiet` holds
abbrev pub IsFound : Plain → List (Stored ℕ) → (ℕ → ℕ → Bool) → Type 0 → Found → Type 0
IsFound p boxes f quiet (Conflict b) = (length b.items ≡ length p.sets) × IsConflictBox (problem_of p) boxes f (family b.items)
IsFound p boxes f quiet (Narrowing v s cause) = IsNarrowing p boxes f v s cause
IsFound p boxes f quiet Quiet = quiet

-- the set has no two values
abbrev pub IsLone : List ℕ → Type 0
IsLone s = (x y : ℕ) → has s x ≡ true → has s y ≡ true → x ≡ y

-- the set has two values
pub record HasTwo (s : List ℕ) : Type 0 where
  pub one : ℕ
  pub other : ℕ
  pub one_there : has s one ≡ true
  pub other_there : has s other ≡ true
  pub apart : one ≢ other

pub record IsLeast (s : List ℕ) (x : ℕ) : Type 0 where
  pub there : has s x ≡ true
  pub least : (y : ℕ) → has s y ≡ true → x ≤ y

-- no assignment is a solution
abbrev pub HasNoSolution : Plain → Type 0
HasNoSolution p = (a : ℕ → ℕ) → IsSolution (problem_of p) a → ⊥

-- the values of the variables, in order, are a solution
pub record AreSolution (p : Plain) (values : List ℕ) : Type 0 where
  pub one_each : length values ≡ length p.sets
  pub solve : IsSolution (problem_of p) (λ v. slice_index values v)

-- over these boxes the walk from a conflict of some trail passes the first entry
pub record IsDone (p : Plain) (boxes : List (List (List ℕ))) : Type 0 where
  pub box : ℕ → ℕ → Bool
  pub root : IsRootBox (problem_of p) (boxes_of boxes) box

-- no box is learned, or one
abbrev pub GrowByOne : List (List (List ℕ)) → List (List (List ℕ)) → Type 0
GrowByOne boxes learned = (learned ≡ boxes) ⊎ ((b : List (List ℕ)) × (learned ≡ boxes ++ b ∷ []))

-- the search goes on in a legal state with a smaller measure
pub record IsFurther (p : Plain) (before : Trail) (boxes : List (List (List ℕ))) (after : Trail) : Type 0 where
  pub state : IsState p boxes after
  pub falls : measure (problem_of p) (entries_of after.changes.items) (family after.domains.items)
      < measure (problem_of p) (entries_of before.changes.items) (family before.domains.items)

-- the search has come to single values, which are a solution
pub record IsSolved (p : Plain) (at : Trail) (values : List ℕ) : Type 0 where
  pub solution : AreSolution p values
  pub single : IsSingle (problem_of p) (family at.domains.items) (λ v. slice_index values v)

-- there is no solution, and a walk has shown it
pub record IsRefutedBy (p : Plain) (boxes : List (List (List ℕ))) : Type 0 where
  pub none : HasNoSolution p
  pub done : IsDone p boxes

-- where a turn leaves the search that was at `before` with the boxes `boxes`
abbrev pub IsTurned : Plain → List (List (List ℕ)) → Trail → List (List (List ℕ)) → Trail → Turn → Type 0
IsTurned p boxes before learned after On = IsFurther p before learned after × GrowByOne boxes learned
IsTurned p boxes before learned after (Solved values) = IsSolved p before values.items × (learned ≡ boxes)
IsTurned p boxes before learned after Refuted = IsRefutedBy p boxes × (learned ≡ boxes)
