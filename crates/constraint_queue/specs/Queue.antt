-- A queue of constraints as its callers see it. This project's own, after the queues of propagators of constraint solvers.
use Rattle.std.specs.Prelude.{◌≡◌, ◌≢◌, ℕ, ◌+◌, ◌↔◌, ◌⊎◌, Bool, true, false, List, [], length, Option, Some, Contains, slice_set, slice_index_or, count_by}
use Rattle.set_meaning.specs.declared.problems.VarId.{VarId}
use Rattle.set_meaning.specs.declared.problems.ConId.{ConId}

-- for each constraint, by number, the variables that it speaks of, and whether it has a flag
pub record QueueState : Type 0 where
  pub scopes : List (List VarId)
  pub flags : List Bool

-- constraint number c has a flag
abbrev pub HasFlag : QueueState → ℕ → Type 0
HasFlag q c = slice_index_or q.flags c false ≡ true

-- constraint number c speaks of the variable
abbrev pub Reads : QueueState → ℕ → VarId → Type 0
Reads q c v = Contains (slice_index_or q.scopes c []) v

-- how many constraints have a flag
abbrev pub flag_count : QueueState → ℕ
flag_count q = count_by (λ b. b) q.flags

-- constraint number c had a flag, which is gone; nothing else has changed
pub record IsTakenFrom (old : QueueState) (c : ConId) (new : QueueState) : Type 0 where
  pub had : HasFlag old c.0
  pub new_is : new ≡ record old { flags = slice_set old.flags c.0 false }
  pub fewer : flag_count new + 1 ≡ flag_count old

-- no constraint has a flag
abbrev pub HasNoFlags : QueueState → Type 0
HasNoFlags q = (c : ℕ) → HasFlag q c → ⊥

-- the constraints that have a flag are those that had one and those that read the variable, but the one that is named
pub record HasFlaggedReaders (old new : QueueState) (v : VarId) (but : Option ConId) : Type 0 where
  pub scopes : new.scopes ≡ old.scopes
  pub long : length new.flags ≡ length old.flags
  pub flags : (c : ConId) → HasFlag new c.0 ↔ (HasFlag old c.0 ⊎ (Reads old c.0 v × (but ≢ Some c)))
