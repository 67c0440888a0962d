-- When a call has failed: by counts of faults, which the caller cannot raise (this project's own).
use Rattle.std.specs.Prelude.{◌≡◌, ℕ, ◌+◌, ◌-◌, ◌^◌, ◌≤◌, min, Bool}
use Rattle.std.specs.Bool.{OnTrue, OnFalse}

-- how often reading and writing have failed
pub record Faults : Type 0 where
  pub reads : ℕ
  pub writes : ℕ

-- The count rose: it is greater than before, or it stands at the last value of a counter of 64 bits.
abbrev pub Rose : ℕ → ℕ → Type 0
Rose before now = min (before + 1) (2 ^ 64 - 1) ≤ now

-- one more, as far as a counter of 64 bits tells
abbrev pub one_more : ℕ → ℕ
one_more n = min (n + 1) (2 ^ 64 - 1)

-- a call that reads, or one that writes, has failed once more
abbrev pub read_failed : Faults → Faults
read_failed f = record f { reads = one_more f.reads }

abbrev pub write_failed : Faults → Faults
write_failed f = record f { writes = one_more f.writes }

-- A call that reads fails only where the count of failed reads rose. Else it leaves both counts.
pub record ReadCause (old new : Faults) (failed : Bool) : Type 0 where
  pub rose : OnTrue failed (Rose old.reads new.reads)
  pub kept : OnFalse failed (new ≡ old)
  pub later : old.reads ≤ new.reads
  pub writes : new.writes ≡ old.writes

-- the same of a call that writes
pub record WriteCause (old new : Faults) (failed : Bool) : Type 0 where
  pub rose : OnTrue failed (Rose old.writes new.writes)
  pub kept : OnFalse failed (new ≡ old)
  pub later : old.writes ≤ new.writes
  pub reads : new.reads ≡ old.reads
