-- A writer of a refutation log as its callers see it. This project's own.
use Rattle.std.specs.Prelude.{ℕ, ◌+◌, ◌-◌, ◌^◌, min, Bool, false, true}

-- whether lines are written, how many boxes were learned, as far as a counter of 64 bits tells, and the numbers of the next node and of
-- the next box
pub record WriterState : Type 0 where
  pub on : Bool
  pub learned : ℕ
  pub next_node : ℕ
  pub next_box : ℕ

-- the writer of no log, to which no box was told
abbrev pub off : WriterState
off = record { on = false; learned = 0; next_node = 2; next_box = 0 }

-- the writer of a log that has its first line alone
abbrev pub begun : WriterState
begun = record { on = true; learned = 0; next_node = 2; next_box = 0 }

-- one box more was learned
abbrev pub one_learned : WriterState → WriterState
one_learned w = record w { learned = min (w.learned + 1) (2 ^ 64 - 1) }

-- one box more was written
abbrev pub one_box : WriterState → WriterState
one_box w = record w { next_box = w.next_box + 1 }

-- so many nodes more were written
abbrev pub more_nodes : ℕ → WriterState → WriterState
more_nodes count w = record w { next_node = w.next_node + count }
