-- How the lists of the search are read: its changes and its learned boxes, oldest first in the code, newest first in the rules.
-- Source: this project's own.
use Rattle.std.specs.Prelude.{◌≡◌, ℕ, ◌<◌, true, List, [], map, reverse, length}
use Rattle.std.specs.List.{All}
use Rattle.search_rules.specs.Trail.{Reason, Decision, ByConstraint, ByBox, Entry, Stored}
use Rattle.search_rules.specs.State.{IsLegal}
use Rattle.plain_steps.specs.Sets.{has, family}
use Rattle.plain_steps.specs.Task.{Plain, problem_of}
use Rattle.plain_search.specs.declared.trail.Cause.{Cause}
use Rattle.plain_search.specs.declared.trail.Cause.TheVariants.{Decision as Chosen, Constraint, Learned}
use Rattle.plain_search.specs.declared.trail.Change.{Change}
use Rattle.plain_search.specs.declared.trail.Trail.{Trail}

-- the cause, the change and the list of changes as the rules read them
abbrev pub reason_of : Cause → Reason ℕ
reason_of Chosen = Decision
reason_of (Constraint c) = ByConstraint c
reason_of (Learned b) = ByBox (family b)

abbrev pub entry_of : Change → Entry ℕ
entry_of e = record { var = e.var; before = has e.before; level = e.level; reason = reason_of e.cause }

abbrev pub entries_of : List Change → List (Entry ℕ)
entries_of es = map entry_of (reverse es)

-- every box of the plain search is a learned one
abbrev pub stored_of : List (List ℕ) → Stored ℕ
stored_of b = record { sides = family b; learned = true }

abbrev pub boxes_of : List (List (List ℕ)) → List (Stored ℕ)
boxes_of bs = map stored_of (reverse bs)

-- a learned box has a side for each of `n` variables
abbrev pub IsSized : ℕ → Cause → Type 0
IsSized n Chosen = Unit {0}
IsSized n (Constraint c) = Unit {0}
IsSized n (Learned b) = length b ≡ n

-- the change is one of `n` variables
pub record Fits (n : ℕ) (e : Change) : Type 0 where
  pub known : e.var < n
  pub sized : IsSized n e.cause

-- the lists are a legal state of the search, before its first answer
pub record IsState (p : Plain) (boxes : List (List (List ℕ))) (t : Trail) : Type 0 where
  pub sets : length t.domains.items ≡ length p.sets
  pub fits : All (Fits (length p.sets)) t.changes.items
  pub sides : All (λ b. length b ≡ length p.sets) boxes
  pub legal : IsLegal (problem_of p) [] (boxes_of boxes) (entries_of t.changes.items) (family t.domains.items)
