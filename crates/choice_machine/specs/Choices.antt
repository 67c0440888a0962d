-- A deterministic automaton as a table of rows, and when a machine is lost. This project's own; that an automaton for the union of several
-- languages runs the automata of all of them is Rabin and Scott's (Finite Automata and Their Decision Problems, 1959).
use Rattle.std.specs.Prelude.{◌≡◌, ℕ, ◌<◌, Bool, false, if◌then◌else◌, List, length, slice_get, All}
use Rattle.std.specs.Option.{option_map_or}
use Rattle.diagram_arena.specs.Table.{Word}
use Rattle.bit_machine.specs.Rules.{Rules, run}
use Rattle.choice_machine.specs.declared.rows.Row.{Row}

-- nothing that is read from this state on, before the bit at a place, is accepted
abbrev pub IsLost : {Q : Type 0} → Rules Q → ℕ → Q → Type 0
IsLost rules at q = (bits : List ℕ) (w : Word) → rules.accept (run rules at q bits w) ≡ false

-- an automaton as its callers see it: a row for each state, and how many bits it reads
pub record ChoiceState : Type 0 where
  pub rows : List Row
  pub places : ℕ

-- each row leads to rows, and there is a first one
pub record IsComplete (rows : List Row) : Type 0 where
  pub some : 0 < length rows
  pub within : All (λ r. (r.on_false < length rows) × (r.on_true < length rows)) rows

-- the state after a bit, by the row
abbrev pub next_of : Bool → Row → ℕ
next_of v r = if v then r.on_true else r.on_false

-- the automaton of these rows; a state without a row, which there is not, is the first
abbrev pub row_rules : List Row → Rules ℕ
row_rules rows = record {
  start = 0;
  step = λ at q v. option_map_or (next_of v) (slice_get rows q) 0;
  accept = λ q. option_map_or (λ r. r.accepts) (slice_get rows q) false;
}

abbrev pub rules_of : ChoiceState → Rules ℕ
rules_of m = row_rules m.rows
