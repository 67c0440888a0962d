-- One table, whose words stand at marked places. This project's own.
use Rattle.std.specs.Prelude.{ℕ, ◌+◌, ◌==◌, ◌&&◌, Bool, if◌then◌else◌, List, [], ◌∷◌, length, map, filter}
use Rattle.std.specs.List.{zip}
use Rattle.diagram_arena.specs.Table.{Word}
use Rattle.table_machine.specs.declared.states.State.{State}
use Rattle.table_machine.specs.declared.states.State.TheVariants.{Free, Lost}
use Rattle.table_machine.specs.declared.states.Reading.{Reading}
use Rattle.table_machine.specs.declared.states.Reading.TheVariants.{Passed, First, Next}

-- how many places are marked
abbrev pub marks_in : List Bool → ℕ
marks_in marks = length (filter (λ mark. mark) marks)

-- the word's bits at the marked places, in order
abbrev pub at_marks : List Bool → List ℕ → Word → List Bool
at_marks marks bits w = map (λ p. w p.0) (filter (λ p. p.1) (zip bits marks))

-- how the bit at a place is read, of `total` marked places, of which `rest` come after it, where so many words are listed
abbrev pub marked_reading : ℕ → ℕ → Bool → ℕ → Reading
marked_reading total count mark rest = if mark then (if rest + 1 == total then First 0 count rest else Next rest) else Passed

abbrev pub marked_readings : ℕ → ℕ → List Bool → List Reading
marked_readings total count [] = []
marked_readings total count (mark ∷ marks) = marked_reading total count mark (marks_in marks) ∷ marked_readings total count marks

-- the state at the start: with no place marked, a word is listed just where some is
abbrev pub first_state : ℕ → ℕ → State
first_state total count = if (total == 0) && (count == 0) then Lost else Free
