-- How a run is to end, before anything is printed (this project's own). Words of private steps.
use Rattle.std.specs.Prelude.{◌≡◌, ℕ, List, Option, Some, None}
use Rattle.learn_search.specs.declared.search.LastState.{LastState}
use Rattle.set_meaning.specs.declared.problems.Problem.{Problem}
use Rattle.solve_top.specs.declared.status.Status.{Status}
use Rattle.solve_top.specs.declared.status.Status.TheVariants as status
use Rattle.solve_top.specs.declared.ending.Ending.{Ending}
use Rattle.solve_top.specs.declared.ending.Ending.TheVariants as ending
use Rattle.solve_top.specs.declared.words.Task.{Task}
use Rattle.solve_top.specs.Lines.{usage_line, too_long_line, not_built_line, read_fault_line, nodes_lines, memory_lines}
use Rattle.solve_top.specs.Statuses.{StopsWith}
use Rattle.solve_top.specs.Answers.{IsOutText}
use Rattle.solve_top.specs.Roots.{IsRootText}
use Rattle.solve_top.specs.Texts.{IsAccepted, IsDoneBy, IsRefusedBy}

-- ---- what an ending says

-- the status of the ending
abbrev pub ending_status : Ending → Status
ending_status (ending.Answered bytes) = status.Done
ending_status (ending.Nodes last) = status.Nodes
ending_status ending.TooLong = status.File
ending_status (ending.Faulty line) = status.File
ending_status ending.NotBuilt = status.File
ending_status ending.Words = status.Words
ending_status ending.ReadFault = status.ReadFault
ending_status ending.Memory = status.Memory

-- what is printed
abbrev pub ending_text : Ending → List ℕ
ending_text (ending.Answered bytes) = bytes.items
ending_text (ending.Nodes last) = nodes_lines
ending_text ending.TooLong = too_long_line
ending_text (ending.Faulty line) = line.items
ending_text ending.NotBuilt = not_built_line
ending_text ending.Words = usage_line
ending_text ending.ReadFault = read_fault_line
ending_text ending.Memory = memory_lines

-- the state that an ending has
abbrev pub ending_stop : Ending → Option LastState
ending_stop (ending.Nodes last) = Some last
ending_stop (ending.Answered bytes) = None
ending_stop ending.TooLong = None
ending_stop (ending.Faulty line) = None
ending_stop ending.NotBuilt = None
ending_stop ending.Words = None
ending_stop ending.ReadFault = None
ending_stop ending.Memory = None

-- ---- what it means

-- what holds of a model's text where a run that is asked for this prints these bytes and ends with this status
abbrev pub EndsText : Task → List ℕ → Status → List ℕ → Type 0
EndsText task text status.Done out = IsDoneBy task text out
EndsText task text status.Nodes out = (out ≡ nodes_lines) × IsAccepted text
EndsText task text status.File out = IsRefusedBy task text out
EndsText task text status.Memory out = out ≡ memory_lines
EndsText task text _ out = ⊥

-- the same of the first answer of a problem
abbrev pub EndsSearch : Problem → Status → List ℕ → Type 0
EndsSearch p status.Done out = IsOutText p out
EndsSearch p status.Nodes out = out ≡ nodes_lines
EndsSearch p status.Memory out = out ≡ memory_lines
EndsSearch p _ out = ⊥

-- the same of the root family of a problem
abbrev pub EndsRoot : Problem → Status → List ℕ → Type 0
EndsRoot p status.Done out = IsRootText p out
EndsRoot p status.Nodes out = out ≡ nodes_lines
EndsRoot p status.Memory out = out ≡ memory_lines
EndsRoot p _ out = ⊥

-- a search was given up for want of nodes or of memory
abbrev pub IsGivenUp : Status → List ℕ → Option LastState → Type 0
IsGivenUp status.Nodes out stop = (out ≡ nodes_lines) × StopsWith status.Nodes stop
IsGivenUp status.Memory out stop = (out ≡ memory_lines) × (stop ≡ None)
IsGivenUp _ out stop = ⊥
