-- The two steps of a run (this project's own): words of private steps.
use Rattle.std.specs.Prelude.{◌≡◌, ℕ, List, [], Option, Some, None}
use Rattle.desk.specs.declared.outside.To.TheVariants as to
use Rattle.desk.specs.State.{State, written}
use Rattle.desk.specs.Causes.{Faults, Rose}
use Rattle.desk.specs.Texts.{WritesFront}
use Rattle.solve_top.specs.declared.status.Status.{Status}
use Rattle.solve_top.specs.declared.status.Status.TheVariants as status
use Rattle.solve_top.specs.declared.words.Task.{Task}
use Rattle.solve_top.specs.Lines.{usage_line, memory_lines}
use Rattle.solve_top.specs.Run.{LeavesModel, Causes, Ends}

-- The model's file was read, or not, and the run is to end so. Nothing was printed yet.
pub record Reads (task : Task) (name : List ℕ) (old new : State) (f g : Faults) (s : Status) (out : List ℕ) : Type 0 where
  pub leaves : LeavesModel name [] old new
  pub ends : Ends task name old f.reads g.reads s out
  pub causes : Causes s f g

-- what is printed where the words ask for nothing
abbrev pub EndsWords : Status → List ℕ → Type 0
EndsWords status.Words out = out ≡ usage_line
EndsWords status.Memory out = out ≡ memory_lines
EndsWords _ out = ⊥

-- This is to be printed, and nothing was touched.
pub record RefusesWords (old new : State) (f g : Faults) (s : Status) (out : List ℕ) : Type 0 where
  pub ends : EndsWords s out
  pub state : new ≡ old
  pub faults : g ≡ f

-- the first step, by what the words ask for, if it is anything
abbrev pub Begins : Option (Task × List ℕ) → State → State → Faults → Faults → Status → List ℕ → Type 0
Begins None = RefusesWords
Begins (Some (task, name)) = Reads task name

-- Only a front of the bytes was printed, and then writing has failed.
pub record PrintsFront (out : List ℕ) (old new : State) (f g : Faults) : Type 0 where
  pub rose : Rose f.writes g.writes
  pub front : WritesFront to.Out out old new
  pub reads : g.reads ≡ f.reads

-- The bytes were printed, and the status is the one that they belong to.
pub record PrintsAll (s : Status) (out : List ℕ) (old new : State) (f g : Faults) (result : Status) : Type 0 where
  pub status : result ≡ s
  pub state : new ≡ written to.Out out old
  pub faults : g ≡ f

-- the second step
abbrev pub Prints : Status → List ℕ → State → State → Faults → Faults → Status → Type 0
Prints s out old new f g status.WriteFault = PrintsFront out old new f g
Prints s out old new f g result = PrintsAll s out old new f g result
