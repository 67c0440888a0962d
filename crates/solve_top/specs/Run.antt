-- What a run leaves behind, over every desk (this project's own).
use Rattle.std.specs.Prelude.{◌≡◌, ◌<◌, ◌⊎◌, ℕ, List, [], ◌∷◌, ◌++◌, length, take, IfSome, IsSomeAnd, Option, Some, None}
use Rattle.std.specs.Option.{option_map}
use Rattle.desk.specs.declared.outside.Asked.{Asked}
use Rattle.desk.specs.declared.outside.Asked.TheVariants as asked
use Rattle.desk.specs.declared.outside.Slot.TheVariants as slot
use Rattle.desk.specs.declared.outside.To.TheVariants as to
use Rattle.desk.specs.State.{State, written}
use Rattle.desk.specs.Causes.{Faults, Rose}
use Rattle.desk.specs.Texts.{WritesFront}
use Rattle.solve_top.specs.declared.status.Status.{Status}
use Rattle.solve_top.specs.declared.status.Status.TheVariants as status
use Rattle.solve_top.specs.declared.words.Task.{Task}
use Rattle.solve_top.specs.Texts.{IsAccepted, IsDoneBy, IsRefusedBy}
use Rattle.solve_top.specs.Lines.{usage_line, read_fault_line, nodes_lines, memory_lines}

-- ---- the outside

-- where the desk tells its files there is one of this name, and this holds of its bytes
abbrev pub OfFile : List ℕ → State → (List ℕ → Type 0) → Type 0
OfFile name s P = IfSome s.files (λ find. IsSomeAnd (find name) P)

-- Of several calls together: a front of these begin calls was asked, Out grew by these bytes, and the files are the
-- same.
pub record Leaves (begins : List (Asked × List ℕ)) (bytes : List ℕ) (old new : State) : Type 0 where
  pub asked : (k : ℕ) × (new.asked ≡ old.asked ++ take k begins)
  pub out : new.out ≡ option_map (λ xs. xs ++ bytes) old.out
  pub files : new.files ≡ old.files

-- At most the model was asked for, and no log was begun.
pub record LeavesModel (name bytes : List ℕ) (old new : State) : Type 0 where
  pub leaves : Leaves ((asked.Read slot.Model, name) ∷ []) bytes old new
  pub log : new.log ≡ old.log
  pub log_read : new.log_read ≡ old.log_read

-- The counts of faults before a run and after it, by its status: no call of the desk failed but where the status says
-- so.
abbrev pub Causes : Status → Faults → Faults → Type 0
Causes status.ReadFault f g = Rose f.reads g.reads × (g.writes ≡ f.writes)
Causes status.WriteFault f g = Rose f.writes g.writes × ((g.reads ≡ f.reads) ⊎ Rose f.reads g.reads)
Causes status.Done f g = g ≡ f
Causes status.Nodes f g = g ≡ f
Causes status.Words f g = g ≡ f
Causes status.File f g = g ≡ f
Causes status.Memory f g = g ≡ f

-- ---- a whole run

-- what holds of the model's file where a run that is asked for this prints these bytes and ends with this status. The
-- counts of failed reads are those before the run and after it.
abbrev pub Ends : Task → List ℕ → State → ℕ → ℕ → Status → List ℕ → Type 0
Ends task name old before now status.Done out = (now ≡ before) × OfFile name old (λ text. IsDoneBy task text out)
Ends task name old before now status.Nodes out = (now ≡ before) × (out ≡ nodes_lines) × OfFile name old IsAccepted
Ends task name old before now status.File out = (now ≡ before) × OfFile name old (λ text. IsRefusedBy task text out)
Ends task name old before now status.ReadFault out = Rose before now × (out ≡ read_fault_line)
Ends task name old before now status.Memory out = (now ≡ before) × (out ≡ memory_lines)
Ends task name old before now _ out = ⊥

-- Writing has failed: what was printed is a front of what another status would have printed.
abbrev pub IsCutShort : Task → List ℕ → State → State → Faults → Faults → Type 0
IsCutShort task name old new f g =
    Rose f.writes g.writes × ((s : Status) × ((out : List ℕ)
    × (Ends task name old f.reads g.reads s out × ((n : ℕ) × ((n < length out) × LeavesModel name (take n out) old new)))))

-- What a run means, by what the words ask for, if it is anything, and by its status.
-- Where they ask for nothing the usage line is printed, unless memory was refused, and nothing else is touched.
abbrev pub RunMeans : Option (Task × List ℕ) → State → State → Faults → Faults → Status → Type 0
RunMeans None old new f g status.Words = new ≡ written to.Out usage_line old
RunMeans None old new f g status.Memory = new ≡ written to.Out memory_lines old
RunMeans None old new f g status.WriteFault =
    Rose f.writes g.writes × (WritesFront to.Out usage_line old new ⊎ WritesFront to.Out memory_lines old new)
RunMeans None old new f g _ = ⊥
RunMeans (Some (task, name)) old new f g status.WriteFault = IsCutShort task name old new f g
RunMeans (Some (task, name)) old new f g s = (out : List ℕ) × (Ends task name old f.reads g.reads s out × LeavesModel name out old new)
