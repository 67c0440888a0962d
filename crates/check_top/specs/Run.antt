-- What a check leaves behind, over every desk (this project's own).
use Rattle.std.specs.Prelude.{◌≡◌, ◌<◌, ◌⊎◌, ℕ, List, [], ◌∷◌, ◌++◌, length, take, IfSome, IsSomeAnd, Option, Some, None}
use Rattle.std.specs.Option.{option_map}
use Rattle.set_meaning.specs.declared.problems.Problem.{Problem}
use Rattle.desk.specs.declared.outside.Asked.{Asked}
use Rattle.desk.specs.declared.outside.Asked.TheVariants as asked
use Rattle.desk.specs.declared.outside.Slot.TheVariants as slot
use Rattle.desk.specs.declared.outside.To.TheVariants as to
use Rattle.desk.specs.State.{State, written}
use Rattle.desk.specs.Causes.{Faults, Rose}
use Rattle.desk.specs.Texts.{WritesFront}
use Rattle.check_top.specs.declared.running.CheckStatus.{CheckStatus}
use Rattle.check_top.specs.declared.running.CheckStatus.TheVariants as status
use Rattle.check_top.specs.Words.{Command}
use Rattle.check_top.specs.Files.{IsAcceptedFile, IsRefusedFile}
use Rattle.check_top.specs.Printed.{usage_line, read_fault_line, memory_line}
use Rattle.check_top.specs.Endings.{IsAcceptedBy, IsRefusedBy}

-- ---- the outside

-- where the desk tells its files there is one of this name, and this holds of its bytes
abbrev pub OfFile : List ℕ → State → (List ℕ → Type 0) → Type 0
OfFile name s P = IfSome s.files (λ find. IsSomeAnd (find name) P)

-- the model's file has a problem, and this holds of it and of the bytes of the log's file
pub record IsOf (P : Problem → List ℕ → Type 0) (text bytes : List ℕ) : Type 0 where
  pub problem : Problem
  pub read : IsAcceptedFile text problem
  pub holds : P problem bytes

-- where the desk tells its files there are both, and this holds of the model's problem and the log's bytes
abbrev pub OfFiles : Command → State → (Problem → List ℕ → Type 0) → Type 0
OfFiles names s P = IfSome s.files (λ find. IsSomeAnd (find names.0) (λ text. IsSomeAnd (find names.1) (λ bytes. IsOf P text bytes)))

-- the begin calls of a check, in their order
abbrev pub begins_of : Command → List (Asked × List ℕ)
begins_of names = (asked.Read slot.Model, names.0) ∷ (asked.Read slot.Log, names.1) ∷ []

-- Of several calls together: a front of these begin calls was asked, Out grew by these bytes, the files are the same,
-- and no log was begun or written.
pub record Leaves (begins : List (Asked × List ℕ)) (bytes : List ℕ) (old new : State) : Type 0 where
  pub asked : (k : ℕ) × (new.asked ≡ old.asked ++ take k begins)
  pub out : new.out ≡ option_map (λ xs. xs ++ bytes) old.out
  pub files : new.files ≡ old.files
  pub log : new.log ≡ old.log

-- the same by what the words ask for. Where they ask for nothing, these bytes are all that was touched
abbrev pub LeavesOf : Option Command → List ℕ → State → State → Type 0
LeavesOf None bytes old new = new ≡ written to.Out bytes old
LeavesOf (Some names) bytes old new = Leaves (begins_of names) bytes old new

-- The counts of faults before a check and after it, by its status: no call of the desk failed but where the status
-- says so.
abbrev pub Causes : CheckStatus → Faults → Faults → Type 0
Causes status.ReadFault f g = Rose f.reads g.reads × (g.writes ≡ f.writes)
Causes status.WriteFault f g = Rose f.writes g.writes × ((g.reads ≡ f.reads) ⊎ Rose f.reads g.reads)
Causes s f g = g ≡ f

-- ---- what is printed, and when

-- What holds of the words and the files where a check is to print these bytes and end with this status. The counts of
-- failed reads are those before the check and after it.
abbrev pub Ends : Option Command → State → ℕ → ℕ → CheckStatus → List ℕ → Type 0
Ends (Some names) old before now status.Accepted out = (now ≡ before) × OfFiles names old (λ p bytes. IsAcceptedBy p bytes out)
Ends (Some names) old before now status.Refused out = (now ≡ before) × OfFiles names old (λ p bytes. IsRefusedBy p bytes out)
Ends (Some names) old before now status.File out = (now ≡ before) × OfFile names.0 old (λ text. IsRefusedFile text out)
Ends (Some names) old before now status.ReadFault out = Rose before now × (out ≡ read_fault_line)
Ends (Some names) old before now status.Memory out = (now ≡ before) × (out ≡ memory_line)
Ends None old before now status.Words out = (now ≡ before) × (out ≡ usage_line)
Ends command old before now s out = ⊥

-- The words and the files were read, or not, and the check is to end so. Nothing was printed yet.
pub record Decides (command : Option Command) (old new : State) (f g : Faults) (s : CheckStatus) (out : List ℕ) : Type 0 where
  pub leaves : LeavesOf command [] old new
  pub ends : Ends command old f.reads g.reads s out
  pub causes : Causes s f g

-- Only a front of the bytes was printed, and then writing has failed.
pub record PrintsFront (out : List ℕ) (old new : State) (f g : Faults) : Type 0 where
  pub rose : Rose f.writes g.writes
  pub front : WritesFront to.Out out old new
  pub reads : g.reads ≡ f.reads

-- The bytes were printed, and the status is the one that they belong to.
pub record PrintsAll (s : CheckStatus) (out : List ℕ) (old new : State) (f g : Faults) (result : CheckStatus) : Type 0 where
  pub status : result ≡ s
  pub state : new ≡ written to.Out out old
  pub faults : g ≡ f

abbrev pub Prints : CheckStatus → List ℕ → State → State → Faults → Faults → CheckStatus → Type 0
Prints s out old new f g status.WriteFault = PrintsFront out old new f g
Prints s out old new f g result = PrintsAll s out old new f g result

-- ---- a whole check

-- Writing has failed: what was printed is a front of what another status would have printed.
pub record IsCutShort (command : Option Command) (old new : State) (f g : Faults) : Type 0 where
  pub rose : Rose f.writes g.writes
  pub status : CheckStatus
  pub out : List ℕ
  pub ends : Ends command old f.reads g.reads status out
  pub count : ℕ
  pub part : count < length out
  pub leaves : LeavesOf command (take count out) old new

-- These bytes were printed, and they belong to the status.
pub record IsWhole (command : Option Command) (old new : State) (f g : Faults) (s : CheckStatus) : Type 0 where
  pub out : List ℕ
  pub ends : Ends command old f.reads g.reads s out
  pub leaves : LeavesOf command out old new

-- what a check means, by its status
abbrev pub CheckMeans : Option Command → State → State → Faults → Faults → CheckStatus → Type 0
CheckMeans command old new f g status.WriteFault = IsCutShort command old new f g
CheckMeans command old new f g s = IsWhole command old new f g s
