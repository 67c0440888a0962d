-- Lemmas of the run: from the calls on the desk to what the run means.
use Rattle.std.proofs.Common.{◌≡◌, ◌≤◌, ℕ, List, [], ◌++◌, ◌⊎◌, inl, inr, length, take, Option, Some, None, IfSome, IsSome, IsSomeAnd, refl, sym, ap, subst, ◌∙◌}
use Rattle.std.specs.Option.{option_map, option_and_then}
use Rattle.std.proofs.lemmas.List.{append-nil}
use Rattle.desk.specs.declared.outside.Asked.TheVariants as asked
use Rattle.desk.specs.declared.outside.Slot.TheVariants as slot
use Rattle.desk.specs.declared.outside.To.TheVariants as to
use Rattle.desk.specs.State.{State, written, taken, file}
use Rattle.desk.specs.Calls.{Asks, BeginsRead}
use Rattle.desk.specs.Texts.{TakesAll, Takes, TakesUpTo, WritesFront}
use Rattle.desk.specs.Causes.{Faults, Rose}
use Rattle.solve_top.specs.declared.status.Status.{Status}
use Rattle.solve_top.specs.declared.status.Status.TheVariants as status
use Rattle.solve_top.specs.declared.words.Task.{Task}
use Rattle.solve_top.specs.declared.words.Task.TheVariants.{Solve, Root}
use Rattle.solve_top.specs.Lines.{usage_line, too_long_line, read_fault_line, memory_lines}
use Rattle.solve_top.specs.Texts.{IsAccepted, IsDoneBy, IsRefusedBy}
use Rattle.solve_top.specs.Endings.{EndsText}
use Rattle.solve_top.specs.Run.{Ends, LeavesModel, Causes, IsCutShort, RunMeans}
use Rattle.solve_top.specs.Steps.{EndsWords, Reads, RefusesWords, Begins, PrintsFront, PrintsAll, Prints}

-- ---- the text and the file

some_and : (P : List ℕ → Type 0) (text : List ℕ) (found : Option (List ℕ))
    → IsSome found → IfSome found (λ xs. text ≡ xs) → P text → IsSomeAnd found P
some_and P text None there same p = cc
some_and P text (Some xs) there same p = subst P same p

-- what holds of the text that was read holds of the file
of_file : (P : List ℕ → Type 0) (name text : List ℕ) (files : Option (List ℕ → Option (List ℕ)))
    → IfSome files (λ find. IsSome (find name)) → IfSome (option_and_then (λ find. find name) files) (λ xs. text ≡ xs) → P text
    → IfSome files (λ find. IsSomeAnd (find name) P)
of_file P name text None there same p = tt
of_file P name text (Some find) there same p = some_and P text (find name) there same p

-- what a text's ending says is what the file's does
ends_of : (task : Task) (name text : List ℕ) (old : State) (before now : ℕ) (s : Status) (out : List ℕ) → now ≡ before
    → IfSome old.files (λ find. IsSome (find name)) → IfSome (file name old) (λ xs. text ≡ xs) → EndsText task text s out → Ends task name old before now s out
ends_of task name text old before now status.Done out quiet there same e = (quiet, of_file (λ xs. IsDoneBy task xs out) name text old.files there same e)
ends_of task name text old before now status.Nodes out quiet there same e = (quiet, e.0, of_file IsAccepted name text old.files there same e.1)
ends_of task name text old before now status.File out quiet there same e = (quiet, of_file (λ xs. IsRefusedBy task xs out) name text old.files there same e)
ends_of task name text old before now status.Words out quiet there same e = absurd e
ends_of task name text old before now status.ReadFault out quiet there same e = absurd e
ends_of task name text old before now status.WriteFault out quiet there same e = absurd e
ends_of task name text old before now status.Memory out quiet there same e = (quiet, e)

-- ---- what the calls leave

out_kept : (o : Option (List ℕ)) → o ≡ option_map (λ xs. xs ++ []) o
out_kept None = refl
out_kept (Some xs) = ap Some (sym (append-nil xs))

-- nothing was asked
leaves_nothing : (name : List ℕ) (old : State) → LeavesModel name [] old old
leaves_nothing name old = record {
  leaves = record { asked = (0, sym (append-nil old.asked)); out = out_kept old.out; files = refl };
  log = refl;
  log_read = refl;
}

-- a model that was begun and read so far
leaves_read : (name : List ℕ) (n : ℕ) (old mid new : State) → BeginsRead slot.Model name old mid → new ≡ taken slot.Model n mid → LeavesModel name [] old new
leaves_read name n old mid new begins e =
    let P : State → Type 0 = λ s. LeavesModel name [] old s in
    subst P (sym (e ∙ ap (taken slot.Model n) begins.state)) (record {
      leaves = record { asked = (1, refl); out = out_kept old.out; files = refl };
      log = refl;
      log_read = refl;
    })

-- a model that could not be begun
pub fails_to_begin : (task : Task) (name : List ℕ) (old new : State) (f g : Faults) → Asks (asked.Read slot.Model) name old new
    → Rose f.reads g.reads → g.writes ≡ f.writes → Reads task name old new f g status.ReadFault read_fault_line
fails_to_begin task name old new f g (inl e) rose same =
    let P : State → Type 0 = λ s. LeavesModel name [] old s in
    record { leaves = subst P (sym e) (leaves_nothing name old); ends = (rose, refl); causes = (rose, same) }
fails_to_begin task name old new f g (inr e) rose same =
    let P : State → Type 0 = λ s. LeavesModel name [] old s in
    record {
      leaves = subst P (sym e) (record { leaves = record { asked = (1, refl); out = out_kept old.out; files = refl }; log = refl; log_read = refl });
      ends = (rose, refl);
      causes = (rose, same);
    }

-- a model that could not be read to its end
pub fails_to_read : (task : Task) (name : List ℕ) (most : ℕ) (old mid new : State) (f g : Faults) → BeginsRead slot.Model name old mid → TakesUpTo slot.Model most mid new
    → Rose f.reads g.reads → g.writes ≡ f.writes → Reads task name old new f g status.ReadFault read_fault_line
fails_to_read task name most old mid new f g begins takes rose same =
    record { leaves = leaves_read name takes.0 old mid new begins takes.2.state; ends = (rose, refl); causes = (rose, same) }

-- memory was refused
pub has_no_memory : (task : Task) (name : List ℕ) (most : ℕ) (old mid new : State) (f g : Faults) → BeginsRead slot.Model name old mid → TakesUpTo slot.Model most mid new
    → g ≡ f → Reads task name old new f g status.Memory memory_lines
has_no_memory task name most old mid new f g begins takes same =
    record { leaves = leaves_read name takes.0 old mid new begins takes.2.state; ends = (ap (λ z. z.reads) same, refl); causes = same }

-- a text that is too long
long_is_refused : (task : Task) (text : List ℕ) → 67108865 ≤ length text → IsRefusedBy task text too_long_line
long_is_refused Solve text long = inl (record { long = long; line = refl })
long_is_refused Root text long = inl (record { long = long; line = refl })

long_file : (task : Task) (name : List ℕ) (files : Option (List ℕ → Option (List ℕ))) → IfSome files (λ find. IsSome (find name))
    → IfSome (option_and_then (λ find. find name) files) (λ xs. 67108865 ≤ length xs)
    → IfSome files (λ find. IsSomeAnd (find name) (λ xs. IsRefusedBy task xs too_long_line))
long_file task name None there long = tt
long_file task name (Some find) there long = at (find name) there long
  where
    at : (found : Option (List ℕ)) → IsSome found → IfSome found (λ xs. 67108865 ≤ length xs) → IsSomeAnd found (λ xs. IsRefusedBy task xs too_long_line)
    at None there long = cc
    at (Some xs) there long = long_is_refused task xs long

pub is_too_long : (task : Task) (name : List ℕ) (old mid new : State) (f g : Faults) → BeginsRead slot.Model name old mid → Takes slot.Model 67108865 mid new
    → g ≡ f → Reads task name old new f g status.File too_long_line
is_too_long task name old mid new f g begins takes same =
    let P : State → Type 0 = λ z. IfSome z.model.left (λ xs. 67108865 ≤ length xs) in
    record {
      leaves = leaves_read name 67108865 old mid new begins takes.state;
      ends = (ap (λ z. z.reads) same, long_file task name old.files begins.found (subst P begins.state takes.there));
      causes = same;
    }

-- the same faults: such a status is no fault of reading
quiet_causes : (task : Task) (text : List ℕ) (s : Status) (out : List ℕ) (f g : Faults) → EndsText task text s out → g ≡ f → Causes s f g
quiet_causes task text status.Done out f g e same = same
quiet_causes task text status.Nodes out f g e same = same
quiet_causes task text status.File out f g e same = same
quiet_causes task text status.Memory out f g e same = same
quiet_causes task text status.Words out f g e same = absurd e
quiet_causes task text status.ReadFault out f g e same = absurd e
quiet_causes task text status.WriteFault out f g e same = absurd e

-- a model that was read to its end
pub reads_model : (task : Task) (name text : List ℕ) (limit : ℕ) (old mid new : State) (f g : Faults) (s : Status) (out : List ℕ)
    → BeginsRead slot.Model name old mid → TakesAll slot.Model limit mid new text → g ≡ f → EndsText task text s out → Reads task name old new f g s out
reads_model task name text limit old mid new f g s out begins takes same e =
    let P : State → Type 0 = λ z. IfSome z.model.left (λ xs. text ≡ xs) in
    let whole : IfSome (file name old) (λ xs. text ≡ xs) = subst P begins.state takes.all in
    record {
      leaves = leaves_read name (length text) old mid new begins takes.state;
      ends = ends_of task name text old f.reads g.reads s out (ap (λ z. z.reads) same) begins.found whole e;
      causes = quiet_causes task text s out f g e same;
    }

-- what followed changed nothing
pub reads_still : (task : Task) (name : List ℕ) (old mid new : State) (f m g : Faults) (s : Status) (out : List ℕ)
    → Reads task name old mid f m s out → new ≡ mid → g ≡ m → Reads task name old new f g s out
reads_still task name old mid new f m g s out reads same quiet =
    let P : State → Type 0 = λ z. Reads task name old z f m s out in
    let Q : Faults → Type 0 = λ z. Reads task name old new f z s out in
    subst Q (sym quiet) (subst P (sym same) reads)

out_written : (o m : Option (List ℕ)) (bytes : List ℕ) → m ≡ option_map (λ xs. xs ++ []) o
    → option_map (λ xs. xs ++ bytes) m ≡ option_map (λ xs. xs ++ bytes) o
out_written o m bytes e = ap (option_map (λ xs. xs ++ bytes)) (e ∙ sym (out_kept o))

leaves_written : (name bytes : List ℕ) (old mid new : State) → LeavesModel name [] old mid → new ≡ written to.Out bytes mid → LeavesModel name bytes old new
leaves_written name bytes old mid new l e =
    let P : State → Type 0 = λ s. LeavesModel name bytes old s in
    subst P (sym e) (record {
      leaves = record { asked = l.leaves.asked; out = out_written old.out mid.out bytes l.leaves.out; files = l.leaves.files };
      log = l.log;
      log_read = l.log_read;
    })

-- ---- both steps

-- what was read caused no fault of writing
no_write_fault : (task : Task) (name : List ℕ) (old : State) (s : Status) (out : List ℕ) (f m : Faults) → Ends task name old f.reads m.reads s out → Causes s f m → m.writes ≡ f.writes
no_write_fault task name old status.Done out f m e c = ap (λ z. z.writes) c
no_write_fault task name old status.Nodes out f m e c = ap (λ z. z.writes) c
no_write_fault task name old status.File out f m e c = ap (λ z. z.writes) c
no_write_fault task name old status.Memory out f m e c = ap (λ z. z.writes) c
no_write_fault task name old status.ReadFault out f m e c = c.1
no_write_fault task name old status.Words out f m e c = absurd e
no_write_fault task name old status.WriteFault out f m e c = absurd e

read_count : (task : Task) (name : List ℕ) (old : State) (s : Status) (out : List ℕ) (f m : Faults) → Ends task name old f.reads m.reads s out → Causes s f m
    → (m.reads ≡ f.reads) ⊎ Rose f.reads m.reads
read_count task name old status.Done out f m e c = inl (ap (λ z. z.reads) c)
read_count task name old status.Nodes out f m e c = inl (ap (λ z. z.reads) c)
read_count task name old status.File out f m e c = inl (ap (λ z. z.reads) c)
read_count task name old status.Memory out f m e c = inl (ap (λ z. z.reads) c)
read_count task name old status.ReadFault out f m e c = inr c.0
read_count task name old status.Words out f m e c = absurd e
read_count task name old status.WriteFault out f m e c = absurd e

-- the bytes were printed
printed : (task : Task) (name : List ℕ) (old mid new : State) (f m g : Faults) (s r : Status) (out : List ℕ)
    → Reads task name old mid f m s out → PrintsAll s out mid new m g r
    → (bytes : List ℕ) × (Ends task name old f.reads g.reads r bytes × LeavesModel name bytes old new)
printed task name old mid new f m g s r out reads prints =
    let P : Status → Type 0 = λ z. Ends task name old f.reads m.reads z out in
    let Q : Faults → Type 0 = λ z. Ends task name old f.reads z.reads r out in
    (out, (subst Q (sym prints.faults) (subst P (sym prints.status) reads.ends), leaves_written name out old mid new reads.leaves prints.state))

printed_causes : (f m g : Faults) (s r : Status) → Causes s f m → r ≡ s → g ≡ m → Causes r f g
printed_causes f m g s r c e same =
    let P : Status → Type 0 = λ z. Causes z f m in
    let Q : Faults → Type 0 = λ z. Causes r f z in
    subst Q (sym same) (subst P (sym e) c)

-- a front was printed
cut_short : (task : Task) (name : List ℕ) (old mid new : State) (f m g : Faults) (s : Status) (out : List ℕ)
    → Reads task name old mid f m s out → PrintsFront out mid new m g → IsCutShort task name old new f g
cut_short task name old mid new f m g s out reads prints =
    let P : ℕ → Type 0 = λ z. Ends task name old f.reads z s out in
    let R : ℕ → Type 0 = λ z. Rose z g.writes in (
      subst R (no_write_fault task name old s out f m reads.ends reads.causes) prints.rose,
      (
        s,
        (
          out,
          (
            subst P (sym prints.reads) reads.ends,
            (prints.front.0, (prints.front.1, leaves_written name (take prints.front.0 out) old mid new reads.leaves prints.front.2)),
          ),
        ),
      ),
    )

cut_short_causes : (task : Task) (name : List ℕ) (old mid new : State) (f m g : Faults) (s : Status) (out : List ℕ)
    → Reads task name old mid f m s out → PrintsFront out mid new m g → Causes status.WriteFault f g
cut_short_causes task name old mid new f m g s out reads prints =
    let R : ℕ → Type 0 = λ z. Rose z g.writes in
    let C : ℕ → Type 0 = λ z. (z ≡ f.reads) ⊎ Rose f.reads z in
    (subst R (no_write_fault task name old s out f m reads.ends reads.causes) prints.rose, subst C (sym prints.reads) (read_count task name old s out f m reads.ends reads.causes))

-- nothing was touched: memory was refused before anything was read
pub begins_without_memory : (command : Option (Task × List ℕ)) (s : State) (f : Faults) → Begins command s s f f status.Memory memory_lines
begins_without_memory None s f = record { ends = refl; state = refl; faults = refl }
begins_without_memory (Some (task, name)) s f = record { leaves = leaves_nothing name s; ends = (refl, refl); causes = refl }

-- where the words ask for nothing: the line of the status was printed
refused : (old mid new : State) (f m g : Faults) (s r : Status) (out : List ℕ)
    → RefusesWords old mid f m s out → PrintsAll s out mid new m g r → EndsWords r out × (new ≡ written to.Out out old)
refused old mid new f m g s r out reads prints =
    let E : Status → Type 0 = λ z. EndsWords z out in
    let S : State → Type 0 = λ z. new ≡ written to.Out out z in
    (subst E (sym prints.status) reads.ends, subst S reads.state prints.state)

line_written : (line out : List ℕ) (old new : State) → out ≡ line → new ≡ written to.Out out old → new ≡ written to.Out line old
line_written line out old new e is = let P : List ℕ → Type 0 = λ z. new ≡ written to.Out z old in subst P e is

front_of : (line out : List ℕ) (old mid new : State) → out ≡ line → mid ≡ old → WritesFront to.Out out mid new → WritesFront to.Out line old new
front_of line out old mid new e same front =
    let P : List ℕ → Type 0 = λ z. WritesFront to.Out z mid new in
    let S : State → Type 0 = λ z. WritesFront to.Out line z new in
    subst S same (subst P e front)

-- a front of one of the lines was printed
front_of_either : (s : Status) (out : List ℕ) (old mid new : State) → EndsWords s out → mid ≡ old → WritesFront to.Out out mid new
    → WritesFront to.Out usage_line old new ⊎ WritesFront to.Out memory_lines old new
front_of_either status.Words out old mid new e same front = inl (front_of usage_line out old mid new e same front)
front_of_either status.Memory out old mid new e same front = inr (front_of memory_lines out old mid new e same front)
front_of_either status.Done out old mid new e same front = absurd e
front_of_either status.Nodes out old mid new e same front = absurd e
front_of_either status.File out old mid new e same front = absurd e
front_of_either status.ReadFault out old mid new e same front = absurd e
front_of_either status.WriteFault out old mid new e same front = absurd e

refused_front : (old mid new : State) (f m g : Faults) (s : Status) (out : List ℕ)
    → RefusesWords old mid f m s out → PrintsFront out mid new m g → RunMeans None old new f g status.WriteFault
refused_front old mid new f m g s out reads prints =
    let R : Faults → Type 0 = λ z. Rose z.writes g.writes in
    (subst R reads.faults prints.rose, front_of_either s out old mid new reads.ends reads.state prints.front)

words_cause : (f g : Faults) (r : Status) (out : List ℕ) → EndsWords r out → g ≡ f → Causes r f g
words_cause f g status.Words out e same = same
words_cause f g status.Memory out e same = same
words_cause f g status.Done out e same = absurd e
words_cause f g status.Nodes out e same = absurd e
words_cause f g status.File out e same = absurd e
words_cause f g status.ReadFault out e same = absurd e
words_cause f g status.WriteFault out e same = absurd e

-- the first step and then the second are a run
pub run_means : (command : Option (Task × List ℕ)) (old mid new : State) (f m g : Faults) (s r : Status) (out : List ℕ)
    → Begins command old mid f m s out → Prints s out mid new m g r → RunMeans command old new f g r
run_means None old mid new f m g s status.Words out b p =
    let h = refused old mid new f m g s status.Words out b p in line_written usage_line out old new h.0 h.1
run_means None old mid new f m g s status.Memory out b p =
    let h = refused old mid new f m g s status.Memory out b p in line_written memory_lines out old new h.0 h.1
run_means None old mid new f m g s status.WriteFault out b p = refused_front old mid new f m g s out b p
run_means None old mid new f m g s status.Done out b p = absurd ((refused old mid new f m g s status.Done out b p).0)
run_means None old mid new f m g s status.Nodes out b p = absurd ((refused old mid new f m g s status.Nodes out b p).0)
run_means None old mid new f m g s status.File out b p = absurd ((refused old mid new f m g s status.File out b p).0)
run_means None old mid new f m g s status.ReadFault out b p = absurd ((refused old mid new f m g s status.ReadFault out b p).0)
run_means (Some (task, name)) old mid new f m g s status.WriteFault out b p = cut_short task name old mid new f m g s out b p
run_means (Some (task, name)) old mid new f m g s status.Words out b p = printed task name old mid new f m g s status.Words out b p
run_means (Some (task, name)) old mid new f m g s status.Done out b p = printed task name old mid new f m g s status.Done out b p
run_means (Some (task, name)) old mid new f m g s status.Nodes out b p = printed task name old mid new f m g s status.Nodes out b p
run_means (Some (task, name)) old mid new f m g s status.File out b p = printed task name old mid new f m g s status.File out b p
run_means (Some (task, name)) old mid new f m g s status.ReadFault out b p = printed task name old mid new f m g s status.ReadFault out b p
run_means (Some (task, name)) old mid new f m g s status.Memory out b p = printed task name old mid new f m g s status.Memory out b p

quiet_words : (old mid new : State) (f m g : Faults) (s r : Status) (out : List ℕ) → RefusesWords old mid f m s out → PrintsAll s out mid new m g r → Causes r f g
quiet_words old mid new f m g s r out b p = words_cause f g r out ((refused old mid new f m g s r out b p).0) (p.faults ∙ b.faults)

quiet_run : (task : Task) (name : List ℕ) (old mid new : State) (f m g : Faults) (s r : Status) (out : List ℕ)
    → Reads task name old mid f m s out → PrintsAll s out mid new m g r → Causes r f g
quiet_run task name old mid new f m g s r out b p = printed_causes f m g s r b.causes p.status p.faults

-- and its faults are those of its status
pub run_causes : (command : Option (Task × List ℕ)) (old mid new : State) (f m g : Faults) (s r : Status) (out : List ℕ)
    → Begins command old mid f m s out → Prints s out mid new m g r → Causes r f g
run_causes None old mid new f m g s status.WriteFault out b p =
    let R : Faults → Type 0 = λ z. Rose z.writes g.writes in
    (subst R b.faults p.rose, inl (p.reads ∙ ap (λ z. z.reads) b.faults))
run_causes None old mid new f m g s status.Words out b p = quiet_words old mid new f m g s status.Words out b p
run_causes None old mid new f m g s status.Done out b p = quiet_words old mid new f m g s status.Done out b p
run_causes None old mid new f m g s status.Nodes out b p = quiet_words old mid new f m g s status.Nodes out b p
run_causes None old mid new f m g s status.File out b p = quiet_words old mid new f m g s status.File out b p
run_causes None old mid new f m g s status.ReadFault out b p = quiet_words old mid new f m g s status.ReadFault out b p
run_causes None old mid new f m g s status.Memory out b p = quiet_words old mid new f m g s status.Memory out b p
run_causes (Some (task, name)) old mid new f m g s status.WriteFault out b p = cut_short_causes task name old mid new f m g s out b p
run_causes (Some (task, name)) old mid new f m g s status.Words out b p = quiet_run task name old mid new f m g s status.Words out b p
run_causes (Some (task, name)) old mid new f m g s status.Done out b p = quiet_run task name old mid new f m g s status.Done out b p
run_causes (Some (task, name)) old mid new f m g s status.Nodes out b p = quiet_run task name old mid new f m g s status.Nodes out b p
run_causes (Some (task, name)) old mid new f m g s status.File out b p = quiet_run task name old mid new f m g s status.File out b p
run_causes (Some (task, name)) old mid new f m g s status.ReadFault out b p = quiet_run task name old mid new f m g s status.ReadFault out b p
run_causes (Some (task, name)) old mid new f m g s status.Memory out b p = quiet_run task name old mid new f m g s status.Memory out b p
