-- From the calls on the desk to what a check means.
use Rattle.std.proofs.Common.{◌≡◌, ◌≤◌, ℕ, suc, List, [], ◌∷◌, ◌++◌, ◌⊎◌, inl, inr, length, take, refl, sym, ap, subst, ◌∙◌, append_assoc, append-nil}
use Rattle.std.specs.Prelude.{Option, Some, None, IfSome, IsSome, IsSomeAnd, Result, Ok, Err}
use Rattle.std.specs.Option.{option_map, option_and_then}
use Rattle.set_meaning.specs.declared.problems.Problem.{Problem}
use Rattle.desk.specs.declared.outside.Asked.{Asked}
use Rattle.desk.specs.declared.outside.Asked.TheVariants as asked
use Rattle.desk.specs.declared.outside.Slot.TheVariants as slot
use Rattle.desk.specs.declared.outside.To.TheVariants as to
use Rattle.desk.specs.State.{State, written, taken, file, read_begun}
use Rattle.desk.specs.Calls.{Asks, BeginsRead}
use Rattle.desk.specs.declared.texts.ReadEnd.{ReadEnd}
use Rattle.desk.specs.declared.texts.ReadEnd.TheVariants as read_end
use Rattle.std.specs.Bool.{OnFalse}
use Rattle.desk.specs.Texts.{TakesAll, Takes, TakesUpTo, has_failed}
use Rattle.desk.specs.Causes.{Faults, Rose}
use Rattle.desk.proofs.Moves.{written-written, written-none}
use Rattle.check_top.specs.declared.running.CheckStatus.{CheckStatus}
use Rattle.check_top.specs.declared.running.CheckStatus.TheVariants as status
use Rattle.check_top.specs.declared.verdict.Verdict.{Verdict}
use Rattle.check_top.specs.declared.verdict.Verdict.TheVariants as verdict
use Rattle.check_top.specs.declared.ending.Ending.{Ending}
use Rattle.log_rules.specs.declared.reasons.Reason.{Reason}
use Rattle.log_rules.specs.declared.reasons.End.{End}
use Rattle.check_top.specs.Words.{Command, command_of}
use Rattle.check_top.specs.Files.{IsAcceptedFile, IsRefusedFile, too_long_line}
use Rattle.check_top.specs.Printed.{usage_line, read_fault_line, memory_line}
use Rattle.check_top.specs.Verdicts.{IsAccepted, IsRefusedAt}
use Rattle.check_top.specs.Endings.{IsAcceptedBy, IsRefusedBy, Says, verdict_status, ending_status, ending_text}
use Rattle.check_top.specs.Run.{OfFile, IsOf, begins_of, Leaves, LeavesOf, Causes, Ends, Decides, PrintsFront, PrintsAll, Prints, IsCutShort, IsWhole, CheckMeans}
use Rattle.check_top.specs.Steps.{IsQuiet, RefusesText, EndsText, HasModel, ReadsModel, EndsLog, ChecksLog, Tells, TakesSome}

-- ---- what calls leave

out_kept : (o : Option (List ℕ)) → o ≡ option_map (λ xs. xs ++ []) o
out_kept None = refl
out_kept (Some xs) = ap Some (sym (append-nil xs))

leaves_quietly : (begins : List (Asked × List ℕ)) (k : ℕ) (old new : State) → new.asked ≡ old.asked ++ take k begins → IsQuiet old new → Leaves begins [] old new
leaves_quietly begins k old new asked quiet = record {
  asked = (k, asked);
  out = quiet.out ∙ out_kept old.out;
  files = quiet.files;
  log = quiet.log;
}

quiet_same : (old new : State) → new ≡ old → IsQuiet old new
quiet_same old new e = record { out = ap (λ s. s.out) e; files = ap (λ s. s.files) e; log = ap (λ s. s.log) e }

-- a slot that could not be begun
asked_at_most : (what : Asked) (name : List ℕ) (old new : State) → Asks what name old new → ((k : ℕ) × (new.asked ≡ old.asked ++ take k ((what, name) ∷ []))) × IsQuiet old new
asked_at_most what name old new (inl e) = ((0, ap (λ s. s.asked) e ∙ sym (append-nil old.asked)), quiet_same old new e)
asked_at_most what name old new (inr e) = (
  (1, ap (λ s. s.asked) e),
  record { out = ap (λ s. s.out) e; files = ap (λ s. s.files) e; log = ap (λ s. s.log) e },
)

-- one that was begun, and read so far
model_read : (name : List ℕ) (n : ℕ) (old mid new : State) → BeginsRead slot.Model name old mid → new ≡ taken slot.Model n mid
    → (new.asked ≡ old.asked ++ (asked.Read slot.Model, name) ∷ []) × IsQuiet old new
model_read name n old mid new begins e =
    let whole : new ≡ taken slot.Model n (read_begun slot.Model name old) = e ∙ ap (taken slot.Model n) begins.state in (
      ap (λ s. s.asked) whole,
      record { out = ap (λ s. s.out) whole; files = ap (λ s. s.files) whole; log = ap (λ s. s.log) whole },
    )

log_read : (name : List ℕ) (n : ℕ) (old mid new : State) → BeginsRead slot.Log name old mid → new ≡ taken slot.Log n mid
    → (new.asked ≡ old.asked ++ (asked.Read slot.Log, name) ∷ []) × IsQuiet old new
log_read name n old mid new begins e =
    let whole : new ≡ taken slot.Log n (read_begun slot.Log name old) = e ∙ ap (taken slot.Log n) begins.state in (
      ap (λ s. s.asked) whole,
      record { out = ap (λ s. s.out) whole; files = ap (λ s. s.files) whole; log = ap (λ s. s.log) whole },
    )

-- ---- the files

-- what holds of what was found holds of the file
of_found : (P Q : List ℕ → Type 0) (name : List ℕ) (files : Option (List ℕ → Option (List ℕ)))
    → IfSome files (λ find. IsSome (find name)) → IfSome (option_and_then (λ find. find name) files) P → ((xs : List ℕ) → P xs → Q xs)
    → IfSome files (λ find. IsSomeAnd (find name) Q)
of_found P Q name None there h f = tt
of_found P Q name (Some find) there h f = at (find name) there h
  where
    at : (found : Option (List ℕ)) → IsSome found → IfSome found P → IsSomeAnd found Q
    at None there h = cc
    at (Some xs) there h = f xs h

both_files : (P Q : List ℕ → Type 0) (model log : List ℕ) (S : List ℕ → List ℕ → Type 0) (files : Option (List ℕ → Option (List ℕ)))
    → IfSome files (λ find. IsSomeAnd (find model) P) → IfSome files (λ find. IsSomeAnd (find log) Q) → ((text bytes : List ℕ) → P text → Q bytes → S text bytes)
    → IfSome files (λ find. IsSomeAnd (find model) (λ text. IsSomeAnd (find log) (λ bytes. S text bytes)))
both_files P Q model log S None p q f = tt
both_files P Q model log S (Some find) p q f = at (find model) (find log) p q
  where
    inner : (text : List ℕ) (o : Option (List ℕ)) → P text → IsSomeAnd o Q → IsSomeAnd o (λ bytes. S text bytes)
    inner text None p q = absurd q
    inner text (Some bytes) p q = f text bytes p q

    at : (m l : Option (List ℕ)) → IsSomeAnd m P → IsSomeAnd l Q → IsSomeAnd m (λ text. IsSomeAnd l (λ bytes. S text bytes))
    at None l p q = absurd p
    at (Some text) l p q = inner text l p q

pub quiet_if_long : (T : Type 0) (e : ReadEnd) (P : Type 0) → e ≡ read_end.TooLong → OnFalse (has_failed {T = T} (Err e)) P → P
quiet_if_long T e P is h = let Q : ReadEnd → Type 0 = λ z. OnFalse (has_failed {T = T} (Err z)) P in subst Q is h

-- ---- the model

module _ (name : List ℕ) (old : State) (f : Faults) where
  pub model_not_begun : (log : List ℕ) (new : State) (g : Faults) → Asks (asked.Read slot.Model) name old new → Rose f.reads g.reads → g.writes ≡ f.writes
      → Decides (Some (name, log)) old new f g status.ReadFault read_fault_line
  model_not_begun log new g (inl e) rose same = record {
    leaves = leaves_quietly (begins_of (name, log)) 0 old new (ap (λ s. s.asked) e ∙ sym (append-nil old.asked)) (quiet_same old new e);
    ends = (rose, refl);
    causes = (rose, same);
  }
  model_not_begun log new g (inr e) rose same = record {
    leaves = leaves_quietly (begins_of (name, log)) 1 old new (ap (λ s. s.asked) e)
        (record { out = ap (λ s. s.out) e; files = ap (λ s. s.files) e; log = ap (λ s. s.log) e });
    ends = (rose, refl);
    causes = (rose, same);
  }

  module _ (mid : State) (begins : BeginsRead slot.Model name old mid) where
    leaves_model : (log : List ℕ) (n : ℕ) (new : State) → new ≡ taken slot.Model n mid → Leaves (begins_of (name, log)) [] old new
    leaves_model log n new e = let h = model_read name n old mid new begins e in leaves_quietly (begins_of (name, log)) 1 old new h.0 h.1

    pub model_not_read : (log : List ℕ) (most : ℕ) (new : State) (g : Faults) → TakesUpTo slot.Model most mid new → Rose f.reads g.reads → g.writes ≡ f.writes
        → Decides (Some (name, log)) old new f g status.ReadFault read_fault_line
    model_not_read log most new g takes rose same =
        record { leaves = leaves_model log takes.0 new takes.2.state; ends = (rose, refl); causes = (rose, same) }

    pub model_without_memory : (log : List ℕ) (most : ℕ) (new : State) (g : Faults) → TakesUpTo slot.Model most mid new → g ≡ f
        → Decides (Some (name, log)) old new f g status.Memory memory_line
    model_without_memory log most new g takes same =
        record { leaves = leaves_model log takes.0 new takes.2.state; ends = (ap (λ z. z.reads) same, refl); causes = same }

    left_is : mid.model.left ≡ file name old
    left_is = ap (λ s. s.model.left) begins.state

    pub model_too_long : (log : List ℕ) (new : State) (g : Faults) → Takes slot.Model 67108865 mid new → g ≡ f
        → Decides (Some (name, log)) old new f g status.File too_long_line
    model_too_long log new g takes same = record {
      leaves = leaves_model log 67108865 new takes.state;
      ends = (
        ap (λ z. z.reads) same,
        of_found (λ xs. 67108865 ≤ length xs) (λ xs. IsRefusedFile xs too_long_line) name old.files begins.found
            (subst (λ l. IfSome l (λ xs. 67108865 ≤ length xs)) left_is takes.there) (λ xs long. inl (record { long = long; line = refl })),
      );
      causes = same;
    }

    refused_text : (log text : List ℕ) (n : ℕ) (new : State) (g : Faults) (s : CheckStatus) (out : List ℕ) → new ≡ taken slot.Model n mid
        → IfSome (file name old) (λ xs. text ≡ xs) → g ≡ f → RefusesText text s out → Decides (Some (name, log)) old new f g s out
    refused_text log text n new g status.File out e all same refuses = record {
      leaves = leaves_model log n new e;
      ends = (
        ap (λ z. z.reads) same,
        of_found (λ xs. text ≡ xs) (λ xs. IsRefusedFile xs out) name old.files begins.found all (λ xs is. let P : List ℕ → Type 0 = λ t. IsRefusedFile t out in subst P is refuses),
      );
      causes = same;
    }
    refused_text log text n new g status.Memory out e all same refuses =
        record { leaves = leaves_model log n new e; ends = (ap (λ z. z.reads) same, refuses); causes = same }
    refused_text log text n new g status.Accepted out e all same refuses = absurd refuses
    refused_text log text n new g status.Refused out e all same refuses = absurd refuses
    refused_text log text n new g status.Words out e all same refuses = absurd refuses
    refused_text log text n new g status.ReadFault out e all same refuses = absurd refuses
    refused_text log text n new g status.WriteFault out e all same refuses = absurd refuses

    pub model_of_text : (text : List ℕ) (limit : ℕ) (new : State) (g : Faults) (r : Result Problem Ending) → TakesAll slot.Model limit mid new text → g ≡ f
        → EndsText text r → ReadsModel name old new f g r
    model_of_text text limit new g (Ok p) takes same ends =
        let h = model_read name (length text) old mid new begins takes.state in
        let all : IfSome (file name old) (λ xs. text ≡ xs) = subst (λ l. IfSome l (λ xs. text ≡ xs)) left_is takes.all in
        record {
          asked = h.0;
          quiet = h.1;
          read = of_found (λ xs. text ≡ xs) (λ xs. IsAcceptedFile xs p) name old.files begins.found all (λ xs is. let P : List ℕ → Type 0 = λ t. IsAcceptedFile t p in subst P is ends.read);
          limits = ends.limits;
          faults = same;
        }
    model_of_text text limit new g (Err end) takes same ends = λ log.
        let all : IfSome (file name old) (λ xs. text ≡ xs) = subst (λ l. IfSome l (λ xs. text ≡ xs)) left_is takes.all in
        refused_text log text (length text) new g (ending_status end) (ending_text end) takes.state all same ends

-- ---- the log

module _ (p : Problem) (name : List ℕ) (old : State) (f : Faults) where
  pub log_not_begun : (new : State) (g : Faults) → Asks (asked.Read slot.Log) name old new → Rose f.reads g.reads → g.writes ≡ f.writes
      → ChecksLog p name old new f g status.ReadFault read_fault_line
  log_not_begun new g asks rose same =
      let h = asked_at_most (asked.Read slot.Log) name old new asks in
      record { asked = h.0; quiet = h.1; ends = (rose, refl); causes = (rose, same) }

  module _ (mid new : State) (g : Faults) (begins : BeginsRead slot.Log name old mid) (takes : TakesSome mid new) where
    found : (P Q : List ℕ → Type 0) → IfSome mid.log_read.left P → ((xs : List ℕ) → P xs → Q xs) → OfFile name old Q
    found P Q h all =
        of_found P Q name old.files begins.found (subst (λ l. IfSome l P) (ap (λ s. s.log_read.left) begins.state) h) all

    checks : (s : CheckStatus) (out : List ℕ) → EndsLog p name old f.reads g.reads s out → Causes s f g → ChecksLog p name old new f g s out
    checks s out ends causes =
        let h = log_read name takes.0 old mid new begins takes.1 in record { asked = (1, h.0); quiet = h.1; ends = ends; causes = causes }

    accepted : (end : End) (answers : ℕ) (s : CheckStatus) (out : List ℕ) → IfSome mid.log_read.left (λ xs. IsAccepted p xs end answers) → g ≡ f
        → Tells (verdict.Accepted end answers) s out → ChecksLog p name old new f g s out
    accepted end answers status.Accepted out says same tells = checks status.Accepted out (
      ap (λ z. z.reads) same,
      found (λ xs. IsAccepted p xs end answers) (λ xs. IsAcceptedBy p xs out) says (λ xs h. record { end = end; answers = answers; accepted = h; line = tells }),
    ) same
    accepted end answers status.Memory out says same tells = checks status.Memory out (ap (λ z. z.reads) same, tells) same
    accepted end answers status.Refused out says same tells = absurd tells
    accepted end answers status.Words out says same tells = absurd tells
    accepted end answers status.File out says same tells = absurd tells
    accepted end answers status.ReadFault out says same tells = absurd tells
    accepted end answers status.WriteFault out says same tells = absurd tells

    refused : (number : ℕ) (r : Reason) (s : CheckStatus) (out : List ℕ) → IfSome mid.log_read.left (λ xs. IsRefusedAt p xs number r) → g ≡ f
        → Tells (verdict.Refused number r) s out → ChecksLog p name old new f g s out
    refused number r status.Refused out says same tells = checks status.Refused out (
      ap (λ z. z.reads) same,
      found (λ xs. IsRefusedAt p xs number r) (λ xs. IsRefusedBy p xs out) says (λ xs h. record { number = number; reason = r; refused = h; line = tells }),
    ) same
    refused number r status.Memory out says same tells = checks status.Memory out (ap (λ z. z.reads) same, tells) same
    refused number r status.Accepted out says same tells = absurd tells
    refused number r status.Words out says same tells = absurd tells
    refused number r status.File out says same tells = absurd tells
    refused number r status.ReadFault out says same tells = absurd tells
    refused number r status.WriteFault out says same tells = absurd tells

    not_read : (s : CheckStatus) (out : List ℕ) → Causes status.ReadFault f g → Tells verdict.ReadFault s out → ChecksLog p name old new f g s out
    not_read status.ReadFault out causes tells = checks status.ReadFault out (causes.0, tells) causes
    not_read status.Accepted out causes tells = absurd tells
    not_read status.Refused out causes tells = absurd tells
    not_read status.Words out causes tells = absurd tells
    not_read status.File out causes tells = absurd tells
    not_read status.WriteFault out causes tells = absurd tells
    not_read status.Memory out causes tells = absurd tells

    without_memory : (s : CheckStatus) (out : List ℕ) → g ≡ f → Tells verdict.Memory s out → ChecksLog p name old new f g s out
    without_memory status.Memory out same tells = checks status.Memory out (ap (λ z. z.reads) same, tells) same
    without_memory status.Accepted out same tells = absurd tells
    without_memory status.Refused out same tells = absurd tells
    without_memory status.Words out same tells = absurd tells
    without_memory status.File out same tells = absurd tells
    without_memory status.ReadFault out same tells = absurd tells
    without_memory status.WriteFault out same tells = absurd tells

    pub log_judged : (v : Verdict) (s : CheckStatus) (out : List ℕ) → Says p mid.log_read.left v → Causes (verdict_status v) f g → Tells v s out
        → ChecksLog p name old new f g s out
    log_judged (verdict.Accepted end answers) s out says causes tells = accepted end answers s out says causes tells
    log_judged (verdict.Refused number r) s out says causes tells = refused number r s out says causes tells
    log_judged verdict.ReadFault s out says causes tells = not_read s out causes tells
    log_judged verdict.Memory s out says causes tells = without_memory s out causes tells

-- ---- the model and then the log

ends_both : (model log : List ℕ) (old mid : State) (before m now : ℕ) (p : Problem) (s : CheckStatus) (out : List ℕ) → m ≡ before → mid.files ≡ old.files
    → OfFile model old (λ text. IsAcceptedFile text p) → EndsLog p log mid m now s out → Ends (Some (model, log)) old before now s out
ends_both model log old mid before m now p status.Accepted out same files read ends = (
  ends.0 ∙ same,
  both_files (λ text. IsAcceptedFile text p) (λ bytes. IsAcceptedBy p bytes out) model log (λ text bytes. IsOf (λ q xs. IsAcceptedBy q xs out) text bytes) old.files read
      (subst (λ fs. IfSome fs (λ find. IsSomeAnd (find log) (λ bytes. IsAcceptedBy p bytes out))) files ends.1)
      (λ text bytes h by. record { problem = p; read = h; holds = by }),
)
ends_both model log old mid before m now p status.Refused out same files read ends = (
  ends.0 ∙ same,
  both_files (λ text. IsAcceptedFile text p) (λ bytes. IsRefusedBy p bytes out) model log (λ text bytes. IsOf (λ q xs. IsRefusedBy q xs out) text bytes) old.files read
      (subst (λ fs. IfSome fs (λ find. IsSomeAnd (find log) (λ bytes. IsRefusedBy p bytes out))) files ends.1)
      (λ text bytes h by. record { problem = p; read = h; holds = by }),
)
ends_both model log old mid before m now p status.ReadFault out same files read ends = (subst (λ n. Rose n now) same ends.0, ends.1)
ends_both model log old mid before m now p status.Memory out same files read ends = (ends.0 ∙ same, ends.1)
ends_both model log old mid before m now p status.Words out same files read ends = absurd ends
ends_both model log old mid before m now p status.File out same files read ends = absurd ends
ends_both model log old mid before m now p status.WriteFault out same files read ends = absurd ends

pub model_then_log : (model log : List ℕ) (old mid new : State) (f m g : Faults) (p : Problem) (s : CheckStatus) (out : List ℕ)
    → HasModel model old mid f m p → ChecksLog p log mid new m g s out → Decides (Some (model, log)) old new f g s out
model_then_log model log old mid new f m g p s out has checks = record {
  leaves = leaves_quietly (begins_of (model, log)) (suc checks.asked.0) old new
      (checks.asked.1 ∙ ap (λ xs. xs ++ take checks.asked.0 ((asked.Read slot.Log, log) ∷ [])) has.asked
      ∙ append_assoc old.asked ((asked.Read slot.Model, model) ∷ []) (take checks.asked.0 ((asked.Read slot.Log, log) ∷ [])))
      (record { out = checks.quiet.out ∙ has.quiet.out; files = checks.quiet.files ∙ has.quiet.files; log = checks.quiet.log ∙ has.quiet.log });
  ends = ends_both model log old mid f.reads m.reads g.reads p s out (ap (λ z. z.reads) has.faults) has.quiet.files has.read checks.ends;
  causes = let C : Faults → Type 0 = λ z. Causes s z g in subst C has.faults checks.causes;
}

-- ---- the words

pub no_command : (words : List (List ℕ)) → (length words ≡ 2 → ⊥) → command_of words ≡ None
no_command [] other = refl
no_command (a ∷ []) other = refl
no_command (a ∷ b ∷ []) other = absurd (other refl)
no_command (a ∷ b ∷ c ∷ more) other = refl

pub words_refused : (words : List (List ℕ)) (s : State) (f : Faults) → (length words ≡ 2 → ⊥) → Decides (command_of words) s s f f status.Words usage_line
words_refused words s f other =
    let D : Option Command → Type 0 = λ c. Decides c s s f f status.Words usage_line in
    subst D (sym (no_command words other)) (record { leaves = sym (written-none to.Out s); ends = (refl, refl); causes = refl })

-- ---- what was decided, and then the print

leaves_written : (command : Option Command) (bytes : List ℕ) (old mid new : State) → LeavesOf command [] old mid → new ≡ written to.Out bytes mid → LeavesOf command bytes old new
leaves_written None bytes old mid new l e = e ∙ ap (written to.Out bytes) l ∙ written-written to.Out [] bytes old
leaves_written (Some names) bytes old mid new l e = record {
  asked = (l.asked.0, ap (λ s. s.asked) e ∙ l.asked.1);
  out = ap (λ s. s.out) e ∙ ap (option_map (λ xs. xs ++ bytes)) (l.out ∙ sym (out_kept old.out));
  files = ap (λ s. s.files) e ∙ l.files;
  log = ap (λ s. s.log) e ∙ l.log;
}

module _ (command : Option Command) (old mid new : State) (f m g : Faults) (s : CheckStatus) (out : List ℕ) (decides : Decides command old mid f m s out) where
  whole : (r : CheckStatus) → PrintsAll s out mid new m g r → IsWhole command old new f g r
  whole r prints = record {
    out = out;
    ends =
        let E : CheckStatus → Type 0 = λ z. Ends command old f.reads g.reads z out in
        let R : Faults → Type 0 = λ z. Ends command old f.reads z.reads s out in
        subst E (sym prints.status) (subst R (sym prints.faults) decides.ends);
    leaves = leaves_written command out old mid new decides.leaves prints.state;
  }

  whole_causes : (r : CheckStatus) → PrintsAll s out mid new m g r → Causes r f g
  whole_causes r prints =
      let C : CheckStatus → Type 0 = λ z. Causes z f g in
      let G : Faults → Type 0 = λ z. Causes s f z in
      subst C (sym prints.status) (subst G (sym prints.faults) decides.causes)

  -- what was read caused no fault of writing
  no_write_fault : (c : Option Command) (z : CheckStatus) → Ends c old f.reads m.reads z out → Causes z f m → m.writes ≡ f.writes
  no_write_fault (Some names) status.Accepted e c = ap (λ z. z.writes) c
  no_write_fault (Some names) status.Refused e c = ap (λ z. z.writes) c
  no_write_fault (Some names) status.File e c = ap (λ z. z.writes) c
  no_write_fault (Some names) status.ReadFault e c = c.1
  no_write_fault (Some names) status.Memory e c = ap (λ z. z.writes) c
  no_write_fault (Some names) status.Words e c = absurd e
  no_write_fault (Some names) status.WriteFault e c = absurd e
  no_write_fault None status.Words e c = ap (λ z. z.writes) c
  no_write_fault None status.Accepted e c = absurd e
  no_write_fault None status.Refused e c = absurd e
  no_write_fault None status.File e c = absurd e
  no_write_fault None status.ReadFault e c = absurd e
  no_write_fault None status.Memory e c = absurd e
  no_write_fault None status.WriteFault e c = absurd e

  read_count : (z : CheckStatus) → Causes z f m → (m.reads ≡ f.reads) ⊎ Rose f.reads m.reads
  read_count status.Accepted c = inl (ap (λ z. z.reads) c)
  read_count status.Refused c = inl (ap (λ z. z.reads) c)
  read_count status.Words c = inl (ap (λ z. z.reads) c)
  read_count status.File c = inl (ap (λ z. z.reads) c)
  read_count status.ReadFault c = inr c.0
  read_count status.Memory c = inl (ap (λ z. z.reads) c)
  read_count status.WriteFault c = c.1

  rose : PrintsFront out mid new m g → Rose f.writes g.writes
  rose prints = subst (λ n. Rose n g.writes) (no_write_fault command s decides.ends decides.causes) prints.rose

  cut_short : PrintsFront out mid new m g → IsCutShort command old new f g
  cut_short prints = record {
    rose = rose prints;
    status = s;
    out = out;
    ends = subst (λ n. Ends command old f.reads n s out) (sym prints.reads) decides.ends;
    count = prints.front.0;
    part = prints.front.1;
    leaves = leaves_written command (take prints.front.0 out) old mid new decides.leaves prints.front.2;
  }

  cut_causes : PrintsFront out mid new m g → Causes status.WriteFault f g
  cut_causes prints = (rose prints, subst (λ n. (n ≡ f.reads) ⊎ Rose f.reads n) (sym prints.reads) (read_count s decides.causes))

  pub check_means : (r : CheckStatus) → Prints s out mid new m g r → CheckMeans command old new f g r
  check_means status.Accepted prints = whole status.Accepted prints
  check_means status.Refused prints = whole status.Refused prints
  check_means status.Words prints = whole status.Words prints
  check_means status.File prints = whole status.File prints
  check_means status.ReadFault prints = whole status.ReadFault prints
  check_means status.WriteFault prints = cut_short prints
  check_means status.Memory prints = whole status.Memory prints

  pub check_causes : (r : CheckStatus) → Prints s out mid new m g r → Causes r f g
  check_causes status.Accepted prints = whole_causes status.Accepted prints
  check_causes status.Refused prints = whole_causes status.Refused prints
  check_causes status.Words prints = whole_causes status.Words prints
  check_causes status.File prints = whole_causes status.File prints
  check_causes status.ReadFault prints = whole_causes status.ReadFault prints
  check_causes status.WriteFault prints = cut_causes prints
  check_causes status.Memory prints = whole_causes status.Memory prints
