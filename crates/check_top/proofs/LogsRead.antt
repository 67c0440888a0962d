-- The log as far as it was read, and what is said of the next line.
use Rattle.std.proofs.Common.{◌≡◌, ◌↔◌, ℕ, ◌+◌, ◌-◌, ◌^◌, ◌<◌, ◌≤◌, List, [], ◌∷◌, ◌++◌, length, refl, ap, sym, ◌∙◌, subst, arith, append_assoc, append-nil, length-append, inl, inr}
use Rattle.std.specs.Prelude.{Option, None, Some, IfSome, IfNone, IsTrue, codes}
use Rattle.std.specs.Option.{option_map}
use Rattle.std.specs.List.{AllByRecursion, flat_map, before_first}
use Rattle.set_meaning.specs.declared.problems.Problem.{Problem}
use Rattle.set_meaning.specs.Solutions.{AreAnswers}
use Rattle.desk.specs.declared.outside.Slot.TheVariants as slot
use Rattle.desk.specs.declared.lines.LineEnd.{LineEnd}
use Rattle.desk.specs.declared.lines.LineEnd.TheVariants as line_end
use Rattle.desk.specs.State.{State, taken}
use Rattle.desk.proofs.Moves.{taken-taken, taken-none}
use Rattle.desk.specs.Causes.{Faults}
use Rattle.desk.specs.Lines.{left_for, line_limit, is_newline, GivesLine, GivesUnended, GivesEnd, Gives, Passes}
use Rattle.log_text.specs.declared.line.Line.{Line}
use Rattle.log_text.specs.Spelling.{HasSpelling, spelling}
use Rattle.log_rules.specs.declared.reasons.Reason.{Reason}
use Rattle.log_rules.specs.declared.reasons.End.{End}
use Rattle.log_rules.specs.States.{LogState, state_of, after, ends_of, listed_answers}
use Rattle.log_rules.specs.Rules.{IsRefusedFor, IsValidAfter}
use Rattle.log_rules.specs.Logs.{AreValid, IsValidLine, EndsAs}
use Rattle.log_checker.specs.States.{CheckerState, start, Takes}
use Rattle.check_top.specs.declared.verdict.Verdict.{Verdict}
use Rattle.check_top.specs.declared.verdict.Verdict.TheVariants as verdict
use Rattle.check_top.specs.Verdicts.{AreShort, IsAccepted, IsRefusedNext, IsRefusedAt, HasNoNewline}
use Rattle.check_top.specs.Endings.{Says, verdict_status}
use Rattle.check_top.specs.Run.{Causes}
use Rattle.check_top.specs.Steps.{TakesLine, EndsHere, Judges, JudgesEnd, RefusesLine, RefusesBytes, PassesLine, TakesSome}

-- the bytes of the lines
abbrev pub text_of : List Line → List ℕ
text_of log = flat_map (λ line. spelling line ++ codes "\n") log

-- A checker took these lines, which are valid, and they are the front of the log. The next line has this number.
pub record IsReadSoFar (p : Problem) (left : Option (List ℕ)) (c : CheckerState) (rest : Option (List ℕ)) (number : ℕ) : Type 0 where
  pub log : List Line
  pub state : c ≡ record { problem = p; log = state_of log }
  pub valid : AreValid p log
  pub spelled : AllByRecursion HasSpelling log
  pub short : AreShort log
  pub text : left ≡ option_map (λ xs. text_of log ++ xs) rest
  pub place : number ≡ length log + 1

-- ---- lists

all_and_one : {X : Type 0} (P : X → Type 0) (xs : List X) (x : X) → AllByRecursion P xs → P x → AllByRecursion P (xs ++ x ∷ [])
all_and_one P [] x all one = (one, tt)
all_and_one P (y ∷ ys) x all one = (all.0, all_and_one P ys x all.1 one)

text_and_one : (log : List Line) (line : Line) (more : List ℕ) → text_of (log ++ line ∷ []) ++ more ≡ text_of log ++ (spelling line ++ 10 ∷ more)
text_and_one [] line more = ap (λ ys. ys ++ more) (append-nil (spelling line ++ codes "\n")) ∙ append_assoc (spelling line) (codes "\n") more
text_and_one (l ∷ log) line more =
    append_assoc (spelling l ++ codes "\n") (text_of (log ++ line ∷ [])) more ∙ ap (λ ys. (spelling l ++ codes "\n") ++ ys) (text_and_one log line more)
    ∙ sym (append_assoc (spelling l ++ codes "\n") (text_of log) (spelling line ++ 10 ∷ more))

-- ---- the lines that were taken

same_left : (left : Option (List ℕ)) → left ≡ option_map (λ xs. [] ++ xs) left
same_left None = refl
same_left (Some xs) = refl

pub read_none : (p : Problem) (left rest : Option (List ℕ)) (c : CheckerState) → AreValid p [] → c ≡ start p → rest ≡ left → IsReadSoFar p left c rest 1
read_none p left rest c valid e same = record {
  log = [];
  state = e;
  valid = valid;
  spelled = tt;
  short = tt;
  text = same_left left ∙ ap (option_map (λ xs. [] ++ xs)) (sym same);
  place = refl;
}

moved : (log : List Line) (line : Line) (text : List ℕ) (rest : Option (List ℕ)) → text ≡ spelling line
    → option_map (λ xs. text_of log ++ xs) (option_map (λ xs. text ++ 10 ∷ xs) rest) ≡ option_map (λ xs. text_of (log ++ line ∷ []) ++ xs) rest
moved log line text None e = refl
moved log line text (Some more) e = ap Some (ap (λ ys. text_of log ++ (ys ++ 10 ∷ more)) e ∙ sym (text_and_one log line more))

pub read_one_more : (p : Problem) (left rest new : Option (List ℕ)) (c d : CheckerState) (number : ℕ)
    → ((log : List Line) (line : Line) → state_of (log ++ line ∷ []) ≡ after (state_of log) line)
    → ((log : List Line) (line : Line) → AreValid p (log ++ line ∷ []) ↔ (AreValid p log × IsValidLine p log line))
    → IsReadSoFar p left c rest number → TakesLine c d rest new → IsReadSoFar p left d new (number + 1)
read_one_more p left rest new c d number grows valid so_far taken =
    let log = so_far.log in
    let line = taken.takes.line in
    let V : CheckerState → Type 0 = λ s. IsValidAfter s.problem s.log line in
    let is_valid : IsValidLine p log line = subst V so_far.state taken.takes.valid in
    record {
      log = log ++ line ∷ [];
      state = taken.takes.state ∙ ap (λ (s : CheckerState). record { problem = s.problem; log = after s.log line }) so_far.state
          ∙ ap (λ (s : LogState). record { problem = p; log = s }) (sym (grows log line));
      valid = (valid log line).1 (so_far.valid, is_valid);
      spelled = all_and_one HasSpelling log line so_far.spelled taken.takes.reads.0;
      short = all_and_one (λ l. length (spelling l) ≤ line_limit) log line so_far.short
          (subst (λ t. length t ≤ line_limit) taken.takes.reads.1 taken.given.whole.short);
      text = so_far.text ∙ ap (option_map (λ xs. text_of log ++ xs)) taken.given.left ∙ moved log line taken.text new taken.takes.reads.1;
      place = omega (arith, so_far.place, length-append log (line ∷ []));
    }

-- ---- the verdict

-- what holds of the rest of the log holds of the log
of_rest : (P Q : List ℕ → Type 0) (front : List ℕ) (left rest : Option (List ℕ)) → left ≡ option_map (λ xs. front ++ xs) rest → IfSome rest P
    → ((xs : List ℕ) → P xs → Q (front ++ xs)) → IfSome left Q
of_rest P Q front left None e h f = subst (λ l. IfSome l Q) (sym e) tt
of_rest P Q front left (Some xs) e h f = subst (λ l. IfSome l Q) (sym e) (f xs h)

is_accepted : (p : Problem) (left rest : Option (List ℕ)) (c : CheckerState) (number : ℕ) (end : End) (answers : ℕ)
    → ((log : List Line) → AreValid p log → AreAnswers p (listed_answers log))
    → ((log : List Line) (end : End) → AreValid p log → (ends_of log ≡ end ∷ []) ↔ EndsAs log end)
    → IsReadSoFar p left c rest number → IfSome rest (λ xs. xs ≡ []) → EndsHere c end answers → IfSome left (λ xs. IsAccepted p xs end answers)
unfolding state_of
is_accepted p left rest c number end answers sound closed so_far none ends =
    let log = so_far.log in
    let E : CheckerState → Type 0 = λ s. EndsHere s end answers in
    let here : EndsHere (record { problem = p; log = state_of log }) end answers = subst E so_far.state ends in
    of_rest (λ xs. xs ≡ []) (λ xs. IsAccepted p xs end answers) (text_of log) left rest so_far.text none (λ xs empty. record {
      log = log;
      spelled = record {
        spelled = record { spelled = so_far.spelled; whole = ap (λ ys. text_of log ++ ys) empty ∙ append-nil (text_of log) };
        short = so_far.short;
      };
      accepted = record { valid = so_far.valid; ends = (closed log end so_far.valid).0 here.ends };
      solutions = sound log so_far.valid;
      covered = here.covered;
      count = here.count;
    })

is_refused : (p : Problem) (left rest : Option (List ℕ)) (c : CheckerState) (number at : ℕ) (r : Reason)
    → IsReadSoFar p left c rest number → at ≡ number → IfSome rest (λ xs. IsRefusedNext c.problem c.log xs r) → IfSome left (λ xs. IsRefusedAt p xs at r)
is_refused p left rest c number at r so_far same next =
    let log = so_far.log in
    let N : CheckerState → Type 0 = λ s. IfSome rest (λ xs. IsRefusedNext s.problem s.log xs r) in
    of_rest (λ xs. IsRefusedNext p (state_of log) xs r) (λ xs. IsRefusedAt p xs at r) (text_of log) left rest so_far.text (subst N so_far.state next) (λ xs refused. record {
      log = log;
      front = text_of log;
      rest = xs;
      whole = refl;
      spelled = record { spelled = record { spelled = so_far.spelled; whole = refl }; short = so_far.short };
      valid = so_far.valid;
      place = same ∙ so_far.place;
      next = refused;
    })

pub says : (p : Problem) (left rest : Option (List ℕ)) (c : CheckerState) (number : ℕ) (v : Verdict)
    → ((log : List Line) → AreValid p log → AreAnswers p (listed_answers log))
    → ((log : List Line) (end : End) → AreValid p log → (ends_of log ≡ end ∷ []) ↔ EndsAs log end)
    → IsReadSoFar p left c rest number → Judges c rest number v → Says p left v
says p left rest c number (verdict.Accepted end answers) sound closed so_far judged = is_accepted p left rest c number end answers sound closed so_far judged.0 judged.1
says p left rest c number (verdict.Refused at r) sound closed so_far judged = is_refused p left rest c number at r so_far judged.0 judged.1
says p left rest c number verdict.ReadFault sound closed so_far judged = tt
says p left rest c number verdict.Memory sound closed so_far judged = tt

-- ---- the next line

pub given_line : (e : LineEnd) (old new : Option (List ℕ)) (line text : List ℕ) → e ≡ line_end.Line → text ≡ line → Gives e old new line → GivesLine old new text
given_line e old new line text is same gives =
    let G : LineEnd → Type 0 = λ z. Gives z old new line in
    subst (GivesLine old new) (sym same) (subst G is gives)

pub given_unended : (e : LineEnd) (old new : Option (List ℕ)) (line : List ℕ) → e ≡ line_end.Unended → Gives e old new line → GivesUnended old new line
given_unended e old new line is gives = let G : LineEnd → Type 0 = λ z. Gives z old new line in subst G is gives

pub given_end : (e : LineEnd) (old new : Option (List ℕ)) (line : List ℕ) → e ≡ line_end.End → Gives e old new line → GivesEnd old new line
given_end e old new line is gives = let G : LineEnd → Type 0 = λ z. Gives z old new line in subst G is gives

pub line_taken : (c d : CheckerState) (old new : Option (List ℕ)) (text : List ℕ) (o : Option Verdict) → GivesLine old new text → IfNone o (Takes c text d) → IfNone o (TakesLine c d old new)
line_taken c d old new text None given takes = record { text = text; given = given; takes = takes }
line_taken c d old new text (Some v) given takes = tt

bad_line : (c : CheckerState) (old new : Option (List ℕ)) (text : List ℕ) (r : Reason) → GivesLine old new text → IsRefusedFor c.problem c.log text r
    → IfSome old (λ xs. IsRefusedNext c.problem c.log xs r)
bad_line c old new text r given refused = subst (λ l. IfSome l (λ xs. IsRefusedNext c.problem c.log xs r)) (sym given.left) (at new)
  where
    at : (n : Option (List ℕ)) → IfSome (option_map (λ xs. text ++ 10 ∷ xs) n) (λ xs. IsRefusedNext c.problem c.log xs r)
    at None = tt
    at (Some more) = inr (inl (record { line = text; more = more; front = refl; whole = given.whole; refused = refused }))

line_refused : (c : CheckerState) (old new : Option (List ℕ)) (text : List ℕ) (number : ℕ) (v : Verdict) → GivesLine old new text → RefusesLine c text number v → Judges c old number v
line_refused c old new text number (verdict.Refused at r) given refused = (refused.0, bad_line c old new text r given refused.1)
line_refused c old new text number verdict.Memory given refused = tt
line_refused c old new text number verdict.ReadFault given refused = tt
line_refused c old new text number (verdict.Accepted end answers) given refused = absurd refused

pub line_judged : (c : CheckerState) (old new : Option (List ℕ)) (text : List ℕ) (number : ℕ) (o : Option Verdict) → GivesLine old new text
    → IfSome o (RefusesLine c text number) → IfSome o (Judges c old number)
line_judged c old new text number None given refused = tt
line_judged c old new text number (Some v) given refused = line_refused c old new text number v given refused

quiet_refusal : (c : CheckerState) (text : List ℕ) (number : ℕ) (v : Verdict) (f g : Faults) → RefusesLine c text number v → g ≡ f → Causes (verdict_status v) f g
quiet_refusal c text number (verdict.Refused at r) f g refused same = same
quiet_refusal c text number verdict.Memory f g refused same = same
quiet_refusal c text number verdict.ReadFault f g refused same = absurd refused
quiet_refusal c text number (verdict.Accepted end answers) f g refused same = absurd refused

pub line_causes : (c : CheckerState) (text : List ℕ) (number : ℕ) (o : Option Verdict) (f g : Faults) → IfSome o (RefusesLine c text number) → g ≡ f
    → IfSome o (λ v. Causes (verdict_status v) f g)
line_causes c text number None f g refused same = tt
line_causes c text number (Some v) f g refused same = quiet_refusal c text number v f g refused same

pub line_passes : (o : Option Verdict) (old new : State) (before after : ℕ) (text : List ℕ) → Passes slot.Log old new before (length text + 1 + after)
    → IfNone o (PassesLine old new before after)
line_passes None old new before after text passes = record { count = passes.count; state = passes.state; fewer = omega (arith, passes.bytes) }
line_passes (Some v) old new before after text passes = tt

pub unended_judged : (c : CheckerState) (old new : Option (List ℕ)) (text : List ℕ) (number : ℕ) (v : Verdict) → GivesUnended old new text → RefusesBytes c number v → Judges c old number v
unended_judged c old new text number (verdict.Refused at r) given refused = (refused.0, at_end old given.left)
  where
    at_end : (l : Option (List ℕ)) → IfSome l (λ xs. xs ≡ text) → IfSome l (λ xs. IsRefusedNext c.problem c.log xs r)
    at_end None e = tt
    at_end (Some xs) e =
        let N : List ℕ → Type 0 = λ ys. HasNoNewline c.problem c.log ys r in
        inr (inr (inr (subst N (sym e) (record { some = given.some; unended = given.whole.one; first = refused.1 }))))
unended_judged c old new text number verdict.Memory given refused = absurd refused
unended_judged c old new text number verdict.ReadFault given refused = absurd refused
unended_judged c old new text number (verdict.Accepted end answers) given refused = absurd refused

pub long_judged : (c : CheckerState) (old : Option (List ℕ)) (number : ℕ) (v : Verdict) → IfSome old (λ xs. line_limit < length (before_first is_newline xs))
    → RefusesBytes c number v → Judges c old number v
long_judged c old number (verdict.Refused at r) long refused = (refused.0, at_long old long)
  where
    at_long : (l : Option (List ℕ)) → IfSome l (λ xs. line_limit < length (before_first is_newline xs)) → IfSome l (λ xs. IsRefusedNext c.problem c.log xs r)
    at_long None h = tt
    at_long (Some xs) h = inr (inr (inl (record { long = h; first = refused.1 })))
long_judged c old number verdict.Memory long refused = absurd refused
long_judged c old number verdict.ReadFault long refused = absurd refused
long_judged c old number (verdict.Accepted end answers) long refused = absurd refused

pub end_judged : (c : CheckerState) (old new : Option (List ℕ)) (text : List ℕ) (number : ℕ) (v : Verdict) → GivesEnd old new text → JudgesEnd c number v → Judges c old number v
end_judged c old new text number (verdict.Accepted end answers) given judged = (given.none, judged)
end_judged c old new text number (verdict.Refused at r) given judged = (judged.0, at_end old given.none)
  where
    at_end : (l : Option (List ℕ)) → IfSome l (λ xs. xs ≡ []) → IfSome l (λ xs. IsRefusedNext c.problem c.log xs r)
    at_end None e = tt
    at_end (Some xs) e = inl (record { none = e; going = judged.2; reason = judged.1 })
end_judged c old new text number verdict.Memory given judged = absurd judged
end_judged c old new text number verdict.ReadFault given judged = absurd judged

pub bytes_causes : (c : CheckerState) (number : ℕ) (v : Verdict) (f g : Faults) → RefusesBytes c number v → g ≡ f → Causes (verdict_status v) f g
bytes_causes c number (verdict.Refused at r) f g refused same = same
bytes_causes c number verdict.Memory f g refused same = same
bytes_causes c number verdict.ReadFault f g refused same = absurd refused
bytes_causes c number (verdict.Accepted end answers) f g refused same = same

pub end_causes : (c : CheckerState) (number : ℕ) (v : Verdict) (f g : Faults) → JudgesEnd c number v → g ≡ f → Causes (verdict_status v) f g
end_causes c number (verdict.Refused at r) f g judged same = same
end_causes c number verdict.Memory f g judged same = same
end_causes c number verdict.ReadFault f g judged same = absurd judged
end_causes c number (verdict.Accepted end answers) f g judged same = same

-- ---- the counts of the loop

-- with each line fewer bytes are left
pub fewer_left : (old new : State) (before after : ℕ) → PassesLine old new before after → new.log_read.given ≤ 2 ^ 40
    → (2 ^ 40 - new.log_read.given) + after < (2 ^ 40 - old.log_read.given) + before
fewer_left old new before after passes bound =
    let given : new.log_read.given ≡ old.log_read.given + passes.count = ap (λ s. s.log_read.given) passes.state in
    omega (arith, given, passes.fewer, bound)

pub number_grows : (old new : State) (before after number : ℕ) → PassesLine old new before after → number + before ≤ old.log_read.given + 1
    → number + 1 + after ≤ new.log_read.given + 1
number_grows old new before after number passes le =
    let given : new.log_read.given ≡ old.log_read.given + passes.count = ap (λ s. s.log_read.given) passes.state in
    omega (arith, given, passes.fewer, le)

pub takes_both : (old mid new : State) → TakesSome old mid → TakesSome mid new → TakesSome old new
takes_both old mid new a b = (a.0 + b.0, b.1 ∙ ap (taken slot.Log b.0) a.1 ∙ taken-taken slot.Log a.0 b.0 old)

pub takes_nothing : (old : State) → TakesSome old old
takes_nothing old = (0, sym (taken-none slot.Log old))

pub still_begun : (old new : State) → TakesSome old new → IsTrue old.log_read.begun → IsTrue new.log_read.begun
still_begun old new takes begun = subst (λ b. IsTrue b) (sym (ap (λ s. s.log_read.begun) takes.1)) begun

-- ---- the beginning of the loop

-- where no byte is unread, what is left for the lines is what is left of the log
pub begins_with : (old : State) (bytes : List ℕ) → bytes ≡ [] → left_for slot.Log old bytes ≡ old.log_read.left
begins_with old bytes none = ap (left_for slot.Log old) none ∙ same_rest old.log_read.left
  where
    same_rest : (left : Option (List ℕ)) → option_map (λ xs. [] ++ xs) left ≡ left
    same_rest None = refl
    same_rest (Some xs) = refl

pub none_unread : (bytes : List ℕ) (given : ℕ) → bytes ≡ [] → 1 + length bytes ≤ given + 1
none_unread bytes given none = let zero = ap length none in omega (arith, zero)
