-- What one more line makes of a log: its state, and whether its lines are valid and end it.
use Rattle.std.proofs.Common.{◌≡◌, ◌↔◌, ◌+◌, nat_lt, true, List, [], ◌∷◌, ◌++◌, length, Option, Some, None, refl, sym, ap, ◌∙◌, subst, inl, inr, arith}
use Rattle.std.proofs.lemmas.List.{append_assoc, length-append}
use Rattle.std.proofs.lemmas.Bool.{lt-ltb}
use Rattle.set_meaning.specs.declared.problems.Problem.{Problem}
use Rattle.log_text.specs.declared.line.Line.{Line}
use Rattle.log_rules.specs.declared.reasons.End.{End}
use Rattle.log_rules.specs.declared.reasons.Reason.TheVariants as reason
use Rattle.log_rules.specs.States.{state_of, after, table_of, boxes_of, listed_answers, ends_of, node_in, box_in, answer_in, end_in, with_some}
use Rattle.log_rules.specs.Rules.{IsValidAfter}
use Rattle.log_rules.specs.Logs.{IsValidLine, AreValid, EndsAs}
use Rattle.log_rules.proofs.Fronts.{given_by_one_more, not_empty, last_or_before, empty_or_pushed, one_item}

-- ---- the state

begins : (log : List Line) (line : Line) → nat_lt 0 (length (log ++ line ∷ [])) ≡ true
begins log line =
    let long : length (log ++ line ∷ []) ≡ length log + 1 = length-append log (line ∷ []) in
    lt-ltb 0 (length (log ++ line ∷ [])) (omega arith)

pub state_grows : (log : List Line) (line : Line) → state_of (log ++ line ∷ []) ≡ after (state_of log) line
unfolding state_of table_of boxes_of listed_answers ends_of
state_grows log line =
    let b = begins log line in
    let t = given_by_one_more node_in log line in
    let x = given_by_one_more box_in log line in
    let a = given_by_one_more answer_in log line in
    let e = given_by_one_more end_in log line in
    λ i. record { begun = b i; table = t i; boxes = x i; answers = a i; ends = e i }

pub ends_grow : (log : List Line) (line : Line) → ends_of (log ++ line ∷ []) ≡ with_some (ends_of log) (end_in line)
unfolding ends_of
ends_grow log line = given_by_one_more end_in log line

pub answers_grow : (log : List Line) (line : Line) → listed_answers (log ++ line ∷ []) ≡ with_some (listed_answers log) (answer_in line)
unfolding listed_answers
answers_grow log line = given_by_one_more answer_in log line

-- ---- validity

pub none_valid : (p : Problem) → AreValid p []
unfolding AreValid
none_valid p before after line e = absurd (not_empty before after line e)

pub valid_more : (p : Problem) (log : List Line) (line : Line) → AreValid p (log ++ line ∷ []) ↔ (AreValid p log × IsValidLine p log line)
unfolding AreValid
valid_more p log line = (
  (λ all. (
    (λ before rest other e. all before (rest ++ line ∷ []) other (ap (λ l. l ++ line ∷ []) e ∙ append_assoc before (other ∷ rest) (line ∷ []))),
    all log [] line refl,
  )),
  (λ h before rest other e. elim (last_or_before log line before rest other e) [
    | inl q ↦ subst (λ l. IsValidLine p l other) q.0 (subst (IsValidLine p log) q.1 h.1)
    | inr r ↦ h.0 before r.rest other r.whole
  ]),
)

-- ---- the end

-- before a valid line no line ends the log
none_before : (p : Problem) (log : List Line) (line : Line) → IsValidLine p log line → ends_of log ≡ []
unfolding IsValidAfter state_of
none_before p log line valid = valid reason.End

last_valid : (p : Problem) (log before : List Line) (last : Line) → AreValid p log → log ≡ before ++ last ∷ [] → IsValidLine p before last
unfolding AreValid
last_valid p log before last all e = all before [] last e

end_from : (o : Option End) (end : End) → with_some [] o ≡ end ∷ [] → o ≡ Some end
end_from None end e = absurd (not_empty [] [] end e)
end_from (Some x) end e = ap Some (one_item x end e)

nothing_ends : (end : End) → ends_of [] ≡ end ∷ [] → ⊥
unfolding ends_of
nothing_ends end e = not_empty [] [] end e

pub ends_as : (p : Problem) (log : List Line) (end : End) → AreValid p log → (ends_of log ≡ end ∷ []) ↔ EndsAs log end
ends_as p log end all = (to, from)
  where
    ends_by : (before : List Line) (last : Line) → log ≡ before ++ last ∷ [] → ends_of log ≡ with_some [] (end_in last)
    ends_by before last whole =
        ap ends_of whole ∙ ends_grow before last ∙ ap (λ l. with_some l (end_in last)) (none_before p before last (last_valid p log before last all whole))

    to : ends_of log ≡ end ∷ [] → EndsAs log end
    to is = elim (empty_or_pushed log) [
      | inl h ↦ absurd (nothing_ends end (sym (ap ends_of h) ∙ is))
      | inr h ↦ record { before = h.before; last = h.last; whole = h.whole; ending = end_from (end_in h.last) end (sym (ends_by h.before h.last h.whole) ∙ is) }
    ]

    from : EndsAs log end → ends_of log ≡ end ∷ []
    from h = ends_by h.before h.last h.whole ∙ ap (λ o. with_some [] o) h.ending
