-- What a checker is at its start, and once it has taken lines.
use Rattle.std.proofs.Common.{◌≡◌, ◌↔◌, ℕ, false, List, [], ◌∷◌, Option, None, Some, refl, sym, ap, ◌∙◌, subst, inr}
use Rattle.std.specs.Prelude.{◌⊎◌, ◌++◌, option_to_list, slice_get, IfSome, Result, Ok, Err, OnOk, OnErr}
use Rattle.set_meaning.specs.declared.kinds.Value.{Value}
use Rattle.set_meaning.specs.declared.problems.Problem.{Problem}
use Rattle.set_meaning.specs.Solutions.{CoverAll}
use Rattle.log_text.specs.declared.line.Line.{Line}
use Rattle.log_rules.specs.declared.nodes.Node.{Node}
use Rattle.log_rules.specs.declared.reasons.End.{End}
use Rattle.log_rules.specs.declared.reasons.End.TheVariants.{Complete}
use Rattle.log_text.specs.declared.line.Line.TheVariants as lines
use Rattle.log_rules.specs.declared.reasons.Reason.TheVariants as reason
use Rattle.log_rules.specs.Rules.{IsValidAfter}
use Rattle.log_rules.specs.Tables.{IsTable, IsNext}
use Rattle.log_rules.specs.Boxes.{Sides, AreSides}
use Rattle.log_rules.specs.States.{LogState, state_of, after, node_in, end_in, table_of, boxes_of, listed_answers, ends_of}
use Rattle.log_rules.specs.Logs.{AreValid, IsValidLine, EndsAs, IsAcceptedLog}
use Rattle.log_checker.specs.declared.earlier.Earlier.{Earlier}
use Rattle.log_checker.specs.Words.{AreKept}
use Rattle.log_checker.specs.Body.{log_of}

pub nothing_made : (table : List Node) (boxes : List Sides) (answers : List (List Value)) → table ≡ [] → boxes ≡ [] → answers ≡ []
    → state_of [] ≡ record { begun = false; table = table; boxes = boxes; answers = answers; ends = [] }
unfolding state_of table_of boxes_of listed_answers ends_of
nothing_made table boxes answers t b a = λ i. record { begun = false; table = sym t i; boxes = sym b i; answers = sym a i; ends = [] }

pub closed_covers : (p : Problem) (lines : List Line) (e : Earlier) → AreValid p lines → state_of lines ≡ log_of e → e.end ≡ Some Complete
    → ((log : List Line) (end : End) → AreValid p log → (ends_of log ≡ end ∷ []) ↔ EndsAs log end)
    → ((log : List Line) → IsAcceptedLog p log Complete → CoverAll p (listed_answers log)) → CoverAll p (log_of e).answers
unfolding state_of
closed_covers p lines e valid made end ends covers =
    let closes : ends_of lines ≡ Complete ∷ [] = ap (λ (s : LogState). s.ends) made ∙ ap option_to_list end in
    let all = covers lines (record { valid = valid; ends = (ends lines Complete valid).0 closes }) in
    subst (CoverAll p) (ap (λ (s : LogState). s.answers) made) all

pub kept_of : (p : Problem) (lines : List Line) (s : LogState) → AreValid p lines → state_of lines ≡ s
    → ((log : List Line) → AreValid p log → IsTable (table_of log))
    → ((log : List Line) (k : ℕ) (box : Sides) → AreValid p log → slice_get (boxes_of log) k ≡ Some box → AreSides p.kinds (table_of log) box) → AreKept p s
unfolding state_of
kept_of p lines s valid made table sides =
    subst (AreKept p) made (record { table = table lines valid; sides = λ k b is. sides lines k b valid is })

-- ---- one line more

pub next_of : (p : Problem) (s : LogState) (line : Line) → IsValidAfter p s line → IfSome (node_in line) (IsNext s.table)
unfolding IsValidAfter
next_of p s lines.Header valid = tt
next_of p s (lines.Node number place lo hi) valid = valid reason.Children
next_of p s (lines.Axiom number constraint sides) valid = tt
next_of p s (lines.Answer number values sides) valid = tt
next_of p s (lines.Resolvent number left right pivot sides) valid = tt
next_of p s (lines.Learned number) valid = tt
next_of p s (lines.Close number) valid = tt
next_of p s lines.End valid = tt

none_listed : (o : Option End) → option_to_list o ≡ [] → o ≡ None
none_listed None e = refl
none_listed (Some x) e = absurd (cc)

pub open_before : (p : Problem) (e : Earlier) (line : Line) → IsValidAfter p (log_of e) line → (end_in line ≡ None) ⊎ (e.end ≡ None)
unfolding IsValidAfter
open_before p e line valid = inr (none_listed e.end (valid reason.End))

-- some lines were taken, all of them valid
pub record WereTaken (p : Problem) (s : LogState) : Type 0 where
  pub lines : List Line
  pub valid : AreValid p lines
  pub made : state_of lines ≡ s

pub taken_after : {E : Type 0} (p : Problem) (lines : List Line) (s t : LogState) (line : Line) (r : Result (Unit {0}) E) → AreValid p lines → state_of lines ≡ s → IsValidAfter p s line
    → OnOk r (t ≡ after s line) → OnErr r (t ≡ s)
    → ((log : List Line) (l : Line) → state_of (log ++ l ∷ []) ≡ after (state_of log) l)
    → ((log : List Line) (l : Line) → AreValid p (log ++ l ∷ []) ↔ (AreValid p log × IsValidLine p log l)) → WereTaken p t
taken_after p lines s t line (Ok u) valid made next added same grows more = record {
  lines = lines ++ line ∷ [];
  valid = (more lines line).1 (valid, subst (λ z. IsValidAfter p z line) (sym made) next);
  made = grows lines line ∙ ap (λ z. after z line) made ∙ sym added;
}
taken_after p lines s t line (Err e) valid made next added same grows more = record { lines = lines; valid = valid; made = made ∙ sym same }
