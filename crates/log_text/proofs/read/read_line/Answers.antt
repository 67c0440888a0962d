use Rattle.std.specs.Prelude.{◌==◌}
use Rattle.std.specs.List.{slice_split}
use Rattle.std.proofs.Common.{sym, ◌∙◌, ap}
use Rattle.std.proofs.lemmas.Result.{IfOk-weaker}
use Rattle.log_text.proofs.WordLaws.{joined, joined_split}
use Rattle.log_text.proofs.LineLaws.{words_of_spelling, same_spelling}
use Rattle.log_text.proofs.read.read_line.Goals as goal

pub returns-clause-spelled : goal.returns-clause-spelled
returns-clause-spelled c = IfOk-weaker c.line.result _ _ (λ line h. (h.0, ap (joined 32) (sym h.1 ∙ c.of.ensures) ∙ joined_split 32 _)) c.line.ensures.ok

pub returns-clause-only : goal.returns-clause-only
returns-clause-only c =
    IfOk-weaker c.line.result _ _
    (λ line h. λ other fits is. same_spelling other line fits h.0 (is ∙ sym (ap (joined 32) (sym h.1 ∙ c.of.ensures) ∙ joined_split 32 _)))
    c.line.ensures.ok

pub returns-clause-bad_form : goal.returns-clause-bad_form
returns-clause-bad_form c = λ bad line fits is. c.line.ensures.bad bad line fits (c.of.ensures ∙ ap (slice_split (λ b. b == 32)) (sym is) ∙ words_of_spelling line fits)
