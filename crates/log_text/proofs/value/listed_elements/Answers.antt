use Rattle.std.proofs.Common.{◌∙◌}
use Rattle.std.proofs.lemmas.Result.{IfOk-weaker}
use Rattle.log_text.proofs.WordLaws.{elements_from_pieces, pieces_from_elements}
use Rattle.log_text.proofs.value.listed_elements.Goals as goal

pub returns-clause-ok : goal.returns-clause-ok
returns-clause-ok c = IfOk-weaker c.elements.result _ _ (λ v h. (h.0, elements_from_pieces _ _ _ c.of.ensures h.1)) c.elements.ensures.ok

pub returns-clause-bad : goal.returns-clause-bad
returns-clause-bad c = λ bad elements fit is. c.elements.ensures.bad bad elements fit (c.of.ensures ∙ pieces_from_elements _ _ c.if-is_empty.ensures fit is)
