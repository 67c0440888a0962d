use Rattle.std.proofs.Common.{sym, ◌∙◌, ap, ◌++◌, map}
use Rattle.std.specs.Fmt.{signed_decimal}
use Rattle.log_text.proofs.ReadLaws.{no_elements}
use Rattle.log_text.proofs.value.elements.Goals as goal

pub returns-in-None-clause-bad : goal.returns-in-None-clause-bad
returns-in-None-clause-bad c = λ bad elements fit is.
    no_elements c.loop-piece.elements.items elements c.in-Some.piece.now _ fit
    (ap (λ ps. map signed_decimal c.loop-piece.elements.items ++ ps) (sym c.in-Some.ensures) ∙ sym c.loop-piece.invariant.1 ∙ is)
    c.in-None.ensures.none
