use Rattle.std.proofs.Common.{sym, ◌∙◌}
use Rattle.log_text.proofs.ReadLaws.{passed_on, no_sides}
use Rattle.log_text.proofs.read.sides.Goals as goal

pub returns-in_err-next_two-clause-bad : goal.returns-in_err-next_two-clause-bad
returns-in_err-next_two-clause-bad c = λ bad sides fit is.
    no_sides c.loop-sides.sides.items sides c.loop-sides.pieces fit (sym c.loop-sides.invariant.1 ∙ is)
    (λ empty. let h = c.loop-sides-test.ensures.1 empty in cc)
    (λ m n more. c.in_err-next_two.ensures.bad (passed_on _ _ _ c.from_residual.ensures.1 bad) m n more)
