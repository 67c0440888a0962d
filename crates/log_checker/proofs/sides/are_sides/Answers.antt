use Rattle.std.proofs.Common.{refl}
use Rattle.log_checker.proofs.SideLaws.{ascends_to, ascends_from}
use Rattle.log_checker.proofs.Verdicts.{never}
use Rattle.log_checker.proofs.sides.are_sides.Goals as goal

pub returns-then-not-is_ascending : goal.returns-then-not-is_ascending
returns-then-not-is_ascending c = ((λ f. absurd (never f)), (λ are. absurd (never (c.if-not-is_ascending.ensures.1 (ascends_from _ are.ascending)))))

pub returns : goal.returns
returns c = (
  (λ t. record { ascending = ascends_to _ (c.if-not-is_ascending.ensures.0 refl); each = c.are_there.ensures.0 t }),
  (λ are. c.are_there.ensures.1 are.each),
)
