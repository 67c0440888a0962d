use Rattle.std.proofs.Common.{refl}
use Rattle.log_text.proofs.NumberLaws.{number_some, number_none, no_plain_start}
use Rattle.log_text.proofs.number.number.Goals as goal

pub returns-then-has_plain_start-clause-some : goal.returns-then-has_plain_start-clause-some
returns-then-has_plain_start-clause-some c = number_some _ _ _ (c.if-has_plain_start.ensures.0 refl) c.requires c.digits_value.ensures.some

pub returns-then-has_plain_start-clause-none : goal.returns-then-has_plain_start-clause-none
returns-then-has_plain_start-clause-none c = number_none _ _ _ c.requires c.digits_value.ensures.none

pub returns-else-has_plain_start-clause-none : goal.returns-else-has_plain_start-clause-none
returns-else-has_plain_start-clause-none c = no_plain_start _ _ c.requires (λ plain. let h = c.if-has_plain_start.ensures.1 plain in cc)
