use Rattle.std.proofs.Common.{ap, ◌∙◌}
use Rattle.std.specs.Fmt.{decimal}
use Rattle.log_text.proofs.NumberLaws.{after_minus_none, zero_only}
use Rattle.log_text.proofs.number.integer.Goals as goal

pub returns-in-Some-eq0-clause-none : goal.returns-in-Some-eq0-clause-none
returns-in-Some-eq0-clause-none c =
    after_minus_none _ _ _ c.requires c.in-Some.ensures.some (zero_only _ _ c.requires (c.in-Some-eq0.ensures.some.1 ∙ ap decimal c.in-Some-eq0.field-0-test))

pub returns-in-None-number-clause-none : goal.returns-in-None-number-clause-none
returns-in-None-number-clause-none c = after_minus_none _ _ _ c.requires c.in-Some.ensures.some (λ n _. c.in-None-number.ensures.none n)
