use Rattle.std.proofs.Common.{◌≡◌, ◌≤◌, drop}
use Rattle.std.specs.Str.{all_ascii_digits}
use Rattle.log_text.specs.Decimal.{read_on}
use Rattle.log_text.proofs.number.digits_value.Given as goal

abbrev pub invariant-loop-digit : goal.invariant-loop-digit
invariant-loop-digit l = (l.value ≤ l.limit) × (read_on l.value (drop l.digit-index l.text) ≡ read_on 0 l.text) × (all_ascii_digits (drop l.digit-index l.text) ≡ all_ascii_digits l.text)
