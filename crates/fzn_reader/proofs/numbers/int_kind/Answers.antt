-- The size, cut off above the limit, tells a large integer from the others.
use Rattle.std.proofs.Common.{arith}
use Rattle.std.specs.Str.Parse.{digits_value}
use Rattle.fzn_reader.proofs.Values.{large_int}
use Rattle.fzn_reader.proofs.numbers.int_kind.Goals as goal

pub returns-then-size-gt-INT_LIMIT : goal.returns-then-size-gt-INT_LIMIT
returns-then-size-gt-INT_LIMIT c =
    let size = c.natural_of-size.ensures in
    large_int c.args.negative (digits_value c.args.base c.args.digits.now) (omega (arith, size))
