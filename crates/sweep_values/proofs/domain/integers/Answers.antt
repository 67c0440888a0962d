use Rattle.sweep_values.proofs.Making.{int_valid}
use Rattle.sweep_values.proofs.domain.integers.Goals as goal

pub returns-clause-valid : goal.returns-clause-valid
returns-clause-valid c =
    int_valid c.args.numbers.now c.in_ok-offsets.offsets.items c.args.width c.in_ok-offsets.ensures c.requires.ascending c.requires.narrow c.requires.width
