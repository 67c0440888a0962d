use Rattle.propagators.proofs.Moving.{compiled_grows, compiled_same, constraint_at_grows}
use Rattle.propagators.proofs.laws.compiled_stays.Goals as goal

pub returns-clause-grown : goal.returns-clause-grown
returns-clause-grown c = compiled_grows

pub returns-clause-pinned : goal.returns-clause-pinned
returns-clause-pinned c = compiled_same

pub returns-clause-constraint : goal.returns-clause-constraint
returns-clause-constraint c = constraint_at_grows
