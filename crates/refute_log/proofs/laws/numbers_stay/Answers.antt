use Rattle.diagram_arena.specs.Arena.{table}
use Rattle.refute_log.proofs.Standing.{names_more}
use Rattle.refute_log.proofs.Numbering.{numbered_more}
use Rattle.refute_log.proofs.Keeping.{untagged_numbered, stays_numbered, reclaimed_numbered, stays_names, reclaimed_names}
use Rattle.refute_log.proofs.laws.numbers_stay.Goals as goal

pub returns-clause-none : goal.returns-clause-none
returns-clause-none c = untagged_numbered

pub returns-clause-made : goal.returns-clause-made
returns-clause-made c = stays_numbered

pub returns-clause-reclaimed : goal.returns-clause-reclaimed
returns-clause-reclaimed c = reclaimed_numbered

pub returns-clause-longer : goal.returns-clause-longer
returns-clause-longer c = numbered_more

pub returns-clause-ref_made : goal.returns-clause-ref_made
returns-clause-ref_made c = stays_names

pub returns-clause-ref_reclaimed : goal.returns-clause-ref_reclaimed
returns-clause-ref_reclaimed c = reclaimed_names

pub returns-clause-ref_longer : goal.returns-clause-ref_longer
returns-clause-ref_longer c l a nodes more r n = names_more l (table a) nodes more r n
