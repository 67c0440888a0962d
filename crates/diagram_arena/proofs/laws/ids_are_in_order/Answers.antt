use Rattle.diagram_arena.proofs.Ids.{id_cmp_total, id_cmp-IsAntisymmetric}
use Rattle.diagram_arena.proofs.laws.ids_are_in_order.Goals as goal

pub returns-clause-total : goal.returns-clause-total
returns-clause-total c = id_cmp_total

pub returns-clause-apart : goal.returns-clause-apart
returns-clause-apart c = id_cmp-IsAntisymmetric
