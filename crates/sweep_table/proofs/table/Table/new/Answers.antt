use Rattle.sweep_table.proofs.Deepening.{kept_none}
use Rattle.sweep_table.proofs.table.Table.new.Goals as goal

pub invariant_of-result : goal.invariant_of-result
invariant_of-result c = kept_none (record { entries = c.new.result }) c.new.ensures.items
