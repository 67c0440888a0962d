use Rattle.std.proofs.Common.{◌≡◌}
use Rattle.log_rules.specs.Tables.{walk}
use Rattle.sweep_table.proofs.table.Table.walk.Given as goal

abbrev pub invariant-nodes : goal.invariant-nodes
invariant-nodes l = walk l.self l.at l.word ≡ walk l.self l.fn.n l.word

abbrev pub decreases-nodes : goal.decreases-nodes
decreases-nodes l = l.at
