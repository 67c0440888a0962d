use Rattle.std.proofs.Common.{rules}
use Rattle.table_machine.proofs.MarkedWords.{one_of_is, one_of_tables, one_of_places, one_of_accepts}
use Rattle.table_machine.proofs.machine.TableMachine.one_of.Goals as goal

pub returns-clause-valid : goal.returns-clause-valid
returns-clause-valid c =
    let is = one_of_is c.args.words.items c.sort_unstable.new.self.items c.dedup.new.self.items c.args.marks.now c.of.result c.marks_in-total.result c.len-count.result c.in_ok-readings.readings.items c.first_state-start.result
    c.sort_unstable.ensures.permutation c.sort_unstable.ensures.sorted c.dedup.ensures.filtered c.marks_in-total.ensures (search rules) c.in_ok-readings.ensures c.first_state-start.ensures c.of.ensures in
    one_of_tables c.args.words.items c.dedup.new.self.items c.args.marks.now c.of.result is c.requires.few c.requires.below

pub returns-clause-places : goal.returns-clause-places
returns-clause-places c =
    let is = one_of_is c.args.words.items c.sort_unstable.new.self.items c.dedup.new.self.items c.args.marks.now c.of.result c.marks_in-total.result c.len-count.result c.in_ok-readings.readings.items c.first_state-start.result
    c.sort_unstable.ensures.permutation c.sort_unstable.ensures.sorted c.dedup.ensures.filtered c.marks_in-total.ensures (search rules) c.in_ok-readings.ensures c.first_state-start.ensures c.of.ensures in
    one_of_places c.args.words.items c.dedup.new.self.items c.args.marks.now c.of.result is

pub returns-clause-accepts : goal.returns-clause-accepts
returns-clause-accepts c bits w long =
    let is = one_of_is c.args.words.items c.sort_unstable.new.self.items c.dedup.new.self.items c.args.marks.now c.of.result c.marks_in-total.result c.len-count.result c.in_ok-readings.readings.items c.first_state-start.result
    c.sort_unstable.ensures.permutation c.sort_unstable.ensures.sorted c.dedup.ensures.filtered c.marks_in-total.ensures (search rules) c.in_ok-readings.ensures c.first_state-start.ensures c.of.ensures in
    one_of_accepts c.args.words.items c.dedup.new.self.items c.args.marks.now c.of.result bits w is c.requires.few c.requires.below long
