use Rattle.std.proofs.Common.{false, rules}
use Rattle.std.proofs.lemmas.List.{get_or_default}
use Rattle.table_machine.proofs.MarkedWords.{counted_within, counted_down, counted_few, readings_more}
use Rattle.table_machine.proofs.listed_words.marked_readings.Goals as goal

pub overflow_sub-rest : goal.overflow_sub-rest
overflow_sub-rest c =
    counted_within c.args.marks.now c.loop-mark.mark-index c.loop-mark.rest c.from-rest.result false c.loop-mark-test.true (search rules) c.loop-mark.invariant.rest_is

pub marked_reading-requires : goal.marked_reading-requires
marked_reading-requires c =
    counted_few c.args.marks.now _ _ (counted_down c.args.marks.now c.loop-mark.mark-index c.loop-mark.rest c.from-rest.result false c.loop-mark-test.true (search rules) c.loop-mark.invariant.rest_is) c.requires.few

pub loop-mark-preserved : goal.loop-mark-preserved
loop-mark-preserved c =
    let left = counted_down c.args.marks.now c.loop-mark.mark-index c.loop-mark.rest c.from-rest.result false c.loop-mark-test.true (search rules) c.loop-mark.invariant.rest_is in
    record {
      rest_is = left;
      so_far = readings_more c.args.marks.now c.args.total c.args.count c.loop-mark.mark-index _ _ c.marked_reading.result c.loop-mark.readings.items c.push.new.self.items _
          c.loop-mark-test.true (get_or_default c.args.marks.now c.loop-mark.mark-index false _ c.loop-mark-test.true) left c.marked_reading.ensures c.in_ok-push.ensures.items c.loop-mark.invariant.so_far;
    }
