use Rattle.std.proofs.Common.{get_or, pos, to_z, of_z, w64, rules}
use Rattle.table_machine.proofs.Domains.{asks_up, asks_near, offsets_step}
use Rattle.table_machine.proofs.initial.push_offsets.Goals as goal

pub offset-requires-clause-up : goal.offset-requires-clause-up
offset-requires-clause-up c =
    asks_up c.word_laws.ensures c.args.numbers.now c.loop-number.number-index _ _ c.requires.ascending c.loop-number-test.true (search rules) (search rules)

pub offset-requires-clause-near : goal.offset-requires-clause-near
offset-requires-clause-near c =
    asks_near c.word_laws.ensures c.args.numbers.now c.loop-number.number-index
    (to_z w64 (of_z w64 c.least-least.result)) (to_z w64 (of_z w64 (get_or c.args.numbers.now c.loop-number.number-index (pos 0))))
    c.requires.ascending c.requires.narrow c.loop-number-test.true (search rules) (search rules)

pub loop-number-preserved : goal.loop-number-preserved
loop-number-preserved c =
    offsets_step c.args.numbers.now c.loop-number.number-index c.offset.result
    (to_z w64 (of_z w64 c.least-least.result)) (to_z w64 (of_z w64 (get_or c.args.numbers.now c.loop-number.number-index (pos 0))))
    _ _ _ c.loop-number-test.true (search rules) (search rules) c.offset.ensures c.in_ok-push.ensures.items c.loop-number.invariant
