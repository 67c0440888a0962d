use Rattle.std.proofs.Common.{◌≡◌, ◌++◌, drop, map}
use Rattle.bit_layout.specs.Words.{distance, least}
use Rattle.table_machine.proofs.initial.push_offsets.Given as goal

abbrev pub invariant-loop-number : goal.invariant-loop-number
invariant-loop-number l =
    l.words.items ++ map (distance (least l.numbers)) (drop l.number-index l.numbers) ≡ l.initial.words.items ++ map (distance (least l.numbers)) l.numbers
