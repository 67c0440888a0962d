use Rattle.std.proofs.Common.{◌≡◌, ◌++◌, drop}
use Rattle.fzn_printer.specs.Block.{item_lines}
use Rattle.fzn_printer.proofs.answer.push_items.Given as goal

abbrev pub invariant-loop-item : goal.invariant-loop-item
invariant-loop-item l = l.out.items ++ item_lines (drop l.item-index l.items) l.values ≡ l.initial.out.items ++ item_lines l.items l.values
