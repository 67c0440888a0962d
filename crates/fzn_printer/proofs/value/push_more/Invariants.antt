use Rattle.std.proofs.Common.{◌≡◌, ◌++◌, drop}
use Rattle.fzn_printer.specs.Block.{more_text}
use Rattle.fzn_printer.proofs.value.push_more.Given as goal

abbrev pub invariant-loop-element : goal.invariant-loop-element
invariant-loop-element l = l.out.items ++ more_text (drop l.element-index l.elements) ≡ l.initial.out.items ++ more_text l.elements
