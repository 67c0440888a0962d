use Rattle.std.proofs.Common.{◌≡◌, ◌++◌, drop}
use Rattle.std.specs.List.{flat_map}
use Rattle.fzn_printer.specs.Block.{term_text}
use Rattle.fzn_printer.proofs.answer.push_scalar.Given as goal

abbrev pub invariant-loop-term : goal.invariant-loop-term
invariant-loop-term l = l.out.items ++ flat_map (λ t. term_text t l.values) (drop l.term-index l.term-items) ≡ l.initial.out.items ++ flat_map (λ t. term_text t l.values) l.term-items
