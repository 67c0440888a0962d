use Rattle.std.proofs.Common.{◌≡◌, drop}
use Rattle.fzn_model.specs.Measures.{first_number_fault}
use Rattle.fzn_model.proofs.literals.first_number_fault.Given as goal

-- those that are passed have none
abbrev pub invariant-loop-number : goal.invariant-loop-number
invariant-loop-number l = first_number_fault (drop l.number-index l.numbers) ≡ first_number_fault l.numbers
