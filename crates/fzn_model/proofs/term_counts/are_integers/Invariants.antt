use Rattle.std.proofs.Common.{◌≡◌, drop}
use Rattle.std.specs.Prelude.{is_some}
use Rattle.fzn_model.specs.Entities.{integer_of}
use Rattle.fzn_model.specs.Lists.{each_of}
use Rattle.fzn_model.proofs.term_counts.are_integers.Given as goal

-- all are integers where those that are left are
abbrev pub invariant-loop-number : goal.invariant-loop-number
invariant-loop-number l = is_some (each_of integer_of (drop l.number-index l.numbers)) ≡ is_some (each_of integer_of l.numbers)
