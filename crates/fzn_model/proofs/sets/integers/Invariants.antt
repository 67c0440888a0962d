use Rattle.std.specs.Prelude.{◌≡◌, drop}
use Rattle.fzn_model.specs.Entities.{integer_of}
use Rattle.fzn_model.specs.Lists.{each_of}
use Rattle.fzn_model.specs.Measures.{with_front}
use Rattle.fzn_model.proofs.sets.integers.Given as goal

-- the integers so far, and those of the numbers that are left, are all
abbrev pub invariant-loop-number : goal.invariant-loop-number
invariant-loop-number l =
    with_front l.items.items (each_of integer_of (drop l.number-index l.numbers)) ≡ each_of integer_of l.numbers
