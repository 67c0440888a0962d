use Rattle.std.proofs.Common.{take}
use Rattle.std.specs.List.{All}
use Rattle.set_meaning.specs.Relations.{Holds}
use Rattle.set_meaning.proofs.meaning.is_solution.Given as goal

abbrev pub invariant-loop-c : goal.invariant-loop-c
invariant-loop-c l = All (λ k. Holds k l.values) (take l.c-index l.p.constraints)
