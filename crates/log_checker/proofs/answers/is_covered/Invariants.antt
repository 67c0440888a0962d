use Rattle.std.proofs.Common.{take}
use Rattle.std.specs.List.{All}
use Rattle.set_meaning.specs.Solutions.{Covers}
use Rattle.log_checker.proofs.answers.is_covered.Given as goal

abbrev pub invariant-loop-answer : goal.invariant-loop-answer
invariant-loop-answer l = All (λ a. Covers l.problem a l.values → ⊥) (take l.answer-index l.answers)
