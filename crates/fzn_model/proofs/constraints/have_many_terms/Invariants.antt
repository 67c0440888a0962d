use Rattle.std.proofs.Common.{◌≡◌, ◌+◌, take, sum_by}
use Rattle.fzn_model.specs.ConstraintFaults.{term_count}
use Rattle.fzn_model.specs.PartFaults.{held}
use Rattle.fzn_model.specs.State.{naming_of}
use Rattle.fzn_model.proofs.constraints.have_many_terms.Given as goal

-- the terms so far
abbrev pub invariant-loop-expression : goal.invariant-loop-expression
invariant-loop-expression l = l.terms ≡ held (l.start + sum_by (term_count (naming_of l.declared)) (take l.expression-index l.expressions))
