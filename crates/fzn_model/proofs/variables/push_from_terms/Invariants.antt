use Rattle.std.proofs.Common.{◌≡◌, ◌++◌, drop}
use Rattle.std.specs.List.{flat_map}
use Rattle.fzn_model.specs.Shared.{variables_in}
use Rattle.fzn_model.proofs.variables.push_from_terms.Given as goal

-- the variables so far, and those of the terms that are left, are all
abbrev pub invariant-loop-term : goal.invariant-loop-term
invariant-loop-term l =
    l.variables.items ++ flat_map variables_in (drop l.term-index l.terms) ≡ l.initial.variables.items ++ flat_map variables_in l.terms
