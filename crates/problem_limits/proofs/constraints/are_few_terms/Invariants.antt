use Rattle.std.proofs.Common.{◌≡◌, ◌+◌, ◌≤◌, length, drop}
use Rattle.std.specs.List.{flat_map}
use Rattle.set_meaning.specs.Relations.{terms_of}
use Rattle.problem_limits.proofs.constraints.are_few_terms.Given as goal

-- the terms so far with those to come are all
abbrev pub invariant-loop-arg : goal.invariant-loop-arg
invariant-loop-arg l = record {
  counted : l.terms + length (flat_map terms_of (drop l.arg-index l.args)) ≡ length (flat_map terms_of l.args);
  few : l.terms ≤ 4194304;
}
