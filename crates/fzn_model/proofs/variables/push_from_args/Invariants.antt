use Rattle.std.proofs.Common.{◌≡◌, ◌++◌, drop}
use Rattle.std.specs.List.{flat_map}
use Rattle.fzn_model.specs.Shared.{variables_in_arg}
use Rattle.fzn_model.proofs.variables.push_from_args.Given as goal

-- the variables so far, and those of the arguments that are left, are all
abbrev pub invariant-loop-arg : goal.invariant-loop-arg
invariant-loop-arg l =
    l.variables.items ++ flat_map variables_in_arg (drop l.arg-index l.args) ≡ l.initial.variables.items ++ flat_map variables_in_arg l.args
