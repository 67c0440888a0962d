use Rattle.std.proofs.Common.{◌≡◌, ◌++◌, drop, map}
use Rattle.std.specs.Option.{option_map}
use Rattle.fzn_model.specs.Lists.{each_of}
use Rattle.fzn_model.specs.Outputs.{argument_of}
use Rattle.fzn_model.proofs.outputs.each_dim.Given as goal

-- the dimensions so far, and those of the arguments that are left, are all
abbrev pub invariant-loop-arg : goal.invariant-loop-arg
invariant-loop-arg l =
    option_map (λ ds. l.dims.items ++ ds) (each_of (λ a. a.dim) (map argument_of (drop l.arg-index l.args)))
    ≡ each_of (λ a. a.dim) (map argument_of l.args)
