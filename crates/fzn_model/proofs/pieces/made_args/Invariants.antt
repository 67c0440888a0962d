use Rattle.std.proofs.Common.{◌≡◌, take}
use Rattle.std.specs.Prelude.{map}
use Rattle.fzn_model.specs.Shared.{arg_in}
use Rattle.fzn_model.proofs.pieces.made_args.Given as goal

abbrev pub invariant-loop-arg : goal.invariant-loop-arg
invariant-loop-arg l = l.made.items ≡ map arg_in (take l.arg-index l.args)
