use Rattle.std.proofs.Common.{◌≡◌, ◌++◌, map, drop}
use Rattle.sweep_fixing.specs.Fixing.{fixed_arg}
use Rattle.sweep_fixing.proofs.fixing.fixed_args.Given as goal

abbrev pub invariant-loop-arg : goal.invariant-loop-arg
invariant-loop-arg l = l.new.items ++ map (fixed_arg l.v l.x) (drop l.arg-index l.args) ≡ map (fixed_arg l.v l.x) l.args
