use Rattle.std.proofs.Common.{◌≡◌, ◌++◌, drop}
use Rattle.fzn_printer.specs.Block.{dims_text}
use Rattle.fzn_printer.proofs.array.push_dims.Given as goal

abbrev pub invariant-loop-dim : goal.invariant-loop-dim
invariant-loop-dim l = l.out.items ++ dims_text (drop l.dim-index l.dims) ≡ l.initial.out.items ++ dims_text l.dims
