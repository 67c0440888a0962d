use Rattle.std.proofs.Common.{◌≡◌, ◌≤◌, ◌-◌, ◌*◌, ◌^◌, drop}
use Rattle.std.specs.Prelude.{min}
use Rattle.fzn_model.specs.Outputs.{size_of}
use Rattle.fzn_model.proofs.outputs.size_of.Given as goal

-- the size so far times that of the dimensions that are left is the size of all
abbrev pub invariant-loop-dim : goal.invariant-loop-dim
invariant-loop-dim l = record {
  in_range : l.size ≤ 2 ^ 128 - 1;
  same_size : min (l.size * size_of (drop l.dim-index l.dims)) (2 ^ 128 - 1) ≡ min (size_of l.dims) (2 ^ 128 - 1);
}
