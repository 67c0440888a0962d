use Rattle.std.proofs.Common.{◌≡◌, drop}
use Rattle.fzn_model.specs.Outputs.{output_in}
use Rattle.fzn_model.proofs.outputs.output_in.Given as goal

-- those that are passed are none
abbrev pub invariant-loop-ann : goal.invariant-loop-ann
invariant-loop-ann l = output_in (drop l.ann-index l.anns) ≡ output_in l.anns
