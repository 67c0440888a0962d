use Rattle.std.proofs.Common.{◌≡◌, map, take}
use Rattle.std.specs.List.{range_with_len, sum_by}
use Rattle.bit_layout.specs.Words.{width_of}
use Rattle.bit_layout.proofs.layout.starts_of.Given as goal

abbrev pub invariant-loop-kind : goal.invariant-loop-kind
invariant-loop-kind l =
    (l.starts.items ≡ map (λ v. sum_by width_of (take v l.kinds)) (range_with_len 0 l.kind-index)) × (l.start ≡ sum_by width_of (take l.kind-index l.kinds))
