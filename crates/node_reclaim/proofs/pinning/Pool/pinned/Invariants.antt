use Rattle.std.proofs.Common.{◌≡◌, ◌++◌}
use Rattle.std.specs.List.{flat_map}
use Rattle.node_reclaim.proofs.Counts.{once}
use Rattle.node_reclaim.proofs.pinning.Pool.pinned.Given as goal

-- what is written and what the rest gives are together what the whole gives
abbrev pub invariant-loop-id : goal.invariant-loop-id
invariant-loop-id l = l.refs.items ++ flat_map once l.id-iterator ≡ flat_map once l.initial.id-iterator
