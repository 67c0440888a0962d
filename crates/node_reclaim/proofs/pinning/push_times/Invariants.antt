use Rattle.std.proofs.Common.{◌≡◌, ◌++◌, replicate}
use Rattle.node_reclaim.proofs.pinning.push_times.Given as goal

abbrev pub invariant-loop : goal.invariant-loop
invariant-loop l = l.refs.items ≡ l.initial.refs.items ++ replicate l.counter l.r
