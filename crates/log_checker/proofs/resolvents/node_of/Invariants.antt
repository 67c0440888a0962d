use Rattle.std.proofs.Common.{◌≡◌, drop}
use Rattle.log_checker.specs.Words.{node_of}
use Rattle.log_checker.proofs.resolvents.node_of.Given as goal

abbrev pub invariant-loop-side : goal.invariant-loop-side
invariant-loop-side l = node_of l.sides l.variable ≡ node_of (drop l.side-index l.sides) l.variable
