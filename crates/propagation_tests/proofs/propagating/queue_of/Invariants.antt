use Rattle.std.proofs.Common.{◌≡◌, take}
use Rattle.propagation_tests.proofs.propagating.queue_of.Given as goal

abbrev pub invariant-loop-c : goal.invariant-loop-c
invariant-loop-c l = l.scopes.items ≡ take l.c l.compiled.scopes
