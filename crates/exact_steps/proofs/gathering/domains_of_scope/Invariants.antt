use Rattle.std.proofs.Common.{◌≡◌, take}
use Rattle.exact_steps.specs.Work.{domains_at}
use Rattle.exact_steps.proofs.gathering.domains_of_scope.Given as goal

abbrev pub invariant-loop-v : goal.invariant-loop-v
invariant-loop-v l = l.own.items ≡ domains_at l.domains (take l.v-index l.scope)
