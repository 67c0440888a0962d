use Rattle.std.proofs.Common.{◌≡◌, ◌↔◌, length}
use Rattle.set_meaning.specs.Kinds.{IsAssignment}
use Rattle.set_meaning.proofs.kinds.is_assignment.Given as goal

-- what is left is an assignment just where the whole is
abbrev pub invariant-loop-kind : goal.invariant-loop-kind
invariant-loop-kind l =
    (length l.kind-iterator.a.rest.now ≡ length l.kind-iterator.b.rest.now)
    × (IsAssignment l.kind-iterator.a.rest.now l.kind-iterator.b.rest.now ↔ IsAssignment l.kinds l.values)
