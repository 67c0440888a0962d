use Rattle.std.proofs.Common.{take}
use Rattle.std.specs.List.{AllZip}
use Rattle.set_meaning.specs.Kinds.{InKind}
use Rattle.sweep_shapes.proofs.axioms.first_values.Given as goal

abbrev pub invariant-loop-kind : goal.invariant-loop-kind
invariant-loop-kind l = AllZip InKind (take l.kind-index l.kinds) l.values.items
