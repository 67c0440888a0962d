use Rattle.std.proofs.Common.{◌+◌, take}
use Rattle.sweep_states.proofs.Turning.{Advances}
use Rattle.sweep_states.proofs.read.advance.Given as goal

abbrev pub invariant-loop-pair : goal.invariant-loop-pair
invariant-loop-pair g l = Advances
    (record { rules = g.S.Shape.rules l.shape; from = l.from; filter = g.T.Shape.rules l.filter }) l.i
    (λ s. g.S.Shape.occurs l.shape (l.from + (l.i + 1)) s.0 × g.T.Shape.occurs l.filter (l.i + 1) s.1)
    (take l.pair-index l.pairs) l.next.items
