use Rattle.std.proofs.Common.{◌+◌}
use Rattle.sweep_states.proofs.Turning.{Carries}
use Rattle.sweep_states.proofs.read.read_through.Given as goal

abbrev pub invariant-loop-i : goal.invariant-loop-i
invariant-loop-i g l = Carries
    (record { rules = g.S.Shape.rules l.shape; from = l.from; filter = g.T.Shape.rules l.filter }) l.count l.states l.i
    (λ s. g.S.Shape.occurs l.shape (l.from + l.i) s.0 × g.T.Shape.occurs l.filter l.i s.1) l.pairs.items
