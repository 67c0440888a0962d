use Rattle.std.proofs.Common.{◌≡◌, ◌∷◌, ◌++◌, map, drop}
use Rattle.set_meaning.proofs.initial.with_each.Given as goal

abbrev pub invariant-loop-set : goal.invariant-loop-set
invariant-loop-set l = l.all.items ++ map (λ s. l.least ∷ s) (drop l.set-index l.sets) ≡ map (λ s. l.least ∷ s) l.sets
