use Rattle.diagram_arena.proofs.Kept.{empty-state_of}
use Rattle.diagram_arena.proofs.States.{kept_new}
use Rattle.diagram_arena.proofs.hash_consing.Arena.new.Goals as goal

pub invariant_of-result : goal.invariant_of-result
invariant_of-result c = rw (c.new.ensures.empty, c.new-2.ensures.empty) (kept_new c.args.limit c.requires.some c.requires.most)

pub returns-clause-empty : goal.returns-clause-empty
returns-clause-empty c = rw c.new.ensures.empty (empty-state_of c.args.limit)

pub returns-clause-reduced : goal.returns-clause-reduced
returns-clause-reduced c = rw c.new.ensures.empty (kept_new c.args.limit c.requires.some c.requires.most).reduced
