-- The first faulty item is behind items without faults.
use Rattle.std.proofs.Common.{inl, inr}
use Rattle.fzn_model.proofs.building.drafted.Goals as goal
use Rattle.fzn_model.proofs.EmptyDraft.{faulty_at}

pub returns-in-Err-clause-fault : goal.returns-in-Err-clause-fault
returns-in-Err-clause-fault c = elim c.in-Err.ensures.fault [
  | inl m ↦ inl m
  | inr f ↦ inr (faulty_at c.args.items.now c.loop-i.i c.index-items-i.result c.in-Err.fault c.loop-i-test.true c.index-items-i.is c.loop-i.invariant.faultless f)
]
