use Rattle.std.proofs.Common.{refl, inl}
use Rattle.desk.proofs.memory_desk.MemoryDeskDesk.begin_read.Goals as goal

pub returns-then-next_fails-clause-err : goal.returns-then-next_fails-clause-err
returns-then-next_fails-clause-err c = inl refl

pub returns-in-None-clause-err : goal.returns-in-None-clause-err
returns-in-None-clause-err c = inl c.in-None.ensures.none
