use Rattle.std.proofs.Common.{refl, ap, inl}
use Rattle.desk.specs.Requests.{requests_of}
use Rattle.desk.specs.MemoryDesk.{memory_state}
use Rattle.desk.proofs.memory_desk.MemoryDeskDesk.begin_log.Goals as goal

pub returns-then-next_fails-clause-err : goal.returns-then-next_fails-clause-err
returns-then-next_fails-clause-err c = inl refl

pub returns-in-Err-clause-err : goal.returns-in-Err-clause-err
returns-in-Err-clause-err c =
    inl (ap (λ requests. record (memory_state c.args.self.now) { asked = requests_of requests }) c.in-Err.ensures.err)
