use Rattle.std.proofs.Common.{ap, sym, ◌∙◌, arith}
use Rattle.std.proofs.lemmas.List.{take_all}
use Rattle.desk.specs.State.{written}
use Rattle.desk.specs.MemoryDesk.{memory_state}
use Rattle.desk.proofs.memory_desk.MemoryDeskDesk.write.Goals as goal

pub returns-in-Some-clause-ok : goal.returns-in-Some-clause-ok
returns-in-Some-clause-ok c =
    let whole = take_all c.in-Some.count c.args.piece.now (omega (arith, c.in-Some.ensures.count)) in
    record {
      some = omega (arith, c.in-Some.ensures.count, c.requires.some);
      within = omega (arith, c.in-Some.ensures.count);
      state = c.in-Some.ensures.some ∙ ap (λ bytes. written c.args.to bytes (memory_state c.args.self.now)) (sym whole);
    }
