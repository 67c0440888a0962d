use Rattle.std.proofs.Common.{sym, subst}
use Rattle.std.specs.Prelude.{IfSome}
use Rattle.diagram_arena.specs.Arena.{table}
use Rattle.diagram_ops.specs.declared.question.Question.{Question}
use Rattle.diagram_ops.specs.Steps.{AreLive, IsAnswer}
use Rattle.diagram_ops.proofs.Short.{short_found}
use Rattle.diagram_ops.proofs.settled.settled.Goals as goal

pub returns-in-Combine-clause-found : goal.returns-in-Combine-clause-found
returns-in-Combine-clause-found c =
    let live = subst (AreLive (table c.args.arena.now)) c.in-Combine.is c.requires in
    subst (λ (q : Question). IfSome c.shortcut.result (IsAnswer (table c.args.arena.now) q)) (sym c.in-Combine.is)
    (short_found _ c.len.ensures.reduced c.in-Combine.op c.in-Combine.f c.in-Combine.g c.shortcut.result live.0 live.1 c.shortcut.ensures)
