use Rattle.std.proofs.Common.{sym, ◌∙◌, ap, subst, arith}
use Rattle.diagram_arena.specs.Arena.{table}
use Rattle.diagram_ops.specs.declared.question.Question.TheVariants.{Combine, Restrict}
use Rattle.diagram_ops.specs.Steps.{first, HasStep, IsStep}
use Rattle.diagram_ops.proofs.Splits.{combine_step, restrict_step}
use Rattle.diagram_ops.proofs.split.sides.Goals as goal

pub returns-in-Combine : goal.returns-in-Combine
returns-in-Combine c =
    subst (λ q. IsStep (table c.args.arena.now) q c.args.bit (Combine c.in-Combine.op c.split-f_lo.result.0 c.split-g_lo.result.0) (Combine c.in-Combine.op c.split-f_lo.result.1 c.split-g_lo.result.1)) (sym c.in-Combine.is)
    (combine_step _ c.in-Combine.op c.in-Combine.f c.in-Combine.g c.args.bit _ _ _ _ c.split-f_lo.ensures c.split-g_lo.ensures)

pub returns-in-Restrict : goal.returns-in-Restrict
returns-in-Restrict c =
    let below = (subst (HasStep (table c.args.arena.now)) c.in-Restrict.is c.requires.step).1 in
    let at = c.requires.at ∙ ap (first (table c.args.arena.now)) c.in-Restrict.is in
    subst (λ q. IsStep (table c.args.arena.now) q c.args.bit (Restrict c.split-lo.result.0 c.in-Restrict.at c.in-Restrict.value) (Restrict c.split-lo.result.1 c.in-Restrict.at c.in-Restrict.value)) (sym c.in-Restrict.is)
    (restrict_step _ c.in-Restrict.f c.args.bit c.in-Restrict.at c.in-Restrict.value _ _ (omega (arith, at, below)) c.split-lo.ensures)
