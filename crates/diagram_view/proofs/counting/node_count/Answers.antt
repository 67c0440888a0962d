use Rattle.std.proofs.Common.{sym, subst}
use Rattle.diagram_arena.specs.Arena.{table}
use Rattle.diagram_view.specs.Words.{words_over}
use Rattle.diagram_view.specs.Residuals.{IsResidualCount}
use Rattle.diagram_view.specs.Visits.{Visits}
use Rattle.diagram_view.proofs.Stepping.{over_from}
use Rattle.diagram_view.proofs.Residual.{residual_count}
use Rattle.diagram_view.proofs.counting.node_count.Goals as goal

pub returns : goal.returns
returns c = record {
  residuals = λ bits up only.
      subst (IsResidualCount (words_over (table c.args.arena.now) c.args.f bits)) (sym c.len.ensures.len)
      (residual_count _ c.laws.ensures c.args.f bits (over_from _ c.args.f bits c.requires.live up only) c.visit.new.seen.keys
      (subst (λ ids. Visits (table c.args.arena.now) c.args.f ids c.visit.new.seen.keys) c.new-seen.ensures.empty c.in_ok-visit.ensures) c.len.ensures.unique);
}
