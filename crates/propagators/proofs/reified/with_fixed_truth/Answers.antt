use Rattle.std.proofs.Common.{sym, ◌∙◌}
use Rattle.diagram_arena.specs.Arena.{table}
use Rattle.propagators.proofs.Building.{true_fixed, false_diagram_made}
use Rattle.propagators.proofs.reified.with_fixed_truth.Goals as goal

pub returns-then-is_true-clause-diagram : goal.returns-then-is_true-clause-diagram
returns-then-is_true-clause-diagram c =
    true_fixed c.args.layout.now c.args.c.now (table c.args.ops.now.arena) c.args.truth.now c.args.holding c.requires.truth (sym c.is_true.ensures ∙ c.if-is_true.true) c.requires.holding

pub returns-clause-diagram : goal.returns-clause-diagram
returns-clause-diagram c =
    false_diagram_made c.args.layout.now c.args.p.now.kinds c.args.c.now (table c.failing.new.ops.arena) c.args.truth.now c.failing.result c.requires.fits c.requires.truth (sym c.is_true.ensures ∙ c.if-is_true.false) c.failing.ensures.diagram
