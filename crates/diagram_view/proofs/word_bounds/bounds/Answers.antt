use Rattle.std.proofs.Common.{◌∙◌, ap}
use Rattle.diagram_arena.specs.Arena.{table}
use Rattle.diagram_view.specs.Words.{word_over}
use Rattle.diagram_view.proofs.Over.{list_words}
use Rattle.diagram_view.proofs.word_bounds.bounds.Goals as goal

pub returns-then-is_zero-clause-none : goal.returns-then-is_zero-clause-none
returns-then-is_zero-clause-none c vs long =
    ap (λ r. list_words (table c.args.arena.now) r c.args.bits.now vs) (c.is_zero.ensures.0 c.if-is_zero.true) ∙ c.laws.ensures.zero (word_over c.args.bits.now vs)
