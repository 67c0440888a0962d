use Rattle.std.proofs.Common.{subst}
use Rattle.std.specs.Prelude.{IfOk}
use Rattle.diagram_arena.specs.declared.nodes.Ref.TheVariants.{One}
use Rattle.diagram_arena.specs.Table.{Words}
use Rattle.diagram_arena.specs.Arena.{table}
use Rattle.node_reclaim.specs.Growth.{NewArePartsOf}
use Rattle.diagram_ops.specs.Words.{Denotes}
use Rattle.diagram_ops.specs.declared.question.Op.TheVariants.{Diff}
use Rattle.diagram_ops.specs.declared.question.Question.TheVariants.{Combine}
use Rattle.diagram_ops.proofs.Results.{answered_words, not_words, not_deep, not_asks, not_reach}
use Rattle.diagram_ops.proofs.operations.Ops.not.Goals as goal

pub returns-clause-words : goal.returns-clause-words
returns-clause-words c =
    subst (λ (V : Words). IfOk c.answer.result (Denotes (table c.answer.new.self.arena) V)) (not_words c.args.self.now c.args.f)
    (answered_words c.args.self.now c.answer.new.self (Combine Diff One c.args.f) c.answer.result (tt, c.requires) c.answer.ensures)

pub returns-clause-deep : goal.returns-clause-deep
returns-clause-deep c = not_deep c.args.self.now c.answer.new.self c.args.f c.answer.result c.requires c.answer.ensures

pub returns-clause-parts : goal.returns-clause-parts
returns-clause-parts c =
    subst (λ (V : Words). NewArePartsOf (table c.args.self.now.arena) (table c.answer.new.self.arena) V) (not_words c.args.self.now c.args.f) c.answer.ensures.parts

pub returns-clause-reach : goal.returns-clause-reach
returns-clause-reach c bits reach = not_reach c.args.self.now c.answer.new.self c.args.f c.answer.result c.requires c.answer.ensures bits reach

pub returns-clause-asks : goal.returns-clause-asks
returns-clause-asks c bits reach = not_asks c.args.self.now c.answer.new.self c.args.f c.answer.result c.requires c.answer.ensures bits reach
