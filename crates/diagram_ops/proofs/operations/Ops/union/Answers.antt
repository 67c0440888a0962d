use Rattle.diagram_ops.specs.declared.question.Op.TheVariants.{Or}
use Rattle.diagram_ops.specs.declared.question.Question.TheVariants.{Combine}
use Rattle.diagram_ops.proofs.Results.{answered_words, answered_deep}
use Rattle.diagram_ops.proofs.operations.Ops.union.Goals as goal

pub returns-clause-words : goal.returns-clause-words
returns-clause-words c =
    answered_words c.args.self.now c.answer_below.new.self (Combine Or c.args.f c.args.g) c.answer_below.result (c.requires.f_live, c.requires.g_live) c.answer_below.ensures.left

pub returns-clause-deep : goal.returns-clause-deep
returns-clause-deep c = answered_deep c.args.self.now c.answer_below.new.self Or c.args.f c.args.g c.answer_below.result c.answer_below.ensures.left
