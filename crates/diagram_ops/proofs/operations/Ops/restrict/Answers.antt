use Rattle.diagram_ops.specs.declared.question.Question.TheVariants.{Restrict}
use Rattle.diagram_ops.proofs.Results.{answered_words, restrict_deep, restrict_asks, restrict_reach}
use Rattle.diagram_ops.proofs.operations.Ops.restrict.Goals as goal

pub returns-clause-words : goal.returns-clause-words
returns-clause-words c =
    answered_words c.args.self.now c.answer.new.self (Restrict c.args.f c.args.bit c.args.value) c.answer.result c.requires c.answer.ensures

pub returns-clause-deep : goal.returns-clause-deep
returns-clause-deep c = restrict_deep c.args.self.now c.answer.new.self c.args.f c.args.bit c.args.value c.answer.result c.requires c.answer.ensures

pub returns-clause-reach : goal.returns-clause-reach
returns-clause-reach c bits reach = restrict_reach c.args.self.now c.answer.new.self c.args.f c.args.bit c.args.value c.answer.result c.requires c.answer.ensures bits reach

pub returns-clause-asks : goal.returns-clause-asks
returns-clause-asks c bits reach = restrict_asks c.args.self.now c.answer.new.self c.args.f c.args.bit c.args.value c.answer.result c.requires c.answer.ensures bits reach
