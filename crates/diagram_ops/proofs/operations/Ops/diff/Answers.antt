use Rattle.diagram_ops.specs.declared.question.Op.TheVariants.{Diff}
use Rattle.diagram_ops.specs.declared.question.Question.TheVariants.{Combine}
use Rattle.diagram_ops.proofs.Results.{answered_words, answered_deep, combine_asks, combine_reach}
use Rattle.diagram_ops.proofs.operations.Ops.diff.Goals as goal

pub returns-clause-words : goal.returns-clause-words
returns-clause-words c =
    answered_words c.args.self.now c.answer.new.self (Combine Diff c.args.f c.args.g) c.answer.result (c.requires.f_live, c.requires.g_live) c.answer.ensures

pub returns-clause-deep : goal.returns-clause-deep
returns-clause-deep c = answered_deep c.args.self.now c.answer.new.self Diff c.args.f c.args.g c.answer.result c.answer.ensures

pub returns-clause-reach : goal.returns-clause-reach
returns-clause-reach c bits f_reach g_reach =
    combine_reach c.args.self.now c.answer.new.self Diff c.args.f c.args.g c.answer.result c.requires.f_live c.requires.g_live c.answer.ensures bits f_reach g_reach

pub returns-clause-asks : goal.returns-clause-asks
returns-clause-asks c bits f_reach g_reach =
    combine_asks c.args.self.now c.answer.new.self Diff c.args.f c.args.g c.answer.result c.requires.f_live c.requires.g_live c.answer.ensures bits f_reach g_reach
