use Rattle.diagram_arena.specs.Arena.{table}
use Rattle.diagram_ops.proofs.Steps.{no_news}
use Rattle.propagators.specs.Units.{Anything, IsPartOfWords}
use Rattle.propagators.proofs.Leaving.{diagram_made, parts_of_words, at_slice}
use Rattle.propagators.proofs.initial.initial_words.Goals as goal

pub returns-in-Ok-clause-diagram : goal.returns-in-Ok-clause-diagram
returns-in-Ok-clause-diagram c =
    let own = at_slice c.args.layout.now c.args.variables.now _ c.as_slice.result.now _ c.as_slice.ensures.value c.in-Ok.ensures in
    diagram_made c.args.layout.now c.args.variables.now Anything (table c.build.new.ops.arena) _ c.build.result own.words c.build.ensures.words

pub returns-in-Ok-clause-parts : goal.returns-in-Ok-clause-parts
returns-in-Ok-clause-parts c =
    let own = at_slice c.args.layout.now c.args.variables.now _ c.as_slice.result.now _ c.as_slice.ensures.value c.in-Ok.ensures in
    parts_of_words c.args.layout.now c.args.variables.now Anything _ (table c.args.ops.now.arena) (table c.build.new.ops.arena) own.words c.build.ensures.parts

pub returns-in-Err-clause-parts : goal.returns-in-Err-clause-parts
returns-in-Err-clause-parts c = no_news (table c.args.ops.now.arena) (IsPartOfWords c.args.layout.now c.args.variables.now Anything)
