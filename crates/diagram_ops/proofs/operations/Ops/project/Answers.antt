use Rattle.diagram_arena.specs.Table.{has}
use Rattle.diagram_arena.specs.Arena.{table}
use Rattle.diagram_arena.proofs.Meaning.{has-one}
use Rattle.diagram_arena.proofs.Reach.{depends_only}
use Rattle.diagram_ops.specs.Meanings.{of_ref}
use Rattle.diagram_ops.proofs.Projecting.{words_asks, words_reach}
use Rattle.diagram_ops.proofs.operations.Ops.project.Goals as goal

pub project_below-requires-clause-there : goal.project_below-requires-clause-there
project_below-requires-clause-there c = (_, of_ref c.args.f c.requires.f_live)

pub project_below-requires-clause-bounded : goal.project_below-requires-clause-bounded
project_below-requires-clause-bounded c V means word on = has-one _ word

pub project_below-requires-clause-work : goal.project_below-requires-clause-work
project_below-requires-clause-work c = c.new-work.ensures _ _

pub returns-clause-live : goal.returns-clause-live
returns-clause-live c = (c.project_below.ensures.left (has (table c.args.self.now.arena) c.args.f) (of_ref c.args.f c.requires.f_live)).live

pub returns-clause-words : goal.returns-clause-words
returns-clause-words c = (c.project_below.ensures.left (has (table c.args.self.now.arena) c.args.f) (of_ref c.args.f c.requires.f_live)).words

pub returns-clause-deep : goal.returns-clause-deep
returns-clause-deep c = (c.project_below.ensures.left (has (table c.args.self.now.arena) c.args.f) (of_ref c.args.f c.requires.f_live)).deep

pub returns-clause-stays : goal.returns-clause-stays
returns-clause-stays c = (c.project_below.ensures.left (has (table c.args.self.now.arena) c.args.f) (of_ref c.args.f c.requires.f_live)).stays

pub returns-clause-full : goal.returns-clause-full
returns-clause-full c = (c.project_below.ensures.left (has (table c.args.self.now.arena) c.args.f) (of_ref c.args.f c.requires.f_live)).full

pub returns-clause-parts : goal.returns-clause-parts
returns-clause-parts c = (c.project_below.ensures.left (has (table c.args.self.now.arena) c.args.f) (of_ref c.args.f c.requires.f_live)).parts

pub returns-clause-asks : goal.returns-clause-asks
returns-clause-asks c bits reach =
    words_asks c.args.self.now c.project_below.new.self c.args.keep.now _ _ c.project_below.result (c.project_below.ensures.left (has (table c.args.self.now.arena) c.args.f) (of_ref c.args.f c.requires.f_live)) bits (depends_only _ c.pool.ensures.reduced bits c.args.f c.requires.f_live reach)

pub returns-clause-reach : goal.returns-clause-reach
returns-clause-reach c bits reach =
    words_reach c.args.self.now c.project_below.new.self c.args.keep.now _ _ c.project_below.result (c.project_below.ensures.left (has (table c.args.self.now.arena) c.args.f) (of_ref c.args.f c.requires.f_live)) bits (depends_only _ c.pool.ensures.reduced bits c.args.f c.requires.f_live reach)
