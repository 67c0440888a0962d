use Rattle.diagram_arena.specs.Table.{IsReduced}
use Rattle.diagram_arena.specs.Arena.{table}
use Rattle.diagram_arena.proofs.Reach.{reaches_only, depends_only}
use Rattle.diagram_arena.proofs.hash_consing.Arena.reaches_what_words_depend_on.Goals as goal

pub returns : goal.returns
returns c bits =
    let ok : IsReduced (table c.args.self.now) = rw (← c.self.view_is) c.self.invariant.reduced in
    (depends_only _ ok bits c.args.r c.requires, reaches_only _ ok bits c.args.r c.requires)
