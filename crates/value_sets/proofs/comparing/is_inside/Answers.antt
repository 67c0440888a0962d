use Rattle.diagram_arena.specs.Arena.{table}
use Rattle.value_sets.proofs.SetWords.{compared}
use Rattle.value_sets.proofs.comparing.is_inside.Goals as goal

pub returns-in-Ok-clause-inside : goal.returns-in-Ok-clause-inside
returns-in-Ok-clause-inside c =
    compared c.word_laws.ensures c.args.layout.now c.args.v (table c.args.ops.now.arena) c.args.f c.args.g c.in-Ok.inside c.obeys_order.ensures c.requires.first c.requires.second c.in-Ok.ensures.inside
