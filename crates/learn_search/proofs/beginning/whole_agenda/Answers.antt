use Rattle.std.proofs.Common.{sym, subst}
use Rattle.diagram_arena.specs.Arena.{table}
use Rattle.exact_steps.specs.Domains.{AreDomains}
use Rattle.propagators.proofs.Moving.{initial_domains}
use Rattle.learn_search.proofs.beginning.whole_agenda.Goals as goal

pub sizes_of-requires : goal.sizes_of-requires
sizes_of-requires c =
    subst (AreDomains c.args.layout.now (table c.args.ops.now.arena)) (sym c.start.ensures)
    (initial_domains c.args.layout.now (table c.args.ops.now.arena) c.args.compiled.now.start c.requires.compiled.start)
