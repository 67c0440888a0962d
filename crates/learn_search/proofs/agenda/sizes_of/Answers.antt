use Rattle.std.proofs.Common.{get_or}
use Rattle.std.proofs.lemmas.Option.{slice_get-get_or}
use Rattle.diagram_arena.specs.declared.nodes.Ref.TheVariants.{Zero}
use Rattle.learn_search.proofs.agenda.sizes_of.Goals as goal

pub size_of-requires : goal.size_of-requires
size_of-requires c =
    (c.requires.each (record { 0 = c.loop-domain.domain-index }) (get_or c.args.domains.now c.loop-domain.domain-index Zero)
    (slice_get-get_or c.args.domains.now c.loop-domain.domain-index Zero c.loop-domain-test.true)).diagram.live
