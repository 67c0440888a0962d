use Rattle.diagram_arena.specs.declared.nodes.Ref.TheVariants.{Zero}
use Rattle.propagation.proofs.flagging.measure.Goals as goal

pub size_of-requires : goal.size_of-requires
size_of-requires c = c.requires c.loop-v.v-index (record { 0 = 0 }, Zero) c.loop-v-test.true
