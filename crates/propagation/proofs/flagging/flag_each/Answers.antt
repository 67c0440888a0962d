use Rattle.std.proofs.Common.{◌≤◌, List, length, subst}
use Rattle.std.proofs.lemmas.List.{take_all}
use Rattle.set_meaning.specs.declared.problems.VarId.{VarId}
use Rattle.diagram_arena.specs.declared.nodes.Ref.{Ref}
use Rattle.diagram_arena.specs.declared.nodes.Ref.TheVariants.{Zero}
use Rattle.propagation.specs.Work.{AreStirred}
use Rattle.propagation.proofs.Stirring.{none_stirred, more_stirred}
use Rattle.propagation.proofs.flagging.flag_each.Goals as goal

pub loop-v-init : goal.loop-v-init
loop-v-init c = none_stirred c.args.queue.now c.args.but

pub loop-v-preserved : goal.loop-v-preserved
loop-v-preserved c = more_stirred c.args.queue.now c.loop-v.queue c.flag_readers.new.self c.args.but c.args.kept.now c.loop-v.v-index (record { 0 = 0 }, Zero) c.loop-v-test.true c.loop-v.invariant c.flag_readers.ensures

pub returns : goal.returns
returns c =
    let past : length c.args.kept.now ≤ c.loop-v.v-index = c.loop-v-test.false in
    subst (λ (kept : List (VarId × Ref)). AreStirred c.args.queue.now c.loop-v.queue c.args.but kept) (take_all c.loop-v.v-index c.args.kept.now past) c.loop-v.invariant
