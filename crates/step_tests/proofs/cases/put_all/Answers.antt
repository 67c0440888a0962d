use Rattle.std.specs.Prelude.{slice_index_or}
use Rattle.std.proofs.lemmas.List.Elements.{Contains-get_or}
use Rattle.set_meaning.specs.declared.problems.VarId.{VarId}
use Rattle.diagram_arena.specs.declared.nodes.Ref.{Ref}
use Rattle.diagram_arena.specs.declared.nodes.Ref.TheVariants.{Zero}
use Rattle.step_tests.proofs.cases.put_all.Goals as goal

pub put-requires-clause-domain : goal.put-requires-clause-domain
put-requires-clause-domain c =
    let d : VarId × Ref = (record { 0 = 0 }, Zero) in
    let e : VarId × Ref = slice_index_or c.args.kept.now c.loop-v.v-index d in
    c.requires.kept e.0 e.1 (Contains-get_or c.args.kept.now c.loop-v.v-index d c.loop-v-test.true)
