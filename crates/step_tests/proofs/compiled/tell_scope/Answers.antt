use Rattle.std.proofs.Common.{rules, ◌<◌, length}
use Rattle.diagram_arena.specs.Arena.{table}
use Rattle.step_tests.proofs.CompiledSamples.{scope_there}
use Rattle.step_tests.proofs.compiled.tell_scope.Goals as goal

pub scope-v-items-requires : goal.scope-v-items-requires
scope-v-items-requires c =
    let some : 0 < length c.args.p.now.constraints = search rules in
    scope_there c.args.layout.now c.args.p.now (table c.args.ops.now.arena) c.args.compiled.now 0 c.requires some
