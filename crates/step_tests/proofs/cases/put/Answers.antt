use Rattle.std.proofs.Common.{rules, ◌<◌, length}
use Rattle.diagram_arena.specs.Arena.{table}
use Rattle.diagram_ops.proofs.Steps.{stays_self}
use Rattle.step_tests.proofs.cases.put.Goals as goal

pub returns-then-v-len : goal.returns-then-v-len
returns-then-v-len c =
    let t = table c.args.ops.now.arena in
    let within : c.args.v.0 < length c.args.domains.now.items = search rules in
    c.narrowed_domains.ensures.domains c.args.layout.now t t c.args.domains.now.items c.args.v c.args.r (stays_self c.args.ops.now c.pool.ensures.reduced).grows c.requires.domains within c.requires.domain
