use Rattle.std.proofs.Common.{◌∙◌, ap, drop}
use Rattle.std.proofs.Math.Seq.{drop-length}
use Rattle.diagram_arena.specs.Arena.{table}
use Rattle.bit_machine.proofs.Steps.{terminal_built}
use Rattle.bit_machine.proofs.Exits.{recalled}
use Rattle.bit_machine.proofs.builder.known.Goals as goal

pub returns-then-at-bits-clause-found : goal.returns-then-at-bits-clause-found
returns-then-at-bits-clause-found g c =
    terminal_built (table c.args.ops.now.arena) (g.M.Machine.rules c.args.machine.now) c.args.bits.now c.args.at c.args.state c.accepts.result c.terminal.result
    (ap (λ n. drop n c.args.bits.now) c.if-at-bits.true ∙ drop-length c.args.bits.now) c.accepts.ensures c.terminal.ensures

pub returns-else-at-bits-clause-found : goal.returns-else-at-bits-clause-found
returns-else-at-bits-clause-found g c =
    recalled (table c.args.ops.now.arena) (g.M.Machine.rules c.args.machine.now) c.args.bits.now g.M.State.PartialEq.eq c.args.built.now.entries c.args.at c.args.state c.copied.result
    c.requires.known (c.copied.ensures ∙ c.get.ensures.value)
