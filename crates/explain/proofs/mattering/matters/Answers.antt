use Rattle.std.proofs.Common.{rules}
use Rattle.diagram_arena.specs.Arena.{table}
use Rattle.explain.proofs.Scanning.{side_is_set, whole_side_passes, matters_from}
use Rattle.explain.proofs.mattering.matters.Goals as goal

pub returns-then-eq-clause-matters : goal.returns-then-eq-clause-matters
returns-then-eq-clause-matters c =
    whole_side_passes c.args.layout.now (table c.args.ops.now.arena) c.args.running.now c.args.entry c.requires.running c.requires.entry.known
    c.args.start.now c.requires.start (search rules)

pub is_inside-requires-clause-second : goal.is_inside-requires-clause-second
is_inside-requires-clause-second c =
    side_is_set c.args.layout.now (table c.args.ops.now.arena) c.args.running.now c.args.entry c.requires.running c.requires.entry.known

pub returns-clause-matters : goal.returns-clause-matters
returns-clause-matters c =
    matters_from c.args.layout.now (table c.args.ops.now.arena) c.args.running.now c.args.entry c.requires.running c.requires.entry.known
    c.in_ok-inside.inside c.in_ok-inside.ensures.inside
