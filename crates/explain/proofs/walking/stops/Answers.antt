use Rattle.std.proofs.lemmas.Option.{slice_get_within}
use Rattle.diagram_arena.specs.Arena.{table}
use Rattle.explain.proofs.Stopping.{trail_rises, trail_old, root_goes_on, stop_or_on, not_root}
use Rattle.explain.proofs.walking.stops.Goals as goal

pub entry-entry-requires : goal.entry-entry-requires
entry-entry-requires c = slice_get_within c.args.trail.now.entries c.args.place c.requires.newest.entry c.requires.newest.there

pub has_other-requires-clause-place : goal.has_other-requires-clause-place
has_other-requires-clause-place c = slice_get_within c.args.trail.now.entries c.args.place c.requires.newest.entry c.requires.newest.there

pub has_other-requires-clause-entries : goal.has_other-requires-clause-entries
has_other-requires-clause-entries c = trail_old c.args.p.now c.args.layout.now (table c.args.ops.now.arena) c.args.boxes.now c.args.trail.now c.requires.trail

pub has_other-requires-clause-levels : goal.has_other-requires-clause-levels
has_other-requires-clause-levels c = trail_rises c.args.p.now c.args.layout.now (table c.args.ops.now.arena) c.args.boxes.now c.args.trail.now c.requires.trail

pub returns-then-is_root-clause-stops : goal.returns-then-is_root-clause-stops
returns-then-is_root-clause-stops c =
    root_goes_on c.args.p.now c.stopping.ensures c.args.layout.now (table c.args.ops.now.arena) c.args.boxes.now c.args.trail.now c.args.running.now c.args.place c.requires.trail c.requires.newest
    c.entry-entry.result c.entry-entry.ensures (c.is_root.ensures.0 c.if-is_root.true)

pub returns-clause-stops : goal.returns-clause-stops
returns-clause-stops c =
    stop_or_on c.args.p.now c.stopping.ensures c.args.layout.now (table c.args.ops.now.arena) c.args.boxes.now c.args.trail.now c.args.running.now c.args.place c.requires.trail c.requires.newest
    c.entry-entry.result c.entry-entry.ensures (not_root c.is_root.result c.entry-entry.result.level c.is_root.ensures c.if-is_root.false)
    c.in_ok-other.other (c.in_ok-other.ensures.other c.entry-entry.result c.entry-entry.ensures)
