use Rattle.std.proofs.Common.{◌++◌}
use Rattle.pin_lists.proofs.Leaving.{units_then}
use Rattle.propagators.specs.Compiled.{pinned_by}
use Rattle.domain_trail.specs.Trail.{held}
use Rattle.box_clauses.specs.Stored.{stored_sets}
use Rattle.running_boxes.specs.Nodes.{IsOfVariable}
use Rattle.explain.proofs.Frames.{held_begun, begun_leaves}
use Rattle.explain.proofs.analysing.derive.Goals as goal

pub returns-in_err-begin-clause-left : goal.returns-in_err-begin-clause-left
returns-in_err-begin-clause-left c =
    begun_leaves (IsOfVariable c.args.layout.now) c.args.ops.now c.begin.new.ops (held c.args.trail.now) c.begin.new.running c.pool.ensures.pinned_live c.pool.ensures.reduced c.begin.ensures.only c.begin.ensures.moved

pub go_back-requires-clause-held : goal.go_back-requires-clause-held
go_back-requires-clause-held c =
    held_begun c.args.ops.now c.begin.new.ops (pinned_by c.args.compiled.now) (held c.args.trail.now) (stored_sets c.args.boxes.now) c.begin.new.running c.requires.held c.begin.ensures.moved

pub returns-clause-left : goal.returns-clause-left
returns-clause-left c =
    units_then (IsOfVariable c.args.layout.now) c.args.ops.now c.begin.new.ops c.go_back.new.ops (held c.args.trail.now) (held c.args.trail.now ++ c.begin.new.running) (held c.go_back.new.trail ++ c.go_back.new.running)
    (begun_leaves (IsOfVariable c.args.layout.now) c.args.ops.now c.begin.new.ops (held c.args.trail.now) c.begin.new.running c.pool.ensures.pinned_live c.pool.ensures.reduced c.begin.ensures.only c.begin.ensures.moved)
    c.go_back.ensures.left
