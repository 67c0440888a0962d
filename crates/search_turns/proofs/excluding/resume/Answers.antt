use Rattle.search_turns.proofs.Resuming.{standing_stored, some_stored, inside_stored, found_after, resumed_after, left_after, left_moved}
use Rattle.search_turns.proofs.excluding.resume.Goals as goal

pub go_on-requires-clause-standing : goal.go_on-requires-clause-standing
go_on-requires-clause-standing c = standing_stored c.laws.ensures c.args.p.now c.turn_laws.ensures c.args.layout.now c.args.compiled.now c.args.ops.now c.exclude.new.ops c.args.boxes.now c.exclude.new.boxes c.args.trail.now c.in-Ok.id c.requires.satisfy c.requires.standing c.in-Ok.ensures.stored c.exclude.ensures.few c.exclude.ensures.only c.exclude.ensures.moved c.pool.ensures.pinned_live c.pool.ensures.reduced c.requires.answered

pub go_on-requires-clause-legal : goal.go_on-requires-clause-legal
go_on-requires-clause-legal c = some_stored c.laws.ensures c.args.p.now c.turn_laws.ensures c.args.layout.now c.args.compiled.now c.args.ops.now c.exclude.new.ops c.args.boxes.now c.exclude.new.boxes c.args.trail.now c.in-Ok.id c.requires.satisfy c.requires.standing c.in-Ok.ensures.stored c.exclude.ensures.few c.exclude.ensures.only c.exclude.ensures.moved c.pool.ensures.pinned_live c.pool.ensures.reduced c.requires.answered

pub go_on-requires-clause-inside : goal.go_on-requires-clause-inside
go_on-requires-clause-inside c = inside_stored c.laws.ensures c.args.p.now c.turn_laws.ensures c.args.layout.now c.args.compiled.now c.args.ops.now c.exclude.new.ops c.args.boxes.now c.exclude.new.boxes c.args.trail.now c.in-Ok.id c.requires.satisfy c.requires.standing c.in-Ok.ensures.stored c.exclude.ensures.few c.exclude.ensures.only c.exclude.ensures.moved c.pool.ensures.pinned_live c.pool.ensures.reduced

pub returns-in-Ok-clause-found : goal.returns-in-Ok-clause-found
returns-in-Ok-clause-found c = found_after c.laws.ensures c.args.p.now c.turn_laws.ensures c.args.layout.now c.args.compiled.now c.args.ops.now c.exclude.new.ops c.args.boxes.now c.exclude.new.boxes c.args.trail.now c.in-Ok.id c.requires.satisfy c.requires.standing c.in-Ok.ensures.stored c.exclude.ensures.few c.exclude.ensures.only c.exclude.ensures.moved c.pool.ensures.pinned_live c.pool.ensures.reduced c.go_on.new.ops c.go_on.new.boxes c.go_on.new.trail c.go_on.result c.go_on.ensures.left

pub returns-in-Ok-clause-resumed : goal.returns-in-Ok-clause-resumed
returns-in-Ok-clause-resumed c = resumed_after c.laws.ensures c.args.p.now c.turn_laws.ensures c.args.layout.now c.args.compiled.now c.args.ops.now c.exclude.new.ops c.args.boxes.now c.exclude.new.boxes c.args.trail.now c.in-Ok.id c.requires.satisfy c.requires.standing c.in-Ok.ensures.stored c.exclude.ensures.few c.exclude.ensures.only c.exclude.ensures.moved c.pool.ensures.pinned_live c.pool.ensures.reduced c.go_on.new.ops c.go_on.new.boxes c.go_on.new.trail c.go_on.result c.go_on.ensures.left

pub returns-in-Ok-clause-left : goal.returns-in-Ok-clause-left
returns-in-Ok-clause-left c = left_after c.laws.ensures c.args.p.now c.turn_laws.ensures c.args.layout.now c.args.compiled.now c.args.ops.now c.exclude.new.ops c.args.boxes.now c.exclude.new.boxes c.args.trail.now c.in-Ok.id c.requires.satisfy c.requires.standing c.in-Ok.ensures.stored c.exclude.ensures.few c.exclude.ensures.only c.exclude.ensures.moved c.pool.ensures.pinned_live c.pool.ensures.reduced c.go_on.new.ops c.go_on.new.boxes c.go_on.new.trail c.go_on.result c.go_on.ensures.left

pub returns-in-Err-clause-left : goal.returns-in-Err-clause-left
returns-in-Err-clause-left c = left_moved c.args.p.now c.args.layout.now c.args.ops.now c.exclude.new.ops c.args.boxes.now c.exclude.new.boxes c.args.trail.now c.exclude.ensures.only c.exclude.ensures.moved c.pool.ensures.pinned_live c.pool.ensures.reduced
