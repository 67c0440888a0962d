use Rattle.std.proofs.Common.{List, ◌++◌, sym, subst}
use Rattle.pin_lists.specs.Units.{Moves}
use Rattle.box_clauses.specs.declared.store.StoredBox.{StoredBox}
use Rattle.box_clauses.specs.Sides.{sets_of}
use Rattle.box_clauses.specs.Stored.{stored_sets}
use Rattle.search_turns.proofs.Pins.{moved_released, moved_added}
use Rattle.search_turns.proofs.storing.store.Goals as goal

pub returns-then-len-eq4294967295-clause-moved : goal.returns-then-len-eq4294967295-clause-moved
returns-then-len-eq4294967295-clause-moved c = moved_released c.args.ops.now c.release.new.ops c.args.boxes.now c.args.held c.release.ensures

pub returns-in-Ok-clause-moved : goal.returns-in-Ok-clause-moved
returns-in-Ok-clause-moved c = moved_added c.args.ops.now c.add.new.ops c.args.boxes.now c.add.new.self c.args.held 0 c.args.learned c.in-Ok.ensures.pinned c.in-Ok.ensures.stored

pub returns-in-Err-clause-moved : goal.returns-in-Err-clause-moved
returns-in-Err-clause-moved c = subst (λ (bs : List StoredBox). Moves c.args.ops.now c.add.new.ops (stored_sets c.args.boxes.now ++ sets_of c.args.held) (stored_sets bs)) (sym c.in-Err.ensures.same) (moved_released c.args.ops.now c.add.new.ops c.args.boxes.now c.args.held c.in-Err.ensures.spent)
