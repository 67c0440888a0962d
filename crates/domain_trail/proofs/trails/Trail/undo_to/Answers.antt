use Rattle.std.proofs.Common.{ℕ, ◌<◌, ◌≤◌, refl, sym, ◌∙◌, subst}
use Rattle.pin_lists.specs.Units.{Moves}
use Rattle.pin_lists.proofs.Leaving.{held_after, moves_then, only_then}
use Rattle.domain_trail.specs.Trail.{TrailState, held}
use Rattle.domain_trail.proofs.Undoing.{some_entry, one_undone, shorter, all_undone}
use Rattle.domain_trail.proofs.trails.Trail.undo_to.Goals as goal

pub loop-self-init : goal.loop-self-init
loop-self-init c = record { left = refl; restored = refl; moved = λ i. refl; only = refl }

pub undo_one-requires-clause-some : goal.undo_one-requires-clause-some
undo_one-requires-clause-some c =
    some_entry c.args.level c.loop-self.self.entries (subst (λ (t : ℕ). c.args.level < t) c.newest_level.ensures c.loop-self-test.true)

pub undo_one-requires-clause-held : goal.undo_one-requires-clause-held
undo_one-requires-clause-held c = held_after c.args.ops.now c.loop-self.ops (held c.args.self.now) (held c.loop-self.self) c.loop-self.invariant.moved c.requires

pub loop-self-preserved : goal.loop-self-preserved
loop-self-preserved c =
    let over = one_undone c.args.level c.loop-self.self c.undo_one.new.self c.undo_one.ensures.undone
    (subst (λ (t : ℕ). c.args.level < t) c.newest_level.ensures c.loop-self-test.true) in
    record {
      left = sym over.0 ∙ c.loop-self.invariant.left;
      restored = sym over.1 ∙ c.loop-self.invariant.restored;
      moved = moves_then c.args.ops.now c.loop-self.ops c.undo_one.new.ops (held c.args.self.now) (held c.loop-self.self) (held c.undo_one.new.self) c.loop-self.invariant.moved c.undo_one.ensures.moved;
      only = only_then c.args.ops.now c.loop-self.ops c.undo_one.new.ops c.loop-self.invariant.only c.undo_one.ensures.only;
    }

pub loop-self-smaller : goal.loop-self-smaller
loop-self-smaller c = shorter c.loop-self.self c.undo_one.new.self c.undo_one.ensures.undone

pub returns-clause-undone : goal.returns-clause-undone
returns-clause-undone c =
    all_undone c.args.level c.args.self.now c.loop-self.self c.fall_to_newest.new.self c.loop-self.invariant.left c.loop-self.invariant.restored
    (subst (λ (t : ℕ). t ≤ c.args.level) c.newest_level.ensures c.loop-self-test.false) c.fall_to_newest.ensures

pub returns-clause-moved : goal.returns-clause-moved
returns-clause-moved c =
    subst (λ (s : TrailState). Moves c.args.ops.now c.loop-self.ops (held c.args.self.now) (held s)) (sym c.fall_to_newest.ensures) c.loop-self.invariant.moved
