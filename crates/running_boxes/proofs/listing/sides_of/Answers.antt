use Rattle.std.proofs.Common.{◌≡◌, ◌<◌, ◌≤◌, ℕ, length, slice_index_or, Some, refl, sym, ap, ◌∙◌, subst, arith}
use Rattle.std.proofs.lemmas.Option.{slice_get-get_or}
use Rattle.diagram_arena.specs.declared.nodes.Ref.TheVariants.{Zero}
use Rattle.box_clauses.specs.declared.sides.Side.{Side}
use Rattle.running_boxes.proofs.Differing.{AreListed, listed_none, listed_more, listed_same, sides_of_running}
use Rattle.running_boxes.proofs.listing.sides_of.Goals.{then-not-is_same+in_ok-push, else-not-is_same}
use Rattle.running_boxes.proofs.listing.sides_of.Goals as goal

pub loop-i-init : goal.loop-i-init
loop-i-init c = subst (AreListed c.args.start.now c.args.running.now 0) (sym c.new-sides.ensures.items) (listed_none c.args.start.now c.args.running.now)

pub loop-i-preserved : goal.loop-i-preserved
loop-i-preserved c = elim c.if-not-is_same.branch [
  | then-not-is_same+in_ok-push w ↦
      let s : Side = record { var = record { 0 = c.loop-i.i }; set = slice_index_or c.args.running.now c.loop-i.i Zero } in
      rw w.sides-is (rw w.in_ok-push.ensures.items
      (listed_more c.args.start.now c.args.running.now c.loop-i.i c.loop-i.sides.items c.loop-i.invariant s refl (slice_get-get_or c.args.running.now c.loop-i.i Zero c.loop-i-test.true)))
  | else-not-is_same w ↦
      let within : c.loop-i.i < length c.args.start.now = subst (λ (n : ℕ). c.loop-i.i < n) (sym c.requires.long) c.loop-i-test.true in
      rw w.sides-is (listed_same c.args.start.now c.args.running.now c.loop-i.i c.loop-i.sides.items c.loop-i.invariant
      (slice_get-get_or c.args.running.now c.loop-i.i Zero c.loop-i-test.true ∙ ap Some (w.if-not-is_same.ensures.0 refl) ∙ sym (slice_get-get_or c.args.start.now c.loop-i.i Zero within)))
]

pub returns : goal.returns
returns c l t initial are =
    let past : length c.args.running.now ≤ c.loop-i.i = c.loop-i-test.false in
    let end = c.loop-i.auto.i-end in
    let all : c.loop-i.i ≡ length c.args.running.now = omega (arith, past, end) in
    sides_of_running l t c.args.start.now c.args.running.now initial are c.loop-i.i c.loop-i.sides.items all c.loop-i.invariant
