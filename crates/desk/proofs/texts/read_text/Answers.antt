use Rattle.std.proofs.Common.{◌≡◌, ◌+◌, ◌≤◌, length, take, sym, subst, ◌∙◌, ap, arith, length-append, length-take}
use Rattle.desk.proofs.SoFar.{IsSoFar, on_err, so_far_more, so_far_up_to}
use Rattle.desk.proofs.texts.read_text.Goals as goal

-- one call more, which was given no more room than the limit leaves
pub loop-slot-preserved : goal.loop-slot-preserved
loop-slot-preserved g c =
    let old = g.D.Desk.state c.args.desk.now in
    let now = g.D.Desk.state c.loop-slot.desk in
    let new = g.D.Desk.state c.read_more.new.desk in
    let text = c.loop-slot.text.items in
    let buffer = c.read_more.new.buffer in
    let n = c.in_ok-count.count in
    let more = so_far_more c.args.slot old now new text buffer n c.loop-slot.invariant.so_far c.in_ok-count.ensures.ok in
    let longer : length c.read_more.new.text.items ≡ length text + length (take n buffer) = ap length c.in_ok-count.ensures.text ∙ length-append text (take n buffer) in
    let room : n ≤ c.min-most.result = omega (arith, c.in_ok-count.ensures.ok.within, c.read_more.auto.buffer, length-take c.min-most.result c.deref_mut.result.now) in
    record {
      so_far = subst (IsSoFar c.args.slot old new) (sym c.in_ok-count.ensures.text) more;
      within = omega (arith, longer, room, length-take n buffer);
      faults = c.in_ok-count.ensures.cause.kept ∙ c.loop-slot.invariant.faults;
      chunk = c.loop-slot.invariant.chunk;
    }

pub returns-in_err-count-clause-err : goal.returns-in_err-count-clause-err
returns-in_err-count-clause-err g c =
    let room : length (take c.min-most.result c.deref_mut.result.now) ≤ c.min-most.result = omega (arith, length-take c.min-most.result c.deref_mut.result.now) in
    on_err _ (so_far_up_to c.args.slot (g.D.Desk.state c.args.desk.now) (g.D.Desk.state c.loop-slot.desk) (g.D.Desk.state c.read_more.new.desk) c.loop-slot.text.items (length (take c.min-most.result c.deref_mut.result.now)) (c.args.limit + 1) c.loop-slot.invariant.so_far c.in_err-count.ensures.err (omega arith))
