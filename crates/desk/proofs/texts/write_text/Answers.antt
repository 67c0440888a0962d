use Rattle.std.proofs.Common.{length, take, drop, ap, ◌∙◌, arith, length-drop}
use Rattle.desk.specs.State.{written}
use Rattle.desk.proofs.Moves.{written_more, rest_is}
use Rattle.desk.proofs.texts.write_text.Goals as goal

pub loop-at-preserved : goal.loop-at-preserved
loop-at-preserved g c =
    let writes = c.in_ok-at.ensures.ok in
    let piece = c.args.piece.now in
    let at = c.loop-at.at in
    let n = c.in_ok-at.field-0 in
    record {
      place = omega (arith, writes.within, length-drop at piece, ap length (rest_is piece at));
      state = writes.state ∙ ap (λ rest. written c.args.to (take n rest) (g.D.Desk.state c.loop-at.desk)) (rest_is piece at) ∙ ap (written c.args.to (take n (drop at piece))) c.loop-at.invariant.state ∙ written_more c.args.to piece at n (g.D.Desk.state c.args.desk.now);
      untouched = λ none. absurd (omega (arith, none, writes.some));
      faults = c.in_ok-at.ensures.cause.kept ∙ c.loop-at.invariant.faults;
    }
