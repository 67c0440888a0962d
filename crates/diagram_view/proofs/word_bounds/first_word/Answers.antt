use Rattle.std.proofs.Common.{◌+◌, ◌∙◌, arith, ap, sym, subst, length, get_or}
use Rattle.std.proofs.lemmas.List.{length_push}
use Rattle.diagram_arena.specs.Arena.{table}
use Rattle.diagram_view.proofs.Stepping.{over_from}
use Rattle.diagram_view.proofs.Firsts.{IsTakenTo, taken_start, taken_live, taken_more, first_at_end}
use Rattle.diagram_view.proofs.word_bounds.first_word.Goals as goal

pub loop-bit-init : goal.loop-bit-init
loop-bit-init c = record {
  long = ap length c.new-word.ensures.items;
  so = taken_start _ c.args.f c.args.bits.now c.args.value c.new-word.result.items c.new-word.ensures.items c.requires.some;
}

pub preferred-taken-requires : goal.preferred-taken-requires
preferred-taken-requires c =
    let over = over_from _ c.args.f c.args.bits.now c.requires.live c.requires.ascends c.requires.holds in
    taken_live _ c.laws.ensures c.args.f c.args.bits.now c.args.value c.loop-bit.word.items c.loop-bit.at over c.loop-bit.invariant.so

pub side-at-requires : goal.side-at-requires
side-at-requires c =
    let over = over_from _ c.args.f c.args.bits.now c.requires.live c.requires.ascends c.requires.holds in
    taken_live _ c.laws.ensures c.args.f c.args.bits.now c.args.value c.loop-bit.word.items c.loop-bit.at over c.loop-bit.invariant.so

pub loop-bit-preserved : goal.loop-bit-preserved
loop-bit-preserved c =
    let over = over_from _ c.args.f c.args.bits.now c.requires.live c.requires.ascends c.requires.holds in
    let long = c.loop-bit.invariant.long in
    let pushed = c.in_ok-push.ensures.items in record {
      long = ap length pushed ∙ length_push c.loop-bit.word.items c.preferred-taken.result ∙ ap (λ k. k + 1) long;
      so = subst (λ p. IsTakenTo (table c.args.arena.now) c.args.f c.args.bits.now c.args.value p c.side-at.result) (sym pushed)
          (subst (IsTakenTo (table c.args.arena.now) c.args.f c.args.bits.now c.args.value _) (sym c.side-at.ensures)
          (taken_more _ c.laws.ensures c.args.f c.args.bits.now c.args.value c.loop-bit.word.items c.loop-bit.at (get_or c.args.bits.now c.loop-bit.bit-index 0) c.preferred-taken.result over
          c.loop-bit.invariant.so (omega (arith, long, c.loop-bit-test.true)) (ap (λ k. get_or c.args.bits.now k 0) (sym long)) c.preferred-taken.ensures));
    }

pub returns : goal.returns
returns c =
    let over = over_from _ c.args.f c.args.bits.now c.requires.live c.requires.ascends c.requires.holds in
    let so = c.loop-bit.invariant in
    first_at_end _ c.laws.ensures c.args.f c.args.bits.now c.args.value c.loop-bit.word.items c.loop-bit.at over so.so (omega (arith, so.long, c.loop-bit-test.false, c.loop-bit.auto.bit-index-end))
