use Rattle.std.proofs.Common.{◌+◌, ◌∙◌, arith, ap, sym, subst, inl, inr, length, get_or}
use Rattle.std.proofs.lemmas.Bool.{false≢true}
use Rattle.std.proofs.lemmas.List.{length_push}
use Rattle.diagram_arena.specs.Arena.{table}
use Rattle.diagram_view.proofs.Stepping.{over_from}
use Rattle.diagram_view.proofs.Passing.{IsForcedTo, forced_start, forced_live, forced_more, open_here, no_word, only_word}
use Rattle.diagram_view.proofs.walks.single.Goals as goal

pub loop-bit-init : goal.loop-bit-init
loop-bit-init c = record {
  long = ap length c.new-word.ensures.items;
  so = subst (λ p. IsForcedTo (table c.args.arena.now) c.args.f c.args.bits.now p c.args.f) (sym c.new-word.ensures.items) (forced_start _ c.args.f c.args.bits.now);
}

pub forced-requires : goal.forced-requires
forced-requires c =
    let over = over_from _ c.args.f c.args.bits.now c.requires.live c.requires.ascends c.requires.holds in
    forced_live _ c.laws.ensures c.args.f c.args.bits.now _ c.loop-bit.at over c.loop-bit.invariant.so

pub returns-in-None-clause-other : goal.returns-in-None-clause-other
returns-in-None-clause-other c =
    let over = over_from _ c.args.f c.args.bits.now c.requires.live c.requires.ascends c.requires.holds in
    let long = c.loop-bit.invariant.long in
    inr (
      length c.loop-bit.word.items,
      open_here _ c.laws.ensures c.args.f c.args.bits.now c.loop-bit.word.items c.loop-bit.at (get_or c.args.bits.now c.loop-bit.bit-index 0) over
          c.loop-bit.invariant.so (omega (arith, long, c.loop-bit-test.true)) (ap (λ k. get_or c.args.bits.now k 0) (sym long)) c.in-None.ensures,
    )

pub loop-bit-preserved : goal.loop-bit-preserved
loop-bit-preserved c =
    let over = over_from _ c.args.f c.args.bits.now c.requires.live c.requires.ascends c.requires.holds in
    let long = c.loop-bit.invariant.long in
    let pushed = c.in_ok-push-in-Some.ensures.items in record {
      long = ap length pushed ∙ length_push c.loop-bit.word.items c.in-Some.value ∙ ap (λ k. k + 1) long;
      so = subst (λ p. IsForcedTo (table c.args.arena.now) c.args.f c.args.bits.now p c.in-Some.rest) (sym pushed)
          (forced_more _ c.laws.ensures c.args.f c.args.bits.now c.loop-bit.word.items c.loop-bit.at (get_or c.args.bits.now c.loop-bit.bit-index 0) c.in-Some.value c.in-Some.rest over
          c.loop-bit.invariant.so (omega (arith, long, c.loop-bit-test.true)) (ap (λ k. get_or c.args.bits.now k 0) (sym long)) c.in-Some.ensures);
    }

pub returns-then-is_zero-clause-other : goal.returns-then-is_zero-clause-other
returns-then-is_zero-clause-other c =
    let over = over_from _ c.args.f c.args.bits.now c.requires.live c.requires.ascends c.requires.holds in
    let so = c.loop-bit.invariant in
    inl (no_word _ c.laws.ensures c.args.f c.args.bits.now c.loop-bit.word.items c.loop-bit.at over so.so (omega (arith, so.long, c.loop-bit-test.false, c.loop-bit.auto.bit-index-end))
    (c.is_zero.ensures.0 c.if-is_zero.true))

pub returns-clause-one : goal.returns-clause-one
returns-clause-one c =
    let over = over_from _ c.args.f c.args.bits.now c.requires.live c.requires.ascends c.requires.holds in
    let so = c.loop-bit.invariant in
    only_word _ c.laws.ensures c.args.f c.args.bits.now c.loop-bit.word.items c.loop-bit.at over so.so (omega (arith, so.long, c.loop-bit-test.false, c.loop-bit.auto.bit-index-end))
    (λ e. false≢true (sym c.if-is_zero.false ∙ c.is_zero.ensures.1 e))
