use Rattle.std.proofs.Common.{◌+◌, ◌∙◌, List, [], ◌∷◌, ◌++◌, not, true, false, ap, sym, subst, length, drop, get_or}
use Rattle.std.specs.Prelude.{All}
use Rattle.std.proofs.lemmas.List.{length_push, drop_more}
use Rattle.diagram_arena.specs.declared.nodes.Ref.{Ref}
use Rattle.diagram_arena.specs.Table.{IsLive}
use Rattle.diagram_arena.specs.Arena.{table}
use Rattle.diagram_view.specs.Words.{words_over}
use Rattle.diagram_view.specs.Levels.{IsNextLevel}
use Rattle.diagram_view.proofs.Stepping.{over_from}
use Rattle.diagram_view.proofs.Leveling.{GoesOn, EverySoFar, SomeSoFar, level_start, level_live, level_more, every_start, some_start, every_more, some_more}
use Rattle.diagram_view.proofs.word_bounds.marks.Goals as goal

pub loop-bit-init : goal.loop-bit-init
loop-bit-init c = record {
  every_long = ap length c.new-every.ensures.items;
  some_long = ap length c.new-some.ensures.items;
  every = every_start _ _ c.new-every.ensures.items;
  some = some_start _ _ c.new-some.ensures.items;
  level = level_start _ c.args.f c.args.bits.now c.push.new.self.items (c.in_ok-push.ensures.items ∙ ap (λ (xs : List Ref). xs ++ c.args.f ∷ []) c.new-level.ensures.items);
}

pub goes_on-requires : goal.goes_on-requires
goes_on-requires c =
    let over = over_from _ c.args.f c.args.bits.now c.requires.live c.requires.ascends c.requires.holds in
    subst (All (IsLive (table c.args.arena.now))) (sym c.deref.ensures.value) (level_live _ c.laws.ensures c.args.f c.args.bits.now c.loop-bit.bit-index c.loop-bit.level.items over c.loop-bit.invariant.level)

pub goes_on-requires-in-loop-bit : goal.goes_on-requires-in-loop-bit
goes_on-requires-in-loop-bit c =
    let over = over_from _ c.args.f c.args.bits.now c.requires.live c.requires.ascends c.requires.holds in
    subst (All (IsLive (table c.args.arena.now))) (sym c.deref-in-loop-bit.ensures.value) (level_live _ c.laws.ensures c.args.f c.args.bits.now c.loop-bit.bit-index c.loop-bit.level.items over c.loop-bit.invariant.level)

pub next_level-requires : goal.next_level-requires
next_level-requires c =
    let over = over_from _ c.args.f c.args.bits.now c.requires.live c.requires.ascends c.requires.holds in
    subst (All (IsLive (table c.args.arena.now))) (sym c.deref-in-loop-bit-2.ensures.value) (level_live _ c.laws.ensures c.args.f c.args.bits.now c.loop-bit.bit-index c.loop-bit.level.items over c.loop-bit.invariant.level)

pub loop-bit-preserved : goal.loop-bit-preserved
loop-bit-preserved c =
    let t = table c.args.arena.now in
    let over = over_from _ c.args.f c.args.bits.now c.requires.live c.requires.ascends c.requires.holds in
    let so = c.loop-bit.invariant in
    let b = get_or c.args.bits.now c.loop-bit.bit-index 0 in
    let bs = drop (c.loop-bit.bit-index + 1) c.args.bits.now in
    let at = drop_more c.args.bits.now c.loop-bit.bit-index 0 c.loop-bit-test.true in
    let every_goes = subst (λ (refs : List Ref). GoesOn t refs b false c.goes_on.result) c.deref.ensures.value c.goes_on.ensures in
    let some_goes = subst (λ (refs : List Ref). GoesOn t refs b true c.goes_on-in-loop-bit.result) c.deref-in-loop-bit.ensures.value c.goes_on-in-loop-bit.ensures in
    let next = subst (λ (refs : List Ref). IsNextLevel t refs b c.in_ok-level.level.items) c.deref-in-loop-bit-2.ensures.value c.in_ok-level.ensures in record {
      every_long = ap length c.in_ok-push-2.ensures.items ∙ length_push c.loop-bit.every.items (not c.goes_on.result) ∙ ap (λ k. k + 1) so.every_long;
      some_long = ap length c.in_ok-push-3.ensures.items ∙ length_push c.loop-bit.some.items c.goes_on-in-loop-bit.result ∙ ap (λ k. k + 1) so.some_long;
      every = subst (EverySoFar (words_over t c.args.f c.args.bits.now)) (sym c.in_ok-push-2.ensures.items)
          (every_more t c.laws.ensures c.args.f c.args.bits.now c.loop-bit.bit-index b bs c.loop-bit.level.items c.loop-bit.every.items c.goes_on.result over at so.level so.every_long every_goes so.every);
      some = subst (SomeSoFar (words_over t c.args.f c.args.bits.now)) (sym c.in_ok-push-3.ensures.items)
          (some_more t c.laws.ensures c.args.f c.args.bits.now c.loop-bit.bit-index b bs c.loop-bit.level.items c.loop-bit.some.items c.goes_on-in-loop-bit.result over at so.level so.some_long some_goes so.some);
      level = level_more t c.args.f c.args.bits.now c.loop-bit.bit-index b bs c.loop-bit.level.items c.in_ok-level.level.items at so.level next;
    }
