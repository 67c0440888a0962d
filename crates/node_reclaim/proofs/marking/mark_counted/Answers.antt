use Rattle.std.proofs.Common.{◌<◌, sym, subst, arith}
use Rattle.std.specs.Map.{keys_of}
use Rattle.std.specs.List.Sorted.{IsStrictlySortedBy}
use Rattle.diagram_arena.specs.Table.{id_cmp}
use Rattle.node_reclaim.specs.Marking.{count_of, MarksCounted}
use Rattle.node_reclaim.proofs.Reached.{marking_skips, marking_steps, marking_ends, turn_live}
use Rattle.node_reclaim.proofs.marking.mark_counted.Goals as goal

pub loop-id-preserved-then-count-eq0 : goal.loop-id-preserved-then-count-eq0
loop-id-preserved-then-count-eq0 c =
    marking_skips c.args.arena.now c.loop-id.arena c.into_iter-id-iterator.result c.loop-id.id-iterator c.next.new.self (c.in-Some.id.now, c.in-Some.count.now)
    c.in-Some.ensures.steps c.if-count-eq0.true c.loop-id.invariant

pub mark_reached-requires-clause-live : goal.mark_reached-requires-clause-live
mark_reached-requires-clause-live c =
    let gives = c.into_iter-id-iterator.ensures.into_iter_gives in
    let some = c.if-count-eq0.false in
    turn_live c.args.arena.now c.loop-id.arena c.into_iter-id-iterator.result c.loop-id.id-iterator c.next.new.self (c.in-Some.id.now, c.in-Some.count.now)
    (subst (λ es. IsStrictlySortedBy id_cmp (keys_of es)) (sym gives.0) gives.5) c.in-Some.ensures.steps (omega (arith, some)) c.loop-id.invariant
    (λ i more. c.requires.live i (subst (λ es. 0 < count_of es i) gives.0 more))

pub loop-id-preserved : goal.loop-id-preserved
loop-id-preserved c =
    let some = c.if-count-eq0.false in
    marking_steps c.args.arena.now c.loop-id.arena c.mark_reached.new.arena c.into_iter-id-iterator.result c.loop-id.id-iterator c.next.new.self (c.in-Some.id.now, c.in-Some.count.now)
    c.in-Some.ensures.steps (omega (arith, some)) c.loop-id.invariant c.mark_reached.ensures

pub returns : goal.returns
returns c =
    let gives = c.into_iter-id-iterator.ensures.into_iter_gives in
    subst (MarksCounted c.args.arena.now c.loop-id.arena) gives.0
    (marking_ends c.args.arena.now c.loop-id.arena c.into_iter-id-iterator.result c.loop-id.id-iterator
    (subst (λ es. IsStrictlySortedBy id_cmp (keys_of es)) (sym gives.0) gives.5) c.in-None.ensures.steps.0 c.loop-id.invariant)
