use Rattle.std.proofs.Common.{List, Bool, [], ◌∷◌, ◌++◌, ◌+◌, ◌∙◌, refl, arith, ap, sym, subst, get_or}
use Rattle.std.proofs.lemmas.List.{length_push}
use Rattle.diagram_arena.specs.Arena.{table}
use Rattle.diagram_view.specs.Words.{IsFirstOpen, words_over}
use Rattle.diagram_view.proofs.Bits.{place_below}
use Rattle.diagram_view.proofs.Stepping.{over_from}
use Rattle.diagram_view.proofs.Passing.{forced_start, forced_live, forced_more, first_open_here, settled}
use Rattle.diagram_view.proofs.walks.first_open.Goals as goal

pub loop-i-init : goal.loop-i-init
loop-i-init c = ([], refl, forced_start _ c.args.f c.args.bits.now)

pub forced-requires : goal.forced-requires
forced-requires c =
    let over = over_from _ c.args.f c.args.bits.now c.requires.live c.requires.ascends c.requires.holds in
    forced_live _ c.laws.ensures c.args.f c.args.bits.now c.loop-i.invariant.0 c.loop-i.at over c.loop-i.invariant.2

pub overflow_cast-result : goal.overflow_cast-result
overflow_cast-result c =
    let below = place_below c.args.bits.now c.requires.ascends c.loop-i.i c.loop-i-test.true in
    let fits = c.type_inv.bits c.loop-i.i in
    omega (arith, below, fits)

pub returns-in-None-clause-open : goal.returns-in-None-clause-open
returns-in-None-clause-open c =
    let over = over_from _ c.args.f c.args.bits.now c.requires.live c.requires.ascends c.requires.holds in
    let p : List Bool = c.loop-i.invariant.0 in
    let long = c.loop-i.invariant.1 in
    subst (IsFirstOpen (words_over (table c.args.arena.now) c.args.f c.args.bits.now)) long
    (first_open_here _ c.laws.ensures c.args.f c.args.bits.now p c.loop-i.at (get_or c.args.bits.now c.loop-i.i 0) over c.loop-i.invariant.2
    (omega (arith, long, c.loop-i-test.true)) (ap (λ k. get_or c.args.bits.now k 0) (sym long)) c.in-None.ensures)

pub loop-i-preserved : goal.loop-i-preserved
loop-i-preserved c =
    let over = over_from _ c.args.f c.args.bits.now c.requires.live c.requires.ascends c.requires.holds in
    let p : List Bool = c.loop-i.invariant.0 in
    let long = c.loop-i.invariant.1 in (
      p ++ c.in-Some.field-0-0 ∷ [],
      length_push p c.in-Some.field-0-0 ∙ ap (λ k. k + 1) long,
      forced_more _ c.laws.ensures c.args.f c.args.bits.now p c.loop-i.at (get_or c.args.bits.now c.loop-i.i 0) c.in-Some.field-0-0 c.in-Some.rest over c.loop-i.invariant.2
          (omega (arith, long, c.loop-i-test.true)) (ap (λ k. get_or c.args.bits.now k 0) (sym long)) c.in-Some.ensures,
    )

pub returns-clause-none : goal.returns-clause-none
returns-clause-none c i within = settled _ c.args.f c.args.bits.now c.loop-i.invariant.0 c.loop-i.at c.loop-i.invariant.2 i (omega (arith, c.loop-i.invariant.1, c.loop-i-test.false, within))
