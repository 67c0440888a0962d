use Rattle.std.proofs.Common.{◌+◌, ◌∙◌, ap, arith, get_or, refl, sym, subst, false}
use Rattle.diagram_arena.specs.Arena.{table}
use Rattle.diagram_view.proofs.Over.{list_words}
use Rattle.diagram_view.proofs.Tell.{has-values}
use Rattle.diagram_view.proofs.Stepping.{over_from}
use Rattle.diagram_view.proofs.Passing.{IsReadTo, read_start, read_more, read_end}
use Rattle.diagram_view.proofs.walks.has.Goals as goal

pub loop-i-init : goal.loop-i-init
loop-i-init c = read_start _ c.args.f c.args.bits.now c.args.word.now (over_from _ c.args.f c.args.bits.now c.requires.live c.requires.ascends c.requires.holds)

pub loop-i-preserved : goal.loop-i-preserved
loop-i-preserved c =
    subst (IsReadTo (table c.args.arena.now) c.args.f c.args.bits.now c.args.word.now (c.loop-i.i + 1)) (sym c.side-at.ensures)
    (read_more _ c.laws.ensures c.args.f c.args.bits.now c.args.word.now c.loop-i.i c.loop-i.at (get_or c.args.bits.now c.loop-i.i 0) (get_or c.args.word.now c.loop-i.i false) c.loop-i-test.true
    c.requires.long refl refl c.loop-i.invariant)

pub returns-clause-value : goal.returns-clause-value
returns-clause-value c =
    read_end _ c.laws.ensures c.args.f c.args.bits.now c.args.word.now c.loop-i.i c.loop-i.at c.is_one.result (omega (arith, c.loop-i-test.false)) c.is_one.ensures c.loop-i.invariant

pub returns-clause-any : goal.returns-clause-any
returns-clause-any c w e =
    returns-clause-value c
    ∙ ap (list_words (table c.args.arena.now) c.args.f c.args.bits.now) (sym e)
    ∙ sym (has-values _ c.laws.ensures c.args.bits.now c.args.f c.requires.live c.requires.holds w)
