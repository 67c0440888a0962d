use Rattle.std.proofs.Common.{◌∷◌, [], subst, arith}
use Rattle.std.proofs.lemmas.List.{take_all}
use Rattle.fzn_model.specs.PartFaults.{IsFound, OfPart}
use Rattle.fzn_model.specs.State.{naming_of}
use Rattle.fzn_model.proofs.Founds.{found_nothing, items_more}
use Rattle.fzn_model.proofs.expressions.found_in_items.Goals as goal

pub loop-item-init : goal.loop-item-init
loop-item-init c =
    let naming = naming_of c.args.declared.now in
    rw c.nothing-found.ensures (found_nothing (OfPart naming c.args.shape) naming c.args.start (omega (arith, c.ranges.start.fits)))

pub loop-item-preserved : goal.loop-item-preserved
loop-item-preserved c =
    let naming = naming_of c.args.declared.now in
    rw c.both-found.ensures
    (items_more (OfPart naming c.args.shape) naming c.args.start c.args.items.now c.loop-item.item-index c.item-item.result c.loop-item.found c.in_ok-next.next
    c.loop-item-test.true c.loop-item.invariant
    (subst (λ x. IsFound (OfPart naming c.args.shape x) naming c.loop-item.found.elements (x ∷ []) c.in_ok-next.next) c.item-item.is c.in_ok-next.ensures))

pub returns : goal.returns
returns c = rw (take_all c.loop-item.item-index c.args.items.now c.loop-item-test.false) at c.loop-item.invariant
