use Rattle.std.proofs.Common.{subst, arith}
use Rattle.std.specs.Prelude.{slice_get}
use Rattle.fzn_model.specs.Items.{parts_of}
use Rattle.fzn_model.specs.PartFaults.{IsFound, OfAsked, OfExpression}
use Rattle.fzn_model.specs.State.{naming_of}
use Rattle.fzn_model.proofs.Founds.{arguments_all, arguments_more, found_nothing}
use Rattle.fzn_model.proofs.expressions.found_in_arguments.Goals as goal

pub loop-i-init : goal.loop-i-init
loop-i-init c =
    let naming = naming_of c.args.declared.now in
    rw c.nothing-found.ensures (found_nothing (OfAsked naming) naming c.args.start (omega (arith, c.ranges.start.fits)))

pub loop-i-preserved : goal.loop-i-preserved
loop-i-preserved c =
    let naming = naming_of c.args.declared.now in
    rw c.both-found.ensures
    (arguments_more naming c.args.start c.args.shapes.now c.args.args.now c.loop-i.i c.index-args-i.result c.loop-i.found c.in_ok-next.next
    c.loop-i-test.true c.loop-i.invariant
    (subst (λ x. IsFound (OfExpression naming (slice_get c.args.shapes.now c.loop-i.i) x) naming c.loop-i.found.elements (parts_of x) c.in_ok-next.next)
    c.index-args-i.is (rw c.shape_at-shape.ensures at c.in_ok-next.ensures)))

pub returns : goal.returns
returns c =
    arguments_all (naming_of c.args.declared.now) c.args.start c.args.shapes.now c.args.args.now c.loop-i.i c.loop-i.found c.loop-i-test.false
    c.loop-i.invariant
