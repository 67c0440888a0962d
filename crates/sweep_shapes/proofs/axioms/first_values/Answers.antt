use Rattle.std.proofs.Common.{subst}
use Rattle.set_meaning.specs.Kinds.{InKind}
use Rattle.bit_layout.proofs.Listing.{all_zip_next}
use Rattle.sweep_shapes.proofs.axioms.first_values.Goals as goal

pub loop-kind-preserved : goal.loop-kind-preserved
loop-kind-preserved c =
    all_zip_next InKind c.args.kinds.now c.loop-kind.values.items c.push.new.self.items c.loop-kind.kind-index c.kind-item.result c.in_ok-value.value c.loop-kind-test.true
    c.in_ok-push.ensures.items c.loop-kind.invariant (subst (λ k. InKind k c.in_ok-value.value) c.kind-item.is c.in_ok-value.ensures)
