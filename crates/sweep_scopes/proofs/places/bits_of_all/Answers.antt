use Rattle.sweep_scopes.proofs.Bits.{bits_from_sort}
use Rattle.sweep_scopes.proofs.places.bits_of_all.Goals as goal

pub returns : goal.returns
returns c =
    bits_from_sort _ c.args.sets.now c.args.sets.now _ _ _ c.obeys_order.ensures (λ v. (λ h. h, λ h. h)) c.in_ok-bits.ensures c.sort_unstable.ensures.permutation c.sort_unstable.ensures.sorted c.dedup.ensures.filtered
