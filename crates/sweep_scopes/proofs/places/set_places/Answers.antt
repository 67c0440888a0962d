use Rattle.std.proofs.Common.{◌<◌, length, sym, subst}
use Rattle.std.specs.List.{All}
use Rattle.sweep_scopes.specs.Bits.{ArePlacesOf}
use Rattle.sweep_scopes.proofs.Bits.{bits_known}
use Rattle.sweep_scopes.proofs.PlaceLists.{set_places_are}
use Rattle.sweep_scopes.proofs.places.set_places.Goals as goal

pub places_of-requires : goal.places_of-requires
places_of-requires c =
    subst (All (λ b. b < length c.args.layout.now.places)) (sym c.as_slice.ensures.value) (bits_known c.args.layout.now c.args.sets.now c.in_ok-bits.bits.items c.in_ok-bits.ensures)

pub returns : goal.returns
returns c =
    set_places_are c.args.layout.now c.args.sets.now c.in_ok-bits.bits.items c.in_ok-places.places.items c.obeys_order.ensures c.in_ok-bits.ensures
    (subst (λ bits. ArePlacesOf c.args.layout.now bits c.in_ok-places.places.items) c.as_slice.ensures.value c.in_ok-places.ensures)
