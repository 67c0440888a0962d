use Rattle.std.proofs.Common.{◌≡◌, ℕ, Some}
use Rattle.std.specs.Prelude.{slice_get}
use Rattle.bit_layout.specs.declared.places.Place.{Place}
use Rattle.bit_layout.proofs.Listing.{all_zip_next}
use Rattle.bit_layout.proofs.layout.bits_in_file_order.Goals as goal

pub loop-place-preserved : goal.loop-place-preserved
loop-place-preserved c =
    all_zip_next (λ (p : Place) (bit : ℕ). slice_get c.args.sorted.now bit ≡ Some p) c.args.listed.now c.loop-place.bits.items c.push.new.self.items c.loop-place.place-index
    _ c.bit_of.result c.loop-place-test.true c.in_ok-push.ensures.items c.loop-place.invariant c.bit_of.ensures
