use Rattle.std.proofs.Common.{◌≡◌, ℕ, Some}
use Rattle.std.specs.Prelude.{slice_get}
use Rattle.bit_layout.specs.declared.places.Place.{Place}
use Rattle.bit_layout.proofs.Listing.{all_zip_next}
use Rattle.sweep_scopes.proofs.places.places_of.Goals as goal

pub loop-bit-preserved : goal.loop-bit-preserved
loop-bit-preserved c =
    all_zip_next (λ (bit : ℕ) (p : Place). slice_get c.args.layout.now.places bit ≡ Some p) c.args.bits.now c.loop-bit.places.items c.push.new.self.items c.loop-bit.bit-index
    _ c.place_at.result.now c.loop-bit-test.true c.in_ok-push.ensures.items c.loop-bit.invariant c.place_at.ensures
