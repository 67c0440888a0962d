use Rattle.bit_layout.specs.Body.{state}
use Rattle.bit_layout.proofs.Finding.{bit_once, stands_from, place_known}
use Rattle.std.proofs.Common.{refl, ◌<◌, length}
use Rattle.std.proofs.lemmas.Option.{slice_get_read}
use Rattle.bit_layout.proofs.layout.Layout.place.Goals as goal

pub returns-clause-value : goal.returns-clause-value
returns-clause-value c =
    let l = state c.self.inside in
    let p = c.index-place.result.now in
    let within : c.args.bit < length c.self.inside.places.items = rw (← c.self.view_is) at c.requires in
    rw (← c.self.view_is)
    (bit_once l p.variable p.position c.args.bit c.self.invariant.layout.order
    (stands_from l c.args.bit p.variable p.position p (slice_get_read c.self.inside.places.items _ c.args.bit p refl within c.index-place.ensures) refl refl))

pub returns-clause-known : goal.returns-clause-known
returns-clause-known c =
    let l = state c.self.inside in
    let p = c.index-place.result.now in
    let within : c.args.bit < length c.self.inside.places.items = rw (← c.self.view_is) at c.requires in
    rw (← c.self.view_is) (place_known l c.args.bit p c.self.invariant.layout (slice_get_read c.self.inside.places.items _ c.args.bit p refl within c.index-place.ensures))
