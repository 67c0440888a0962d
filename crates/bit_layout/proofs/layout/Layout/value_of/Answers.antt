use Rattle.std.proofs.Common.{◌<◌, length, refl}
use Rattle.std.proofs.lemmas.Option.{slice_get_read}
use Rattle.bit_layout.specs.Body.{state}
use Rattle.bit_layout.proofs.ValuesAt.{values_at, none_at}
use Rattle.bit_layout.proofs.layout.Layout.value_of.Goals as goal

pub returns-clause-value : goal.returns-clause-value
returns-clause-value c =
    let known : c.args.v.0 < length c.self.inside.kinds.items = rw (← c.self.view_is) at c.requires.known in
    rw (← c.self.view_is)
    (values_at (state c.self.inside) c.args.v c.index.result.now c.args.word.now c.value_of.result c.self.invariant.layout
    (slice_get_read c.self.inside.kinds.items _ c.args.v.0 c.index.result.now refl known c.index.ensures) c.value_of.ensures.some c.value_of.ensures.none)

pub returns-clause-none : goal.returns-clause-none
returns-clause-none c =
    let known : c.args.v.0 < length c.self.inside.kinds.items = rw (← c.self.view_is) at c.requires.known in
    rw (← c.self.view_is)
    (none_at (state c.self.inside) c.args.v c.index.result.now c.args.word.now c.value_of.result
    (slice_get_read c.self.inside.kinds.items _ c.args.v.0 c.index.result.now refl known c.index.ensures) c.value_of.ensures.none)
