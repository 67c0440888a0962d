use Rattle.std.proofs.Common.{◌≡◌, ◌+◌, ◌<◌, ◌≤◌, length, arith, ap}
use Rattle.bit_layout.specs.Body.{state}
use Rattle.bit_layout.proofs.Keeping.{length-starts, part_fits, part_width, part_bits, part_rises}
use Rattle.bit_layout.proofs.layout.Layout.bits_of.Goals as goal

pub index-requires : goal.index-requires
index-requires c =
    let known : c.args.v.0 < length c.self.inside.kinds.items = rw (← c.self.view_is) at c.requires in
    let long : length c.self.inside.starts.items ≡ length c.self.inside.kinds.items = length-starts (state c.self.inside) c.self.inside.starts.items c.self.invariant.starts in
    omega (arith, known, long)

pub part-requires : goal.part-requires
part-requires c =
    let within : c.index.result.now + c.width.result ≤ length c.self.inside.bits.items =
    part_fits (state c.self.inside) c.self.inside.bits.items c.self.inside.starts.items c.args.v c.index.result.now c.width.result c.self.invariant.bits c.self.invariant.starts
    (rw (← c.self.view_is) at c.requires) c.index.ensures (rw (← c.self.view_is) at c.width.ensures) in
    let same : length c.as_slice.result.now ≡ length c.self.inside.bits.items = ap length c.as_slice.ensures.value in
    omega (arith, within, same)

pub returns-clause-long : goal.returns-clause-long
returns-clause-long c =
    rw (← c.self.view_is)
    (part_width (state c.self.inside) c.self.inside.bits.items c.self.inside.starts.items c.args.v c.index.result.now c.width.result c.as_slice.result.now c.part.result.now c.self.invariant.bits c.self.invariant.starts
    (rw (← c.self.view_is) at c.requires) c.index.ensures (rw (← c.self.view_is) at c.width.ensures) c.as_slice.ensures.value c.part.ensures)

pub returns-clause-each : goal.returns-clause-each
returns-clause-each c =
    rw (← c.self.view_is)
    (part_bits (state c.self.inside) c.self.inside.bits.items c.self.inside.starts.items c.args.v c.index.result.now c.width.result c.as_slice.result.now c.part.result.now c.self.invariant.layout c.self.invariant.bits
    c.self.invariant.starts (rw (← c.self.view_is) at c.requires) c.index.ensures (rw (← c.self.view_is) at c.width.ensures) c.as_slice.ensures.value c.part.ensures)

pub returns-clause-ascending : goal.returns-clause-ascending
returns-clause-ascending c =
    part_rises (state c.self.inside) c.self.inside.bits.items c.self.inside.starts.items c.args.v c.index.result.now c.width.result c.as_slice.result.now c.part.result.now c.self.invariant.layout c.self.invariant.bits
    c.self.invariant.starts (rw (← c.self.view_is) at c.requires) c.index.ensures (rw (← c.self.view_is) at c.width.ensures) c.as_slice.ensures.value c.part.ensures
