use Rattle.std.proofs.Common.{◌≡◌, ◌+◌, ◌<◌, ◌≤◌, length, sym, arith}
use Rattle.std.specs.List.{sum_by}
use Rattle.bit_layout.specs.Words.{width_of}
use Rattle.bit_layout.specs.Body.{state}
use Rattle.bit_layout.proofs.Finding.{bit_once}
use Rattle.bit_layout.proofs.Keeping.{known_variable, length-starts, bit_index, bit_read, length-bits, few_bits}
use Rattle.bit_layout.proofs.layout.Layout.bit.Goals as goal

pub index-requires : goal.index-requires
index-requires c =
    let known : c.args.v.0 < length c.self.inside.kinds.items = known_variable (state c.self.inside) c.args.v c.args.position (rw (← c.self.view_is) at c.requires) in
    let long : length c.self.inside.starts.items ≡ length c.self.inside.kinds.items = length-starts (state c.self.inside) c.self.inside.starts.items c.self.invariant.starts in
    omega (arith, known, long)

pub overflow_add-index : goal.overflow_add-index
overflow_add-index c =
    let l = state c.self.inside in
    let w : c.index.result.now + c.args.position < length c.self.inside.bits.items =
    bit_index l c.self.inside.bits.items c.self.inside.starts.items c.args.v c.args.position c.index.result.now c.self.invariant.bits c.self.invariant.starts c.index.ensures (rw (← c.self.view_is) at c.requires) in
    let long : length c.self.inside.bits.items ≡ sum_by width_of c.self.inside.kinds.items = length-bits l c.self.inside.bits.items c.self.invariant.bits in
    let few : sum_by width_of c.self.inside.kinds.items ≤ 1048576 = few_bits l c.self.invariant.layout in
    omega (arith, w, long, few)

pub index-requires-2 : goal.index-requires-2
index-requires-2 c =
    let w : c.index.result.now + c.args.position < length c.self.inside.bits.items =
    bit_index (state c.self.inside) c.self.inside.bits.items c.self.inside.starts.items c.args.v c.args.position c.index.result.now c.self.invariant.bits c.self.invariant.starts c.index.ensures
    (rw (← c.self.view_is) at c.requires) in
    omega (arith, w)

pub returns-clause-place : goal.returns-clause-place
returns-clause-place c =
    rw (← c.self.view_is) (bit_read (state c.self.inside) c.self.inside.bits.items c.self.inside.starts.items c.args.v c.args.position c.index.result.now c.index-2.result.now
    c.self.invariant.bits c.self.invariant.starts c.index.ensures (rw (← c.self.view_is) at c.requires) c.index-2.ensures)

pub returns-clause-value : goal.returns-clause-value
returns-clause-value c =
    rw (← c.self.view_is) (sym (bit_once (state c.self.inside) c.args.v c.args.position c.index-2.result.now c.self.invariant.layout.order
    (bit_read (state c.self.inside) c.self.inside.bits.items c.self.inside.starts.items c.args.v c.args.position c.index.result.now c.index-2.result.now
    c.self.invariant.bits c.self.invariant.starts c.index.ensures (rw (← c.self.view_is) at c.requires) c.index-2.ensures)))
