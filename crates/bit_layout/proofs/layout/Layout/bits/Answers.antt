use Rattle.std.proofs.Common.{◌≡◌, ◌≤◌, length, arith}
use Rattle.std.specs.List.{sum_by}
use Rattle.bit_layout.specs.Words.{width_of}
use Rattle.bit_layout.specs.Body.{state}
use Rattle.bit_layout.proofs.Keeping.{few_bits}
use Rattle.bit_layout.proofs.layout.Layout.bits.Goals as goal

pub overflow_cast-result : goal.overflow_cast-result
overflow_cast-result c =
    let few : sum_by width_of c.self.inside.kinds.items ≤ 1048576 = few_bits (state c.self.inside) c.self.invariant.layout in
    let long : length c.self.inside.places.items ≡ sum_by width_of c.self.inside.kinds.items = c.self.invariant.long in
    omega (arith, few, long, c.len.ensures)

pub returns-clause-few : goal.returns-clause-few
returns-clause-few c =
    let few : sum_by width_of c.self.inside.kinds.items ≤ 1048576 = few_bits (state c.self.inside) c.self.invariant.layout in
    let long : length c.self.inside.places.items ≡ sum_by width_of c.self.inside.kinds.items = c.self.invariant.long in
    omega (arith, few, long, c.len.ensures)
