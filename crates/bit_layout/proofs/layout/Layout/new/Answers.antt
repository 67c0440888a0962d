use Rattle.std.proofs.Common.{◌≡◌, length, ◌∙◌, ap, arith}
use Rattle.std.specs.List.{sum_by}
use Rattle.bit_layout.specs.Words.{width_of}
use Rattle.bit_layout.specs.Body.{starts_of}
use Rattle.bit_layout.proofs.Listing.{sum_of_widths}
use Rattle.bit_layout.proofs.Making.{order_made, long_made, all_found, limits_kept, bits_kept}
use Rattle.bit_layout.proofs.layout.Layout.new.Goals as goal

pub bits_in_file_order-requires-clause-sorted : goal.bits_in_file_order-requires-clause-sorted
bits_in_file_order-requires-clause-sorted c =
    rw c.as_slice-4.ensures.value
    (order_made c.in_ok-kinds.kinds.items c.as_slice.result.now c.in_ok-listed.listed.items c.as_slice-2.result.now c.in_ok-places.places.items c.sort_unstable.new.self.items
    c.as_slice.ensures.value c.in_ok-listed.ensures c.in_ok-places.ensures.items c.as_slice-2.ensures.value c.sort_unstable.ensures.permutation c.sort_unstable.ensures.sorted).ascending

pub bits_in_file_order-requires-clause-all : goal.bits_in_file_order-requires-clause-all
bits_in_file_order-requires-clause-all c =
    rw (c.as_slice-4.ensures.value, c.as_slice-3.ensures.value)
    (all_found c.in_ok-listed.listed.items c.as_slice-2.result.now c.in_ok-places.places.items c.sort_unstable.new.self.items
    c.in_ok-places.ensures.items c.as_slice-2.ensures.value c.sort_unstable.ensures.permutation)

pub bits_in_file_order-requires-clause-few : goal.bits_in_file_order-requires-clause-few
bits_in_file_order-requires-clause-few c =
    let long : length c.sort_unstable.new.self.items ≡ sum_by width_of c.in_ok-kinds.kinds.items =
    long_made c.in_ok-kinds.kinds.items c.as_slice.result.now c.in_ok-listed.listed.items c.as_slice-2.result.now c.in_ok-places.places.items c.sort_unstable.new.self.items
    c.as_slice.ensures.value c.in_ok-listed.ensures c.in_ok-places.ensures.items c.as_slice-2.ensures.value c.sort_unstable.ensures.permutation in
    let limits = limits_kept c.in_ok-kinds.kinds.items c.args.p.now.kinds (c.in_ok-kinds.ensures ∙ c.items.ensures) c.requires in
    let few = limits.bits in
    let widths = sum_of_widths c.in_ok-kinds.kinds.items in
    let same : length c.as_slice-4.result.now ≡ length c.sort_unstable.new.self.items = ap length c.as_slice-4.ensures.value in
    omega (arith, long, few, widths, same)

pub returns-clause-order : goal.returns-clause-order
returns-clause-order c =
    order_made c.in_ok-kinds.kinds.items c.as_slice.result.now c.in_ok-listed.listed.items c.as_slice-2.result.now c.in_ok-places.places.items c.sort_unstable.new.self.items
    c.as_slice.ensures.value c.in_ok-listed.ensures c.in_ok-places.ensures.items c.as_slice-2.ensures.value c.sort_unstable.ensures.permutation c.sort_unstable.ensures.sorted

pub invariant_of-result : goal.invariant_of-result
invariant_of-result c = record {
  layout = record {
    limits = limits_kept c.in_ok-kinds.kinds.items c.args.p.now.kinds (c.in_ok-kinds.ensures ∙ c.items.ensures) c.requires;
    order = order_made c.in_ok-kinds.kinds.items c.as_slice.result.now c.in_ok-listed.listed.items c.as_slice-2.result.now c.in_ok-places.places.items c.sort_unstable.new.self.items
        c.as_slice.ensures.value c.in_ok-listed.ensures c.in_ok-places.ensures.items c.as_slice-2.ensures.value c.sort_unstable.ensures.permutation c.sort_unstable.ensures.sorted;
  };
  bits = bits_kept c.in_ok-kinds.kinds.items c.as_slice.result.now c.in_ok-listed.listed.items c.as_slice-3.result.now c.sort_unstable.new.self.items c.as_slice-4.result.now c.in_ok-bits.bits.items
      c.as_slice.ensures.value c.in_ok-listed.ensures c.as_slice-3.ensures.value c.as_slice-4.ensures.value c.in_ok-bits.ensures;
  long = long_made c.in_ok-kinds.kinds.items c.as_slice.result.now c.in_ok-listed.listed.items c.as_slice-2.result.now c.in_ok-places.places.items c.sort_unstable.new.self.items
      c.as_slice.ensures.value c.in_ok-listed.ensures c.in_ok-places.ensures.items c.as_slice-2.ensures.value c.sort_unstable.ensures.permutation;
  starts = c.in_ok-starts.ensures ∙ ap starts_of c.as_slice-5.ensures.value;
}
