use Rattle.std.proofs.Common.{◌≤◌, ◌+◌, ◌*◌, unsigned_abs, take}
use Rattle.int_channel.specs.Choices.{IsAmount, multiples_of}
use Rattle.int_channel.proofs.choices.arrays.sum_of_items.Given as goal

abbrev pub invariant-loop-item : goal.invariant-loop-item
invariant-loop-item l = record {
  amount : IsAmount l.base (multiples_of l.k (take l.item-index l.items)) l.amount;
  size : unsigned_abs l.amount.constant ≤ (l.item-index + 1) * 1000000000000000000;
}
