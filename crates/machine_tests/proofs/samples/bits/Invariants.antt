use Rattle.std.proofs.Common.{◌≡◌, ℕ, ◌+◌, ◌*◌, ◌<◌, length, slice_index}
use Rattle.machine_tests.proofs.samples.bits.Given as goal

abbrev pub invariant-loop-i : goal.invariant-loop-i
invariant-loop-i l = (length l.bits.items ≡ l.i) × ((k : ℕ) → k < l.i → slice_index l.bits.items k ≡ 3 * k + 1)
