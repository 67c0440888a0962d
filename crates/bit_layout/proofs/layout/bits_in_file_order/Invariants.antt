use Rattle.std.proofs.Common.{◌≡◌, take, Some}
use Rattle.std.specs.Prelude.{slice_get}
use Rattle.std.specs.List.{AllZip}
use Rattle.bit_layout.proofs.layout.bits_in_file_order.Given as goal

abbrev pub invariant-loop-place : goal.invariant-loop-place
invariant-loop-place l = AllZip (λ p bit. slice_get l.sorted bit ≡ Some p) (take l.place-index l.listed) l.bits.items
