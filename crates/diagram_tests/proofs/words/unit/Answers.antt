use Rattle.std.proofs.Common.{◌≡◌, ◌+◌, ◌^◌, ◌≤◌, arith}
use Rattle.diagram_arena.specs.declared.nodes.Ref.TheVariants.{One}
use Rattle.diagram_arena.specs.Table.{Table, bit_end, depth}
use Rattle.diagram_arena.proofs.Meaning.{bit_end_is, depth-one}
use Rattle.diagram_tests.proofs.words.unit.Goals as goal

-- One lies below sixteen bits
below_all : (t : Table) → 16 ≤ 0 + depth t One
below_all t =
    let one : depth t One ≡ bit_end = depth-one t in
    let end : bit_end ≡ 2 ^ 32 = bit_end_is in
    omega (arith, one, end)

pub loop-i-init : goal.loop-i-init
loop-i-init c = record { live = tt; deep = below_all _ }
