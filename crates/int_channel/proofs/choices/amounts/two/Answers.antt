use Rattle.std.proofs.Common.{◌≤◌, [], ◌∷◌, length, FitsSigned, w64, arith}
use Rattle.std.proofs.lemmas.Int.{to_z-of_z}
use Rattle.int_channel.specs.Choices.{IsAmount}
use Rattle.int_channel.proofs.choices.amounts.two.Goals as goal

pub returns : goal.returns
returns c =
    let base = c.args.base in
    let fits_base : FitsSigned w64 base = c.ranges.base in
    let fits_k : FitsSigned w64 c.args.k = c.ranges.k in
    let fits_l : FitsSigned w64 c.args.l = c.ranges.l in
    let start : IsAmount base [] c.constant-amount.result = simp to_z-of_z at c.constant-amount.ensures.amount in
    let sum_k : IsAmount base ((c.args.k, c.args.a.now) ∷ []) c.plus.new.self = simp to_z-of_z at (c.in_ok-plus.ensures.amount base [] start) in
    let sum_l : IsAmount base ((c.args.k, c.args.a.now) ∷ (c.args.l, c.args.b.now) ∷ []) c.plus-2.new.self = simp to_z-of_z at (c.in_ok-plus-2.ensures.amount base ((c.args.k, c.args.a.now) ∷ []) sum_k) in
    c.compared.ensures base ((c.args.k, c.args.a.now) ∷ (c.args.l, c.args.b.now) ∷ []) sum_l (omega arith)
