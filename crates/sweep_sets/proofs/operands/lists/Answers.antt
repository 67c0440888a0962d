use Rattle.std.proofs.lemmas.Int.{to_z-of_z}
use Rattle.std.specs.Prelude.{FitsSigned}
use mir.Syntax.{w64}
use Rattle.bit_layout.proofs.Elements.{lists_by_test}
use Rattle.sweep_sets.proofs.operands.lists.Goals as goal

pub returns : goal.returns
returns c =
    let fits : FitsSigned w64 c.args.x = c.ranges.x in
    let test = simp to_z-of_z at c.has.ensures in
    lists_by_test c.args.set.now c.args.x c.has.result test
