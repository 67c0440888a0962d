use Rattle.std.proofs.Common.{◌↔◌, IsTrue, FitsSigned, w64}
use Rattle.std.proofs.lemmas.Int.{to_z-of_z}
use Rattle.set_meaning.specs.Sets.{Has}
use Rattle.set_meaning.specs.Operations.{ResultHas, AgreesAt}
use Rattle.set_meaning.proofs.Truths.{same_truth}
use Rattle.set_meaning.proofs.sets.agrees.Goals as goal

pub returns : goal.returns
unfolding AgreesAt
returns c =
    let fits : FitsSigned w64 c.args.x = c.ranges.x in
    let there : IsTrue c.has.result ↔ Has c.args.set.now c.args.x = simp to_z-of_z at c.has.ensures in
    let given : IsTrue c.gives.result ↔ ResultHas c.args.operation c.args.a.now c.args.b.now c.args.x = simp to_z-of_z at c.gives.ensures in
    same_truth _ _ _ _ there given
