use Rattle.std.proofs.Common.{◌↔◌, IsTrue, FitsSigned, w64, subst, sym}
use Rattle.std.specs.Prelude.{not}
use Rattle.std.specs.Bool.{beq}
use Rattle.std.proofs.lemmas.Int.{to_z-of_z}
use Rattle.set_meaning.specs.declared.sets.SetOperation.{SetOperation}
use Rattle.set_meaning.specs.Sets.{Has, OnlyFirstHas, JustOneHas}
use Rattle.set_meaning.specs.Operations.{ResultHas}
use Rattle.set_meaning.proofs.Truths.{just_one}
use Rattle.set_meaning.proofs.sets.SetOperation.gives.Goals as goal

pub returns-in-SymmetricDifference : goal.returns-in-SymmetricDifference
unfolding JustOneHas OnlyFirstHas
returns-in-SymmetricDifference c =
    let fits : FitsSigned w64 c.args.x = c.ranges.x in
    let in_a : IsTrue c.has-in-SymmetricDifference.result ↔ Has c.args.a.now c.args.x = simp to_z-of_z at c.has-in-SymmetricDifference.ensures in
    let in_b : IsTrue c.has-in-SymmetricDifference-2.result ↔ Has c.args.b.now c.args.x = simp to_z-of_z at c.has-in-SymmetricDifference-2.ensures in
    let P : SetOperation → Type 0 =
    λ o. IsTrue (not (beq c.has-in-SymmetricDifference.result c.has-in-SymmetricDifference-2.result)) ↔ ResultHas o c.args.a.now c.args.b.now c.args.x in
    subst P (sym c.in-SymmetricDifference.is) (just_one _ _ _ _ in_a in_b)
