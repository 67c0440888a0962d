-- The comparison of parts tells them apart, as a shape needs of its states.
use Rattle.std.specs.Prelude.{◌≡◌, true}
use Rattle.std.proofs.Common.{ap, refl, eqb-true}
use Rattle.sweep_values.specs.declared.part.Part.{Part}
use Rattle.sweep_values.specs.declared.part.Part.TheVariants.{Every, Partly, Nothing}
use Rattle.sweep_values.specs.contracts.part.PartPartialEq.TheImpl.{eq-value}

-- the derived `==`, under the name that the toolchain gives it
pub part_true : (p q : Part) → eq-value.it p q ≡ true → p ≡ q
part_true Every Every is = refl
part_true Every (Partly y) is = cc
part_true Every Nothing is = cc
part_true (Partly x) Every is = cc
part_true (Partly x) (Partly y) is = ap Partly (eqb-true x y is)
part_true (Partly x) Nothing is = cc
part_true Nothing Every is = cc
part_true Nothing (Partly y) is = cc
part_true Nothing Nothing is = refl
