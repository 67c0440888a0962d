use Rattle.std.proofs.Common.{rules}
use Rattle.std.proofs.lemmas.Int.{to_z-of_z}
use mir.Syntax.{w64}
use Rattle.std.specs.Prelude.{FitsSigned}
use Rattle.sweep_shapes.proofs.First.{int_first, set_first}
use Rattle.sweep_shapes.proofs.axioms.first_value.Goals as goal

pub returns-in-Int : goal.returns-in-Int
returns-in-Int c =
    let fits : FitsSigned w64 c.least.result = search rules in
    simp to_z-of_z (int_first c.args.kind.now c.in-Int.numbers c.elements.result.now c.least.result c.in-Int.is c.elements.ensures.same c.requires c.least.ensures)

pub returns-in_ok-set-in-Set : goal.returns-in_ok-set-in-Set
returns-in_ok-set-in-Set c = set_first c.args.kind.now c.in-Set.field-0 c.in_ok-set-in-Set.set c.in-Set.is c.in_ok-set-in-Set.ensures.ascending c.in_ok-set-in-Set.ensures.members
