use Rattle.std.proofs.lemmas.Int.{to_z-of_z}
use Rattle.std.specs.Prelude.{FitsSigned}
use mir.Syntax.{w64}
use Rattle.set_meaning.specs.Sets.{Has}
use Rattle.set_meaning.proofs.Ascending.{not_found}
use Rattle.sweep_sets.proofs.Numbers.{number_found}
use Rattle.sweep_sets.proofs.tables.number_of.Goals as goal

pub unreachable-requires : goal.unreachable-requires
unfolding Has
unreachable-requires c =
    let fits : FitsSigned w64 c.args.x = c.ranges.x in
    let parts = simp to_z-of_z at c.in-Err.ensures.position in
    not_found c.args.elements.now c.args.x c.in-Err.field-0 c.requires.ascending parts c.requires.listed

pub returns : goal.returns
returns c =
    let fits : FitsSigned w64 c.args.x = c.ranges.x in
    let tied = simp to_z-of_z at c.in-Ok.ensures.ok in
    number_found c.args.elements.now c.args.x c.in-Ok.number c.requires.ascending c.in-Ok.ensures.bound tied
