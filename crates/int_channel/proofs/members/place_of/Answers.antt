use Rattle.std.proofs.Common.{rules}
use Rattle.std.proofs.lemmas.Int.{to_z-of_z}
use Rattle.std.specs.Prelude.{FitsSigned}
use mir.Syntax.{w64}
use Rattle.set_meaning.proofs.Ascending.{not_found}
use Rattle.int_channel.proofs.members.place_of.Goals as goal

pub returns-in-Err-clause-none : goal.returns-in-Err-clause-none
returns-in-Err-clause-none c =
    let fits : FitsSigned w64 c.args.element = c.ranges.element in
    let parts = simp to_z-of_z at c.in-Err.ensures.position in
    not_found c.args.elements.now c.args.element c.in-Err.field-0 c.requires parts
