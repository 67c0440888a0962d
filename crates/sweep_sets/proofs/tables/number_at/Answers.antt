use Rattle.std.proofs.Common.{rules, ap, sym, ◌∙◌}
use Rattle.std.proofs.lemmas.Int.{to_z-of_z}
use Rattle.std.specs.Prelude.{FitsSigned}
use mir.Syntax.{w64}
use Rattle.std.specs.Option.{option_map_or}
use Rattle.sweep_sets.specs.Tables.{number_of}
use Rattle.sweep_sets.proofs.tables.number_at.Goals as goal

pub returns-in-Some : goal.returns-in-Some
returns-in-Some c =
    let fits : FitsSigned w64 c.in-Some.x = search rules in
    let is = simp to_z-of_z at c.number_of.ensures in
    is ∙ sym (ap (λ o. option_map_or (number_of c.args.elements.now) o 0) c.in-Some.is)
