use Rattle.std.proofs.Common.{◌≡◌, ◌+◌, pos, FitsSigned, w64}
use Rattle.std.proofs.lemmas.Int.{to_z-of_z}
use Rattle.set_meaning.specs.Arguments.{set_of_term}
use Rattle.set_meaning.proofs.Members.{not_so}
use Rattle.set_meaning.proofs.Items.{is_there, is_not_there}
use Rattle.set_meaning.proofs.meaning.elements.is_set_item.Goals as goal

pub returns-in-Some-term_at : goal.returns-in-Some-term_at
returns-in-Some-term_at c =
    let fits : FitsSigned w64 c.args.place = c.ranges.place in
    let counted : c.args.place ≡ pos (c.in-Some.index + 1) = simp to_z-of_z at c.in-Some.ensures.some in
    is_there (set_of_term c.args.values.now) c.args.items.now c.in-Some.index _ c.args.place c.args.item.now _ c.requires counted c.in-Some-term_at.ensures c.has_set.ensures

pub returns-in-None-term_at : goal.returns-in-None-term_at
returns-in-None-term_at c =
    let fits : FitsSigned w64 c.args.place = c.ranges.place in
    let counted : c.args.place ≡ pos (c.in-Some.index + 1) = simp to_z-of_z at c.in-Some.ensures.some in
    not_so _ (is_not_there (set_of_term c.args.values.now) c.args.items.now c.in-Some.index c.args.place c.args.item.now c.requires counted c.in-None-term_at.ensures)
