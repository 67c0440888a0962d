use Rattle.std.proofs.Common.{◌≡◌, ◌+◌, ◌<◌, ℕ, suc, ℤ, pos, ◌-ℤ◌, unsigned_abs, [], ◌∷◌, ◌++◌, map, length, to_z, of_z, FitsSigned, w64, arith, subst}
use Rattle.std.proofs.lemmas.Int.{ints, to_z-of_z}
use Rattle.set_meaning.specs.Elements.{IsItem}
use Rattle.int_channel.specs.Choices.{number_of_term, IsAtomWhere}
use Rattle.int_channel.proofs.ChoiceElements.{place_branch}
use Rattle.int_channel.proofs.choices.elements.item_at.Goals as goal

pub returns : goal.returns
returns c = λ kinds.
    let n = c.args.number in
    let place = c.args.place.now in
    let fits : FitsSigned w64 n = c.ranges.number in
    let low = c.requires.number.0 in
    let high = c.requires.number.1 in
    let p = c.in_ok-first.first in
    let first : IsAtomWhere (place ∷ []) (λ values. number_of_term values place ≡ n) p =
    subst (λ (n : ℤ). IsAtomWhere (place ∷ []) (λ values. number_of_term values place ≡ n) p) (to_z-of_z w64 n fits) c.in_ok-first.ensures in
    let i : ℕ = unsigned_abs (to_z w64 (of_z w64 (to_z w64 (of_z w64 n) -ℤ pos 1))) in
    let within : i < length c.args.items.now = omega (arith, ints) in
    let counted : n ≡ pos (suc i) = omega (arith, ints) in
    place_branch kinds place c.args.items.now c.args.item.now c.index-items-number.result n i p c.in_ok-second.second within counted c.index-items-number.is first c.in_ok-second.ensures
