-- The places of the tests, and the arguments of one relation.
use Rattle.std.proofs.Common.{ℕ, List, [], ◌∷◌, Some, refl, pos}
use Rattle.std.specs.Prelude.{IsSome}
use Rattle.std.specs.List.{All}
use Rattle.std.specs.List.Sorted.{IsStrictlySortedBy}
use Rattle.std.proofs.lemmas.List.Elements.{All-from_recursion}
use Rattle.set_meaning.specs.declared.kinds.Kind.TheVariants as kind
use Rattle.set_meaning.specs.declared.problems.Term.TheVariants.{Var}
use Rattle.set_meaning.specs.declared.problems.Arg.TheVariants.{One}
use Rattle.set_meaning.specs.declared.problems.Relation.TheVariants.{SetNe}
use Rattle.bit_layout.specs.declared.places.Place.{Place}
use Rattle.bit_layout.specs.Order.{place_cmp}
use Rattle.sweep_sets.specs.Relations.{FitsRelation}

abbrev pub at : ℕ → ℕ → ℕ → Place
at element variable position = record { element = Some (pos element); variable = record { 0 = variable }; position = position }

abbrev pub six : List Place
six = at 1 0 0 ∷ at 1 2 0 ∷ at 2 0 1 ∷ at 2 1 0 ∷ at 3 1 1 ∷ at 3 2 1 ∷ []

pub six_ascend : IsStrictlySortedBy place_cmp six
unfolding IsStrictlySortedBy
six_ascend = ((refl, (refl, (refl, (refl, (refl, tt))))), ((refl, (refl, (refl, (refl, tt)))), ((refl, (refl, (refl, tt))), ((refl, (refl, tt)), ((refl, tt), (tt, tt))))))

pub six_have_elements : All (λ (p : Place). IsSome p.element) six
six_have_elements = All-from_recursion (λ (p : Place). IsSome p.element) six (refl, (refl, (refl, (refl, (refl, (refl, tt))))))

pub pair_fits : FitsRelation SetNe (One (Var record { 0 = 0 }) ∷ One (Var record { 0 = 1 }) ∷ [])
pair_fits = (kind.Set [] ∷ kind.Set [] ∷ [], (refl, (refl, tt)))
