use Rattle.std.proofs.Common.{sym, subst}
use Rattle.std.specs.Prelude.{ℤ, List, IsSomeAnd}
use Rattle.std.specs.List.{All}
use Rattle.set_meaning.specs.Sets.{Has}
use Rattle.bit_layout.specs.declared.places.Place.{Place}
use Rattle.sweep_sets.proofs.Grouping.{all_listed}
use Rattle.sweep_sets.proofs.making.made.Goals as goal

pub entries_of-requires-clause-listed : goal.entries_of-requires-clause-listed
entries_of-requires-clause-listed c =
    let places : List Place = c.args.places.now in
    subst (λ (xs : List ℤ). All (λ (p : Place). IsSomeAnd p.element (Has xs)) places) (sym c.elements-3.ensures.same)
    (all_listed c.args.operands.now _ places c.in_ok-elements.ensures c.requires)
