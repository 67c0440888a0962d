use Rattle.std.proofs.Common.{◌↔◌, Contains, subst, sym}
use Rattle.set_meaning.specs.declared.kinds.Value.{Value}
use Rattle.set_meaning.specs.declared.kinds.Kind.{Kind}
use Rattle.set_meaning.specs.Sets.{IsAscending}
use Rattle.set_meaning.specs.Kinds.{InKind, initial_values}
use Rattle.set_meaning.proofs.InitialValues.{values_of_bool, values_of_int, values_of_set}
use Rattle.set_meaning.proofs.kinds.initial_values_are_in_kind.Goals as goal

abbrev Law : Kind → Type 0
Law k = (v : Value) → InKind k v ↔ Contains (initial_values k) v

pub returns-in-Bool : goal.returns-in-Bool
returns-in-Bool c = subst Law (sym c.in-Bool.is) values_of_bool

pub returns-in-Int : goal.returns-in-Int
returns-in-Int c = subst Law (sym c.in-Int.is) (values_of_int _)

pub returns-in-Set : goal.returns-in-Set
returns-in-Set c = subst Law (sym c.in-Set.is) (values_of_set _ (subst IsAscending c.elements.ensures.same c.elements.ensures.ascending))
