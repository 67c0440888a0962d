-- The table by which the bits of set variables are read. This project's own.
use Rattle.std.specs.Prelude.{◌≡◌, ◌++◌, ℕ, Bool, ℤ, List, map, filter_map}
use Rattle.std.specs.List.{position_or_len}
use Rattle.std.specs.Ordering.{int_eq}
use Rattle.std.specs.Option.{option_map_or}
use Rattle.set_meaning.specs.Sets.{IsSetOf}
use Rattle.bit_layout.specs.declared.places.Place.{Place}
use Rattle.sweep_sets.specs.declared.rules.Rule.{Rule}
use Rattle.sweep_sets.specs.declared.reading.Entry.{Entry}
use Rattle.sweep_sets.specs.declared.operands.Operands.{Operands}
use Rattle.sweep_sets.specs.declared.shapes.SetShape.{SetShape}
use Rattle.sweep_sets.specs.Operands.{constant_marks, variable_marks}

-- all that may be an element of one of the sets: those of the bits, and those of the constants
abbrev pub all_elements : Operands → List Place → List ℤ
all_elements o places =
    filter_map (λ p. p.element) places ++ (o.first.constant.now ++ (o.second.constant.now ++ o.third.constant.now))

-- the number of an element in the list of all
abbrev pub number_of : List ℤ → ℤ → ℕ
number_of elements x = position_or_len (λ y. int_eq y x) elements

-- the number of the element for which a bit stands
abbrev pub number_at : List ℤ → Place → ℕ
number_at elements p = option_map_or (number_of elements) p.element 0

-- which sets a place's bit puts its element into, and the number of that element
abbrev pub entry_of : Operands → List ℤ → Place → Entry
entry_of o elements p = record { marks = variable_marks o p.variable; element = number_at elements p }

-- for each bit its entry
abbrev pub entries_of : Operands → List ℤ → List Place → List Entry
entries_of o elements places = map (entry_of o elements) places

-- the shape of a rule over these places: for each element the constants that have it, and for each bit its entry
pub record IsMade (o : Operands) (places : List Place) (rule : Rule) (truth : Bool) (shape : SetShape) : Type 0 where
  pub elements : List ℤ
  pub are_elements : IsSetOf (all_elements o places) elements
  pub rule_is : shape.rule ≡ rule
  pub truth_is : shape.truth ≡ truth
  pub are_constants : shape.constants ≡ map (constant_marks o) elements
  pub are_entries : shape.entries ≡ entries_of o elements places
