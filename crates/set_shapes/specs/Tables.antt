-- The table by which the bits of a constraint's variables are read. This project's own.
use Rattle.std.specs.Prelude.{◌≡◌, ◌++◌, ℕ, ℤ, List, map}
use Rattle.std.specs.List.{position_or_len}
use Rattle.std.specs.Ordering.{int_eq}
use Rattle.std.specs.Option.{option_map_or}
use Rattle.set_meaning.specs.declared.kinds.Kind.{Kind}
use Rattle.bit_layout.specs.declared.places.Place.{Place}
use Rattle.bit_layout.specs.Words.{lists}
use Rattle.element_machine.specs.declared.marks.Marks.{Marks}
use Rattle.element_machine.specs.declared.marks.Entry.{Entry}
use Rattle.set_shapes.specs.declared.operands.Operands.{Operands}
use Rattle.set_meaning.specs.declared.rows.Sort.TheVariants.{IntegerSet}
use Rattle.set_meaning.specs.Rows.{HasSort}
use Rattle.set_meaning.specs.Sets.{IsSetOf}
use Rattle.bit_layout.specs.Order.{LayoutState}
use Rattle.scope_words.specs.Words.{AreBitsOf}
use Rattle.scope_words.specs.Places.{ArePlacesOf}
use Rattle.set_shapes.specs.Operands.{universe_of, constant_marks, variable_marks, variables_of}

-- all that may be an element of one of the sets
abbrev pub all_elements : List Kind → Operands → List ℤ
all_elements kinds o = universe_of kinds o.first ++ (universe_of kinds o.second ++ universe_of kinds o.third)

-- the number of an element in the list of all
abbrev pub number_of : List ℤ → ℤ → ℕ
number_of elements x = position_or_len (λ y. int_eq y x) elements

-- the number of the element for which a bit stands
abbrev pub number_at : List ℤ → Place → ℕ
number_at elements p = option_map_or (number_of elements) p.element 0

-- which sets a place's bit puts its element into, and the number of that element
abbrev pub entry_of : Operands → List ℤ → Place → Entry
entry_of o elements p = record { marks = variable_marks o p.variable; element = number_at elements p }

-- for each bit its entry
abbrev pub entries_of : Operands → List ℤ → List Place → List Entry
entries_of o elements places = map (entry_of o elements) places

-- which of three sets have x
abbrev pub marks_in : List ℤ → List ℤ → List ℤ → ℤ → Marks
marks_in a b c x = record { first = lists a x; second = lists b x; third = lists c x }

-- the three terms are sets
pub record AreSets (kinds : List Kind) (o : Operands) : Type 0 where
  pub first : HasSort kinds IntegerSet o.first
  pub second : HasSort kinds IntegerSet o.second
  pub third : HasSort kinds IntegerSet o.third

-- the bits of the variables among the operands, with the entry of each and the constants of each element
pub record IsTable (l : LayoutState) (o : Operands) (bits : List ℕ) (constants : List Marks) (entries : List Entry) : Type 0 where
  pub elements : List ℤ
  pub places : List Place
  pub are_bits : AreBitsOf l (variables_of o) bits
  pub are_places : ArePlacesOf l bits places
  pub are_elements : IsSetOf (all_elements l.kinds o) elements
  pub are_constants : constants ≡ map (constant_marks o) elements
  pub are_entries : entries ≡ entries_of o elements places
