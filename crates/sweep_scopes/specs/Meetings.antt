-- Words over the places of some variables that a relation accepts and each of whose variables walks to yes. This project's own.
use Rattle.std.specs.Prelude.{◌≡◌, ◌==◌, ℕ, ◌<◌, cond, true, Bool, List, map, length, Contains, Option, Some, None}
use Rattle.set_meaning.specs.declared.problems.VarId.{VarId}
use Rattle.bit_layout.specs.declared.places.Place.{Place}
use Rattle.log_rules.specs.declared.nodes.Node.{Node}
use Rattle.log_rules.specs.Tables.{next_node, walk}
use Rattle.log_rules.specs.Boxes.{FitsWidth}
use Rattle.sweep_rules.specs.Rules.{Rules, accepts}
use Rattle.sweep_table.specs.Sides.{CountFrom, own_bits, own_count}
use Rattle.sweep_scopes.specs.declared.meeting.Slot.{Slot}

-- the place of the variable's words, where it is one of this variable
abbrev pub place_in : VarId → Place → Option ℕ
place_in v p = cond (p.variable.0 == v.0) (Some p.position) None

-- for each place, the place of the variable's words that it is
abbrev pub places_in : List Place → VarId → List (Option ℕ)
places_in places v = map (place_in v) places

-- the node is there, and tests only places of the variable's words, which come in order
pub record Fits (table : List Node) (places : List Place) (slot : Slot) : Type 0 where
  pub there : slot.root < next_node table
  pub counted : CountFrom 0 (places_in places slot.variable)
  pub width : FitsWidth table slot.root (own_count (places_in places slot.variable))

-- the variable's bits walk to yes
abbrev pub Walks : List Node → List Place → Slot → List Bool → Type 0
Walks table places slot word = walk table slot.root (own_bits (places_in places slot.variable) word) ≡ true

-- some word is accepted and walks to yes for each of three variables
pub record Meets {Q : Type 0} (table : List Node) (places : List Place) (rules : Rules Q) (first second third : Slot) : Type 0 where
  pub word : List Bool
  pub long : length word ≡ length places
  pub accepted : accepts rules word ≡ true
  pub first_walks : Walks table places first word
  pub second_walks : Walks table places second word
  pub third_walks : Walks table places third word

-- one of the states accepts
pub record Accepts {Q : Type 0} (rules : Rules Q) (states : List Q) : Type 0 where
  pub state : Q
  pub among : Contains states state
  pub accepted : rules.accept state ≡ true
