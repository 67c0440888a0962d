-- Relations of up to three sets that are read element by element, by a small state machine. This project's own.
use Rattle.std.specs.Prelude.{Bool, false, ◌||◌, if◌then◌else◌, List, [], ◌∷◌}
use Rattle.element_machine.specs.declared.marks.Marks.{Marks}

-- an element that no set has
abbrev pub unmarked : Marks
unmarked = record { first = false; second = false; third = false }

-- what is marked by either
abbrev pub joined : Marks → Marks → Marks
joined m n = record { first = m.first || n.first; second = m.second || n.second; third = m.third || n.third }

-- these marks where the bit is true
abbrev pub when : Bool → Marks → Marks
when v m = if v then m else unmarked

-- the state at the start, the state after an element, given which sets have it, and which states accept at the end
pub record ElementRules (Q : Type 0) : Type 0 where
  pub start : Q
  pub close : Q → Marks → Q
  pub accept : Q → Bool

-- the state after these elements, in order
abbrev pub after : {Q : Type 0} → ElementRules Q → Q → List Marks → Q
after rules q [] = q
after rules q (m ∷ ms) = after rules (rules.close q m) ms

-- whether these elements, in order, lead to a state that accepts
abbrev pub accepts_elements : {Q : Type 0} → ElementRules Q → List Marks → Bool
accepts_elements rules ms = rules.accept (after rules rules.start ms)
