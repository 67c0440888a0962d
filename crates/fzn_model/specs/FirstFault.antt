-- The first of some faults. This project's own.
use Rattle.std.specs.Prelude.{◌≡◌, ℕ, ◌==◌, ◌&&◌, ◌||◌, Bool, nat_lt, nat_le, if◌then◌else◌, Option, Some, None}
use Rattle.fzn_model.specs.declared.faults.ModelFault.{ModelFault}
use Rattle.fzn_model.specs.FaultsOf.{IsToldBefore, number_of, place_of_fault}

-- the fault is among them, and is told before each of them
pub record IsFirst (Among : ModelFault → Type 0) (fault : ModelFault) : Type 0 where
  pub among : Among fault
  pub first : (other : ModelFault) → Among other → IsToldBefore fault other

-- there are none
abbrev pub AreNone : (ModelFault → Type 0) → Type 0
AreNone Among = (fault : ModelFault) → Among fault → ⊥

-- the first of these faults, or that there are none
abbrev pub IsFirstOf : (ModelFault → Type 0) → Option ModelFault → Type 0
IsFirstOf Among None = AreNone Among
IsFirstOf Among (Some fault) = IsFirst Among fault

-- the faults of one rule: it is broken at their places
abbrev pub AtPlaces : (ℕ → ModelFault) → (ℕ → Type 0) → ModelFault → Type 0
AtPlaces rule IsAt fault = (at : ℕ) × (fault ≡ rule at) × IsAt at

-- the one fault is told before the other
abbrev pub is_told_before : ModelFault → ModelFault → Bool
is_told_before f g =
    nat_lt (place_of_fault f) (place_of_fault g)
    || ((place_of_fault f == place_of_fault g) && nat_le (number_of f) (number_of g))

-- of two faults that which is told before the other
abbrev pub told_first : ModelFault → ModelFault → ModelFault
told_first f g = if is_told_before f g then f else g

abbrev pub first_told : Option ModelFault → Option ModelFault → Option ModelFault
first_told None b = b
first_told (Some f) None = Some f
first_told (Some f) (Some g) = Some (told_first f g)
