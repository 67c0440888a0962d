-- What the calls that read and write whole texts leave (this project's own).
use Rattle.std.specs.Prelude.{◌≡◌, ℕ, ◌<◌, ◌≤◌, Bool, true, false, List, length, take, IfSome, Result, Ok, Err}
use Rattle.desk.specs.declared.outside.Slot.{Slot}
use Rattle.desk.specs.declared.outside.To.{To}
use Rattle.desk.specs.declared.texts.ReadEnd.{ReadEnd}
use Rattle.desk.specs.declared.texts.ReadEnd.TheVariants as ends
use Rattle.desk.specs.State.{State, reading, taken, written}

-- the desk has failed, and neither is the text too long nor was memory refused
abbrev pub has_failed : {T : Type 0} → Result T ReadEnd → Bool
has_failed (Ok text) = false
has_failed (Err ends.Failed) = true
has_failed (Err ends.TooLong) = false
has_failed (Err ends.Memory) = false

-- The text is all that was left in the slot, and no more than the limit. Nothing is left.
pub record TakesAll (slot : Slot) (limit : ℕ) (old new : State) (text : List ℕ) : Type 0 where
  pub all : IfSome (reading slot old).left (λ xs. text ≡ xs)
  pub within : length text ≤ limit
  pub state : new ≡ taken slot (length text) old

-- n bytes are taken out of the slot, which had as many.
pub record Takes (slot : Slot) (n : ℕ) (old new : State) : Type 0 where
  pub there : IfSome (reading slot old).left (λ xs. n ≤ length xs)
  pub state : new ≡ taken slot n old

-- some number of bytes is taken, at most this
abbrev pub TakesUpTo : Slot → ℕ → State → State → Type 0
TakesUpTo slot most old new = (n : ℕ) × (n ≤ most) × Takes slot n old new

-- A front of the piece is appended that is not all of it.
abbrev pub WritesFront : To → List ℕ → State → State → Type 0
WritesFront to piece old new = (n : ℕ) × (n < length piece) × (new ≡ written to (take n piece) old)
