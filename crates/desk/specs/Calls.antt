-- What one call of a desk answers, and what it leaves (this project's own).
use Rattle.std.specs.Prelude.{◌≡◌, ◌⊎◌, ℕ, ◌<◌, ◌≤◌, List, [], length, take, IfSome, IsSome}
use Rattle.desk.specs.declared.outside.Slot.{Slot}
use Rattle.desk.specs.declared.outside.To.{To}
use Rattle.desk.specs.declared.outside.Asked.{Asked}
use Rattle.desk.specs.State.{State, reading, asking, read_begun, taken, written}

-- A begin call that fails leaves all as it was, but that it may stand among what was asked.
abbrev pub Asks : Asked → List ℕ → State → State → Type 0
Asks what name old new = (new ≡ old) ⊎ (new ≡ asking what name old)

-- The slot is begun with the file of this name, which is there.
pub record BeginsRead (slot : Slot) (name : List ℕ) (old new : State) : Type 0 where
  pub state : new ≡ read_begun slot name old
  pub found : IfSome old.files (λ find. IsSome (find name))

-- The first n bytes left are moved to the front of the buffer, and there are none of them only at the end.
pub record Reads (slot : Slot) (old new : State) (buffer : List ℕ) (n : ℕ) : Type 0 where
  pub within : n ≤ length buffer
  pub state : new ≡ taken slot n old
  pub bytes : IfSome (reading slot old).left (λ xs. (n ≤ length xs) × (take n buffer ≡ take n xs))
  pub end : n ≡ 0 → IfSome (reading slot old).left (λ xs. xs ≡ [])

-- The first n bytes of the piece are appended, at least one.
pub record Writes (to : To) (piece : List ℕ) (old new : State) (n : ℕ) : Type 0 where
  pub some : 0 < n
  pub within : n ≤ length piece
  pub state : new ≡ written to (take n piece) old
