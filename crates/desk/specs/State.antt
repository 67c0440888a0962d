-- What a desk tells of the outside, and how its calls change that (this project's own).
-- Where a desk does not tell its bytes, the bytes are `None`, and no call changes that.
use Rattle.std.specs.Prelude.{◌≡◌, ℕ, ◌+◌, ◌≤◌, ◌^◌, Bool, true, false, List, [], ◌∷◌, ◌++◌, length, drop, is_some, IfSome, Option}
use Rattle.std.specs.Option.{option_map, option_and_then}
use Rattle.desk.specs.declared.outside.Slot.{Slot}
use Rattle.desk.specs.declared.outside.Slot.TheVariants as slots
use Rattle.desk.specs.declared.outside.To.{To}
use Rattle.desk.specs.declared.outside.To.TheVariants as to
use Rattle.desk.specs.declared.outside.Asked.{Asked}
use Rattle.desk.specs.declared.outside.Asked.TheVariants as asked

-- a text that is read: whether a file was begun, the bytes handed out since then, and the bytes left
pub record Reading : Type 0 where
  pub begun : Bool
  pub given : ℕ
  pub left : Option (List ℕ)

-- the log: whether it was begun, the number of bytes written since then, and these bytes
pub record Logging : Type 0 where
  pub begun : Bool
  pub logged : ℕ
  pub text : Option (List ℕ)

-- all that a desk tells, but its faults
pub record State : Type 0 where
  -- the begin calls so far, each with what it was for and its name
  pub asked : List (Asked × List ℕ)
  -- the bytes of the file of each name
  pub files : Option (List ℕ → Option (List ℕ))
  pub model : Reading
  pub log_read : Reading
  pub log : Logging
  pub out : Option (List ℕ)

abbrev pub reading : Slot → State → Reading
reading slots.Model s = s.model
reading slots.Log s = s.log_read

abbrev pub with_reading : Slot → Reading → State → State
with_reading slots.Model r s = record s { model = r }
with_reading slots.Log r s = record s { log_read = r }

-- the bytes of the file, where the desk tells them and there is one
abbrev pub file : List ℕ → State → Option (List ℕ)
file name s = option_and_then (λ find. find name) s.files

-- one more begin call
abbrev pub asking : Asked → List ℕ → State → State
asking what name s = record s { asked = s.asked ++ (what, name) ∷ [] }

-- the slot begun with the file of this name
abbrev pub read_begun : Slot → List ℕ → State → State
read_begun slot name s =
    with_reading slot (record { begun = true; given = 0; left = file name s }) (asking (asked.Read slot) name s)

-- n bytes further on
abbrev pub advanced : ℕ → Reading → Reading
advanced n r = record r { given = r.given + n; left = option_map (drop n) r.left }

-- n bytes taken out of the slot
abbrev pub taken : Slot → ℕ → State → State
taken slot n s = with_reading slot (advanced n (reading slot s)) s

-- the log begun, and empty
abbrev pub log_begun : List ℕ → State → State
log_begun name s =
    record (asking asked.Log name s) { log = record { begun = true; logged = 0; text = option_map (λ _. []) s.log.text } }

-- these bytes appended
abbrev pub written : To → List ℕ → State → State
written to.Out bytes s = record s { out = option_map (λ xs. xs ++ bytes) s.out }
written to.Log bytes s =
    record s { log = record { begun = s.log.begun; logged = s.log.logged + length bytes; text = option_map (λ xs. xs ++ bytes) s.log.text } }

-- What holds of a slot at any time: at most 2 ^ 40 bytes were handed out, what is left is told where the files are,
-- and before the slot is begun there is nothing in it.
pub record IsLegalReading (files : Option (List ℕ → Option (List ℕ))) (r : Reading) : Type 0 where
  pub bound : r.given ≤ 2 ^ 40
  pub told : is_some r.left ≡ is_some files
  pub unbegun : r.begun ≡ false → (r.given ≡ 0) × IfSome r.left (λ xs. xs ≡ [])

-- the same of the log
pub record IsLegalLogging (l : Logging) : Type 0 where
  pub bound : l.logged ≤ 2 ^ 40
  pub counted : IfSome l.text (λ xs. length xs ≡ l.logged)
  pub unbegun : l.begun ≡ false → l.logged ≡ 0

-- what holds of a desk at any time
pub record IsLegal (s : State) : Type 0 where
  pub model : IsLegalReading s.files s.model
  pub log_read : IsLegalReading s.files s.log_read
  pub log : IsLegalLogging s.log
