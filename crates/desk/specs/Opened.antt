-- What a memory desk tells of a text that is read, and of its log.
use Rattle.std.specs.Prelude.{◌≡◌, ◌≤◌, ℕ, true, false, List, [], length, take, drop, Option, None, Some, IfSome, vec_len}
use Rattle.desk.specs.State.{Reading, Logging, advanced}
use Rattle.desk.specs.declared.opened.Opened.{Opened}
use Rattle.desk.specs.declared.opened.Logged.{Logged}

abbrev pub reading_of : Option Opened → Reading
reading_of None = record { begun = false; given = 0; left = Some [] }
reading_of (Some o) = record { begun = true; given = o.at; left = Some (drop o.at o.text.items) }

abbrev pub logging_of : Option Logged → Logging
logging_of None = record { begun = false; logged = 0; text = Some [] }
logging_of (Some l) = record { begun = true; logged = vec_len l.bytes; text = Some l.bytes.items }

-- The first n bytes left are moved to the front of the buffer, and there are none of them only at the end.
pub record Moves (old new : Reading) (buffer : List ℕ) (n : ℕ) : Type 0 where
  pub within : n ≤ length buffer
  pub reading : new ≡ advanced n old
  pub bytes : IfSome old.left (λ xs. (n ≤ length xs) × (take n buffer ≡ take n xs))
  pub end : n ≡ 0 → IfSome old.left (λ xs. xs ≡ [])
