-- What the lines of a text are that is read from a slot (this project's own).
use Rattle.std.specs.Prelude.{◌≡◌, ◌≢◌, ℕ, ◌+◌, ◌<◌, ◌≤◌, ◌==◌, Bool, List, [], ◌∷◌, ◌++◌, All, length, take, drop, IfSome, Option, Some, None, Result, Ok, Err}
use Rattle.std.specs.List.{position_or_len}
use Rattle.std.specs.Option.{option_map}
use Rattle.desk.specs.declared.outside.Slot.{Slot}
use Rattle.desk.specs.declared.lines.LineEnd.{LineEnd}
use Rattle.desk.specs.declared.lines.LineEnd.TheVariants as ends
use Rattle.desk.specs.declared.lines.Lines.{Lines}
use Rattle.desk.specs.declared.texts.ReadEnd.{ReadEnd}
use Rattle.desk.specs.State.{State, reading, taken}

-- the most bytes of a line, its newline not counted
abbrev pub line_limit : ℕ
line_limit = 67108864

abbrev pub is_newline : ℕ → Bool
is_newline b = b == 10

-- bytes without a newline, no more than a line may have
pub record IsLine (line : List ℕ) : Type 0 where
  pub one : All (λ b. b ≢ 10) line
  pub short : length line ≤ line_limit

-- ---- what a value of `Lines` holds

-- the line that was given last, without its newline
abbrev pub line_of : Lines → List ℕ
line_of l = take l.line_len (drop l.line_at l.held.items)

-- the bytes that were read and not yet given
abbrev pub unread : Lines → List ℕ
unread l = drop l.at l.held.items

-- What is left for the lines: the bytes that were read and not yet given, and behind them those left in the slot, where these are told.
abbrev pub left_for : Slot → State → List ℕ → Option (List ℕ)
left_for slot s unread = option_map (λ xs. unread ++ xs) (reading slot s).left

-- ---- what a call gives

-- This line stood in front, and its newline behind it.
pub record GivesLine (old new : Option (List ℕ)) (line : List ℕ) : Type 0 where
  pub whole : IsLine line
  pub left : old ≡ option_map (λ xs. line ++ 10 ∷ xs) new

-- The text ends in these bytes, at least one, with no newline behind them.
pub record GivesUnended (old new : Option (List ℕ)) (line : List ℕ) : Type 0 where
  pub whole : IsLine line
  pub some : 0 < length line
  pub left : IfSome old (λ xs. xs ≡ line)
  pub all : IfSome new (λ xs. xs ≡ [])

-- Nothing was left, and nothing is given.
pub record GivesEnd (old new : Option (List ℕ)) (line : List ℕ) : Type 0 where
  pub none : IfSome old (λ xs. xs ≡ [])
  pub kept : new ≡ old
  pub nothing : line ≡ []

-- what the answer says of what was left, of what is left now, and of the line
abbrev pub Gives : LineEnd → Option (List ℕ) → Option (List ℕ) → List ℕ → Type 0
Gives ends.Line = GivesLine
Gives ends.Unended = GivesUnended
Gives ends.End = GivesEnd

-- how many bytes the call gave: those of the line, and its newline where one stood behind it
abbrev pub given_count : Result LineEnd ReadEnd → List ℕ → ℕ
given_count (Ok ends.Line) line = length line + 1
given_count (Ok ends.Unended) line = length line
given_count (Ok ends.End) line = 0
given_count (Err end) line = 0

-- Some bytes were taken out of the slot, and nothing else was changed. With those that were unread before they are so many.
pub record Passes (slot : Slot) (old new : State) (before after : ℕ) : Type 0 where
  pub count : ℕ
  pub state : new ≡ taken slot count old
  pub bytes : before + count ≡ after

-- ---- the parts of a call

-- The unread bytes end a line after so many, at a newline, or they are all that is left.
abbrev pub EndsAt : Option ℕ → List ℕ → Option (List ℕ) → Type 0
EndsAt (Some n) unread left = (n ≡ position_or_len is_newline unread) × (n < length unread) × (n ≤ line_limit)
EndsAt None unread left = (position_or_len is_newline unread ≡ length unread) × (length unread ≤ line_limit) × IfSome left (λ xs. xs ≡ [])

-- The next n bytes of the slot came behind the unread bytes, and there are none of them only at the end.
pub record ReadsOn (slot : Slot) (old new : State) (before after : List ℕ) (n : ℕ) : Type 0 where
  pub state : new ≡ taken slot n old
  pub came : (more : List ℕ) × (after ≡ before ++ more) × (length more ≡ n) × IfSome (reading slot old).left (λ xs. more ≡ take n xs)
  pub there : IfSome (reading slot old).left (λ xs. n ≤ length xs)
  pub end : n ≡ 0 → IfSome (reading slot old).left (λ xs. xs ≡ [])

-- the answer at the end of a text, by the bytes that are left
abbrev pub RestEnd : LineEnd → List ℕ → Type 0
RestEnd ends.Line rest = ⊥
RestEnd ends.Unended rest = 0 < length rest
RestEnd ends.End rest = rest ≡ []
