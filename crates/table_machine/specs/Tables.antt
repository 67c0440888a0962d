-- Words that are listed in tables, read bit by bit. This project's own; a list in ascending order is searched by halves.
use Rattle.std.specs.Prelude.{◌≡◌, ℕ, suc, zero, ◌+◌, ◌-◌, ◌/◌, ◌^◌, ◌<◌, ◌≤◌, ◌==◌, Bool, true, false, not, if◌then◌else◌, List, [], ◌∷◌, length, drop, slice_range, slice_index, slice_get, All, ⊤}
use Rattle.std.specs.List.{position_or_len}
use Rattle.std.specs.List.Sorted.{IsStrictlyIncreasing, IsPartitionedBy}
use Rattle.std.specs.Option.{option_map_or}
use Rattle.bit_layout.specs.Words.{digit}
use Rattle.bit_machine.specs.Rules.{Rules}
use Rattle.table_machine.specs.declared.states.State.{State}
use Rattle.table_machine.specs.declared.states.State.TheVariants.{Free, Lost, Within}
use Rattle.table_machine.specs.declared.states.Reading.{Reading}
use Rattle.table_machine.specs.declared.states.Reading.TheVariants.{Passed, First, Next}

-- a table machine as its callers see it: the listed words, as binary numbers, how the bit at each place is read, and the state at
-- the start
pub record Tables : Type 0 where
  pub words : List ℕ
  pub readings : List Reading
  pub start : State

-- ---- what it does

-- from which position on, of a part of the list, the next bit of the words is true; `rest` bits come after it
abbrev pub cut : List ℕ → ℕ → ℕ → ℕ → ℕ
cut words rest from to = from + position_or_len (λ n. digit n rest) (slice_range words from to)

-- the state in which the words of this part are those that begin with what was read, and `rest` bits are to come
abbrev pub narrowed : ℕ → ℕ → ℕ → State
narrowed rest from to = if to - from == 0 then Lost else (if to - from == 2 ^ rest then Free else Within from to)

-- the state after a bit, where the words that begin with what was read before it are those of this part
abbrev pub half : List ℕ → ℕ → ℕ → ℕ → Bool → State
half words rest from to v = if v then narrowed rest (cut words rest from to) to else narrowed rest from (cut words rest from to)

-- the state after the first bit of a word
abbrev pub begun : List ℕ → ℕ → ℕ → ℕ → State → Bool → State
begun words from to rest Free v = half words rest from to v
begun words from to rest Lost v = Lost
begun words from to rest (Within i j) v = Lost

-- the state after a later bit
abbrev pub continued : List ℕ → ℕ → State → Bool → State
continued words rest Free v = Free
continued words rest Lost v = Lost
continued words rest (Within from to) v = half words rest from to v

-- the state after a bit that is read so
abbrev pub after : List ℕ → Reading → State → Bool → State
after words Passed q v = q
after words (First from to rest) q v = begun words from to rest q v
after words (Next rest) q v = continued words rest q v

abbrev pub is_free : State → Bool
is_free Free = true
is_free Lost = false
is_free (Within from to) = false

abbrev pub rules : Tables → Rules State
rules t = record {
  start = t.start;
  step = λ at q v. option_map_or (λ reading. after t.words reading q v) (slice_get t.readings at) q;
  accept = is_free;
}

-- ---- what must hold of it

-- the words from position `from` up to before position `to` ascend, and have at most `width` digits
pub record IsTable (words : List ℕ) (from to width : ℕ) : Type 0 where
  pub up : from ≤ to
  pub within : to ≤ length words
  pub narrow : width ≤ 64
  pub ascending : IsStrictlyIncreasing (slice_range words from to)
  pub below : All (λ n. n < 2 ^ width) (slice_range words from to)

-- how the bits are read from a place on, where `left` bits of a word are still to come: each of them in turn, with bits between that
-- are passed over, and then word after word
abbrev pub AreReadFrom : List ℕ → ℕ → List Reading → Type 0
AreReadFrom words zero [] = ⊤
AreReadFrom words (suc left) [] = ⊥
AreReadFrom words left (Passed ∷ readings) = AreReadFrom words left readings
AreReadFrom words zero (First from to rest ∷ readings) = IsTable words from to (suc rest) × AreReadFrom words rest readings
AreReadFrom words (suc left) (First from to rest ∷ readings) = ⊥
AreReadFrom words zero (Next rest ∷ readings) = ⊥
AreReadFrom words (suc left) (Next rest ∷ readings) = (rest ≡ left) × AreReadFrom words left readings

-- between words
abbrev pub IsBetween : State → Type 0
IsBetween Free = ⊤
IsBetween Lost = ⊤
IsBetween (Within from to) = ⊥

pub record AreTables (t : Tables) : Type 0 where
  pub start : IsBetween t.start
  pub whole : AreReadFrom t.words 0 t.readings

-- some of the listed words, and not all that begin as they do, begin alike, and `left` digits of them are to come
pub record IsPart (words : List ℕ) (left from to : ℕ) : Type 0 where
  pub some : from < to
  pub few : to - from < 2 ^ left
  pub within : to ≤ length words
  pub narrow : left ≤ 64
  pub ascending : IsStrictlyIncreasing (slice_range words from to)
  pub alike : (i j : ℕ) → i < to - from → j < to - from → slice_index (slice_range words from to) i / 2 ^ left ≡ slice_index (slice_range words from to) j / 2 ^ left

-- the states that occur where `left` digits of a word are to come
abbrev pub Occurs : List ℕ → ℕ → State → Type 0
Occurs words left Free = ⊤
Occurs words left Lost = ⊤
Occurs words left (Within from to) = IsPart words left from to

-- the states that occur before the bit at a place is read
abbrev pub OccursAt : Tables → ℕ → State → Type 0
OccursAt t at q = (left : ℕ) × AreReadFrom t.words left (drop at t.readings) × Occurs t.words left q

-- ---- what a step asks

-- the next bit cuts this part of the list in two: where it is true of a word, it is true of those after it
pub record IsCut (words : List ℕ) (rest from to : ℕ) : Type 0 where
  pub up : from ≤ to
  pub within : to ≤ length words
  pub narrow : rest < 64
  pub parted : IsPartitionedBy (λ n. not (digit n rest)) (slice_range words from to)

-- a part of the list that is cut in this state by a bit that is read so can be cut
abbrev pub CanRead : List ℕ → Reading → State → Type 0
CanRead words Passed q = ⊤
CanRead words (First from to rest) q = IsCut words rest from to
CanRead words (Next rest) Free = ⊤
CanRead words (Next rest) Lost = ⊤
CanRead words (Next rest) (Within from to) = IsCut words rest from to
