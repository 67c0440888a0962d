-- The word of a value: the list of its bits. This project's own; that a set is its membership bits is of Hawkins,
-- Lagoon and Stuckey, JAIR 2005.
use Rattle.std.specs.Prelude.{◌≡◌, ℕ, suc, zero, ◌+◌, ◌-◌, ◌/◌, ◌%◌, ◌^◌, ◌<◌, ◌≤◌, ◌==◌, Bool, ℤ, pos, ◌-ℤ◌, unsigned_abs, nat_lt, if◌then◌else◌, List, [], ◌∷◌, map, length, slice_get, unwrap_or}
use Rattle.std.specs.List.{list_any}
use Rattle.std.specs.Ordering.{int_eq}
use Rattle.set_meaning.specs.declared.kinds.Value.{Value}
use Rattle.set_meaning.specs.declared.kinds.Value.TheVariants as value
use Rattle.set_meaning.specs.declared.kinds.Kind.{Kind}
use Rattle.set_meaning.specs.declared.kinds.Kind.TheVariants as kind
use Rattle.set_meaning.specs.Kinds.{InKind}

-- ---- numbers in binary

-- w binary digits hold n, and no fewer do
pub record IsLeastWidth (n w : ℕ) : Type 0 where
  pub holds : n < 2 ^ w
  pub least : (u : ℕ) → n < 2 ^ u → w ≤ u

-- the first of w, w + 1, .. whose power of two is above n, where one of the next `tries` is
abbrev pub first_above : ℕ → ℕ → ℕ → ℕ
first_above n w zero = w
first_above n w (suc tries) = if nat_lt n (2 ^ w) then w else first_above n (w + 1) tries

-- the least number of binary digits that hold n; none for 0
unfoldable pub bit_width : ℕ → ℕ
bit_width n = first_above n 0 n

-- the binary digit of n whose worth is 2 ^ i
abbrev pub digit : ℕ → ℕ → Bool
digit n i = (n / 2 ^ i) % 2 == 1

-- the last w binary digits of n, the most significant first
abbrev pub binary : ℕ → ℕ → List Bool
binary zero n = []
binary (suc w) n = digit n w ∷ binary w n

-- digits read as a binary number, the first the most significant
abbrev pub number : List Bool → ℕ
number [] = 0
number (b ∷ bs) = (if b then 2 ^ length bs else 0) + number bs

-- ---- integers, by how far they are above the least

abbrev pub least : List ℤ → ℤ
least numbers = unwrap_or (slice_get numbers 0) (pos 0)

abbrev pub greatest : List ℤ → ℤ
greatest numbers = unwrap_or (slice_get numbers (length numbers - 1)) (pos 0)

abbrev pub distance : ℤ → ℤ → ℕ
distance x y = unsigned_abs (y -ℤ x)

-- greatest minus least of an ascending list
abbrev pub span : List ℤ → ℕ
span numbers = distance (least numbers) (greatest numbers)

-- ---- values

-- whether x is listed
abbrev pub lists : List ℤ → ℤ → Bool
lists set x = list_any (λ y. int_eq y x) set

-- how many bits a value of the kind has
abbrev pub width_of : Kind → ℕ
width_of kind.Bool = 1
width_of (kind.Int numbers) = bit_width (span numbers)
width_of (kind.Set universe) = length universe

-- a Boolean is its one bit; an integer is the offset from the least, in binary; a set has one bit for each element of
-- the universe, ascending. A value of another sort than the kind's has no bits
abbrev pub word_of : Kind → Value → List Bool
word_of kind.Bool (value.Bool b) = b ∷ []
word_of (kind.Int numbers) (value.Int x) = binary (bit_width (span numbers)) (distance (least numbers) x)
word_of (kind.Set universe) (value.Set set) = map (lists set) universe
word_of _ _ = []

-- an initial value of the kind that has this word
pub record IsValueOf (k : Kind) (word : List Bool) (x : Value) : Type 0 where
  pub in_kind : InKind k x
  pub is_word : word_of k x ≡ word
