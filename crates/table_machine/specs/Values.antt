-- Words of initial values, and how they are read. This project's own.
use Rattle.std.specs.Prelude.{◌≡◌, ℕ, suc, zero, ◌-◌, ◌≤◌, List, length, ◌++◌, map, slice_range, slice_get, IsSomeAnd, ℤ}
use Rattle.std.specs.List.{AllZip}
use Rattle.set_meaning.specs.declared.kinds.Kind.{Kind}
use Rattle.set_meaning.specs.declared.kinds.Kind.TheVariants as kind
use Rattle.set_meaning.specs.declared.kinds.Value.{Value}
use Rattle.set_meaning.specs.declared.problems.VarId.{VarId}
use Rattle.set_meaning.specs.Kinds.{IsAssignment}
use Rattle.diagram_arena.specs.Table.{Word}
use Rattle.bit_layout.specs.Words.{distance, least, width_of}
use Rattle.bit_layout.specs.Order.{LayoutState}
use Rattle.scope_words.specs.Words.{Gives, AreBitsOf}
use Rattle.table_machine.specs.declared.states.Reading.{Reading}
use Rattle.table_machine.specs.declared.states.Reading.TheVariants.{Passed, First, Next}

-- ---- words of initial values

-- at the bits of each of these variables stands the word of an initial value: those of one assignment
abbrev pub GivesInitialValues : LayoutState → List VarId → Word → Type 0
GivesInitialValues l scope w = (values : List Value) × IsAssignment l.kinds values × Gives l scope values w

-- all bits of some variables, in order
abbrev pub AreBitsOfSome : LayoutState → List ℕ → Type 0
AreBitsOfSome l bits = (scope : List VarId) × AreBitsOf l scope bits

-- ---- how they are read

-- the offsets of an integer variable's values, as its words are binary
abbrev pub offsets : List ℤ → List ℕ
offsets numbers = map (distance (least numbers)) numbers

-- how the bit at a position of the words of a variable of this kind is read
abbrev pub IsReadingAt : Kind → List ℕ → ℕ → Reading → Type 0
IsReadingAt kind.Bool words i reading = reading ≡ Passed
IsReadingAt (kind.Int numbers) words zero reading = (from : ℕ) × (to : ℕ) × (from ≤ to) × (to ≤ length words) × (slice_range words from to ≡ offsets numbers)
    × (reading ≡ First from to (width_of (kind.Int numbers) - 1))
IsReadingAt (kind.Int numbers) words (suc i) reading = reading ≡ Next (width_of (kind.Int numbers) - 1 - suc i)
IsReadingAt (kind.Set universe) words i reading = reading ≡ Passed

-- how a bit of the problem is read
abbrev pub IsReadingOf : LayoutState → List ℕ → ℕ → Reading → Type 0
IsReadingOf l words b reading = IsSomeAnd (slice_get l.places b) (λ p. IsSomeAnd (slice_get l.kinds p.variable.0) (λ k. IsReadingAt k words p.position reading))

abbrev pub AreReadingsOf : LayoutState → List ℕ → List ℕ → List Reading → Type 0
AreReadingsOf l words bits readings = AllZip (IsReadingOf l words) bits readings

-- a list of words that was appended to
abbrev pub Grows : List ℕ → List ℕ → Type 0
Grows old new = (more : List ℕ) × (new ≡ old ++ more)
