-- Words of this crate's private helpers; the meaning is in Relations. This project's own: the four ways in which two
-- values are compared, for Booleans (false before true), integers, and sets in lexicographic order.
use Rattle.std.specs.Prelude.{◌≡◌, ◌≢◌, ◌⊎◌, ℤ, ◌≤ℤ◌, ◌<ℤ◌, Bool, true, false, List}
use Rattle.set_meaning.specs.declared.meaning.comparison.Comparison.{Comparison}
use Rattle.set_meaning.specs.declared.meaning.comparison.Comparison.TheVariants.{Equal, Different, Before, AtMost}
use Rattle.set_meaning.specs.Sets.{IsBefore}

abbrev pub CompareBools : Comparison → Bool → Bool → Type 0
CompareBools Equal a b = a ≡ b
CompareBools Different a b = a ≢ b
CompareBools Before a b = (a ≡ false) × (b ≡ true)
CompareBools AtMost a b = (a ≡ false) ⊎ (b ≡ true)

abbrev pub CompareInts : Comparison → ℤ → ℤ → Type 0
CompareInts Equal a b = a ≡ b
CompareInts Different a b = a ≢ b
CompareInts Before a b = a <ℤ b
CompareInts AtMost a b = a ≤ℤ b

abbrev pub CompareSets : Comparison → List ℤ → List ℤ → Type 0
CompareSets Equal a b = a ≡ b
CompareSets Different a b = a ≢ b
CompareSets Before a b = IsBefore a b
CompareSets AtMost a b = IsBefore a b ⊎ (a ≡ b)
