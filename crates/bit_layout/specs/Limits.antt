-- The limits on sizes that a layout needs. This project's own.
use Rattle.std.specs.Prelude.{ℕ, ◌≤◌, max, List, All, sum_by, ⊤}
use Rattle.set_meaning.specs.declared.kinds.Kind.{Kind}
use Rattle.set_meaning.specs.declared.kinds.Kind.TheVariants as kind
use Rattle.set_meaning.specs.Problems.{IsKind}
use Rattle.bit_layout.specs.Words.{span, width_of}

-- greatest minus least of an integer variable is at most 65,535
abbrev pub IsNarrow : Kind → Type 0
IsNarrow kind.Bool = ⊤
IsNarrow (kind.Int numbers) = span numbers ≤ 65535
IsNarrow (kind.Set universe) = ⊤

-- the bits of a variable, counted as at least one
abbrev pub counted_bits : Kind → ℕ
counted_bits k = max 1 (width_of k)

-- kinds of a problem, whose variables have at most 1,048,576 bits in all, each counted as at least one
pub record AreWithinLimits (kinds : List Kind) : Type 0 where
  pub legal : All IsKind kinds
  pub narrow : All IsNarrow kinds
  pub bits : sum_by counted_bits kinds ≤ 1048576
