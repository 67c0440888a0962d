-- How many elements a set literal has and how far they reach, which is told without making the set of a range. No
-- rule is defined here, and nothing public cites it.
use Rattle.std.specs.Prelude.{◌≡◌, ◌↔◌, IsTrue, List, length, Option, Some, None, ℤ, Any}
use Rattle.bit_layout.specs.Words.{span}
use Rattle.fzn_model.specs.declared.extents.Extent.{Extent}
use Rattle.fzn_model.specs.FaultsOf.{IsLargeElement}

-- what the rules ask of the elements of a type
pub record IsExtent (elements : List ℤ) (e : Extent) : Type 0 where
  pub counted : e.count ≡ length elements
  pub spanned : e.span ≡ span elements
  pub large : IsTrue e.has_large ↔ Any IsLargeElement elements

-- the extent is that of the elements, where these are known
abbrev pub HasExtent : Option (List ℤ) → Option Extent → Type 0
HasExtent known None = known ≡ None
HasExtent known (Some e) = (elements : List ℤ) × (known ≡ Some elements) × IsExtent elements e
