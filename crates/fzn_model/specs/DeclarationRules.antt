-- What single parts of a declaration are asked, for the functions that tell its faults. No rule is defined here, and
-- nothing public cites it.
use Rattle.std.specs.Prelude.{◌≡◌, ℕ, List, Option, Some, None, ℤ, Any}
use Rattle.fzn_parser.specs.declared.tree.Ann.{Ann}
use Rattle.fzn_parser.specs.declared.tree.Number.{Number}
use Rattle.fzn_parser.specs.declared.tree.SetForm.{SetForm}
use Rattle.fzn_parser.specs.declared.tree.TypeExpr.{TypeExpr}
use Rattle.fzn_parser.specs.declared.tree.TypeForm.TheVariants as types
use Rattle.fzn_model.specs.declared.faults.ModelFault.{ModelFault}
use Rattle.fzn_model.specs.declared.declarations.Bounds.{Bounds}
use Rattle.fzn_model.specs.Entities.{elements_of}
use Rattle.fzn_model.specs.Outputs.{Annotation, output_in}
use Rattle.fzn_model.specs.Measures.{number_fault}
use Rattle.fzn_model.specs.Extents.{IsExtent}

-- some of the numbers is a float or too large, and that is the fault
abbrev pub HasNumberFault : List Number → ModelFault → Type 0
HasNumberFault numbers fault = Any (λ n. number_fault n ≡ Some fault) numbers

-- ---- bounds

-- the elements of a literal at a place
abbrev pub AreElementsAt : ℕ → SetForm → ℕ → List ℤ → Type 0
AreElementsAt place literal at elements = (elements_of literal ≡ Some elements) × (at ≡ place)

-- the same of the literal of an integer type, and of a set type
abbrev pub IsDomainOf : TypeExpr → ℕ → List ℤ → Type 0
IsDomainOf t at elements = (literal : SetForm) × (t.form ≡ types.Within literal) × (elements_of literal ≡ Some elements) × (at ≡ t.at)

abbrev pub IsUniverseOf : TypeExpr → ℕ → List ℤ → Type 0
IsUniverseOf t at elements = (literal : SetForm) × (t.form ≡ types.SetWithin literal) × (elements_of literal ≡ Some elements) × (at ≡ t.at)

-- the bounds are those of the elements, which are the only ones
pub record IsBounds (HasElements : ℕ → List ℤ → Type 0) (b : Bounds) : Type 0 where
  pub elements : List ℤ
  pub has : HasElements b.at elements
  pub extent_is : IsExtent elements b.extent
  pub only_at : (at : ℕ) (others : List ℤ) → HasElements at others → at ≡ b.at
  pub only : (at : ℕ) (others : List ℤ) → HasElements at others → others ≡ elements

abbrev pub AreBounds : (ℕ → List ℤ → Type 0) → Option Bounds → Type 0
AreBounds HasElements None = (at : ℕ) (elements : List ℤ) → HasElements at elements → ⊥
AreBounds HasElements (Some b) = IsBounds HasElements b

-- ---- output annotations

-- the first output annotation, at this place, has the property
abbrev pub IsHidden : (Annotation → Type 0) → List Ann → ℕ → Type 0
IsHidden hides anns at = (a : Annotation) × (output_in anns ≡ Some a) × hides a × (at ≡ a.at)
