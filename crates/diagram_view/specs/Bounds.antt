-- Bounds of a set of words: by inclusion, as the bounds of a set variable (Hawkins, Lagoon and Stuckey, JAIR 2005), and in the
-- order of words, which is this project's own.
use Rattle.std.specs.Prelude.{◌≡◌, ℕ, Bool, true, false, List, [], ◌∷◌, length, Some}
use Rattle.std.specs.List.{slice_get}
use Rattle.diagram_view.specs.Words.{ListWords, IsWord, AllHave, SomeHas}

-- vs is true at just the positions that are true in every word
pub record AreInEvery (W : ListWords) (vs : List Bool) : Type 0 where
  pub long : length vs ≡ W.long
  pub on : (i : ℕ) → slice_get vs i ≡ Some true → AllHave W i true
  pub off : (i : ℕ) → slice_get vs i ≡ Some false → SomeHas W i false

-- vs is true at just the positions that are true in some word
pub record AreInSome (W : ListWords) (vs : List Bool) : Type 0 where
  pub long : length vs ≡ W.long
  pub on : (i : ℕ) → slice_get vs i ≡ Some true → SomeHas W i true
  pub off : (i : ℕ) → slice_get vs i ≡ Some false → AllHave W i false

-- false comes before true, and the first position at which two words differ decides
abbrev pub IsAtMost : List Bool → List Bool → Type 0
IsAtMost [] us = Unit {0}
IsAtMost (v ∷ vs) [] = ⊥
IsAtMost (false ∷ vs) (false ∷ us) = IsAtMost vs us
IsAtMost (false ∷ vs) (true ∷ us) = Unit {0}
IsAtMost (true ∷ vs) (false ∷ us) = ⊥
IsAtMost (true ∷ vs) (true ∷ us) = IsAtMost vs us

pub record IsLeast (W : ListWords) (vs : List Bool) : Type 0 where
  pub is : IsWord W vs
  pub least : (us : List Bool) → IsWord W us → IsAtMost vs us

pub record IsGreatest (W : ListWords) (vs : List Bool) : Type 0 where
  pub is : IsWord W vs
  pub greatest : (us : List Bool) → IsWord W us → IsAtMost us vs
