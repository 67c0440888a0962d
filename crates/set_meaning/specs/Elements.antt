-- What the element relations say, over plain lists. This project's own profile, after the FlatZinc builtins of the
-- MiniZinc Handbook.
use Rattle.std.specs.Prelude.{◌≡◌, ℕ, suc, ℤ, pos, List, slice_get, Some}

-- the place, counted from 1, is one of the list, and x stands there
pub record IsItem {X : Type 0} (place : ℤ) (items : List X) (x : X) : Type 0 where
  pub index : ℕ
  pub counted : place ≡ pos (suc index)
  pub item : slice_get items index ≡ Some x
