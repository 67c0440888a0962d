-- What the linear relations say, over plain integers of any size. This project's own profile, after the FlatZinc
-- builtins of the MiniZinc Handbook.
use Rattle.std.specs.Prelude.{◌≡◌, ℤ, pos, ◌+ℤ◌, ◌*ℤ◌, List, ◌∷◌, length}

-- the sum of the products of two lists, pair by pair; an empty sum is 0
abbrev pub sum_of_products : List ℤ → List ℤ → ℤ
sum_of_products (c ∷ cs) (x ∷ xs) = (c *ℤ x) +ℤ sum_of_products cs xs
sum_of_products _ _ = pos 0

-- the lists are of one length, and R of the sum of their products and k
pub record IsLinear (R : ℤ → ℤ → Type 0) (cs xs : List ℤ) (k : ℤ) : Type 0 where
  pub paired : length cs ≡ length xs
  pub sum : R (sum_of_products cs xs) k
