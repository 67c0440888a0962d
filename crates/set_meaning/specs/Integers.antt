-- What the relations of three integers and of sizes say. This project's own profile, after the FlatZinc builtins of
-- the MiniZinc Handbook.
use Rattle.std.specs.Prelude.{◌≡◌, ◌⊎◌, ℤ, pos, ◌≤ℤ◌, unsigned_abs}

-- c is the less of a and b
pub record IsMinimum (a b c : ℤ) : Type 0 where
  pub first : c ≤ℤ a
  pub second : c ≤ℤ b
  pub attained : (c ≡ a) ⊎ (c ≡ b)

-- c is the greater of a and b
pub record IsMaximum (a b c : ℤ) : Type 0 where
  pub first : a ≤ℤ c
  pub second : b ≤ℤ c
  pub attained : (c ≡ a) ⊎ (c ≡ b)

-- b is the absolute value of a
abbrev pub IsAbsoluteValue : ℤ → ℤ → Type 0
IsAbsoluteValue a b = b ≡ pos (unsigned_abs a)
