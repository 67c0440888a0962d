-- What the relations of Booleans say, over plain truth values. This project's own profile, after the FlatZinc
-- builtins of the MiniZinc Handbook.
use Rattle.std.specs.Prelude.{◌≡◌, ◌⊎◌, ℤ, pos, Bool, true, false, List, IsTrue, IsFalse, Any}

-- some of the ps is true or some of the ns is false
abbrev pub IsClause : List Bool → List Bool → Type 0
IsClause ps ns = Any IsTrue ps ⊎ Any IsFalse ns

-- n is 1 where b is true, and 0 otherwise
abbrev pub IsNumberOf : Bool → ℤ → Type 0
IsNumberOf true n = n ≡ pos 1
IsNumberOf false n = n ≡ pos 0
