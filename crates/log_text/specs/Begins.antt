-- What a list begins with.
use Rattle.std.specs.Prelude.{ℕ, ◌≡◌, List, length, take}

-- The list is `before` with more at its end, or with nothing more.
pub record Begins (before now : List ℕ) : Type 0 where
  pub kept : take (length before) now ≡ before
