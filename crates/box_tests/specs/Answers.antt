-- Words of private helpers.
use Rattle.std.specs.Prelude.{ℕ, ◌<◌}
use Rattle.box_clauses.specs.declared.stepping.BoxResult.{BoxResult}
use Rattle.box_clauses.specs.declared.stepping.BoxResult.TheVariants as answer

-- a narrowed variable is one of so many
abbrev pub IsKnown : ℕ → BoxResult → Type 0
IsKnown count answer.Same = Unit {0}
IsKnown count (answer.Narrowed v r) = v.0 < count
IsKnown count answer.Empty = Unit {0}
