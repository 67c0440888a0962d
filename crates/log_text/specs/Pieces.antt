-- A text cut at a byte: what is still to come of it.
use Rattle.std.specs.Prelude.{ℕ, ◌==◌, Bool, List, [], if◌then◌else◌}
use Rattle.std.specs.List.{slice_split}

-- The pieces of `rest` between the separators, or none once the last was taken.
abbrev pub pieces_left : ℕ → Bool → List ℕ → List (List ℕ)
pieces_left separator is_done rest = if is_done then [] else slice_split (λ b. b == separator) rest
