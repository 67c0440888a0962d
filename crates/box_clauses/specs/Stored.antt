-- Boxes in store. This project's own.
use Rattle.std.specs.Prelude.{ℕ, Bool, Option, List, slice_get}
use Rattle.std.specs.List.{flat_map}
use Rattle.diagram_arena.specs.declared.nodes.Ref.{Ref}
use Rattle.box_clauses.specs.declared.sides.Side.{Side}
use Rattle.box_clauses.specs.declared.store.StoredBox.{StoredBox}
use Rattle.box_clauses.specs.Sides.{sets_of}

-- a box with the number of its line in the log, and whether it was learned from a conflict
abbrev pub stored : List Side → ℕ → Bool → StoredBox
stored sides line learned = record { sides = sides; line = line; learned = learned }

-- the box under an id: ids are places in the store, whose boxes stand oldest first
abbrev pub box_at : List StoredBox → ℕ → Option StoredBox
box_at boxes b = slice_get boxes b

-- what a store pins
abbrev pub stored_sets : List StoredBox → List Ref
stored_sets boxes = flat_map (λ (b : StoredBox). sets_of b.sides) boxes
