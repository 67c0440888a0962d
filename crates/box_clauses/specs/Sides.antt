-- The refs of sides. This project's own.
use Rattle.std.specs.Prelude.{List, map}
use Rattle.diagram_arena.specs.declared.nodes.Ref.{Ref}
use Rattle.box_clauses.specs.declared.sides.Side.{Side}

-- the refs of the sides, in order: what holders of them pin
abbrev pub sets_of : List Side → List Ref
sets_of sides = map (λ (s : Side). s.set) sides
