-- How a trail is kept: two lists of pins, that of the domains and that of the domains from before. Words of private
-- helpers.
use Rattle.std.specs.Prelude.{◌≡◌, ◌<◌, List, length}
use Rattle.std.specs.List.{All}
use Rattle.diagram_arena.specs.declared.nodes.Ref.{Ref}
use Rattle.domain_trail.specs.declared.entries.Entry.{Entry}
use Rattle.domain_trail.specs.Trail.{befores}
use Rattle.domain_trail.specs.declared.trails.Trail.TheInside.{Inside}

-- each entry is of a variable that has a domain
abbrev pub AreOf : List Ref → List Entry → Type 0
AreOf ds es = All (λ (e : Entry). e.var.0 < length ds) es

-- the domains from before are pinned, an entry each
pub record IsKept (t : Inside) : Type 0 where
  pub pinned : t.befores ≡ befores t.entries.items
  pub known : AreOf t.domains t.entries.items
