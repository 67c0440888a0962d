-- A pool as its callers see it: an arena, and how often each of its nodes is pinned.
use Rattle.std.specs.Prelude.{◌≡◌, ℕ, ◌+◌, ◌<◌, List, [], ◌∷◌, replicate, if◌then◌else◌, refl}
use Rattle.std.specs.List.{flat_map}
use Rattle.std.specs.Option.{unwrap_or}
use Rattle.std.specs.FinMap as map
use Rattle.std.specs.Coded.{Coded, code_by, coded×, coded_ℕ}
use Rattle.diagram_arena.specs.declared.nodes.NodeId.{NodeId}
use Rattle.diagram_arena.specs.declared.nodes.Ref.{Ref}
use Rattle.diagram_arena.specs.declared.nodes.Ref.TheVariants.{Zero, One, Node}
use Rattle.diagram_arena.specs.contracts.nodes.NodeId as id_row
use Rattle.diagram_arena.specs.Table.{id_cmp, id_eq}
use Rattle.diagram_arena.specs.Arena.{ArenaState, arena_code}

-- the arena, the number of pins of each pinned node, and how many units were begun and how many nodes made since nodes were
-- last reclaimed
pub record PoolState : Type 0 where
  pub arena : ArenaState
  pub counts : map.FinMap id_cmp ℕ
  pub units : ℕ
  pub made : ℕ

-- it is stored as the tuple of its fields
abbrev pub pool_code : Coded PoolState
pool_code =
    code_by (ArenaState × (map.FinMap id_cmp ℕ × (ℕ × ℕ)))
    (coded× arena_code (coded× (map.code id_row.the_row.coded coded_ℕ) (coded× coded_ℕ coded_ℕ)))
    (λ p. (p.arena, (p.counts, (p.units, p.made))))
    (λ x. record { arena = x.0; counts = x.1.0; units = x.1.1.0; made = x.1.1.1 }) (λ _. refl)

-- how many nodes there are
abbrev pub node_count : PoolState → ℕ
node_count p = map.len p.arena.nodes

-- how many pins a node has
abbrev pub pins_of : PoolState → NodeId → ℕ
pins_of p i = unwrap_or (map.get p.counts i) 0

-- how often a node stands in a list of refs
abbrev pub times : NodeId → List Ref → ℕ
times i [] = 0
times i (Zero ∷ rs) = times i rs
times i (One ∷ rs) = times i rs
times i (Node j ∷ rs) = (if id_eq i j then 1 else 0) + times i rs

-- each node has gained one pin for each time that it is listed, and only pins have changed
pub record Pins (old new : PoolState) (rs : List Ref) : Type 0 where
  pub only : new ≡ record old { counts = new.counts }
  pub gained : (i : NodeId) → pins_of new i ≡ pins_of old i + times i rs

-- each node has lost one pin for each time that it is listed, and only pins have changed
pub record Unpins (old new : PoolState) (rs : List Ref) : Type 0 where
  pub only : new ≡ record old { counts = new.counts }
  pub lost : (i : NodeId) → pins_of old i ≡ pins_of new i + times i rs

-- a ref that has a pin to spend; pins of Zero and One are counted nowhere
abbrev pub IsPinned : PoolState → Ref → Type 0
IsPinned p Zero = Unit {0}
IsPinned p One = Unit {0}
IsPinned p (Node i) = 0 < pins_of p i

-- the pinned nodes, ids ascending, each once for each of its pins
abbrev pub pinned_refs : PoolState → List Ref
pinned_refs p = flat_map (λ e. replicate e.1 (Node e.0)) (map.entries p.counts)
