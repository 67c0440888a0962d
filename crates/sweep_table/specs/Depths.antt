-- The latest place that is tested from a node on. This project's own.
use Rattle.std.specs.Prelude.{◌≡◌, ◌⊎◌, ℕ, ◌-◌, ◌≤◌, List, map, Some, slice_index_or}
use Rattle.log_rules.specs.declared.nodes.Node.{Node}
use Rattle.log_rules.specs.Tables.{node_at, Tests, IsTable}
use Rattle.sweep_table.specs.declared.table.Entry.{Entry}
use Rattle.sweep_table.specs.declared.table.Table.TheInside.{Inside}

-- it is tested from node n on, and no later place is
pub record IsDeepest (table : List Node) (n place : ℕ) : Type 0 where
  pub tested : Tests table n place
  pub latest : (other : ℕ) → Tests table n other → other ≤ place

-- the place of a new node, or a later one that is tested from one of its children on
pub record IsDepthOver (table : List Node) (node : Node) (depth : ℕ) : Type 0 where
  pub from : node.place ≤ depth
  pub lo : (q : ℕ) → Tests table node.lo q → q ≤ depth
  pub hi : (q : ℕ) → Tests table node.hi q → q ≤ depth
  pub tested : (depth ≡ node.place) ⊎ (Tests table node.lo depth ⊎ Tests table node.hi depth)

-- beside each node the latest place that is tested from it on
abbrev pub HaveDepths : List Node → List ℕ → Type 0
HaveDepths nodes depths = (n : ℕ) (node : Node) → node_at nodes n ≡ Some node → IsDeepest nodes n (slice_index_or depths (n - 2) 0)

abbrev pub nodes_of : Inside → List Node
nodes_of a = map (λ (entry : Entry). entry.node) a.entries.items

abbrev pub depths_of : Inside → List ℕ
depths_of a = map (λ (entry : Entry). entry.depth) a.entries.items

-- how a table is kept
pub record IsKept (a : Inside) : Type 0 where
  pub legal : IsTable (nodes_of a)
  pub depths : HaveDepths (nodes_of a) (depths_of a)
