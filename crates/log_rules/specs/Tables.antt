-- The table of nodes that a log writes out, and the walk of a word in it. This project's own; that a set of words is kept as such
-- nodes is of Bryant, IEEE Transactions on Computers 1986.
use Rattle.std.specs.Prelude.{◌≡◌, ℕ, ◌+◌, ◌-◌, ◌<◌, ◌==◌, nat_lt, Bool, false, cond, List, [], ◌∷◌, ◌++◌, length, reverse, Option, None, Some, IfSome, slice_get, slice_index_or}
use Rattle.log_rules.specs.declared.nodes.Node.{Node}

-- ---- numbers

-- the node of this number: the first of the table is node 2. Nodes 0 and 1 are no nodes of the table
abbrev pub node_at : List Node → ℕ → Option Node
node_at table n = cond (nat_lt n 2) None (slice_get table (n - 2))

-- the number of the next node
abbrev pub next_node : List Node → ℕ
next_node table = length table + 2

-- ---- walks

-- the child to which the word leads: hi where the bit at the node's place is true, and lo otherwise
abbrev pub child : Node → List Bool → ℕ
child node word = cond (slice_index_or word node.place false) node.hi node.lo

-- the walk in a table whose newest node is first
abbrev pub walk_back : List Node → ℕ → List Bool → Bool
walk_back [] n word = n == 1
walk_back (node ∷ earlier) n word = walk_back earlier (cond (n == next_node earlier) (child node word) n) word

-- The walk of a word from a node: no from node 0, yes from node 1, and from another node as from its child.
unfoldable pub walk : List Node → ℕ → List Bool → Bool
walk table n word = walk_back (reverse table) n word

-- ---- what a table keeps

-- the node, where it is one of the table, tests a later place than this one
abbrev pub IsDeeper : List Node → ℕ → ℕ → Type 0
IsDeeper table place n = IfSome (node_at table n) (λ node. place < node.place)

-- a node that may be a child of the next one, which tests this place: an earlier node, and a deeper one
pub record IsChild (table : List Node) (place n : ℕ) : Type 0 where
  pub earlier : n < next_node table
  pub deeper : IsDeeper table place n

-- the node may be the next of the table
pub record IsNext (table : List Node) (node : Node) : Type 0 where
  pub lo : IsChild table node.place node.lo
  pub hi : IsChild table node.place node.hi

-- each node may follow those before it
unfoldable pub IsTable : List Node → Type 0
IsTable table = (before after : List Node) (node : Node) → table ≡ before ++ node ∷ after → IsNext before node

-- some node that is reached from node n, itself included, tests this place
pub data Tests (table : List Node) : ℕ → ℕ → Type 0 where
  here : {n : ℕ} {node : Node} → node_at table n ≡ Some node → Tests table n node.place
  by_lo : {n : ℕ} {node : Node} {place : ℕ} → node_at table n ≡ Some node → Tests table node.lo place → Tests table n place
  by_hi : {n : ℕ} {node : Node} {place : ℕ} → node_at table n ≡ Some node → Tests table node.hi place → Tests table n place
