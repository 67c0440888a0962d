-- Node tables of reduced ordered decision diagrams (Bryant, IEEE Transactions on Computers, 1986; for set
-- domains Hawkins, Lagoon and Stuckey, JAIR 2005), and the sets of words that their refs denote.
use Rattle.std.specs.Prelude.{◌≡◌, ◌≢◌, ℕ, ◌^◌, ◌<◌, Bool, true, false, zero, suc, Option, Some, None, IsSome, ◌==◌}
use Rattle.std.specs.declared.cmp.Ordering.{Ordering}
use Rattle.std.specs.Ordering.{nat_cmp, on}
use Rattle.diagram_arena.specs.declared.nodes.NodeId.{NodeId}
use Rattle.diagram_arena.specs.declared.nodes.Ref.{Ref}
use Rattle.diagram_arena.specs.declared.nodes.Ref.TheVariants.{Zero, One, Node}
use Rattle.diagram_arena.specs.declared.nodes.Triple.{Triple}

-- a word gives each bit a value
abbrev pub Word : Type 0
Word = ℕ → Bool

-- a set of words, by its test
abbrev pub Words : Type 0
Words = Word → Bool

-- a node table: the bit and the children of each node that is there
abbrev pub Table : Type 0
Table = NodeId → Option Triple

-- ids in the order of their numbers
abbrev pub id_cmp : NodeId → NodeId → Ordering
id_cmp = on (λ (i : NodeId). i.0) nat_cmp

-- whether two ids are one
abbrev pub id_eq : NodeId → NodeId → Bool
id_eq i j = i.0 == j.0

-- the child on one side of a node: hi where the bit is true, lo where it is false
abbrev pub child : Triple → Bool → Ref
child n false = n.lo
child n true = n.hi

-- bits are numbers below this
unfoldable pub bit_end : ℕ
bit_end = 2 ^ 32

-- the walk of a word, of at most so many steps: from Zero no, from One yes, from a node on to the child
-- that the word's bit names
unfoldable pub walk : ℕ → Table → Ref → Word → Bool
walk k t Zero w = false
walk k t One w = true
walk zero t (Node i) w = false
walk (suc k) t (Node i) w = elim (t i) [ None ↦ false | Some n ↦ walk k t (child n (w n.bit)) w ]

-- the set of a ref: the words whose walk ends with yes. Each step goes to a greater bit, so no walk is cut off
unfoldable pub has : Table → Ref → Words
has t r w = walk bit_end t r w

-- a ref that names no node, or one that is there
abbrev pub IsLive : Table → Ref → Type 0
IsLive t Zero = Unit {0}
IsLive t One = Unit {0}
IsLive t (Node i) = IsSome (t i)

-- the bit that a ref asks first; Zero and One ask none, and lie below every bit
unfoldable pub depth : Table → Ref → ℕ
depth t Zero = bit_end
depth t One = bit_end
depth t (Node i) = elim (t i) [ None ↦ 0 | Some n ↦ n.bit ]

-- bits rise along each path, every child is there, no node has equal children, and no two are alike
pub record IsReduced (t : Table) : Type 0 where
  pub small : (i : NodeId) (n : Triple) → t i ≡ Some n → n.bit < bit_end
  pub deeper : (i : NodeId) (n : Triple) (v : Bool) → t i ≡ Some n → n.bit < depth t (child n v)
  pub live : (i : NodeId) (n : Triple) (v : Bool) → t i ≡ Some n → IsLive t (child n v)
  pub differ : (i : NodeId) (n : Triple) → t i ≡ Some n → n.lo ≢ n.hi
  pub once : (i j : NodeId) (n : Triple) → t i ≡ Some n → t j ≡ Some n → i ≡ j
