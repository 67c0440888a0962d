-- What the call that numbers a ref leaves: lines of new nodes, and tags. This project's own.
use Rattle.std.specs.Prelude.{◌≡◌, ℕ, ◌+◌, List, ◌++◌, length, Some, Result, Ok, Err, IfOk}
use Rattle.std.specs.List.{AllByRecursion}
use Rattle.bit_layout.specs.Order.{LayoutState}
use Rattle.diagram_arena.specs.declared.nodes.NodeId.{NodeId}
use Rattle.diagram_arena.specs.declared.nodes.Ref.{Ref}
use Rattle.diagram_arena.specs.declared.nodes.Ref.TheVariants as ref
use Rattle.diagram_arena.specs.declared.nodes.Triple.{Triple}
use Rattle.diagram_arena.specs.Arena.{ArenaState, table}
use Rattle.node_reclaim.specs.Pool.{PoolState}
use Rattle.log_text.specs.Spelling.{HasSpelling}
use Rattle.log_rules.specs.declared.nodes.Node.{Node}
use Rattle.log_rules.specs.Tables.{next_node, IsTable}
use Rattle.desk.specs.State.{State, written}
use Rattle.desk.specs.Texts.{WritesFront}
use Rattle.desk.specs.declared.outside.To.TheVariants as to
use Rattle.refute_log.specs.declared.writer.LogStop.{LogStop}
use Rattle.refute_log.specs.declared.writer.LogStop.TheVariants as stops
use Rattle.refute_log.specs.Writer.{WriterState, more_nodes}
use Rattle.refute_log.specs.Lines.{text_of, node_lines}
use Rattle.refute_log.specs.Naming.{Names, IsNumbered, number_of, ChangesTags}

-- The table that the log had goes on with more nodes, each of which may follow those before it. Tags are numbers of its nodes, and the
-- answer stands for the ref.
pub record GoesOn {E : Type 0} (l : LayoutState) (a : ArenaState) (nodes : List Node) (r : Ref) (answer : Result ℕ E) : Type 0 where
  pub legal : IsTable nodes
  pub numbered : IsNumbered l a nodes
  pub number : IfOk answer (Names l (table a) nodes r)

-- lines that were built: the number of the next node, and the bytes
pub record BatchState : Type 0 where
  pub next : ℕ
  pub text : List ℕ

-- lines of these nodes were built, and tags were set
pub record Adds (old new : PoolState) (a b : BatchState) (more : List Node) : Type 0 where
  pub only : new ≡ record old { arena = new.arena }
  pub tags : ChangesTags old.arena new.arena
  pub next : b.next ≡ a.next + length more
  pub text : b.text ≡ a.text ++ text_of (node_lines a.next more)
  pub spelled : AllByRecursion HasSpelling (node_lines a.next more)

-- the answer is the number of the ref
abbrev pub IsNumberOf : {E : Type 0} → ArenaState → Ref → Result ℕ E → Type 0
IsNumberOf a r answer = IfOk answer (λ n. number_of a r ≡ n)

-- Lines were built and tags were set: after any table with the same next number, all tags of which were numbers of its nodes, they still
-- are, and the answer stands for the ref.
pub record Numbers {E : Type 0} (l : LayoutState) (old new : PoolState) (a b : BatchState) (r : Ref) (answer : Result ℕ E) : Type 0 where
  pub more : List Node
  pub adds : Adds old new a b more
  pub tag : IsNumberOf new.arena r answer
  pub goes_on : (nodes : List Node) → next_node nodes ≡ a.next → IsTable nodes → IsNumbered l old.arena nodes
      → GoesOn l new.arena (nodes ++ more) r answer

-- The same of one node, whose children have these numbers.
pub record Builds {E : Type 0} (l : LayoutState) (old new : PoolState) (a b : BatchState) (i : NodeId) (lo hi : ℕ) (answer : Result ℕ E) : Type 0 where
  pub more : List Node
  pub adds : Adds old new a b more
  pub tag : IsNumberOf new.arena (ref.Node i) answer
  pub goes_on : (nodes : List Node) (n : Triple) → next_node nodes ≡ a.next → IsTable nodes → IsNumbered l old.arena nodes
      → table old.arena i ≡ Some n → Names l (table old.arena) nodes n.lo lo → Names l (table old.arena) nodes n.hi hi
      → GoesOn l new.arena (nodes ++ more) (ref.Node i) answer

-- Also after want of memory these bytes were appended to the log; after a failure a front of them that is not all.
abbrev pub AppendsBuilt : List ℕ → State → State → Result ℕ LogStop → Type 0
AppendsBuilt bytes old new (Ok n) = new ≡ written to.Log bytes old
AppendsBuilt bytes old new (Err stops.Failed) = WritesFront to.Log bytes old new
AppendsBuilt bytes old new (Err stops.Memory) = new ≡ written to.Log bytes old

-- The lines of some nodes were appended to the log, and tags were set. After any table with the writer's next number, all tags of which
-- were numbers of its nodes, the nodes may follow, tags still are numbers, and the answer stands for the ref.
pub record WritesNodes (l : LayoutState) (s t : State) (old new : PoolState) (w v : WriterState) (r : Ref) (answer : Result ℕ LogStop) : Type 0 where
  pub more : List Node
  pub spelled : AllByRecursion HasSpelling (node_lines w.next_node more)
  pub lines : AppendsBuilt (text_of (node_lines w.next_node more)) s t answer
  pub writer : v ≡ more_nodes (length more) w
  pub only : new ≡ record old { arena = new.arena }
  pub tags : ChangesTags old.arena new.arena
  pub tag : IsNumberOf new.arena r answer
  pub goes_on : (nodes : List Node) → next_node nodes ≡ w.next_node → IsTable nodes → IsNumbered l old.arena nodes
      → GoesOn l new.arena (nodes ++ more) r answer
