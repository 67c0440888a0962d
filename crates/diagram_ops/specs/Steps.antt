-- A question to diagrams, its answer, and a step of the recursion that finds it.
use Rattle.std.specs.Prelude.{◌≡◌, ℕ, ◌+◌, ◌<◌, ◌≤◌, Bool, not, ◌&&◌, ◌||◌, ◌==◌, cond, min, if◌then◌else◌, List, Option, Some, None, Result, Err, IfOk}
use Rattle.std.specs.Map.{lookup}
use Rattle.diagram_arena.specs.declared.nodes.Ref.{Ref}
use Rattle.diagram_arena.specs.declared.nodes.Ref.TheVariants as ref
use Rattle.diagram_arena.specs.declared.nodes.Stop.{Stop}
use Rattle.diagram_arena.specs.declared.nodes.Stop.TheVariants.{Full}
use Rattle.diagram_arena.specs.Table.{Word, Words, Table, child, has, IsLive, depth, IsReduced}
use Rattle.diagram_arena.specs.Part.{with_front}
use Rattle.diagram_arena.specs.Reach.{Bits, among}
use Rattle.diagram_arena.specs.Arena.{table, triple}
use Rattle.node_reclaim.specs.Pool.{PoolState}
use Rattle.diagram_ops.specs.declared.question.Op.{Op}
use Rattle.diagram_ops.specs.declared.question.Op.TheVariants.{And, Or, Diff}
use Rattle.diagram_ops.specs.declared.question.Question.{Question}
use Rattle.diagram_ops.specs.declared.question.Question.TheVariants.{Combine, Restrict}
use Rattle.diagram_ops.specs.contracts.question.QuestionPartialEq.TheImpl.{eq-value as same_question}
use Rattle.node_reclaim.specs.Growth.{IsFull, Stays, NewArePartsOf}
use Rattle.diagram_ops.specs.Words.{joined, either, restricted, Denotes}

-- an operation at one word
abbrev pub combine : Op → Bool → Bool → Bool
combine And a b = a && b
combine Or a b = a || b
combine Diff a b = a && not b

abbrev pub combined : Op → Words → Words → Words
combined op V W = λ w. combine op (V w) (W w)

-- the words that a question asks for
abbrev pub asked : Table → Question → Words
asked t (Combine op f g) = combined op (has t f) (has t g)
asked t (Restrict f bit value) = restricted (has t f) bit value

-- its refs are there
abbrev pub AreLive : Table → Question → Type 0
AreLive t (Combine op f g) = IsLive t f × IsLive t g
AreLive t (Restrict f bit value) = IsLive t f

-- the first bit that its refs ask
abbrev pub first : Table → Question → ℕ
first t (Combine op f g) = min (depth t f) (depth t g)
first t (Restrict f bit value) = depth t f

-- r is the answer to q, in one table
pub record IsAnswer (t : Table) (q : Question) (r : Ref) : Type 0 where
  pub given : AreLive t q
  pub live : IsLive t r
  pub deep : first t q ≤ depth t r
  pub words : (w : Word) → has t r w ≡ asked t q w

-- each answer that is found is right
abbrev pub AreAnswers : Table → List (Question × Ref) → Type 0
AreAnswers t entries = (q : Question) (r : Ref) → lookup (same_question.it q) entries ≡ Some r → IsAnswer t q r

-- the result where no node need be looked at
abbrev pub shortcut_of : Op → Ref → Ref → Option Ref
shortcut_of And ref.Zero g = Some ref.Zero
shortcut_of And ref.One g = Some g
shortcut_of And (ref.Node i) ref.Zero = Some ref.Zero
shortcut_of And (ref.Node i) ref.One = Some (ref.Node i)
shortcut_of And (ref.Node i) (ref.Node j) = if i.0 == j.0 then Some (ref.Node i) else None
shortcut_of Or ref.Zero g = Some g
shortcut_of Or ref.One g = Some ref.One
shortcut_of Or (ref.Node i) ref.Zero = Some (ref.Node i)
shortcut_of Or (ref.Node i) ref.One = Some ref.One
shortcut_of Or (ref.Node i) (ref.Node j) = if i.0 == j.0 then Some (ref.Node i) else None
shortcut_of Diff ref.Zero g = Some ref.Zero
shortcut_of Diff ref.One ref.Zero = Some ref.One
shortcut_of Diff ref.One ref.One = Some ref.Zero
shortcut_of Diff ref.One (ref.Node j) = None
shortcut_of Diff (ref.Node i) ref.Zero = Some (ref.Node i)
shortcut_of Diff (ref.Node i) ref.One = Some ref.Zero
shortcut_of Diff (ref.Node i) (ref.Node j) = if i.0 == j.0 then Some ref.Zero else None

abbrev pub IsNode : Ref → Type 0
IsNode ref.Zero = ⊥
IsNode ref.One = ⊥
IsNode (ref.Node i) = Unit {0}

-- a node stands among the two
abbrev pub HasNode : Ref → Ref → Type 0
HasNode ref.Zero g = IsNode g
HasNode ref.One g = IsNode g
HasNode (ref.Node i) g = Unit {0}

-- lo and hi are r once the bit is false and true, and ask only greater bits
pub record IsSplit (t : Table) (r : Ref) (bit : ℕ) (lo hi : Ref) : Type 0 where
  pub live : (v : Bool) → IsLive t (child (triple bit lo hi) v)
  pub deeper : (v : Bool) → bit < depth t (child (triple bit lo hi) v)
  pub rises : (v : Bool) → depth t r ≤ depth t (child (triple bit lo hi) v)
  pub words : (w : Word) → has t r w ≡ has t (child (triple bit lo hi) (w bit)) w
  pub front : (v : Bool) (w : Word) → has t (child (triple bit lo hi) v) w ≡ has t r (with_front (bit + 1) (λ _. v) w)

-- a node has to be looked at
abbrev pub HasStep : Table → Question → Type 0
HasStep t (Combine op f g) = HasNode f g
HasStep t (Restrict f bit value) = IsNode f × (depth t f < bit)

abbrev pub side : Question → Question → Bool → Question
side lo hi v = cond v hi lo

-- lo and hi are what is left of q once the bit is false and true, and ask only greater bits
pub record IsStep (t : Table) (q : Question) (bit : ℕ) (lo hi : Question) : Type 0 where
  pub live : (v : Bool) → AreLive t (side lo hi v)
  pub deeper : (v : Bool) → bit < first t (side lo hi v)
  pub words : (w : Word) → asked t q w ≡ asked t (side lo hi (w bit)) w
  pub front : (v : Bool) (w : Word) → asked t (side lo hi v) w ≡ asked t q (with_front (bit + 1) (λ _. v) w)

-- what answering a question leaves
pub record Answered (old new : PoolState) (q : Question) (result : Result Ref Stop) : Type 0 where
  pub reduced : IsReduced (table old.arena)
  pub answer : IfOk result (IsAnswer (table new.arena) q)
  pub stays : Stays old new
  pub full : result ≡ Err Full → IsFull new
  pub parts : NewArePartsOf (table old.arena) (table new.arena) (asked (table old.arena) q)

-- the projection of a node from those of both sides: where its bit is kept, each on its side; else their union
abbrev pub sides_joined : Bits → ℕ → Words → Words → Words
sides_joined keep b V W = λ w. cond (keep b) (joined b V W w) (either V W w)

-- what joining the projections of both sides leaves
pub record SidesJoined (old new : PoolState) (keep : List ℕ) (bit : ℕ) (lo hi : Ref) (result : Result Ref Stop) : Type 0 where
  pub words : IfOk result (Denotes (table new.arena) (sides_joined (among keep) bit (has (table old.arena) lo) (has (table old.arena) hi)))
  pub deep : IfOk result (λ r. bit ≤ depth (table new.arena) r)
  pub stays : Stays old new
  pub full : result ≡ Err Full → IsFull new
  pub parts : NewArePartsOf (table old.arena) (table new.arena) (sides_joined (among keep) bit (has (table old.arena) lo) (has (table old.arena) hi))
