-- The words of a diagram with a true bit, and the words of a domain over the bits of its variable. Words of private
-- helpers.
use Rattle.std.specs.Prelude.{◌≡◌, ℕ, ◌<◌, ◌≤◌, Bool, true, List, Some, Result, Err, IfOk, false, length, slice_get, slice_index_or}
use Rattle.set_meaning.specs.declared.kinds.Value.{Value}
use Rattle.set_meaning.specs.declared.kinds.Value.TheVariants as value
use Rattle.set_meaning.specs.declared.problems.VarId.{VarId}
use Rattle.bit_layout.specs.Order.{LayoutState, IsValueAt}
use Rattle.diagram_arena.specs.declared.nodes.Ref.{Ref}
use Rattle.diagram_arena.specs.declared.nodes.Stop.{Stop}
use Rattle.diagram_arena.specs.declared.nodes.Stop.TheVariants.{Full}
use Rattle.diagram_arena.specs.Table.{Words, Table, has, depth}
use Rattle.diagram_arena.specs.Arena.{table}
use Rattle.node_reclaim.specs.Pool.{PoolState}
use Rattle.node_reclaim.specs.Growth.{IsFull, Stays, NewArePartsOf}
use Rattle.diagram_ops.specs.Words.{both, words_with, Denotes}
use Rattle.diagram_ops.specs.Steps.{IsSplit}
use Rattle.diagram_view.specs.Words.{ListWords, words_over, IsWord, IsFirstOpen}
use Rattle.scope_words.specs.Words.{bits_at}
use Rattle.exact_steps.specs.Domains.{family}
use Rattle.branching.specs.Decisions.{HaveOneValueBelow}

-- the words of f whose bit is true
abbrev pub kept : Table → Ref → ℕ → Words
kept t f bit = both (has t f) (words_with bit true)

-- f asks no bit before this one, and hi is f once it is true
abbrev pub IsTrueSide : Table → Ref → ℕ → Ref → Type 0
IsTrueSide t f bit hi = (lo : Ref) × IsSplit t f bit lo hi

-- what keeping the words of f whose bit is true leaves
pub record Keeps (old new : PoolState) (f : Ref) (bit : ℕ) (result : Result Ref Stop) : Type 0 where
  pub words : IfOk result (Denotes (table new.arena) (kept (table old.arena) f bit))
  pub deep : IfOk result (λ r. (b : ℕ) → b ≤ depth (table old.arena) f → b ≤ bit → b ≤ depth (table new.arena) r)
  pub stays : Stays old new
  pub full : result ≡ Err Full → IsFull new
  pub parts : NewArePartsOf (table old.arena) (table new.arena) (kept (table old.arena) f bit)

-- the words of a ref over the bits of a variable
abbrev pub domain_words : LayoutState → Table → VarId → Ref → ListWords
domain_words l t v r = words_over t r (bits_at l v)

-- the words of W are those of the values that pass f
pub record HaveValues (l : LayoutState) (v : VarId) (f : Value → Bool) (W : ListWords) : Type 0 where
  pub valued : (word : List Bool) → IsWord W word → (x : Value) × IsValueAt l v word x × (f x ≡ true)
  pub spelled : (x : Value) → f x ≡ true → (word : List Bool) × IsWord W word × IsValueAt l v word x

-- the set has at most one value
abbrev pub HasOneValue : (Value → Bool) → Type 0
HasOneValue s = (x y : Value) → s x ≡ true → s y ≡ true → x ≡ y

-- v is the first variable from `from` on with more than one value, and i the first position at which both bits occur
pub record IsOpenAt (l : LayoutState) (t : Table) (domains : List Ref) (from : ℕ) (v : VarId) (i : ℕ) : Type 0 where
  pub later : from ≤ v.0
  pub known : v.0 < length l.kinds
  pub below : HaveOneValueBelow v.0 (family l t domains)
  pub first : (r : Ref) → slice_get domains v.0 ≡ Some r → IsFirstOpen (domain_words l t v r) i

-- these are the values of the first n variables, each in the family
pub record AreValuesUpTo (f : ℕ → Value → Bool) (n : ℕ) (values : List Value) : Type 0 where
  pub long : length values ≡ n
  pub each : (u : ℕ) → u < n → f u (slice_index_or values u (value.Bool false)) ≡ true
