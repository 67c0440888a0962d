-- Words of this crate's private helpers: words that a node does not accept, and words other than one, read bit by bit.
use Rattle.std.specs.Prelude.{◌≡◌, ℕ, ◌==◌, Bool, true, false, not, ◌||◌, cond, List, map, Option, Some, slice_index_or}
use Rattle.std.specs.List.{range_with_len}
use Rattle.set_meaning.specs.declared.kinds.Kind.{Kind}
use Rattle.set_meaning.specs.declared.kinds.Value.{Value}
use Rattle.set_meaning.specs.Kinds.{InKind}
use Rattle.bit_layout.specs.Words.{word_of}
use Rattle.log_rules.specs.declared.nodes.Node.{Node}
use Rattle.log_rules.specs.Tables.{walk}
use Rattle.sweep_rules.specs.Rules.{Rules}
use Rattle.sweep_table.specs.Sides.{side_rules}

-- the places of a word of one variable, read alone
abbrev pub own_places : ℕ → List (Option ℕ)
own_places width = map Some (range_with_len 0 width)

-- what a node does not accept
abbrev pub beyond_rules : List Node → ℕ → List (Option ℕ) → Rules ℕ
beyond_rules table root places = record { start = root; step = (side_rules table root places).step; accept = λ n. not (n == 1) }

-- the words other than one. The state is whether a bit differed
abbrev pub other_rules : List Bool → Rules Bool
other_rules word = record {
  start = false;
  step = λ at q b. cond b (q || not (slice_index_or word at false)) (q || slice_index_or word at false);
  accept = λ q. q;
}

-- some initial value is accepted from the node and passes the test
pub record SomeValue (kind : Kind) (table : List Node) (n : ℕ) (test : List Bool → Bool) : Type 0 where
  pub value : Value
  pub initial : InKind kind value
  pub inside : walk table n (word_of kind value) ≡ true
  pub passes : test (word_of kind value) ≡ true
