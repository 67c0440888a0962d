-- A node of a log's table, read bit by bit beside bits of other variables. This project's own.
use Rattle.std.specs.Prelude.{◌≡◌, ℕ, ◌+◌, ◌==◌, cond, Bool, List, [], ◌∷◌, Option, None, Some, slice_index_or, ⊤}
use Rattle.std.specs.Option.{option_map_or}
use Rattle.log_rules.specs.declared.nodes.Node.{Node}
use Rattle.log_rules.specs.Tables.{node_at}
use Rattle.sweep_rules.specs.Rules.{Rules}

-- the child by this bit, if the node tests this place, and else the node itself
abbrev pub descend : List Node → ℕ → ℕ → Bool → ℕ
descend table n place b = option_map_or (λ node. cond (node.place == place) (cond b node.hi node.lo) n) (node_at table n) n

-- Bits are read of which some are a variable's, at the place of its words that `places` tells. Node 1 accepts.
abbrev pub side_rules : List Node → ℕ → List (Option ℕ) → Rules ℕ
side_rules table root places = record {
  start = root;
  step = λ at n b. option_map_or (λ place. descend table n place b) (slice_index_or places at None) n;
  accept = λ n. n == 1;
}

-- the bits that are the variable's, in order
abbrev pub own_bits : List (Option ℕ) → List Bool → List Bool
own_bits (Some place ∷ places) (b ∷ bits) = b ∷ own_bits places bits
own_bits (None ∷ places) (b ∷ bits) = own_bits places bits
own_bits _ _ = []

-- how many bits are the variable's
abbrev pub own_count : List (Option ℕ) → ℕ
own_count [] = 0
own_count (Some place ∷ places) = own_count places + 1
own_count (None ∷ places) = own_count places

-- the variable's bits come in the order of its words, from this place on
abbrev pub CountFrom : ℕ → List (Option ℕ) → Type 0
CountFrom i [] = ⊤
CountFrom i (Some place ∷ places) = (place ≡ i) × CountFrom (i + 1) places
CountFrom i (None ∷ places) = CountFrom i places
