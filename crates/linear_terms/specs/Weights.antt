-- How much each bit of a variable counts; words of this crate's private helpers.
use Rattle.std.specs.Prelude.{ℕ, ◌+◌, ◌^◌, ℤ, pos, ◌+ℤ◌, ◌*ℤ◌, if◌then◌else◌, List, [], ◌∷◌, length, slice_get}
use Rattle.std.specs.Option.{option_map_or}
use Rattle.set_meaning.specs.declared.kinds.Kind.{Kind}
use Rattle.set_meaning.specs.declared.kinds.Kind.TheVariants as kind
use Rattle.set_meaning.specs.declared.problems.VarId.{VarId}
use Rattle.diagram_arena.specs.Table.{Word}
use Rattle.bit_layout.specs.Words.{least}
use Rattle.bit_layout.specs.Order.{LayoutState}
use Rattle.scope_words.specs.Words.{bits_at}
use Rattle.linear_terms.specs.declared.terms.LinearTerm.{LinearTerm}

-- what a bit counts, where so many bits of the variable are behind it
abbrev pub worth : Kind → ℕ → ℕ
worth kind.Bool behind = 2 ^ behind
worth (kind.Int numbers) behind = 2 ^ behind
worth (kind.Set universe) behind = 1

-- what the true ones of a variable's bits count together
abbrev pub weigh : Kind → List ℕ → Word → ℕ
weigh k [] w = 0
weigh k (b ∷ bs) w = (if w b then worth k (length bs) else 0) + weigh k bs w

-- what a value counts whose bits are all false
abbrev pub least_number : Kind → ℤ
least_number kind.Bool = pos 0
least_number (kind.Int numbers) = least numbers
least_number (kind.Set universe) = pos 0

abbrev pub weigh_at : LayoutState → VarId → Word → ℕ
weigh_at l v w = option_map_or (λ k. weigh k (bits_at l v) w) (slice_get l.kinds v.0) 0

abbrev pub least_at : List Kind → VarId → ℤ
least_at kinds v = option_map_or least_number (slice_get kinds v.0) (pos 0)

-- what the terms add for the true bits
abbrev pub weighed_sum : LayoutState → List LinearTerm → Word → ℤ
weighed_sum l [] w = pos 0
weighed_sum l (t ∷ ts) w = (t.coefficient *ℤ pos (weigh_at l t.variable w)) +ℤ weighed_sum l ts w

-- what the terms add where all bits are false
abbrev pub least_sum_of : List Kind → List LinearTerm → ℤ
least_sum_of kinds [] = pos 0
least_sum_of kinds (t ∷ ts) = (t.coefficient *ℤ least_at kinds t.variable) +ℤ least_sum_of kinds ts
