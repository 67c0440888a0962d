-- Domains as diagrams: the values that a diagram has at a variable, and the family of all domains.
-- Source: the domains of Hawkins, Lagoon and Stuckey, JAIR 2005, in this project's words.
use Rattle.std.specs.Prelude.{◌≡◌, ℕ, ◌&&◌, not, Bool, true, false, Some, List, [], ◌∷◌, IsSomeAnd, slice_get, slice_index_or, length}
use Rattle.std.specs.List.{list_any}
use Rattle.std.specs.Option.{option_map_or}
use Rattle.std.specs.Ordering.{int_eq}
use Rattle.std.specs.Cmp.Lexicographic.{pointwise}
use Rattle.set_meaning.specs.declared.kinds.Value.{Value}
use Rattle.set_meaning.specs.declared.kinds.Value.TheVariants as value
use Rattle.set_meaning.specs.declared.problems.VarId.{VarId}
use Rattle.set_meaning.specs.Kinds.{initial_values}
use Rattle.bit_layout.specs.Order.{LayoutState, word_at}
use Rattle.diagram_arena.specs.declared.nodes.Ref.{Ref}
use Rattle.diagram_arena.specs.Table.{Word, Table, has}
use Rattle.search_rules.specs.Family.{HasValue}
use Rattle.scope_words.specs.Words.{IsDiagramOf}

-- ---- the values of a variable

abbrev pub variable : ℕ → VarId
variable v = record { 0 = v }

-- whether two values are one
abbrev pub same_value : Value → Value → Bool
same_value (value.Bool false) (value.Bool b) = not b
same_value (value.Bool true) (value.Bool b) = b
same_value (value.Int x) (value.Int y) = int_eq x y
same_value (value.Set xs) (value.Set ys) = pointwise int_eq xs ys
same_value _ _ = false

-- whether the value is one of the variable's initial values
abbrev pub is_initial : LayoutState → VarId → Value → Bool
is_initial l v x = option_map_or (λ k. list_any (same_value x) (initial_values k)) (slice_get l.kinds v.0) false

-- a word that has the word of the value at the bits of the variable; what it has at other bits is nothing to a diagram over these bits
abbrev pub word_of_value : LayoutState → VarId → Value → Word
word_of_value l v x = λ b. option_map_or (λ p. slice_index_or (word_at l v x) p.position false) (slice_get l.places b) false

-- the values that a diagram over the bits of a variable has: the initial values whose word is in it
abbrev pub values_in : LayoutState → Table → VarId → Ref → Value → Bool
values_in l t v r x = is_initial l v x && has t r (word_of_value l v x)

-- the variable has a value with this property
abbrev pub AtVariable : VarId → (Value → Type 0) → List Value → Type 0
AtVariable v P values = IsSomeAnd (slice_get values v.0) P

-- ---- domains

-- r is a domain of the variable: the diagram of some of its initial values, at least one
pub record IsDomain (l : LayoutState) (t : Table) (v : VarId) (r : Ref) : Type 0 where
  pub diagram : IsDiagramOf l (v ∷ []) (AtVariable v (λ x. values_in l t v r x ≡ true)) t r
  pub some : HasValue (values_in l t v r)

-- a domain for each variable
pub record AreDomains (l : LayoutState) (t : Table) (domains : List Ref) : Type 0 where
  pub long : length domains ≡ length l.kinds
  pub each : (v : VarId) (r : Ref) → slice_get domains v.0 ≡ Some r → IsDomain l t v r

-- the family of the domains, as in search_rules: the values of each variable's domain, and every value beyond the last variable
abbrev pub family : LayoutState → Table → List Ref → ℕ → Value → Bool
family l t domains v x = option_map_or (λ r. values_in l t (variable v) r x) (slice_get domains v) true
