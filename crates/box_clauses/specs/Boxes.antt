-- Boxes whose sides are diagrams, and what the step of a box answers.
-- Source: this project's own (generalised nogoods on set domains, after Gange, Stuckey and Lagoon, JAIR 2010).
use Rattle.std.specs.Prelude.{◌≡◌, ℕ, ◌<◌, ◌==◌, Bool, true, None, List, ◌∷◌, [], length, find, All}
use Rattle.std.specs.Ordering.{nat_cmp}
use Rattle.std.specs.List.Sorted.{IsStrictlySortedBy}
use Rattle.std.specs.Option.{option_map_or}
use Rattle.set_meaning.specs.declared.kinds.Value.{Value}
use Rattle.set_meaning.specs.declared.problems.VarId.{VarId}
use Rattle.bit_layout.specs.Order.{LayoutState}
use Rattle.diagram_arena.specs.declared.nodes.NodeId.{NodeId}
use Rattle.diagram_arena.specs.declared.nodes.Ref.TheVariants.{Node}
use Rattle.diagram_arena.specs.Table.{Words, Table, has, IsLive}
use Rattle.diagram_arena.specs.Part.{IsPartOf}
use Rattle.diagram_arena.specs.Reach.{Bits, ReachesOnly}
use Rattle.search_rules.specs.Family.{without}
use Rattle.search_rules.specs.Trail.{IsPart}
use Rattle.search_rules.specs.Box.{BoxStep, Empty, Narrowed, Same}
use Rattle.scope_words.specs.Words.{IsBitOf, AreWordsOf}
use Rattle.exact_steps.specs.Domains.{variable, AtVariable, values_in, IsDomain}
use Rattle.problem_rules.specs.Parts.{initial_set}
use Rattle.value_sets.specs.Sets.{IsValueSet}
use Rattle.box_clauses.specs.declared.sides.Side.{Side}
use Rattle.box_clauses.specs.declared.stepping.BoxResult.{BoxResult}
use Rattle.box_clauses.specs.declared.stepping.BoxResult.TheVariants as answer

-- ---- boxes

-- The box as a family: each variable's values in its side, and all its initial values where it has none. Beyond the
-- last variable that is every value.
abbrev pub box_of : LayoutState → Table → List Side → ℕ → Value → Bool
box_of l t sides v x =
    option_map_or (λ (s : Side). values_in l t (variable v) s.set x) (find (λ (s : Side). s.var.0 == v) sides)
    (initial_set l.kinds v x)

-- the side has a set of values of its variable, which is one of the problem's
pub record IsSide (l : LayoutState) (t : Table) (s : Side) : Type 0 where
  pub known : s.var.0 < length l.kinds
  pub set : IsValueSet l t s.var s.set

-- sides of different variables, ascending
pub record AreSides (l : LayoutState) (t : Table) (sides : List Side) : Type 0 where
  pub ascending : IsStrictlySortedBy (λ (s : Side) (u : Side). nat_cmp s.var.0 u.var.0) sides
  pub each : All (IsSide l t) sides

-- ---- the step

-- the answer as one of search_rules
abbrev pub step_of : LayoutState → Table → BoxResult → BoxStep Value
step_of l t answer.Same = Same
step_of l t (answer.Narrowed v r) = Narrowed v.0 (values_in l t v r)
step_of l t answer.Empty = Empty

-- a narrowed variable is one of the problem's; its new domain is one, and a proper part of the set that it had in f
abbrev pub GivesDomain : LayoutState → Table → (ℕ → Value → Bool) → BoxResult → Type 0
GivesDomain l t f answer.Same = Unit {0}
GivesDomain l t f (answer.Narrowed v r) = (v.0 < length l.kinds) × IsDomain l t v r × IsPart (values_in l t v r) (f v.0)
GivesDomain l t f answer.Empty = Unit {0}

-- the node i is a part of the set of the words of what some variable has in f and not in b, and reaches only bits of
-- that variable
pub record IsPartOutside (l : LayoutState) (b f : ℕ → Value → Bool) (t : Table) (i : NodeId) : Type 0 where
  pub var : VarId
  pub set : Words
  pub words : AreWordsOf l (var ∷ []) (AtVariable var (λ x. without (f var.0) (b var.0) x ≡ true)) set
  pub part : IsPartOf (has t (Node i)) set
  pub reach : (bits : Bits) → ((b : ℕ) → IsBitOf l (var ∷ []) b → bits b ≡ true) → ReachesOnly t bits (Node i)

abbrev pub NewArePartsOutside : LayoutState → (ℕ → Value → Bool) → (ℕ → Value → Bool) → Table → Table → Type 0
NewArePartsOutside l b f old new = (i : NodeId) → old i ≡ None → IsLive new (Node i) → IsPartOutside l b f new i
