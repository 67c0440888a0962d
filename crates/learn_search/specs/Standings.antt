-- Where a search stands after an answer, as its callers see it. This project's own.
use Rattle.std.specs.Prelude.{◌≡◌, ℕ, List, ◌++◌, map, reverse, ⊤}
use Rattle.set_meaning.specs.declared.kinds.Value.{Value}
use Rattle.set_meaning.specs.declared.problems.Problem.{Problem}
use Rattle.bit_layout.specs.Order.{LayoutState}
use Rattle.diagram_arena.specs.Arena.{table}
use Rattle.node_reclaim.specs.Pool.{PoolState}
use Rattle.node_reclaim.specs.Holders.{AreHeld}
use Rattle.search_rules.specs.Problem.{IsSingle}
use Rattle.exact_steps.specs.Domains.{family}
use Rattle.problem_rules.specs.Parts.{values_of}
use Rattle.problem_rules.specs.Posed.{problem_of}
use Rattle.domain_trail.specs.Trail.{TrailState, held}
use Rattle.box_clauses.specs.declared.store.StoredBox.{StoredBox}
use Rattle.box_clauses.specs.Stored.{stored_sets}
use Rattle.search_state.specs.Readings.{IsLegalState}
use Rattle.learn_search.specs.declared.search.Found.{Found}
use Rattle.learn_search.specs.declared.search.Found.TheVariants as found

-- A trail and stored boxes, whose pins are in the pool, make a legal state with the answers given, which the rules have
-- newest first. Each variable's domain has just the value that the last answer has there.
pub record StandsLegally (p : Problem) (s : PoolState) (given : List (List Value)) (values : List Value) : Type 0 where
  pub layout : LayoutState
  pub kinds : layout.kinds ≡ p.kinds
  pub trail : TrailState
  pub boxes : List StoredBox
  pub pinned : AreHeld s (held trail ++ stored_sets boxes)
  pub answers : List (ℕ → Value)
  pub are : given ≡ reverse (map (values_of p) answers)
  pub legal : IsLegalState p layout (table s.arena) answers boxes trail
  pub last : ℕ → Value
  pub is_last : values_of p last ≡ values
  pub single : IsSingle (problem_of p) (family layout (table s.arena) trail.domains) last

-- so it stands after an answer
abbrev pub StandsAfter : Problem → PoolState → List (List Value) → Found → Type 0
StandsAfter p s given (found.Answer values) = StandsLegally p s given values.items
StandsAfter p s given found.Complete = ⊤
