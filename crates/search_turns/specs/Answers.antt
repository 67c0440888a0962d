-- Where a search goes on to after an answer. This project's own.
use Rattle.std.specs.Prelude.{◌≡◌, ℕ, List, ◌∷◌, ◌++◌}
use Rattle.set_meaning.specs.declared.kinds.Value.{Value}
use Rattle.set_meaning.specs.declared.problems.Problem.{Problem}
use Rattle.bit_layout.specs.Order.{LayoutState}
use Rattle.diagram_arena.specs.Table.{Table}
use Rattle.search_rules.specs.Problem.{IsSolution, IsCovered, IsSingle}
use Rattle.search_moves.specs.Answers.{HasBox}
use Rattle.exact_steps.specs.Domains.{family}
use Rattle.problem_rules.specs.Posed.{problem_of}
use Rattle.domain_trail.specs.Trail.{TrailState}
use Rattle.box_clauses.specs.declared.store.StoredBox.{StoredBox}
use Rattle.search_state.specs.Readings.{boxes_of, IsLegalState}
use Rattle.search_turns.specs.Outcomes.{IsSingleState}
use Rattle.search_turns.specs.declared.outcomes.Found.{Found}
use Rattle.search_turns.specs.declared.outcomes.Found.TheVariants as found

-- the answer that was given last is what the domains have alone, and with it the state is legal
pub record IsLegalAtAnswer (p : Problem) (l : LayoutState) (t : Table) (stored : List StoredBox)
    (trail : TrailState) : Type 0 where
  pub answers : List (ℕ → Value)
  pub last : ℕ → Value
  pub single : IsSingle (problem_of p) (family l t trail.domains) last
  pub legal : IsLegalState p l t (last ∷ answers) stored trail

-- The search went on after an answer from a state of the table t to one of the table u: the boxes that it had mean what
-- they meant, these came after them, and with whatever answers before that one the state was legal, it still is. The
-- answer has its box stored.
pub record IsResumed (p : Problem) (l : LayoutState) (t u : Table) (stored : List StoredBox) (trail : TrailState)
    (stored_now : List StoredBox) (trail_now : TrailState) : Type 0 where
  pub added : List StoredBox
  pub grown : stored_now ≡ stored ++ added
  pub boxes : boxes_of l u stored ≡ boxes_of l t stored
  pub legal : (answers : List (ℕ → Value)) (a : ℕ → Value) → IsSingle (problem_of p) (family l t trail.domains) a
      → IsLegalState p l t (a ∷ answers) stored trail → IsLegalState p l u (a ∷ answers) stored_now trail_now
  pub has_box : (a : ℕ → Value) → IsSingle (problem_of p) (family l t trail.domains) a
      → HasBox (problem_of p) (boxes_of l u stored_now) a

-- with whatever answers before that one the state is legal, these and that one cover every solution
abbrev pub IsExhaustedAfter : Problem → LayoutState → Table → List StoredBox → TrailState → Type 0
IsExhaustedAfter p l t stored trail =
    (answers : List (ℕ → Value)) (a : ℕ → Value) → IsSingle (problem_of p) (family l t trail.domains) a
    → IsLegalState p l t (a ∷ answers) stored trail
    → (c : ℕ → Value) → IsSolution (problem_of p) c → IsCovered (problem_of p) (a ∷ answers) c

-- what was found after an answer
abbrev pub IsFoundAfter :
    Problem → LayoutState → Table → Table → List StoredBox → TrailState → List StoredBox → TrailState → Found → Type 0
IsFoundAfter p l t u stored trail stored_now trail_now found.Single = IsSingleState p l u stored_now trail_now
IsFoundAfter p l t u stored trail stored_now trail_now found.Complete = IsExhaustedAfter p l t stored trail
