-- What is known of the crates below: their laws, as one record. Words of private helpers.
use Rattle.std.specs.Prelude.{◌≡◌, ◌↔◌, ℕ, ◌+◌, ◌<◌, ◌≤◌, Bool, true, false, List, [], ◌∷◌, ◌++◌}
use Rattle.std.specs.Prelude.{Some, length, All, slice_get, slice_set}
use Rattle.set_meaning.specs.declared.kinds.Value.{Value}
use Rattle.set_meaning.specs.declared.problems.VarId.{VarId}
use Rattle.set_meaning.specs.declared.problems.BoxId.{BoxId}
use Rattle.set_meaning.specs.declared.problems.Constraint.{Constraint}
use Rattle.set_meaning.specs.declared.problems.Problem.{Problem}
use Rattle.bit_layout.specs.Order.{LayoutState}
use Rattle.diagram_arena.specs.declared.nodes.Ref.{Ref}
use Rattle.diagram_arena.specs.Table.{Table, IsLive}
use Rattle.diagram_arena.specs.Arena.{Grows}
use Rattle.node_reclaim.specs.Holders.{MeansTheSame}
use Rattle.set_meaning.specs.Problems.{IsProblem}
use Rattle.set_meaning.specs.Relations.{Holds, IsScope}
use Rattle.search_rules.specs.Family.{HasValue, IsWithin, put, without}
use Rattle.search_rules.specs.Problem.{IsLeft, IsSolution, IsCovered}
use Rattle.search_rules.specs.Box.{IsBoxNarrowed}
use Rattle.search_rules.specs.Trail as rules
use Rattle.search_rules.specs.Walk.{Walk, Stops, Derives, DerivesAtRoot, IsBackLevel}
use Rattle.search_rules.specs.State.{IsLegal, IsSafe}
use Rattle.problem_rules.specs.Posed.{problem_of}
use Rattle.exact_steps.specs.Rules.{IsConstraintOf}
use Rattle.exact_steps.specs.Domains.{values_in, IsDomain, AreDomains, family}
use Rattle.value_sets.specs.Sets.{IsValueSet}
use Rattle.propagators.specs.Compiled.{CompiledState, pinned_by, IsCompiled}
use Rattle.domain_trail.specs.declared.entries.Entry.{Entry}
use Rattle.domain_trail.specs.declared.entries.Reason.TheVariants as why
use Rattle.domain_trail.specs.Trail as trail
use Rattle.domain_trail.specs.Trail.{TrailState, befores, held}
use Rattle.box_clauses.specs.declared.sides.Side.{Side}
use Rattle.box_clauses.specs.declared.store.StoredBox.{StoredBox}
use Rattle.box_clauses.specs.Sides.{sets_of}
use Rattle.box_clauses.specs.Boxes.{box_of, AreSides}
use Rattle.box_clauses.specs.Stored.{stored_sets, stored as stored_box}
use Rattle.search_state.specs.Readings.{sides_at, stored_of, boxes_of, entries_of, AreReadable, IsTrailOf, IsLegalState}
use Rattle.search_state.specs.Turns.{measure_of, CanNarrow, IsTurn, HasGoneBack}

pub record LowerLaws : Type 0 where
  -- value sets
  pub domain_is : (l : LayoutState) (t : Table) (v : VarId) (r : Ref)
      → IsDomain l t v r ↔ (IsValueSet l t v r × HasValue (values_in l t v r))
  pub set_grown : (l : LayoutState) (t u : Table) (v : VarId) (r : Ref) → Grows t u → IsValueSet l t v r
      → IsValueSet l u v r × (values_in l u v r ≡ values_in l t v r)
  pub domain_put : (l : LayoutState) (t u : Table) (domains : List Ref) (v : VarId) (r : Ref) → Grows t u
      → AreDomains l t domains → v.0 < length domains → IsDomain l u v r → AreDomains l u (slice_set domains v.0 r)
  pub family_put : (l : LayoutState) (t u : Table) (domains : List Ref) (v : VarId) (r : Ref) → Grows t u
      → AreDomains l t domains → v.0 < length domains
      → family l u (slice_set domains v.0 r) ≡ put (family l t domains) v.0 (values_in l u v r)
  -- readings in another table
  pub domains_stay : (l : LayoutState) (t u : Table) (domains : List Ref) → MeansTheSame t u domains
      → AreDomains l t domains → AreDomains l u domains
  pub family_stays : (l : LayoutState) (t u : Table) (domains : List Ref) → MeansTheSame t u domains
      → family l u domains ≡ family l t domains
  pub sides_stay : (l : LayoutState) (t u : Table) (sides : List Side) → MeansTheSame t u (sets_of sides)
      → AreSides l t sides → AreSides l u sides
  pub box_stays : (l : LayoutState) (t u : Table) (sides : List Side) → MeansTheSame t u (sets_of sides)
      → box_of l u sides ≡ box_of l t sides
  pub under_stays : (l : LayoutState) (t u : Table) (stored : List StoredBox) (id : ℕ)
      → MeansTheSame t u (stored_sets stored) → box_of l u (sides_at stored id) ≡ box_of l t (sides_at stored id)
  pub boxes_stay : (l : LayoutState) (t u : Table) (stored : List StoredBox) → MeansTheSame t u (stored_sets stored)
      → boxes_of l u stored ≡ boxes_of l t stored
  pub entries_stay : (l : LayoutState) (t u : Table) (stored : List StoredBox) (entries : List Entry)
      → MeansTheSame t u (befores entries) → MeansTheSame t u (stored_sets stored)
      → entries_of l u stored entries ≡ entries_of l t stored entries
  pub readable_stays : (l : LayoutState) (t u : Table) (stored : List StoredBox) (s : TrailState)
      → MeansTheSame t u (held s) → MeansTheSame t u (stored_sets stored)
      → AreReadable l t stored s → AreReadable l u stored s
  pub trail_stays : (p : Problem) (l : LayoutState) (t u : Table) (stored : List StoredBox) (s : TrailState)
      → MeansTheSame t u (held s) → MeansTheSame t u (stored_sets stored)
      → IsTrailOf p l t stored s → IsTrailOf p l u stored s
  pub state_stays : (p : Problem) (l : LayoutState) (t u : Table) (answers : List (ℕ → Value))
      (stored : List StoredBox) (s : TrailState) → MeansTheSame t u (held s) → MeansTheSame t u (stored_sets stored)
      → IsLegalState p l t answers stored s → IsLegalState p l u answers stored s
  pub live : (l : LayoutState) (t : Table) (stored : List StoredBox) (s : TrailState) → AreReadable l t stored s
      → All (IsLive t) (held s) × All (IsLive t) (stored_sets stored)
  pub grown : (t u : Table) (refs : List Ref) → Grows t u → All (IsLive t) refs → MeansTheSame t u refs
  pub compiled_stays : (l : LayoutState) (p : Problem) (t u : Table) (k : CompiledState)
      → MeansTheSame t u (pinned_by k) → IsCompiled l p t k → IsCompiled l p u k
  -- a longer store
  pub boxes_added : (l : LayoutState) (t : Table) (stored : List StoredBox) (added : StoredBox)
      → boxes_of l t (stored ++ added ∷ []) ≡ stored_of l t added ∷ boxes_of l t stored
  pub entries_added : (l : LayoutState) (t : Table) (stored : List StoredBox) (added : StoredBox) (s : TrailState)
      → AreReadable l t stored s → entries_of l t (stored ++ added ∷ []) s.entries ≡ entries_of l t stored s.entries
  pub readable_added : (l : LayoutState) (t : Table) (stored : List StoredBox) (added : StoredBox) (s : TrailState)
      → AreReadable l t stored s → AreSides l t added.sides → AreReadable l t (stored ++ added ∷ []) s

-- what is known of turns of a search of the problem
pub record TurnLaws (p : Problem) : Type 0 where
  -- trails and walks
  pub known : (boxes : List (rules.Stored Value)) (es : List (rules.Entry Value)) (f b : ℕ → Value → Bool) (k v : ℕ)
      → rules.IsTrail (problem_of p) boxes es f → Derives (problem_of p) boxes es f b k v → v < length p.kinds
  pub narrows : (boxes : List (rules.Stored Value)) (es : List (rules.Entry Value)) (f b : ℕ → Value → Bool)
      (l v k : ℕ) → rules.IsTrail (problem_of p) boxes es f → Derives (problem_of p) boxes es f b l v
      → IsBackLevel es f b v k
      → IsBoxNarrowed b (rules.back k es f) v (without (rules.back k es f v) (b v))
  pub below : (boxes : List (rules.Stored Value)) (es : List (rules.Entry Value)) (f b : ℕ → Value → Bool)
      (l v k : ℕ) → rules.IsTrail (problem_of p) boxes es f → Derives (problem_of p) boxes es f b l v
      → IsBackLevel es f b v k → k < l
  pub stop_level : (boxes : List (rules.Stored Value)) (es : List (rules.Entry Value)) (f b : ℕ → Value → Bool)
      (l v : ℕ) → rules.IsTrail (problem_of p) boxes es f → Stops es b l v → l ≤ rules.top es
  pub walk_trail : (boxes : List (rules.Stored Value)) (es rest : List (rules.Entry Value))
      (f b g c : ℕ → Value → Bool) → rules.IsTrail (problem_of p) boxes es f
      → Walk (problem_of p) es f b rest g c → rules.IsTrail (problem_of p) boxes rest g
  pub covered : (answers : List (ℕ → Value)) (boxes : List (rules.Stored Value)) (es : List (rules.Entry Value))
      (f b : ℕ → Value → Bool) → IsLegal (problem_of p) answers boxes es f → DerivesAtRoot (problem_of p) boxes es f b
      → (a : ℕ → Value) → IsSolution (problem_of p) a → IsCovered (problem_of p) answers a
  pub quiet_below : (boxes : List (rules.Stored Value)) (es : List (rules.Entry Value)) (f : ℕ → Value → Bool) (k : ℕ)
      → rules.IsTrail (problem_of p) boxes es f → k < rules.top es
      → rules.IsQuiet (problem_of p) boxes (rules.back k es f)
  pub left_outside : (c : ℕ) (f : ℕ → Value → Bool) (v : ℕ) (s : Value → Bool) → (problem_of p).scope c v ≡ false
      → IsLeft (problem_of p) c f → IsLeft (problem_of p) c (put f v s)
  -- states
  pub learned : (l : LayoutState) (t u : Table) (answers : List (ℕ → Value)) (stored : List StoredBox)
      (old new : TrailState) (sides : List Side) (line v k : ℕ)
      → IsLegalState p l t answers stored old → IsTurn p l t stored old (box_of l u sides) v k
      → HasGoneBack l t u stored k old new → IsTrailOf p l u stored new → AreSides l u sides
      → IsLegalState p l u answers (stored ++ stored_box sides line true ∷ []) new
  pub narrowed : (l : LayoutState) (t u : Table) (answers : List (ℕ → Value)) (stored : List StoredBox)
      (old new : TrailState) (sides : List Side) (line k : ℕ) (v : VarId) (to : Ref) (id : BoxId)
      → l.kinds ≡ p.kinds → IsLegalState p l t answers stored old
      → IsTurn p l t stored old (box_of l u sides) v.0 k → HasGoneBack l t u stored k old new
      → IsTrailOf p l u stored new → AreSides l u sides → IsDomain l u v to
      → values_in l u v to ≡ without (family l u new.domains v.0) (box_of l u sides v.0) → id.0 ≡ length stored
      → let now = stored ++ stored_box sides line true ∷ [] in
      let after = trail.narrowed new v to (why.Box id) in
      IsLegalState p l u answers now after × (measure_of p l u now after < measure_of p l t stored old)
  pub safe : (l : LayoutState) (t : Table) (answers : List (ℕ → Value)) (stored : List StoredBox)
      (s : TrailState) (sides : List Side) (line : ℕ) → IsLegalState p l t answers stored s
      → AreSides l t sides → IsSafe (problem_of p) answers (box_of l t sides)
      → IsLegalState p l t answers (stored ++ stored_box sides line false ∷ []) s
  pub decided : (l : LayoutState) (t : Table) (answers : List (ℕ → Value)) (stored : List StoredBox)
      (s : TrailState) (v : VarId) (to : Ref)
      → l.kinds ≡ p.kinds → IsLegalState p l t answers stored s → CanNarrow l t s v to
      → (problem_of p).decides (family l t s.domains) v.0 (values_in l t v to)
      → rules.IsQuiet (problem_of p) (boxes_of l t stored) (family l t s.domains)
      → let after = trail.narrowed (record s { level = s.level + 1 }) v to why.Decision in
      IsLegalState p l t answers stored after
      × (measure_of p l t stored after < measure_of p l t stored s)
  -- answers and constraints
  pub learned_are_stored : (l : LayoutState) (t : Table) (stored : List StoredBox) (b : ℕ → Value → Bool)
      → rules.IsLearned (boxes_of l t stored) b → rules.IsStored (boxes_of l t stored) b
  pub posed : (l : LayoutState) (c : ℕ) (constraint : Constraint) (scope : List VarId) → IsProblem p → l.kinds ≡ p.kinds
      → slice_get p.constraints c ≡ Some constraint → IsScope constraint scope
      → IsConstraintOf (problem_of p) c l scope (Holds constraint)
  pub safe_of_answer : (answers : List (ℕ → Value)) (answer : ℕ → Value) (b : ℕ → Value → Bool)
      → ((a : ℕ → Value) → IsSolution (problem_of p) a → IsWithin b a → (problem_of p).covers answer a)
      → IsSafe (problem_of p) (answer ∷ answers) b
