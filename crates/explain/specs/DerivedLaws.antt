-- What is known of walks and of the box that one derives: laws of the crates below, as one record. Words of private
-- helpers.
use Rattle.std.specs.Prelude.{◌≡◌, ℕ, ◌<◌, Bool, List}
use Rattle.set_meaning.specs.declared.kinds.Value.{Value}
use Rattle.set_meaning.specs.declared.problems.Problem.{Problem}
use Rattle.bit_layout.specs.Order.{LayoutState}
use Rattle.diagram_arena.specs.Table.{Table}
use Rattle.search_rules.specs.Family.{Leaves, AllLie, IsWithin}
use Rattle.search_rules.specs.Trail.{Entry, Stored, IsTrail, IsLearned, back, cut}
use Rattle.search_rules.specs.Walk.{IsConflictBox, Walk, Derives, IsBackLevel, IsNewestOther}
use Rattle.search_rules.specs.State.{IsExcluded}
use Rattle.exact_steps.specs.Domains.{family}
use Rattle.problem_rules.specs.Posed.{problem_of}
use Rattle.domain_trail.specs.Trail.{TrailState, IsUndoneTo}
use Rattle.box_clauses.specs.declared.store.StoredBox.{StoredBox}
use Rattle.search_state.specs.Readings.{entries_of, AreReadable, IsTrailOf}

-- of a walk, whether or not it stopped
pub record ExclusionLaws (p : Problem) : Type 0 where
  pub excluded : (boxes : List (Stored Value)) (es rest : List (Entry Value)) (f b g c : ℕ → Value → Bool)
      → IsTrail (problem_of p) boxes es f → IsConflictBox (problem_of p) boxes f b
      → Walk (problem_of p) es f b rest g c → (a : ℕ → Value) → IsWithin c a → IsExcluded (problem_of p) boxes a
  pub inside : (boxes : List (Stored Value)) (es rest : List (Entry Value)) (f b g c : ℕ → Value → Bool)
      → IsTrail (problem_of p) boxes es f → IsConflictBox (problem_of p) boxes f b
      → Walk (problem_of p) es f b rest g c → AllLie g c

-- of a walk that stopped above level 0, and of the way back
pub record TurnLaws (p : Problem) : Type 0 where
  pub newest : (boxes : List (Stored Value)) (es : List (Entry Value)) (f b : ℕ → Value → Bool) (l v k : ℕ)
      → IsTrail (problem_of p) boxes es f → (d : Derives (problem_of p) boxes es f b l v)
      → IsNewestOther d.rest b v k → IsBackLevel es f b v k
  pub below : (boxes : List (Stored Value)) (es : List (Entry Value)) (f b : ℕ → Value → Bool) (l v k : ℕ)
      → IsTrail (problem_of p) boxes es f → Derives (problem_of p) boxes es f b l v
      → IsBackLevel es f b v k → k < l
  pub families : (boxes : List (Stored Value)) (es : List (Entry Value)) (f b : ℕ → Value → Bool) (l v k : ℕ)
      → IsTrail (problem_of p) boxes es f → (d : Derives (problem_of p) boxes es f b l v) → k < l
      → back k d.rest d.reached ≡ back k es f
  pub entries : (boxes : List (Stored Value)) (es : List (Entry Value)) (f b : ℕ → Value → Bool) (l v k : ℕ)
      → IsTrail (problem_of p) boxes es f → (d : Derives (problem_of p) boxes es f b l v) → k < l
      → cut k d.rest ≡ cut k es
  pub is_new : (boxes : List (Stored Value)) (es : List (Entry Value)) (f b : ℕ → Value → Bool) (l v : ℕ)
      → IsTrail (problem_of p) boxes es f → Derives (problem_of p) boxes es f b l v
      → (c : ℕ → Value → Bool) → IsLearned boxes c → (u : ℕ) × Leaves (b u) (c u)
  pub undone_entries : (l : LayoutState) (t : Table) (stored : List StoredBox) (k : ℕ) (old new : TrailState)
      → IsUndoneTo k old new → entries_of l t stored new.entries ≡ cut k (entries_of l t stored old.entries)
  pub undone_family : (l : LayoutState) (t : Table) (stored : List StoredBox) (k : ℕ) (old new : TrailState)
      → IsUndoneTo k old new → AreReadable l t stored old
      → family l t new.domains ≡ back k (entries_of l t stored old.entries) (family l t old.domains)
  pub undone_trail : (l : LayoutState) (t : Table) (stored : List StoredBox) (k : ℕ) (old new : TrailState)
      → IsUndoneTo k old new → IsTrailOf p l t stored old → IsTrailOf p l t stored new
