-- The moves of the search, each from one state to the next.
-- Source: this project's own.
use Rattle.std.specs.Prelude.{◌≡◌, ℕ, ◌<◌, Bool, true, false, List, ◌∷◌}
use Rattle.search_rules.specs.Family.{put, without}
use Rattle.search_rules.specs.Problem.{Problem}
use Rattle.search_rules.specs.Trail.{Reason, Decision, ByBox, Entry, Stored, IsPart, IsReason, IsQuiet}
use Rattle.search_rules.specs.Trail.{back, cut, narrowing_entry, decision_entry}
use Rattle.search_rules.specs.Walk.{Derives, IsBackLevel}
use Rattle.search_rules.specs.State.{IsSafe}

-- what the rules see of a search: the answers, the stored boxes and the entries, each newest first, and the family
pub record SearchState (X : Type 0) : Type 0 where
  pub answers : List (ℕ → X)
  pub boxes : List (Stored X)
  pub entries : List (Entry X)
  pub family : ℕ → X → Bool

-- the set of `v` made smaller, to `set`, at the newest level
abbrev pub narrowed : {X : Type 0} → SearchState X → ℕ → (X → Bool) → Reason X → SearchState X
narrowed s v set reason = record s {
  entries = narrowing_entry s.entries s.family v reason ∷ s.entries;
  family = put s.family v set;
}

-- the same by a decision, which opens a level
abbrev pub decided : {X : Type 0} → SearchState X → ℕ → (X → Bool) → SearchState X
decided s v set = record s { entries = decision_entry s.entries s.family v ∷ s.entries; family = put s.family v set }

-- one more stored box; the end of level `k`; one more answer
abbrev pub with_box : {X : Type 0} → SearchState X → (ℕ → X → Bool) → Bool → SearchState X
with_box s b learned = record s { boxes = record { sides = b; learned = learned } ∷ s.boxes }

abbrev pub gone_back : {X : Type 0} → SearchState X → ℕ → SearchState X
gone_back s k = record s { entries = cut k s.entries; family = back k s.entries s.family }

abbrev pub answered : {X : Type 0} → SearchState X → (ℕ → X) → SearchState X
answered s a = record s { answers = a ∷ s.answers }

-- the box learned, the search gone back to the end of level `k`, and the set of `v` narrowed there by the box
abbrev pub turned : {X : Type 0} → SearchState X → (ℕ → X → Bool) → ℕ → ℕ → SearchState X
turned s b v k =
    narrowed (gone_back (with_box s b true) k) v (without (back k s.entries s.family v) (b v)) (ByBox b)

-- A move towards the end of the search: a narrowing for a reason that holds, a decision by the branching rule where
-- everything leaves the family as it is, or the whole turn of a conflict.
pub data Advance {X : Type 0} (p : Problem X) (s : SearchState X) : SearchState X → Type 0 where
  narrow : {v : ℕ} {set : X → Bool} {reason : Reason X} → v < p.variables → IsPart set (s.family v)
      → (reason ≡ Decision → ⊥) → IsReason p s.boxes reason s.family v set → Advance p s (narrowed s v set reason)
  decide : {v : ℕ} {set : X → Bool} → v < p.variables → IsPart set (s.family v) → p.decides s.family v set
      → IsQuiet p s.boxes s.family → Advance p s (decided s v set)
  turn : {b : ℕ → X → Bool} {l v k : ℕ} → Derives p s.boxes s.entries s.family b l v
      → IsBackLevel s.entries s.family b v k → Advance p s (turned s b v k)

-- A move of the search: such a one, an answer given, or an unmarked box stored that holds no solution which the answers
-- do not cover.
pub data Move {X : Type 0} (p : Problem X) (s : SearchState X) : SearchState X → Type 0 where
  advance : {t : SearchState X} → Advance p s t → Move p s t
  answer : {a : ℕ → X} → Move p s (answered s a)
  store : {b : ℕ → X → Bool} → IsSafe p s.answers b → Move p s (with_box s b false)
