-- What holds of each kind of move.
use Rattle.std.proofs.Common.{◌≡◌, ℕ, ◌<◌, Bool, false}
use Rattle.search_rules.specs.Problem.{Problem}
use Rattle.search_rules.specs.Trail.{Reason, Decision, IsPart, IsReason, IsQuiet}
use Rattle.search_rules.specs.Walk.{Derives, IsBackLevel}
use Rattle.search_rules.specs.State.{IsSafe}
use Rattle.search_moves.specs.Moves.{SearchState, narrowed, decided, with_box, answered, turned, Advance, narrow, decide, turn, Move, advance, answer, store}

-- a fact of the state after each move towards the end
pub advance_cases : {X : Type 0} {p : Problem X} {s : SearchState X} (P : SearchState X → Type 0)
    → ((v : ℕ) (set : X → Bool) (reason : Reason X) → v < p.variables → IsPart set (s.family v) → (reason ≡ Decision → ⊥)
    → IsReason p s.boxes reason s.family v set → P (narrowed s v set reason))
    → ((v : ℕ) (set : X → Bool) → v < p.variables → IsPart set (s.family v) → p.decides s.family v set → IsQuiet p s.boxes s.family
    → P (decided s v set))
    → ((b : ℕ → X → Bool) (l v k : ℕ) → Derives p s.boxes s.entries s.family b l v → IsBackLevel s.entries s.family b v k
    → P (turned s b v k))
    → {t : SearchState X} → Advance p s t → P t
advance_cases P by_reason by_rule by_turn (narrow {v} {set} {reason} known part made why) = by_reason v set reason known part made why
advance_cases P by_reason by_rule by_turn (decide {v} {set} known part rule quiet) = by_rule v set known part rule quiet
advance_cases P by_reason by_rule by_turn (turn {b} {l} {v} {k} derives level) = by_turn b l v k derives level

-- a fact of the state after each move
pub move_cases : {X : Type 0} {p : Problem X} {s : SearchState X} (P : SearchState X → Type 0)
    → ((t : SearchState X) → Advance p s t → P t)
    → ((a : ℕ → X) → P (answered s a))
    → ((b : ℕ → X → Bool) → IsSafe p s.answers b → P (with_box s b false))
    → {t : SearchState X} → Move p s t → P t
move_cases P by_advance by_answer by_box (advance {t} step) = by_advance t step
move_cases P by_advance by_answer by_box (answer {a}) = by_answer a
move_cases P by_advance by_answer by_box (store {b} safe) = by_box b safe
