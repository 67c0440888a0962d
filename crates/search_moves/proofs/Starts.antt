-- A trail of level 0 without entries by boxes is steps from the initial family.
use Rattle.std.proofs.Common.{◌≡◌, ℕ, ◌+◌, ◌<◌, ◌≤◌, Bool, List, [], ◌∷◌, refl, sym, subst, arith}
use Rattle.std.specs.List.{AllByRecursion}
use Rattle.search_rules.specs.Family.{put}
use Rattle.search_rules.specs.Problem.{Problem, IsNarrowed, IsPartOfStep, Steps, start, next}
use Rattle.search_rules.specs.Trail.{Reason, Decision, ByConstraint, ByBox, Entry, Stored, Replays, IsReason, HaveReasons, undo, top}
use Rattle.search_rules.proofs.FamilyLemmas.{put-put}

-- no entry was made by a box
abbrev pub NoneBy : {X : Type 0} → List (Entry X) → Type 0
NoneBy {X} es = AllByRecursion (λ e. (b : ℕ → X → Bool) → e.reason ≡ ByBox b → ⊥) es

by_constraint : {X : Type 0} (p : Problem X) (boxes : List (Stored X)) (r : Reason X) (g : ℕ → X → Bool) (v : ℕ) (s : X → Bool)
    → (r ≡ Decision → ⊥) → ((b : ℕ → X → Bool) → r ≡ ByBox b → ⊥) → IsReason p boxes r g v s
    → (c : ℕ) × (c < p.constraints) × IsNarrowed p c g v s
by_constraint p boxes Decision g v s made none reason = absurd (made refl)
by_constraint p boxes (ByConstraint c) g v s made none reason = (c, reason.0, reason.1)
by_constraint p boxes (ByBox b) g v s made none reason = absurd (none b refl)

-- a narrowing is a part of a step
abbrev pub PartsOfSteps : {X : Type 0} → Problem X → Type 0
PartsOfSteps {X} p = (c : ℕ) (f : ℕ → X → Bool) (v : ℕ) (s : X → Bool) → IsNarrowed p c f v s → IsPartOfStep p c f (put f v s)

pub steps_to : {X : Type 0} (p : Problem X) (boxes : List (Stored X)) (es : List (Entry X)) (f : ℕ → X → Bool) → PartsOfSteps p
    → Replays p es f → HaveReasons p boxes es f → top es ≡ 0 → NoneBy es → (cs : List ℕ) × Steps p p.initial cs f
steps_to {X} p boxes [] f parts replays reasons root none =
    ([], subst (λ (g : ℕ → X → Bool). Steps p p.initial [] g) (sym replays) start)
steps_to {X} p boxes (e ∷ es) f parts replays reasons root none =
    let low : top es ≤ e.level = replays.0.low in
    let lower : top es ≡ 0 = omega arith in
    let (cs, steps) = steps_to p boxes es (undo f e) parts replays.1 reasons.1 lower none.1 in
    let (c, known, narrowed) = by_constraint p boxes e.reason (undo f e) e.var (f e.var)
    (λ decision. let level : e.level ≡ top es + 1 = replays.0.decided decision in absurd (omega arith))
    none.0 reasons.0.made in (
      c ∷ cs,
      next steps known (subst (λ (g : ℕ → X → Bool). IsPartOfStep p c (undo f e) g) (put-put f e.var e.before)
          (parts c (undo f e) e.var (f e.var) narrowed)),
    )

pub none_by_box : {X : Type 0} (p : Problem X) (es : List (Entry X)) (f : ℕ → X → Bool) → HaveReasons p [] es f → NoneBy es
none_by_box p [] f reasons = tt
none_by_box {X} p (e ∷ es) f reasons = (
  λ b same. (subst (λ (r : Reason X). IsReason p [] r (undo f e) e.var (f e.var)) same reasons.0.made).0,
  none_by_box p es (undo f e) reasons.1,
)
