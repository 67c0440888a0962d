-- The trail: going back to a level, the levels of its entries, and sets that only grow on the way back.
use Rattle.std.proofs.Common.{◌≡◌, ℕ, ◌+◌, ◌<◌, ◌≤◌, ltb, Bool, List, [], ◌∷◌, length, refl, sym, ap, ◌∙◌, subst, inl, inr, arith}
use Rattle.std.proofs.lemmas.Bool.{lt-ltb, le-ltb, cases_lt, cond-true, cond-false}
use Rattle.search_rules.specs.Family.{Lies, AllLie}
use Rattle.search_rules.specs.Problem.{Problem}
use Rattle.search_rules.specs.Trail.{Entry, Stored, IsTrail, IsReplayed, Replays, HaveReasons, IsQuiet, undo, top, back, cut}
use Rattle.search_rules.proofs.FamilyLemmas.{put_each}

pub back-over : {X : Type 0} (k : ℕ) (e : Entry X) (es : List (Entry X)) (f : ℕ → X → Bool) → k < e.level
    → back k (e ∷ es) f ≡ back k es (undo f e)
back-over k e es f below = cond-true (ltb k e.level) (back k es (undo f e)) f (lt-ltb k e.level below)

pub back-stay : {X : Type 0} (k : ℕ) (e : Entry X) (es : List (Entry X)) (f : ℕ → X → Bool) → e.level ≤ k
    → back k (e ∷ es) f ≡ f
back-stay k e es f above = cond-false (ltb k e.level) (back k es (undo f e)) f (le-ltb k e.level above)

pub cut-over : {X : Type 0} (k : ℕ) (e : Entry X) (es : List (Entry X)) → k < e.level → cut k (e ∷ es) ≡ cut k es
cut-over k e es below = cond-true (ltb k e.level) (cut k es) (e ∷ es) (lt-ltb k e.level below)

pub cut-stay : {X : Type 0} (k : ℕ) (e : Entry X) (es : List (Entry X)) → e.level ≤ k → cut k (e ∷ es) ≡ e ∷ es
cut-stay k e es above = cond-false (ltb k e.level) (cut k es) (e ∷ es) (le-ltb k e.level above)

-- nothing is undone on the way to the newest level
pub back-top : {X : Type 0} (k : ℕ) (es : List (Entry X)) (f : ℕ → X → Bool) → top es ≤ k → back k es f ≡ f
back-top k [] f above = refl
back-top k (e ∷ es) f above = back-stay k e es f above

pub cut-top : {X : Type 0} (k : ℕ) (es : List (Entry X)) → top es ≤ k → cut k es ≡ es
cut-top k [] above = refl
cut-top k (e ∷ es) above = cut-stay k e es above

pub undo_grows : {X : Type 0} {p : Problem X} {e : Entry X} {es : List (Entry X)} {f : ℕ → X → Bool} → IsReplayed p e es f
    → AllLie f (undo f e)
undo_grows {X} {p} {e} {es} {f} step = put_each f e.var e.before (λ u t. Lies (f u) t) step.part.lies (λ u ne x has. has)

pub back_grows : {X : Type 0} (p : Problem X) (k : ℕ) (es : List (Entry X)) (f : ℕ → X → Bool) → Replays p es f
    → AllLie f (back k es f)
back_grows p k [] f replays = λ u x has. has
back_grows {X} p k (e ∷ es) f replays = elim (cases_lt k e.level) [
  | inl below ↦ subst (λ (g : ℕ → X → Bool). AllLie f g) (sym (back-over k e es f below))
      (λ u x has. back_grows p k es (undo f e) replays.1 u x (undo_grows replays.0 u x has))
  | inr above ↦ subst (λ (g : ℕ → X → Bool). AllLie f g) (sym (back-stay k e es f above)) (λ u x has. has)
]

-- a lower level is reached from a level above it
pub back-back : {X : Type 0} (p : Problem X) (j k : ℕ) (es : List (Entry X)) (f : ℕ → X → Bool) → Replays p es f → j ≤ k
    → back j (cut k es) (back k es f) ≡ back j es f
back-back p j k [] f replays le = refl
back-back {X} p j k (e ∷ es) f replays le = elim (cases_lt k e.level) [
  | inl below ↦
      let lower : j < e.level = omega arith in
      subst (λ (g : ℕ → X → Bool). back j (cut k (e ∷ es)) g ≡ back j (e ∷ es) f) (sym (back-over k e es f below))
      (subst (λ (rest : List (Entry X)). back j rest (back k es (undo f e)) ≡ back j (e ∷ es) f) (sym (cut-over k e es below))
      (back-back p j k es (undo f e) replays.1 le ∙ sym (back-over j e es f lower)))
  | inr above ↦
      subst (λ (g : ℕ → X → Bool). back j (cut k (e ∷ es)) g ≡ back j (e ∷ es) f) (sym (back-stay k e es f above))
      (subst (λ (rest : List (Entry X)). back j rest f ≡ back j (e ∷ es) f) (sym (cut-stay k e es above)) refl)
]

-- each level up to the newest is there: going back to `k` leaves the newest entries at `k`
pub top-cut : {X : Type 0} (p : Problem X) (k : ℕ) (es : List (Entry X)) (f : ℕ → X → Bool) → Replays p es f → k ≤ top es
    → top (cut k es) ≡ k
top-cut p k [] f replays le = let z : k ≡ 0 = omega arith in sym z
top-cut {X} p k (e ∷ es) f replays le = elim (cases_lt k e.level) [
  | inl below ↦
      let high : e.level ≤ top es + 1 = replays.0.high in
      let down : k ≤ top es = omega arith in
      ap top (cut-over k e es below) ∙ top-cut p k es (undo f e) replays.1 down
  | inr above ↦
      let same : e.level ≡ k = omega arith in
      ap top (cut-stay k e es above) ∙ same
]

-- each level above 0 has an entry of its own
pub top_low : {X : Type 0} (p : Problem X) (es : List (Entry X)) (f : ℕ → X → Bool) → Replays p es f → top es ≤ length es
top_low p [] f replays = omega arith
top_low p (e ∷ es) f replays =
    let high : e.level ≤ top es + 1 = replays.0.high in
    let low : top es ≤ length es = top_low p es (undo f e) replays.1 in
    omega arith

-- what is kept of a trail is a trail
pub cut_replays : {X : Type 0} (p : Problem X) (k : ℕ) (es : List (Entry X)) (f : ℕ → X → Bool) → Replays p es f
    → Replays p (cut k es) (back k es f)
cut_replays p k [] f replays = replays
cut_replays {X} p k (e ∷ es) f replays = elim (cases_lt k e.level) [
  | inl below ↦
      subst (λ (g : ℕ → X → Bool). Replays p (cut k (e ∷ es)) g) (sym (back-over k e es f below))
      (subst (λ (rest : List (Entry X)). Replays p rest (back k es (undo f e))) (sym (cut-over k e es below))
      (cut_replays p k es (undo f e) replays.1))
  | inr above ↦
      subst (λ (g : ℕ → X → Bool). Replays p (cut k (e ∷ es)) g) (sym (back-stay k e es f above))
      (subst (λ (rest : List (Entry X)). Replays p rest f) (sym (cut-stay k e es above)) replays)
]

pub cut_reasons : {X : Type 0} (p : Problem X) (boxes : List (Stored X)) (k : ℕ) (es : List (Entry X)) (f : ℕ → X → Bool)
    → HaveReasons p boxes es f → HaveReasons p boxes (cut k es) (back k es f)
cut_reasons p boxes k [] f reasons = reasons
cut_reasons {X} p boxes k (e ∷ es) f reasons = elim (cases_lt k e.level) [
  | inl below ↦
      subst (λ (g : ℕ → X → Bool). HaveReasons p boxes (cut k (e ∷ es)) g) (sym (back-over k e es f below))
      (subst (λ (rest : List (Entry X)). HaveReasons p boxes rest (back k es (undo f e))) (sym (cut-over k e es below))
      (cut_reasons p boxes k es (undo f e) reasons.1))
  | inr above ↦
      subst (λ (g : ℕ → X → Bool). HaveReasons p boxes (cut k (e ∷ es)) g) (sym (back-stay k e es f above))
      (subst (λ (rest : List (Entry X)). HaveReasons p boxes rest f) (sym (cut-stay k e es above)) reasons)
]

pub cut_trail : {X : Type 0} {p : Problem X} {boxes : List (Stored X)} {es : List (Entry X)} {f : ℕ → X → Bool} (k : ℕ)
    → IsTrail p boxes es f → IsTrail p boxes (cut k es) (back k es f)
cut_trail {X} {p} {boxes} {es} {f} k trail = record {
  replays = cut_replays p k es f trail.replays;
  reasons = cut_reasons p boxes k es f trail.reasons;
}

pub trail_rest : {X : Type 0} {p : Problem X} {boxes : List (Stored X)} {e : Entry X} {es : List (Entry X)} {f : ℕ → X → Bool}
    → IsTrail p boxes (e ∷ es) f → IsTrail p boxes es (undo f e)
trail_rest trail = record { replays = trail.replays.1; reasons = trail.reasons.1 }

-- a decision opened each level above 0, in a family that everything left as it is
pub quiet_below : {X : Type 0} (p : Problem X) (boxes : List (Stored X)) (es : List (Entry X)) (f : ℕ → X → Bool) (j : ℕ)
    → Replays p es f → HaveReasons p boxes es f → j < top es → IsQuiet p boxes (back j es f)
quiet_below p boxes [] f j replays reasons lt = absurd (omega arith)
quiet_below {X} p boxes (e ∷ es) f j replays reasons lt =
    subst (λ (g : ℕ → X → Bool). IsQuiet p boxes g) (sym (back-over j e es f lt))
    (elim (cases_lt j (top es)) [
      | inl below ↦ quiet_below p boxes es (undo f e) j replays.1 reasons.1 below
      | inr above ↦
          let high : e.level ≤ top es + 1 = replays.0.high in
          let opens : e.level ≡ top es + 1 = omega arith in
          subst (λ (g : ℕ → X → Bool). IsQuiet p boxes g) (sym (back-top j es (undo f e) above))
          (reasons.0.quiet (replays.0.opens opens))
    ])
