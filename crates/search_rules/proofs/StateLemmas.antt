-- The legal state: what narrowings, decisions, answer boxes and a conflict's turn leave of it.
use Rattle.std.proofs.Common.{◌≡◌, ℕ, ◌+◌, ◌<◌, ◌≤◌, Bool, true, false, not, ◌&&◌, List, [], ◌∷◌, refl, sym, ap, ◌∙◌, subst, inl, inr, arith}
use Rattle.std.proofs.lemmas.Bool.{and_parts, and_from, false≢true}
use Rattle.search_rules.specs.Family.{IsWithin, put, without}
use Rattle.search_rules.specs.Problem.{Problem, IsSolution, IsCovered}
use Rattle.search_rules.specs.Box.{IsBoxNarrowed, IsBoxSame, AreTwoOutside}
use Rattle.search_rules.specs.Trail.{Reason, Decision, ByConstraint, ByBox, Entry, Stored, IsTrail, IsPart, Replays, IsReason, HaveReasons, IsQuiet, undo, top, back, cut, narrowing_entry, decision_entry}
use Rattle.search_rules.specs.Walk.{Derives, DerivesAtRoot, IsBackLevel}
use Rattle.search_rules.specs.State.{IsSafe, IsLegal}
use Rattle.search_rules.proofs.FamilyLemmas.{put-same, put-put}
use Rattle.search_rules.proofs.TrailLemmas.{back-over, back-top, back-back, cut_trail, top-cut}
use Rattle.search_rules.proofs.WalkLemmas.{walk_trail, walk_holds, walk_excludes, conflict_holds, conflict_excludes, excluded_covered, replays_within}
use Rattle.search_rules.proofs.LearnLemmas.{some_known, IsStop, stop_of, back_below, derived_narrows, two_below}
use Rattle.search_rules.specs.Measure.{measure}
use Rattle.search_rules.proofs.MeasureLemmas.{entry_falls, back_falls}

-- a reason stays one where boxes are added
pub reason_with : {X : Type 0} (p : Problem X) (boxes : List (Stored X)) (s : Stored X) (r : Reason X) (g : ℕ → X → Bool) (v : ℕ) (t : X → Bool)
    → IsReason p boxes r g v t → IsReason p (s ∷ boxes) r g v t
reason_with p boxes s Decision g v t made = made
reason_with p boxes s (ByConstraint c) g v t made = made
reason_with p boxes s (ByBox b) g v t made = (inr made.0, made.1)

-- the reasons stay where a learned box is added of which two sets are outside below the newest level
pub reasons_with_learned : {X : Type 0} (p : Problem X) (boxes : List (Stored X)) (b : ℕ → X → Bool) (es : List (Entry X)) (f : ℕ → X → Bool)
    → Replays p es f → HaveReasons p boxes es f → ((j : ℕ) → j < top es → AreTwoOutside b (back j es f))
    → HaveReasons p (record { sides = b; learned = true } ∷ boxes) es f
reasons_with_learned p boxes b [] f replays reasons two = tt
reasons_with_learned {X} p boxes b (e ∷ es) f replays reasons two = (
  record {
    made = reason_with p boxes (record { sides = b; learned = true }) e.reason (undo f e) e.var (f e.var) reasons.0.made;
    quiet = λ decision.
        let level : e.level ≡ top es + 1 = replays.0.decided decision in
        let below : top es < e.level = omega arith in
        let here : AreTwoOutside b (undo f e) =
        subst (λ (g : ℕ → X → Bool). AreTwoOutside b g)
        (back-over (top es) e es f below ∙ back-top (top es) es (undo f e) (omega arith)) (two (top es) below) in
        record {
          constraints = (reasons.0.quiet decision).constraints;
          learned = λ c learned. elim learned [
            | inl this ↦ subst (λ (d : ℕ → X → Bool). IsBoxSame d (undo f e)) this.1 (inl here)
            | inr earlier ↦ (reasons.0.quiet decision).learned c earlier
          ];
        };
  },
  reasons_with_learned p boxes b es (undo f e) replays.1 reasons.1
      (λ j lt.
      let low : top es ≤ e.level = replays.0.low in
      let below : j < e.level = omega arith in
      subst (λ (g : ℕ → X → Bool). AreTwoOutside b g) (back-over j e es f below) (two j below)),
)

-- the reasons stay where a box is added that is not learned
pub reasons_with_answer : {X : Type 0} (p : Problem X) (boxes : List (Stored X)) (b : ℕ → X → Bool) (es : List (Entry X)) (f : ℕ → X → Bool)
    → HaveReasons p boxes es f → HaveReasons p (record { sides = b; learned = false } ∷ boxes) es f
reasons_with_answer p boxes b [] f reasons = tt
reasons_with_answer {X} p boxes b (e ∷ es) f reasons = (
  record {
    made = reason_with p boxes (record { sides = b; learned = false }) e.reason (undo f e) e.var (f e.var) reasons.0.made;
    quiet = λ decision. record {
      constraints = (reasons.0.quiet decision).constraints;
      learned = λ c learned. elim learned [
        | inl this ↦ absurd (false≢true this.0)
        | inr earlier ↦ (reasons.0.quiet decision).learned c earlier
      ];
    };
  },
  reasons_with_answer p boxes b es (undo f e) reasons.1,
)

-- an entry of a proper part that undoes to the trail's family is replayed
pub replays_with : {X : Type 0} (p : Problem X) (es : List (Entry X)) (f : ℕ → X → Bool) (v : ℕ) (s : X → Bool) → Replays p es f
    → Replays p es (put (put f v s) v (f v))
replays_with {X} p es f v s replays = subst (λ (g : ℕ → X → Bool). Replays p es g) (sym (put-put f v s)) replays

-- the trail with a narrowing
pub trail_narrowed : {X : Type 0} {p : Problem X} {boxes : List (Stored X)} {es : List (Entry X)} {f : ℕ → X → Bool} {v : ℕ} {s : X → Bool} {r : Reason X}
    → IsTrail p boxes es f → v < p.variables → IsPart s (f v) → (r ≡ Decision → ⊥) → IsReason p boxes r f v s
    → IsTrail p boxes (narrowing_entry es f v r ∷ es) (put f v s)
trail_narrowed {X} {p} {boxes} {es} {f} {v} {s} {r} trail known part made reason = record {
  replays = (
    record {
      known = known;
      part = subst (λ (t : X → Bool). IsPart t (f v)) (sym (put-same f v s)) part;
      low = omega arith;
      high = omega arith;
      decided = λ decision. absurd (made decision);
      opens = λ level. absurd (omega arith);
    },
    replays_with p es f v s trail.replays,
  );
  reasons = (
    record {
      made = subst (λ (g : ℕ → X → Bool). IsReason p boxes r g v (put f v s v)) (sym (put-put f v s))
          (subst (λ (t : X → Bool). IsReason p boxes r f v t) (sym (put-same f v s)) reason);
      quiet = λ decision. absurd (made decision);
    },
    subst (λ (g : ℕ → X → Bool). HaveReasons p boxes es g) (sym (put-put f v s)) trail.reasons,
  );
}

-- the trail with a decision, where everything leaves the family as it is
pub trail_decided : {X : Type 0} {p : Problem X} {boxes : List (Stored X)} {es : List (Entry X)} {f : ℕ → X → Bool} {v : ℕ} {s : X → Bool}
    → IsTrail p boxes es f → v < p.variables → IsPart s (f v) → p.decides f v s → IsQuiet p boxes f
    → IsTrail p boxes (decision_entry es f v ∷ es) (put f v s)
trail_decided {X} {p} {boxes} {es} {f} {v} {s} trail known part rule quiet = record {
  replays = (
    record {
      known = known;
      part = subst (λ (t : X → Bool). IsPart t (f v)) (sym (put-same f v s)) part;
      low = omega arith;
      high = omega arith;
      decided = λ decision. refl;
      opens = λ level. refl;
    },
    replays_with p es f v s trail.replays,
  );
  reasons = (
    record {
      made = subst (λ (g : ℕ → X → Bool). p.decides g v (put f v s v)) (sym (put-put f v s))
          (subst (λ (t : X → Bool). p.decides f v t) (sym (put-same f v s)) rule);
      quiet = λ decision. subst (λ (g : ℕ → X → Bool). IsQuiet p boxes g) (sym (put-put f v s)) quiet;
    },
    subst (λ (g : ℕ → X → Bool). HaveReasons p boxes es g) (sym (put-put f v s)) trail.reasons,
  );
}

-- what a narrowing by a box leaves is a non-empty proper part
pub box_part : {X : Type 0} {b f : ℕ → X → Bool} {v : ℕ} → IsBoxNarrowed b f v (without (f v) (b v)) → IsPart (without (f v) (b v)) (f v)
box_part {X} {b} {f} {v} narrowed = record {
  lies = λ x has. (and_parts (f v x) (not (b v x)) has).0;
  proper = (narrowed.inside.0, narrowed.inside.1, lost);
  has_value = (narrowed.outside.0, and_from (f v narrowed.outside.0) (not (b v narrowed.outside.0)) narrowed.outside.1 (ap not narrowed.outside.2));
}
  where
    lost : without (f v) (b v) narrowed.inside.0 ≡ false
    lost = ap (λ t. f v narrowed.inside.0 && not t) narrowed.inside.2 ∙ elim (f v narrowed.inside.0) as (λ t. (t && false) ≡ false) [ true ↦ refl | false ↦ refl ]

-- the trail at the level gone back to, with the learned box
pub trail_with_learned : {X : Type 0} {p : Problem X} {boxes : List (Stored X)} {es : List (Entry X)} {f b : ℕ → X → Bool} {l v k : ℕ}
    → IsTrail p boxes es f → IsStop p boxes es f b l v → IsBackLevel es f b v k
    → IsTrail p (record { sides = b; learned = true } ∷ boxes) (cut k es) (back k es f)
trail_with_learned {X} {p} {boxes} {es} {f} {b} {l} {v} {k} trail stop level =
    let kept : IsTrail p boxes (cut k es) (back k es f) = cut_trail k trail in
    let below : k < l = back_below stop level in
    let high : l ≤ top stop.rest = stop.high in
    let low : top stop.rest ≤ top es = stop.low in
    let newest : top (cut k es) ≡ k = top-cut p k es f trail.replays (omega arith) in
    record {
      replays = kept.replays;
      reasons = reasons_with_learned p boxes b (cut k es) (back k es f) kept.replays kept.reasons
          (λ j lt.
          let lower : j < k = omega arith in
          let le : j ≤ k = omega arith in
          subst (λ (g : ℕ → X → Bool). AreTwoOutside b g) (sym (back-back p j k es f trail.replays le)) (two_below stop level j lower));
    }

-- each solution in a derived box is covered
pub derived_safe : {X : Type 0} {p : Problem X} {boxes : List (Stored X)} {answers : List (ℕ → X)} {es : List (Entry X)} {f b : ℕ → X → Bool} {l v : ℕ}
    → IsLegal p answers boxes es f → Derives p boxes es f b l v → IsSafe p answers b
derived_safe {X} {p} {boxes} {answers} legal d a solution within =
    excluded_covered p boxes answers a legal.safe solution
    (walk_excludes legal.trail (conflict_excludes d.conflict) d.walk a within)

-- where the walk passes the first entry, its box holds every assignment
pub root_holds : {X : Type 0} {p : Problem X} {boxes : List (Stored X)} {es : List (Entry X)} {f b : ℕ → X → Bool}
    → IsTrail p boxes es f → DerivesAtRoot p boxes es f b → (a : ℕ → X) → IsWithin p.initial a → IsWithin b a
root_holds {X} {p} {boxes} {es} {f} {b} trail d a within v =
    walk_holds trail (conflict_holds (replays_within p es f trail.replays) d.conflict) d.walk v (a v)
    (subst (λ (g : ℕ → X → Bool). g v (a v) ≡ true) (sym (walk_trail trail d.walk).replays) (within v))

pub root_covers : {X : Type 0} {p : Problem X} {boxes : List (Stored X)} {answers : List (ℕ → X)} {es : List (Entry X)} {f b : ℕ → X → Bool}
    → IsLegal p answers boxes es f → DerivesAtRoot p boxes es f b → (a : ℕ → X) → IsSolution p a → IsCovered p answers a
root_covers {X} {p} {boxes} {answers} {es} {f} {b} legal d a solution =
    excluded_covered p boxes answers a legal.safe solution
    (walk_excludes legal.trail (conflict_excludes d.conflict) d.walk a (root_holds legal.trail d a solution.initial))

-- one turn of a conflict: walk, learn, go back, narrow
pub turn_legal : {X : Type 0} {p : Problem X} {boxes : List (Stored X)} {answers : List (ℕ → X)} {es : List (Entry X)} {f b : ℕ → X → Bool} {l v k : ℕ}
    → IsLegal p answers boxes es f → Derives p boxes es f b l v → IsBackLevel es f b v k
    → IsLegal p answers (record { sides = b; learned = true } ∷ boxes)
    (narrowing_entry (cut k es) (back k es f) v (ByBox b) ∷ cut k es) (put (back k es f) v (without (back k es f v) (b v)))
turn_legal {X} {p} {boxes} {answers} {es} {f} {b} {l} {v} {k} legal d level = record {
  trail = trail_narrowed (trail_with_learned legal.trail stop level)
      (some_known p d.rest d.reached b l v (walk_trail legal.trail d.walk).replays d.stops.some)
      (box_part (derived_narrows stop level))
      (λ same. cc)
      (inl refl, derived_narrows stop level);
  safe = λ c stored. elim stored [
    | inl this ↦ subst (λ (q : ℕ → X → Bool). IsSafe p answers q) this (derived_safe legal d)
    | inr earlier ↦ legal.safe c earlier
  ];
  walked = (
    (λ _. record {
      entries = es;
      family = f;
      trail = legal.trail;
      last = b;
      level = l;
      var = v;
      derives = d;
      alike = λ a within. ((λ has. has), (λ has. has));
    }),
    legal.walked,
  );
}
  where
    stop : IsStop p boxes es f b l v
    stop = stop_of legal.trail d

-- a further answer
pub answer_legal : {X : Type 0} {p : Problem X} {boxes : List (Stored X)} {answers : List (ℕ → X)} {es : List (Entry X)} {f : ℕ → X → Bool}
    (answer : ℕ → X) → IsLegal p answers boxes es f → IsLegal p (answer ∷ answers) boxes es f
answer_legal answer legal =
    record { trail = legal.trail; safe = λ c stored a solution within. inr (legal.safe c stored a solution within); walked = legal.walked }

-- a safe box stored, unmarked
pub safe_box_legal : {X : Type 0} {p : Problem X} {boxes : List (Stored X)} {answers : List (ℕ → X)} {es : List (Entry X)} {f : ℕ → X → Bool}
    (b : ℕ → X → Bool) → IsLegal p answers boxes es f → IsSafe p answers b
    → IsLegal p answers (record { sides = b; learned = false } ∷ boxes) es f
safe_box_legal {X} {p} {boxes} {answers} {es} {f} b legal safe = record {
  trail = record { replays = legal.trail.replays; reasons = reasons_with_answer p boxes b es f legal.trail.reasons };
  safe = λ c stored. elim stored [
    | inl this ↦ subst (λ (q : ℕ → X → Bool). IsSafe p answers q) this safe
    | inr earlier ↦ legal.safe c earlier
  ];
  walked = ((λ learned. absurd (false≢true learned)), legal.walked);
}

-- the learned box added at the level gone back to
pub learned_legal : {X : Type 0} {p : Problem X} {boxes : List (Stored X)} {answers : List (ℕ → X)} {es : List (Entry X)} {f b : ℕ → X → Bool} {l v k : ℕ}
    → IsLegal p answers boxes es f → Derives p boxes es f b l v → IsBackLevel es f b v k
    → IsLegal p answers (record { sides = b; learned = true } ∷ boxes) (cut k es) (back k es f)
learned_legal legal d level =
    let after = turn_legal legal d level in
    record { trail = trail_with_learned legal.trail (stop_of legal.trail d) level; safe = after.safe; walked = after.walked }

-- the measure falls over the whole turn
pub turn_falls : {X : Type 0} {p : Problem X} {boxes : List (Stored X)} {answers : List (ℕ → X)} {es : List (Entry X)} {f b : ℕ → X → Bool} {l v k : ℕ}
    → IsLegal p answers boxes es f → Derives p boxes es f b l v → IsBackLevel es f b v k
    → measure p (narrowing_entry (cut k es) (back k es f) v (ByBox b) ∷ cut k es) (put (back k es f) v (without (back k es f v) (b v)))
    < measure p es f
turn_falls {X} {p} {boxes} {answers} {es} {f} {b} {l} {v} {k} legal d level =
    back_falls p es f k (narrowing_entry (cut k es) (back k es f) v (ByBox b)) (put (back k es f) v (without (back k es f v) (b v)))
    legal.trail.replays le (top-cut p k es f legal.trail.replays le)
    (put-put (back k es f) v (without (back k es f v) (b v)))
    (turn_legal legal d level).trail.replays
  where
    le : k ≤ top es
    le =
        let stop : IsStop p boxes es f b l v = stop_of legal.trail d in
        let below : k < l = back_below stop level in
        let high : l ≤ top stop.rest = stop.high in
        let low : top stop.rest ≤ top es = stop.low in
        omega arith

pub narrowing_falls : {X : Type 0} (p : Problem X) (es : List (Entry X)) (f : ℕ → X → Bool) (v : ℕ) (s : X → Bool) (r : Reason X)
    → Replays p (narrowing_entry es f v r ∷ es) (put f v s)
    → measure p (narrowing_entry es f v r ∷ es) (put f v s) < measure p es f
narrowing_falls {X} p es f v s r replays =
    subst (λ (g : ℕ → X → Bool). measure p (narrowing_entry es f v r ∷ es) (put f v s) < measure p es g) (put-put f v s)
    (entry_falls p (narrowing_entry es f v r) es (put f v s) replays)

pub decision_falls : {X : Type 0} (p : Problem X) (es : List (Entry X)) (f : ℕ → X → Bool) (v : ℕ) (s : X → Bool)
    → Replays p (decision_entry es f v ∷ es) (put f v s)
    → measure p (decision_entry es f v ∷ es) (put f v s) < measure p es f
decision_falls {X} p es f v s replays =
    subst (λ (g : ℕ → X → Bool). measure p (decision_entry es f v ∷ es) (put f v s) < measure p es g) (put-put f v s)
    (entry_falls p (decision_entry es f v) es (put f v s) replays)
