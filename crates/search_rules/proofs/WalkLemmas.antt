-- The walk: what its running box holds, where it stops, and that no decision is resolved.
use Rattle.std.proofs.Common.{◌≡◌, ◌≢◌, ℕ, ◌+◌, ◌<◌, ◌≤◌, eqb, Bool, true, false, not, ◌&&◌, List, [], ◌∷◌, ◌⊎◌, refl, sym, ap, ◌∙◌, subst, inl, inr, arith}
use Rattle.std.proofs.lemmas.Bool.{eq-eqb, ne_eqb, cases_eq, cases_Bool, cond-true, cond-false, and_parts, and_from, or_left, or_right, both_ways, not-true}
use Rattle.search_rules.specs.Family.{Lies, AllLie, IsWithin}
use Rattle.search_rules.specs.Problem.{Problem, Extends, IsNarrowed, IsSolution, IsCovered}
use Rattle.search_rules.specs.Box.{resolvent}
use Rattle.search_rules.specs.Trail.{Reason, Decision, ByConstraint, ByBox, Entry, Stored, IsStored, IsTrail, Replays, IsReason, undo, top}
use Rattle.search_rules.specs.Walk.{conflict_box, narrowing_box, reason_box, IsConflictBox, of_constraint, of_box, Matters, SomeMatters, OnlyMatters, Stops, GoesOn, Walk, begin, pass, resolve}
use Rattle.search_rules.specs.State.{IsExcluded, IsSafe}
use Rattle.search_rules.proofs.FamilyLemmas.{put_each, put-other, lies_not_leaves}
use Rattle.search_rules.proofs.BoxLemmas.{resolvent-at, resolvent-else, resolvent_lies}
use Rattle.search_rules.proofs.TrailLemmas.{trail_rest}

pub conflict_box-scoped : {X : Type 0} (p : Problem X) (c : ℕ) (f : ℕ → X → Bool) (u : ℕ) (x : X) → p.scope c u ≡ true
    → conflict_box p c f u x ≡ f u x
conflict_box-scoped p c f u x scoped = cond-true (p.scope c u) (f u x) (p.initial u x) scoped

pub narrowing_box-at : {X : Type 0} (p : Problem X) (c : ℕ) (g : ℕ → X → Bool) (v : ℕ) (s : X → Bool) (x : X)
    → narrowing_box p c g v s v x ≡ (g v x && not (s x))
narrowing_box-at p c g v s x = cond-true (eqb v v) (g v x && not (s x)) (conflict_box p c g v x) (eq-eqb v v refl)

pub narrowing_box-else : {X : Type 0} (p : Problem X) (c : ℕ) (g : ℕ → X → Bool) (v : ℕ) (s : X → Bool) (u : ℕ) (x : X) → u ≢ v
    → narrowing_box p c g v s u x ≡ conflict_box p c g u x
narrowing_box-else p c g v s u x ne =
    cond-false (eqb u v) (g u x && not (s x)) (conflict_box p c g u x) (ne_eqb u v ne)

-- a family within the initial one lies in a conflict box that is made of it
pub conflict_box_holds : {X : Type 0} (p : Problem X) (c : ℕ) (f : ℕ → X → Bool) → AllLie f p.initial → AllLie f (conflict_box p c f)
conflict_box_holds p c f within u x has = elim (cases_Bool (p.scope c u)) [
  | inl scoped ↦ conflict_box-scoped p c f u x scoped ∙ has
  | inr free ↦ cond-false (p.scope c u) (f u x) (p.initial u x) free ∙ within u x has
]

-- What a reason box is to an entry that left the set `s` of `v` in the family `g`: each of its assignments is excluded,
-- the other sets lie in its sides, and the values that are gone are in the side of `v`.
pub record IsReasonBox {X : Type 0} (p : Problem X) (boxes : List (Stored X)) (g : ℕ → X → Bool) (v : ℕ) (s : X → Bool) (r : ℕ → X → Bool)
    : Type 0 where
  pub excludes : (a : ℕ → X) → IsWithin r a → IsExcluded p boxes a
  pub others : (u : ℕ) → u ≢ v → Lies (g u) (r u)
  pub gone : (x : X) → g v x ≡ true → s x ≡ false → r v x ≡ true

-- an assignment in the box of a narrowing would extend a removed value
pub narrowing_excludes : {X : Type 0} (p : Problem X) (c : ℕ) (g : ℕ → X → Bool) (v : ℕ) (s : X → Bool) → IsNarrowed p c g v s
    → (a : ℕ → X) → IsWithin (narrowing_box p c g v s) a → p.holds c a → ⊥
narrowing_excludes {X} p c g v s narrowed a within holds =
    both_ways (s (a v)) (not-true (s (a v)) removed.1) (narrowed.whole (a v) extends)
  where
    removed : (g v (a v) ≡ true) × (not (s (a v)) ≡ true)
    removed = and_parts (g v (a v)) (not (s (a v))) (sym (narrowing_box-at p c g v s (a v)) ∙ within v)

    inside : (u : ℕ) → p.scope c u ≡ true → g u (a u) ≡ true
    inside u scoped = elim (cases_eq u v) [
      | inl same ↦ subst (λ w. g w (a w) ≡ true) (sym same) removed.0
      | inr apart ↦
          sym (conflict_box-scoped p c g u (a u) scoped) ∙ (sym (narrowing_box-else p c g v s u (a u) apart) ∙ within u)
    ]

    extends : Extends p c g v (a v)
    extends = record { values = a; scoped = narrowed.scoped; at = refl; inside = inside; holds = holds }

pub reason_box_is : {X : Type 0} (p : Problem X) (boxes : List (Stored X)) (r : Reason X) (g : ℕ → X → Bool) (v : ℕ) (s : X → Bool)
    → (r ≡ Decision → ⊥) → AllLie g p.initial → IsReason p boxes r g v s → IsReasonBox p boxes g v s (reason_box p r g v s)
reason_box_is p boxes Decision g v s made within reason = absurd (made refl)
reason_box_is p boxes (ByConstraint c) g v s made within reason = record {
  excludes = λ a in_box. inr (c, reason.0, narrowing_excludes p c g v s reason.1 a in_box);
  others = λ u ne x has. narrowing_box-else p c g v s u x ne ∙ conflict_box_holds p c g within u x has;
  gone = λ x has lost. narrowing_box-at p c g v s x ∙ and_from (g v x) (not (s x)) has (ap not lost);
}
reason_box_is {X} p boxes (ByBox b) g v s made within reason = record {
  excludes = λ a in_box. inl (b, reason.0, in_box);
  others = reason.1.others;
  gone = λ x has lost. elim (cases_Bool (b v x)) [
    | inl in_side ↦ in_side
    | inr out ↦ absurd (both_ways (s x) lost (ap (λ (t : X → Bool). t x) reason.1.stays ∙ and_from (g v x) (not (b v x)) has (ap not out)))
  ];
}

-- passing an entry that does not matter
pub undo_lies : {X : Type 0} (g c : ℕ → X → Bool) (e : Entry X) → AllLie g c → Lies e.before (c e.var) → AllLie (undo g e) c
undo_lies g c e all lies = put_each g e.var e.before (λ u t. Lies t (c u)) lies (λ u ne. all u)

-- resolving with a reason box
pub resolve_lies : {X : Type 0} (p : Problem X) (boxes : List (Stored X)) (g c r : ℕ → X → Bool) (e : Entry X) → AllLie g c
    → IsReasonBox p boxes (undo g e) e.var (g e.var) r → AllLie (undo g e) (resolvent c r e.var)
resolve_lies p boxes g c r e all is u x has = elim (cases_eq u e.var) [
  | inl same ↦ subst (λ w. undo g e w x ≡ true → resolvent c r e.var w x ≡ true) (sym same) at_var has
  | inr apart ↦
      resolvent-else c r e.var u x apart
      ∙ and_from (c u x) (r u x)
      (all u x (sym (ap (λ t. t x) (put-other g e.var e.before u apart)) ∙ has))
      (is.others u apart x has)
]
  where
    at_var : undo g e e.var x ≡ true → resolvent c r e.var e.var x ≡ true
    at_var before = resolvent-at c r e.var x ∙ elim (cases_Bool (g e.var x)) [
      | inl kept ↦ or_left (c e.var x) (r e.var x) (all e.var x kept)
      | inr lost ↦ or_right (c e.var x) (r e.var x) (is.gone x before lost)
    ]

-- each set on the way lies in the initial one
pub replays_within : {X : Type 0} (p : Problem X) (es : List (Entry X)) (f : ℕ → X → Bool) → Replays p es f → AllLie f p.initial
replays_within p [] f replays u x has = subst (λ s. s u x ≡ true) replays has
replays_within {X} p (e ∷ es) f replays u x has =
    replays_within p es (undo f e) replays.1 u x
    (put_each f e.var e.before (λ w t. Lies (f w) t) replays.0.part.lies (λ w ne y here. here) u x has)

-- the level of each entry is at most that of the newest, so only a newest entry can matter above
pub only_above : {X : Type 0} (p : Problem X) (es : List (Entry X)) (f b : ℕ → X → Bool) (l v : ℕ) → Replays p es f → top es < l
    → OnlyMatters es b l v
only_above p [] f b l v replays lt = tt
only_above p (e ∷ es) f b l v replays lt =
    let low : top es ≤ e.level = replays.0.low in
    let lower : top es < l = omega arith in
    (inr (inl lt), only_above p es (undo f e) b l v replays.1 lower)

-- at a decision that matters the walk stops
pub decision_stops : {X : Type 0} (p : Problem X) (e : Entry X) (es : List (Entry X)) (f b : ℕ → X → Bool) → Replays p (e ∷ es) f
    → Matters e b → e.reason ≡ Decision → Stops (e ∷ es) b e.level e.var
decision_stops p e es f b replays matters decision =
    let level : e.level ≡ top es + 1 = replays.0.decided decision in
    let lower : top es < e.level = omega arith in
    record {
      above = omega arith;
      some = inl (refl, refl, matters);
      only = (inr (inr (refl, refl)), only_above p es (undo f e) b e.level e.var replays.1 lower);
    }

pub no_decision : {X : Type 0} (p : Problem X) (e : Entry X) (es : List (Entry X)) (f b : ℕ → X → Bool) → Replays p (e ∷ es) f
    → GoesOn (e ∷ es) b → Matters e b → e.reason ≡ Decision → ⊥
no_decision p e es f b replays on matters decision =
    on e.level e.var (decision_stops p e es f b replays matters decision)

-- the entries that are left are a trail
pub walk_trail : {X : Type 0} {p : Problem X} {boxes : List (Stored X)} {es : List (Entry X)} {f b : ℕ → X → Bool} {rest : List (Entry X)} {g c : ℕ → X → Bool}
    → IsTrail p boxes es f → Walk p es f b rest g c → IsTrail p boxes rest g
walk_trail trail begin = trail
walk_trail trail (pass walk on lies) = trail_rest (walk_trail trail walk)
walk_trail trail (resolve walk on matters) = trail_rest (walk_trail trail walk)

-- the reason box that the walk resolves with is one
pub reason_box_here : {X : Type 0} {p : Problem X} {boxes : List (Stored X)} {e : Entry X} {rest : List (Entry X)} {g c : ℕ → X → Bool}
    → IsTrail p boxes (e ∷ rest) g → GoesOn (e ∷ rest) c → Matters e c
    → IsReasonBox p boxes (undo g e) e.var (g e.var) (reason_box p e.reason (undo g e) e.var (g e.var))
reason_box_here {X} {p} {boxes} {e} {rest} {g} {c} trail on matters =
    reason_box_is p boxes e.reason (undo g e) e.var (g e.var) (no_decision p e rest g c trail.replays on matters)
    (replays_within p rest (undo g e) trail.replays.1) trail.reasons.0.made

-- at every moment the sets lie in the sides of the running box
pub walk_holds : {X : Type 0} {p : Problem X} {boxes : List (Stored X)} {es : List (Entry X)} {f b : ℕ → X → Bool} {rest : List (Entry X)} {g c : ℕ → X → Bool}
    → IsTrail p boxes es f → AllLie f b → Walk p es f b rest g c → AllLie g c
walk_holds trail all begin = all
walk_holds trail all (pass {e} {rest} {g} {c} walk on lies) = undo_lies g c e (walk_holds trail all walk) lies
walk_holds {X} {p} {boxes} trail all (resolve {e} {rest} {g} {c} walk on matters) =
    resolve_lies p boxes g c (reason_box p e.reason (undo g e) e.var (g e.var)) e (walk_holds trail all walk)
    (reason_box_here (walk_trail trail walk) on matters)

-- at every moment each assignment in the running box is excluded
pub walk_excludes : {X : Type 0} {p : Problem X} {boxes : List (Stored X)} {es : List (Entry X)} {f b : ℕ → X → Bool} {rest : List (Entry X)} {g c : ℕ → X → Bool}
    → IsTrail p boxes es f → ((a : ℕ → X) → IsWithin b a → IsExcluded p boxes a) → Walk p es f b rest g c
    → (a : ℕ → X) → IsWithin c a → IsExcluded p boxes a
walk_excludes trail all begin a within = all a within
walk_excludes trail all (pass walk on lies) a within = walk_excludes trail all walk a within
walk_excludes {X} {p} {boxes} trail all (resolve {e} {rest} {g} {c} walk on matters) a within =
    elim (resolvent_lies c (reason_box p e.reason (undo g e) e.var (g e.var)) e.var a within) [
      | inl in_running ↦ walk_excludes trail all walk a in_running
      | inr in_reason ↦ (reason_box_here (walk_trail trail walk) on matters).excludes a in_reason
    ]

-- a conflict box excludes its assignments, and the family lies in it
pub conflict_excludes : {X : Type 0} {p : Problem X} {boxes : List (Stored X)} {f b : ℕ → X → Bool} → IsConflictBox p boxes f b
    → (a : ℕ → X) → IsWithin b a → IsExcluded p boxes a
conflict_excludes {X} {p} {boxes} {f} (of_constraint {c} known violated) a within =
    inr (c, known, violated a (λ u scoped. sym (conflict_box-scoped p c f u (a u) scoped) ∙ within u))
conflict_excludes (of_box {b} stored all) a within = inl (b, stored, within)

pub conflict_holds : {X : Type 0} {p : Problem X} {boxes : List (Stored X)} {f b : ℕ → X → Bool} → AllLie f p.initial
    → IsConflictBox p boxes f b → AllLie f b
conflict_holds {X} {p} {boxes} {f} within (of_constraint {c} known violated) = conflict_box_holds p c f within
conflict_holds within (of_box stored all) = all

-- an excluded solution is covered, where the stored boxes are safe
pub excluded_covered : {X : Type 0} (p : Problem X) (boxes : List (Stored X)) (answers : List (ℕ → X)) (a : ℕ → X)
    → ((b : ℕ → X → Bool) → IsStored boxes b → IsSafe p answers b) → IsSolution p a → IsExcluded p boxes a → IsCovered p answers a
excluded_covered p boxes answers a safe solution (inl (b, stored, within)) = safe b stored a solution within
excluded_covered p boxes answers a safe solution (inr (c, known, fails)) = absurd (fails (solution.holds c known))

-- one variable and one level
pub some_only : {X : Type 0} (es : List (Entry X)) (b : ℕ → X → Bool) (l v m w : ℕ) → SomeMatters es b l v → OnlyMatters es b m w
    → (l < m) ⊎ ((l ≡ m) × (v ≡ w))
some_only [] b l v m w some only = absurd some
some_only (e ∷ es) b l v m w (inl (level, var, matters)) (inl lies, only) = absurd (lies_not_leaves e.before (b e.var) lies matters)
some_only (e ∷ es) b l v m w (inl (level, var, matters)) (inr (inl lt), only) = inl (omega arith)
some_only (e ∷ es) b l v m w (inl (level, var, matters)) (inr (inr (here, there)), only) = inr (sym level ∙ here, sym var ∙ there)
some_only (e ∷ es) b l v m w (inr some) (first, only) = some_only es b l v m w some only

pub stops_once : {X : Type 0} (es : List (Entry X)) (b : ℕ → X → Bool) (l v m w : ℕ) → Stops es b l v → Stops es b m w
    → (l ≡ m) × (v ≡ w)
stops_once es b l v m w one other = elim (some_only es b l v m w one.some other.only) [
  | inr same ↦ same
  | inl below ↦ elim (some_only es b m w l v other.some one.only) [
    | inr same ↦ (sym same.0, sym same.1)
    | inl above ↦ absurd (omega arith)
  ]
]
