-- Learning: at the level gone back to the derived box narrows, it lies in no learned box, and the trail stays legal.
use Rattle.std.proofs.Common.{◌≡◌, ◌≢◌, ℕ, ◌+◌, ◌-◌, ◌<◌, ◌≤◌, Bool, true, false, List, [], ◌∷◌, refl, sym, ◌∙◌, subst, inl, inr, arith}
use Rattle.std.proofs.lemmas.Bool.{cases_lt, cases_eq, both_ways}
use Rattle.search_rules.specs.Family.{Lies, Leaves, Meets, HasValue, AllLie, IsWithin, assign, without}
use Rattle.search_rules.specs.Problem.{Problem}
use Rattle.search_rules.specs.Box.{IsBoxNarrowed, AreTwoOutside}
use Rattle.search_rules.specs.Trail.{Entry, Stored, IsLearned, IsTrail, Replays, IsQuiet, undo, top, back, cut}
use Rattle.search_rules.specs.Walk.{SomeMatters, OnlyMatters, Stops, Walk, begin, pass, resolve, Derives, IsBackLevel, IsNewestOther}
use Rattle.search_rules.proofs.FamilyLemmas.{put_each, put-same, put-other, assign_each, assign-same, lies_not_leaves, leaves_more}
use Rattle.search_rules.proofs.TrailLemmas.{back-over, cut-over, back-stay, back_grows, cut_replays, quiet_below}
use Rattle.search_rules.proofs.WalkLemmas.{walk_trail, walk_holds, conflict_holds, replays_within}

-- what matters at a level is an entry of that level
pub some_level : {X : Type 0} (p : Problem X) (es : List (Entry X)) (f b : ℕ → X → Bool) (l v : ℕ) → Replays p es f
    → SomeMatters es b l v → l ≤ top es
some_level p [] f b l v replays some = absurd some
some_level p (e ∷ es) f b l v replays (inl (level, var, matters)) = omega arith
some_level p (e ∷ es) f b l v replays (inr some) =
    let low : top es ≤ e.level = replays.0.low in
    let rest : l ≤ top es = some_level p es (undo f e) b l v replays.1 some in
    omega arith

pub some_known : {X : Type 0} (p : Problem X) (es : List (Entry X)) (f b : ℕ → X → Bool) (l v : ℕ) → Replays p es f
    → SomeMatters es b l v → v < p.variables
some_known p [] f b l v replays some = absurd some
some_known p (e ∷ es) f b l v replays (inl (level, var, matters)) = subst (λ w. w < p.variables) var replays.0.known
some_known p (e ∷ es) f b l v replays (inr some) = some_known p es (undo f e) b l v replays.1 some

-- a variable with an entry has a value
pub some_value : {X : Type 0} (p : Problem X) (es : List (Entry X)) (f b : ℕ → X → Bool) (l v : ℕ) → Replays p es f
    → SomeMatters es b l v → HasValue (f v)
some_value p [] f b l v replays some = absurd some
some_value p (e ∷ es) f b l v replays (inl (level, var, matters)) = subst (λ w. HasValue (f w)) var replays.0.part.has_value
some_value {X} p (e ∷ es) f b l v replays (inr some) = elim (cases_eq v e.var) [
  | inl same ↦ subst (λ w. HasValue (f w)) (sym same) replays.0.part.has_value
  | inr apart ↦
      subst (λ (t : X → Bool). HasValue t) (put-other f e.var e.before v apart)
      (some_value p es (undo f e) b l v replays.1 some)
]

-- below the level of an entry of `v` that matters, the set of `v` is outside its side
pub out_below : {X : Type 0} (p : Problem X) (es : List (Entry X)) (f b : ℕ → X → Bool) (l v k : ℕ) → Replays p es f
    → SomeMatters es b l v → k < l → Leaves (back k es f v) (b v)
out_below p [] f b l v k replays some lt = absurd some
out_below {X} p (e ∷ es) f b l v k replays (inl (level, var, matters)) lt =
    let below : k < e.level = omega arith in
    subst (λ (g : ℕ → X → Bool). Leaves (g v) (b v)) (sym (back-over k e es f below))
    (subst (λ w. Leaves (back k es (undo f e) w) (b w)) var
    (leaves_more (undo f e e.var) (back k es (undo f e) e.var) (b e.var)
    (back_grows p k es (undo f e) replays.1 e.var)
    (subst (λ (t : X → Bool). Leaves t (b e.var)) (sym (put-same f e.var e.before)) matters)))
out_below {X} p (e ∷ es) f b l v k replays (inr some) lt =
    let low : top es ≤ e.level = replays.0.low in
    let level : l ≤ top es = some_level p es (undo f e) b l v replays.1 some in
    let below : k < e.level = omega arith in
    subst (λ (g : ℕ → X → Bool). Leaves (g v) (b v)) (sym (back-over k e es f below))
    (out_below p es (undo f e) b l v k replays.1 some lt)

-- just below the level at which the walk stops, the other sets lie in their sides
pub others_below : {X : Type 0} (p : Problem X) (es : List (Entry X)) (f b : ℕ → X → Bool) (l v k : ℕ) → Replays p es f
    → OnlyMatters es b l v → l ≡ k + 1 → ((u : ℕ) → u ≢ v → Lies (f u) (b u)) → (u : ℕ) → u ≢ v → Lies (back k es f u) (b u)
others_below p [] f b l v k replays only next others = others
others_below {X} p (e ∷ es) f b l v k replays only next others = elim (cases_lt k e.level) [
  | inr above ↦ subst (λ (g : ℕ → X → Bool). (u : ℕ) → u ≢ v → Lies (g u) (b u)) (sym (back-stay k e es f above)) others
  | inl below ↦
      subst (λ (g : ℕ → X → Bool). (u : ℕ) → u ≢ v → Lies (g u) (b u)) (sym (back-over k e es f below))
      (others_below p es (undo f e) b l v k replays.1 only.1 next
      (put_each f e.var e.before (λ u t. u ≢ v → Lies t (b u))
      (λ apart. elim only.0 [
        | inl lies ↦ lies
        | inr (inl lt) ↦ absurd (omega arith)
        | inr (inr (level, var)) ↦ absurd (apart var)
      ])
      (λ u ne. others u)))
]

-- Where the walk stops, at the family and entries that are left.
pub stop_asserts : {X : Type 0} (p : Problem X) (es : List (Entry X)) (f b : ℕ → X → Bool) (l v k : ℕ) → Replays p es f → AllLie f b
    → SomeMatters es b l v → k < l → ((u : ℕ) → u ≢ v → Lies (back k es f u) (b u))
    → IsBoxNarrowed b (back k es f) v (without (back k es f v) (b v))
stop_asserts p es f b l v k replays all some lt others =
    let value : HasValue (f v) = some_value p es f b l v replays some in
    record {
      others = others;
      outside = out_below p es f b l v k replays some lt;
      inside = (value.0, back_grows p k es f replays v value.0 value.1, all v value.0 value.1);
      stays = refl;
    }

-- the level to go back to is below that at which the walk stops
pub back_is_below : {X : Type 0} (p : Problem X) (es : List (Entry X)) (f b : ℕ → X → Bool) (l v k : ℕ) → Replays p es f → AllLie f b
    → Stops es b l v → (l - 1 < k → (u : ℕ) × (u ≢ v) × Leaves (back (l - 1) es f u) (b u)) → k < l
back_is_below p es f b l v k replays all stops least = elim (cases_lt k l) [
  | inl below ↦ below
  | inr above ↦
      let positive : 0 < l = stops.above in
      let next : l ≡ (l - 1) + 1 = omega arith in
      let here : l - 1 < k = omega arith in
      let (u, apart, leaves) = least here in
      absurd (lies_not_leaves (back (l - 1) es f u) (b u)
      (others_below p es f b l v (l - 1) replays stops.only next (λ w ne. all w) u apart) leaves)
]

-- on the way of the walk nothing below the newest level changes
pub walk_back : {X : Type 0} {p : Problem X} {es : List (Entry X)} {f b : ℕ → X → Bool} {rest : List (Entry X)} {g c : ℕ → X → Bool}
    (k : ℕ) → Replays p es f → Walk p es f b rest g c → (Replays p rest g) × (k < top rest → back k rest g ≡ back k es f)
walk_back k replays begin = (replays, λ lt. refl)
walk_back {p = p} k replays (pass {e} {rest} {g} {c} walk on lies) =
    let (here, same) = walk_back k replays walk in
    let low : top rest ≤ e.level = here.0.low in
    (here.1, λ lt. let below : k < e.level = omega arith in sym (back-over k e rest g below) ∙ same below)
walk_back {p = p} k replays (resolve {e} {rest} {g} {c} walk on matters) =
    let (here, same) = walk_back k replays walk in
    let low : top rest ≤ e.level = here.0.low in
    (here.1, λ lt. let below : k < e.level = omega arith in sym (back-over k e rest g below) ∙ same below)

-- nor do the entries up to there
pub walk_cut : {X : Type 0} {p : Problem X} {es : List (Entry X)} {f b : ℕ → X → Bool} {rest : List (Entry X)} {g c : ℕ → X → Bool}
    (k : ℕ) → Replays p es f → Walk p es f b rest g c → (Replays p rest g) × (k < top rest → cut k rest ≡ cut k es)
walk_cut k replays begin = (replays, λ lt. refl)
walk_cut {p = p} k replays (pass {e} {rest} {g} {c} walk on lies) =
    let (here, same) = walk_cut k replays walk in
    let low : top rest ≤ e.level = here.0.low in
    (here.1, λ lt. let below : k < e.level = omega arith in sym (cut-over k e rest below) ∙ same below)
walk_cut {p = p} k replays (resolve {e} {rest} {g} {c} walk on matters) =
    let (here, same) = walk_cut k replays walk in
    let low : top rest ≤ e.level = here.0.low in
    (here.1, λ lt. let below : k < e.level = omega arith in sym (cut-over k e rest below) ∙ same below)

-- the newest level only falls on the way of the walk
pub walk_top : {X : Type 0} {p : Problem X} {es : List (Entry X)} {f b : ℕ → X → Bool} {rest : List (Entry X)} {g c : ℕ → X → Bool}
    → Replays p es f → Walk p es f b rest g c → (Replays p rest g) × (top rest ≤ top es)
walk_top {es = es} replays begin = (replays, omega arith)
walk_top {es = es} replays (pass {e} {rest} {g} {c} walk on lies) =
    let (here, le) = walk_top replays walk in
    let low : top rest ≤ e.level = here.0.low in
    (here.1, omega arith)
walk_top {es = es} replays (resolve {e} {rest} {g} {c} walk on matters) =
    let (here, le) = walk_top replays walk in
    let low : top rest ≤ e.level = here.0.low in
    (here.1, omega arith)

-- what is known where the walk stops
pub record IsStop {X : Type 0} (p : Problem X) (boxes : List (Stored X)) (es : List (Entry X)) (f b : ℕ → X → Bool) (l v : ℕ) : Type 0 where
  pub rest : List (Entry X)
  pub reached : ℕ → X → Bool
  pub trail : IsTrail p boxes rest reached
  pub all : AllLie reached b
  pub stops : Stops rest b l v
  pub high : l ≤ top rest
  pub low : top rest ≤ top es
  pub same : (k : ℕ) → k < l → back k rest reached ≡ back k es f

abbrev pub stop_of : {X : Type 0} {p : Problem X} {boxes : List (Stored X)} {es : List (Entry X)} {f b : ℕ → X → Bool} {l v : ℕ}
    → IsTrail p boxes es f → Derives p boxes es f b l v → IsStop p boxes es f b l v
stop_of {X} {p} {boxes} {es} {f} {b} {l} {v} trail d =
    let there : IsTrail p boxes d.rest d.reached = walk_trail trail d.walk in
    let high : l ≤ top d.rest = some_level p d.rest d.reached b l v there.replays d.stops.some in
    record {
      rest = d.rest;
      reached = d.reached;
      trail = there;
      all = walk_holds trail (conflict_holds (replays_within p es f trail.replays) d.conflict) d.walk;
      stops = d.stops;
      high = high;
      low = (walk_top trail.replays d.walk).1;
      same = λ k lt. let below : k < top d.rest = omega arith in (walk_back k trail.replays d.walk).1 below;
    }

pub back_below : {X : Type 0} {p : Problem X} {boxes : List (Stored X)} {es : List (Entry X)} {f b : ℕ → X → Bool} {l v k : ℕ}
    → IsStop p boxes es f b l v → IsBackLevel es f b v k → k < l
back_below {X} {p} {boxes} {es} {f} {b} {l} {v} {k} stop level =
    back_is_below p stop.rest stop.reached b l v k stop.trail.replays stop.all stop.stops
    (λ lt.
    let positive : 0 < l = stop.stops.above in
    let below : l - 1 < l = omega arith in
    subst (λ (g : ℕ → X → Bool). (u : ℕ) × (u ≢ v) × Leaves (g u) (b u)) (sym (stop.same (l - 1) below)) (level.least (l - 1) lt))

-- at the level gone back to the box step narrows the variable
pub derived_narrows : {X : Type 0} {p : Problem X} {boxes : List (Stored X)} {es : List (Entry X)} {f b : ℕ → X → Bool} {l v k : ℕ}
    → IsStop p boxes es f b l v → IsBackLevel es f b v k → IsBoxNarrowed b (back k es f) v (without (back k es f v) (b v))
derived_narrows {X} {p} {boxes} {es} {f} {b} {l} {v} {k} stop level =
    let below : k < l = back_below stop level in
    let same : back k stop.rest stop.reached ≡ back k es f = stop.same k below in
    subst (λ (g : ℕ → X → Bool). IsBoxNarrowed b g v (without (g v) (b v))) same
    (stop_asserts p stop.rest stop.reached b l v k stop.trail.replays stop.all stop.stops.some below
    (subst (λ (g : ℕ → X → Bool). (u : ℕ) → u ≢ v → Lies (g u) (b u)) (sym same) level.others))

-- below the level gone back to two sets are outside their sides
pub two_below : {X : Type 0} {p : Problem X} {boxes : List (Stored X)} {es : List (Entry X)} {f b : ℕ → X → Bool} {l v k : ℕ}
    → IsStop p boxes es f b l v → IsBackLevel es f b v k → (j : ℕ) → j < k → AreTwoOutside b (back j es f)
two_below {X} {p} {boxes} {es} {f} {b} {l} {v} {k} stop level j lt =
    let below : k < l = back_below stop level in
    let lower : j < l = omega arith in
    let (u, apart, leaves) = level.least j lt in
    record {
      one = u;
      other = v;
      apart = apart;
      one_outside = leaves;
      other_outside = subst (λ (g : ℕ → X → Bool). Leaves (g v) (b v)) (stop.same j lower)
          (out_below p stop.rest stop.reached b l v j stop.trail.replays stop.stops.some lower);
    }

-- Some value in the box's side and in the family before the level's decision is outside the side of the learned box.
pub derived_leaves : {X : Type 0} {p : Problem X} {boxes : List (Stored X)} {es : List (Entry X)} {f b : ℕ → X → Bool} {l v : ℕ}
    → (stop : IsStop p boxes es f b l v) → (c : ℕ → X → Bool) → IsLearned boxes c
    → (u : ℕ) × (x : X) × (back (l - 1) es f u x ≡ true) × (b u x ≡ true) × (c u x ≡ false)
derived_leaves {X} {p} {boxes} {es} {f} {b} {l} {v} stop c learned =
    let positive : 0 < l = stop.stops.above in
    let below : l - 1 < l = omega arith in
    subst (λ (g : ℕ → X → Bool). (u : ℕ) × (x : X) × (g u x ≡ true) × (b u x ≡ true) × (c u x ≡ false)) (stop.same (l - 1) below)
    (elim (quiet.learned c learned) [
      | inl two ↦ elim (cases_eq two.one v) [
        | inr apart ↦ of_other two.one apart two.one_outside
        | inl here ↦ of_other two.other (λ same. two.apart (here ∙ sym same)) two.other_outside
      ]
      | inr one ↦ elim (cases_eq one.one v) [
        | inr apart ↦ of_other one.one apart one.outside
        | inl here ↦ (
          v,
          inside.0,
          inside.1,
          inside.2,
          subst (λ w. c w inside.0 ≡ false) here
              (one.misses inside.0 (subst (λ w. back (l - 1) stop.rest stop.reached w inside.0 ≡ true) (sym here) inside.1)),
        )
      ]
    ])
  where
    before : ℕ → X → Bool
    before = back (l - 1) stop.rest stop.reached

    quiet : IsQuiet p boxes (back (l - 1) stop.rest stop.reached)
    quiet =
        let positive : 0 < l = stop.stops.above in
        let high : l ≤ top stop.rest = stop.high in
        quiet_below p boxes stop.rest stop.reached (l - 1) stop.trail.replays stop.trail.reasons (omega arith)

    others : (u : ℕ) → u ≢ v → Lies (back (l - 1) stop.rest stop.reached u) (b u)
    others =
        let positive : 0 < l = stop.stops.above in
        others_below p stop.rest stop.reached b l v (l - 1) stop.trail.replays stop.stops.only (omega arith) (λ u ne. stop.all u)

    inside : Meets (back (l - 1) stop.rest stop.reached v) (b v)
    inside =
        let (x, has) = some_value p stop.rest stop.reached b l v stop.trail.replays stop.stops.some in
        (x, back_grows p (l - 1) stop.rest stop.reached stop.trail.replays v x has, stop.all v x has)

    of_other : (u : ℕ) → u ≢ v → Leaves (back (l - 1) stop.rest stop.reached u) (c u)
        → (u : ℕ) × (x : X) × (back (l - 1) stop.rest stop.reached u x ≡ true) × (b u x ≡ true) × (c u x ≡ false)
    of_other u apart (x, has, out) = (u, x, has, others u apart x has, out)

-- The level of the newest other entry that matters is the one to go back to, where the sets lie in the box.
pub newest_level : {X : Type 0} (p : Problem X) (es : List (Entry X)) (f b : ℕ → X → Bool) (v k : ℕ) → Replays p es f
    → IsNewestOther es b v k → k ≤ top es
newest_level p [] f b v k replays newest = omega arith
newest_level p (e ∷ es) f b v k replays (inl (apart, matters, level)) = omega arith
newest_level p (e ∷ es) f b v k replays (inr (passed, newest)) =
    let low : top es ≤ e.level = replays.0.low in
    let rest : k ≤ top es = newest_level p es (undo f e) b v k replays.1 newest in
    omega arith

pub newest_others : {X : Type 0} (p : Problem X) (es : List (Entry X)) (f b : ℕ → X → Bool) (v k : ℕ) → Replays p es f
    → IsNewestOther es b v k → ((u : ℕ) → u ≢ v → Lies (f u) (b u)) → (u : ℕ) → u ≢ v → Lies (back k es f u) (b u)
newest_others p [] f b v k replays newest others = others
newest_others {X} p (e ∷ es) f b v k replays (inl (apart, matters, level)) others =
    let above : e.level ≤ k = omega arith in
    subst (λ (g : ℕ → X → Bool). (u : ℕ) → u ≢ v → Lies (g u) (b u)) (sym (back-stay k e es f above)) others
newest_others {X} p (e ∷ es) f b v k replays (inr (passed, newest)) others = elim (cases_lt k e.level) [
  | inr above ↦ subst (λ (g : ℕ → X → Bool). (u : ℕ) → u ≢ v → Lies (g u) (b u)) (sym (back-stay k e es f above)) others
  | inl below ↦
      subst (λ (g : ℕ → X → Bool). (u : ℕ) → u ≢ v → Lies (g u) (b u)) (sym (back-over k e es f below))
      (newest_others p es (undo f e) b v k replays.1 newest
      (put_each f e.var e.before (λ u t. u ≢ v → Lies t (b u))
      (λ apart. elim passed [ inl same ↦ absurd (apart same) | inr lies ↦ lies ])
      (λ u ne. others u)))
]

pub newest_least : {X : Type 0} (p : Problem X) (es : List (Entry X)) (f b : ℕ → X → Bool) (v k : ℕ) → Replays p es f
    → IsNewestOther es b v k → (j : ℕ) → j < k → (u : ℕ) × (u ≢ v) × Leaves (back j es f u) (b u)
newest_least p [] f b v k replays newest j lt = absurd (omega arith)
newest_least {X} p (e ∷ es) f b v k replays (inl (apart, matters, level)) j lt =
    let below : j < e.level = omega arith in
    subst (λ (g : ℕ → X → Bool). (u : ℕ) × (u ≢ v) × Leaves (g u) (b u)) (sym (back-over j e es f below)) (
      e.var,
      apart,
      leaves_more (undo f e e.var) (back j es (undo f e) e.var) (b e.var) (back_grows p j es (undo f e) replays.1 e.var)
          (subst (λ (t : X → Bool). Leaves t (b e.var)) (sym (put-same f e.var e.before)) matters),
    )
newest_least {X} p (e ∷ es) f b v k replays (inr (passed, newest)) j lt =
    let low : top es ≤ e.level = replays.0.low in
    let high : k ≤ top es = newest_level p es (undo f e) b v k replays.1 newest in
    let below : j < e.level = omega arith in
    subst (λ (g : ℕ → X → Bool). (u : ℕ) × (u ≢ v) × Leaves (g u) (b u)) (sym (back-over j e es f below))
    (newest_least p es (undo f e) b v k replays.1 newest j lt)

pub back_level_is : {X : Type 0} (p : Problem X) (es : List (Entry X)) (f b : ℕ → X → Bool) (v k : ℕ) → Replays p es f
    → ((u : ℕ) → u ≢ v → Lies (f u) (b u)) → IsNewestOther es b v k → IsBackLevel es f b v k
back_level_is p es f b v k replays others newest = record {
  others = newest_others p es f b v k replays newest others;
  least = newest_least p es f b v k replays newest;
}

-- it may be sought among the entries that the walk has not passed
pub rest_level_is : {X : Type 0} {p : Problem X} {boxes : List (Stored X)} {es : List (Entry X)} {f b : ℕ → X → Bool} {l v : ℕ} (k : ℕ)
    → (stop : IsStop p boxes es f b l v) → IsNewestOther stop.rest b v k → IsBackLevel es f b v k
rest_level_is {X} {p} {boxes} {es} {f} {b} {l} {v} k stop newest =
    let here : IsBackLevel stop.rest stop.reached b v k =
    back_level_is p stop.rest stop.reached b v k stop.trail.replays (λ u ne. stop.all u) newest in
    let below : k < l = back_is_below p stop.rest stop.reached b l v k stop.trail.replays stop.all stop.stops (here.least (l - 1)) in
    record {
      others = subst (λ (g : ℕ → X → Bool). (u : ℕ) → u ≢ v → Lies (g u) (b u)) (stop.same k below) here.others;
      least = λ j lt.
          let lower : j < l = omega arith in
          subst (λ (g : ℕ → X → Bool). (u : ℕ) × (u ≢ v) × Leaves (g u) (b u)) (stop.same j lower) (here.least j lt);
    }

-- where each variable has an initial value, so it has on each trail
pub replays_values : {X : Type 0} (p : Problem X) (es : List (Entry X)) (f : ℕ → X → Bool) → Replays p es f
    → ((v : ℕ) → HasValue (p.initial v)) → (v : ℕ) → HasValue (f v)
replays_values {X} p [] f replays values v = subst (λ (g : ℕ → X → Bool). HasValue (g v)) (sym replays) (values v)
replays_values {X} p (e ∷ es) f replays values v = elim (cases_eq v e.var) [
  | inl same ↦ subst (λ w. HasValue (f w)) (sym same) replays.0.part.has_value
  | inr apart ↦
      subst (λ (t : X → Bool). HasValue t) (put-other f e.var e.before v apart)
      (replays_values p es (undo f e) replays.1 values v)
]

-- some assignment of initial values in the derived box is not in the learned one
pub derived_apart : {X : Type 0} {p : Problem X} {boxes : List (Stored X)} {es : List (Entry X)} {f b : ℕ → X → Bool} {l v : ℕ}
    → Replays p es f → IsStop p boxes es f b l v → ((v : ℕ) → HasValue (p.initial v)) → (c : ℕ → X → Bool) → IsLearned boxes c
    → (a : ℕ → X) × IsWithin p.initial a × IsWithin b a × (IsWithin c a → ⊥)
derived_apart {X} {p} {boxes} {es} {f} {b} {l} {v} replays stop values c learned =
    let (u, x, before, in_side, out) = derived_leaves stop c learned in
    let a : ℕ → X = λ w. (there w).0 in (
      assign a u x,
      assign_each a u x (λ w y. p.initial w y ≡ true)
          (replays_within p (cut (l - 1) es) (back (l - 1) es f) (cut_replays p (l - 1) es f replays) u x before)
          (λ w _. replays_within p stop.rest stop.reached stop.trail.replays w (a w) (there w).1),
      assign_each a u x (λ w y. b w y ≡ true) in_side (λ w _. stop.all w (a w) (there w).1),
      λ within. both_ways (c u x) out (subst (λ y. c u y ≡ true) (assign-same a u x) (within u)),
    )
  where
    there : (w : ℕ) → HasValue (stop.reached w)
    there = replays_values p stop.rest stop.reached stop.trail.replays values
