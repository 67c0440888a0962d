-- What the turn of a conflict leaves, by what the analysis derived.
use Rattle.std.proofs.Common.{◌≡◌, ℕ, ◌<◌, ◌≤◌, Bool, true, false, List, [], ◌∷◌, ◌++◌, length, map, reverse, Result, Ok, Err, refl, sym, ap, ◌∙◌, subst, arith, inl, inr}
use Rattle.std.proofs.lemmas.List.{reverse-append}
use Rattle.std.proofs.lemmas.List.Elements.{Contains-append_left, Contains-append_right}
use Rattle.set_meaning.specs.declared.kinds.Value.{Value}
use Rattle.set_meaning.specs.declared.problems.VarId.{VarId}
use Rattle.set_meaning.specs.declared.problems.Problem.{Problem}
use Rattle.bit_layout.specs.Order.{LayoutState}
use Rattle.diagram_arena.specs.declared.nodes.Ref.{Ref}
use Rattle.diagram_arena.specs.Table.{Words, Table}
use Rattle.diagram_arena.specs.Arena.{table, Grows}
use Rattle.node_reclaim.specs.Pool.{PoolState}
use Rattle.node_reclaim.specs.Growth.{IsFull}
use Rattle.node_reclaim.specs.Holders.{AreHeld, MeansTheSame}
use Rattle.pin_lists.specs.Units.{PinnedAreLive, Moves, UnitsLeave}
use Rattle.pin_lists.proofs.Counting.{times-append}
use Rattle.pin_lists.proofs.Leaving.{units_then, units_also, pins_leave}
use Rattle.search_rules.specs.Family.{put, without}
use Rattle.search_rules.specs.Problem.{IsLeft}
use Rattle.search_rules.specs.Box.{IsBoxNarrowed}
use Rattle.search_rules.specs.Trail as rules
use Rattle.search_rules.specs.Walk.{Walk}
use Rattle.search_rules.specs.Walk.Walk.{begin, pass, resolve}
use Rattle.search_rules.specs.State.{IsSafe}
use Rattle.exact_steps.specs.Domains.{values_in, family}
use Rattle.problem_rules.specs.Posed.{problem_of}
use Rattle.propagators.specs.Compiled.{CompiledState, pinned_by}
use Rattle.domain_trail.specs.declared.entries.Entry.{Entry}
use Rattle.domain_trail.specs.Trail as trails
use Rattle.domain_trail.specs.Trail.{TrailState, narrowed, befores, held}
use Rattle.box_clauses.specs.declared.sides.Side.{Side}
use Rattle.box_clauses.specs.declared.store.StoredBox.{StoredBox}
use Rattle.box_clauses.specs.Sides.{sets_of}
use Rattle.box_clauses.specs.Boxes.{box_of, AreSides}
use Rattle.box_clauses.specs.Stored.{stored as stored_box, stored_sets}
use Rattle.search_state.specs.Readings.{sides_at, entry_of, boxes_of, entries_of, IsTrailOf, IsLegalState}
use Rattle.search_state.specs.Turns.{measure_of, IsTurn, HasGoneBack}
use Rattle.running_boxes.specs.Nodes.{IsOfVariable}
use Rattle.explain.specs.Ways.{IsCutFrom}
use Rattle.explain.specs.Walks.{IsRoot, IsAsserting, IsStoppedAt, IsStopped, IsFullAt, HoldsExcluded, held_at}
use Rattle.explain.specs.declared.analysing.AnalyseStop.{AnalyseStop}
use Rattle.explain.specs.declared.analysing.AnalyseStop.TheVariants as analysis
use Rattle.search_turns.specs.Laws.{LowerLaws, TurnLaws}
use Rattle.search_turns.specs.States.{held_by_search, HoldWithoutVariables, IsStanding, IsLegalForSome, IsFurther}
use Rattle.search_turns.specs.Outcomes.{UnlessMemory, IsNarrowed}
use Rattle.search_turns.specs.Nodes.{IsOfSearch}
use Rattle.search_turns.specs.Work.{IsReadyToAssert, IsAsserted, AssertLeaves, IsKept, TurnLeaves}
use Rattle.search_turns.specs.declared.outcomes.Turn.{Turn}
use Rattle.search_turns.specs.declared.outcomes.Turn.TheVariants as turn
use Rattle.search_turns.specs.declared.outcomes.Found.TheVariants as found
use Rattle.search_turns.specs.declared.outcomes.FindStop.{FindStop}
use Rattle.search_turns.specs.declared.outcomes.FindStop.TheVariants as stop
use Rattle.search_turns.proofs.Pins.{alike_none, units_alike, with_boxes, with_boxes_alone, held_beside_frame, front_two, last_two, only_last}
use Rattle.search_turns.proofs.Results.{full_handed}
use Rattle.search_turns.proofs.Further.{legal_again, further_trail, standing_after}
use Rattle.search_turns.proofs.Asserting.{sides_newest, moves_with_trail}

-- ---- lower trails

top_reads : (l : LayoutState) (t : Table) (stored : List StoredBox) (es : List Entry) → rules.top (map (entry_of l t stored) es) ≡ trails.top es
top_reads l t stored [] = refl
top_reads l t stored (e ∷ es) = refl

-- the older entries have no higher level
replays_down : (p : Problem) (l : LayoutState) (t : Table) (stored : List StoredBox) (us xs : List Entry) (f : ℕ → Value → Bool) → rules.Replays (problem_of p) (map (entry_of l t stored) (us ++ xs)) f
    → trails.top xs ≤ trails.top (us ++ xs)
replays_down p l t stored [] xs f h = omega arith
replays_down p l t stored (u ∷ us) xs f h =
    let later = replays_down p l t stored us xs (rules.undo f (entry_of l t stored u)) h.1 in
    let low : trails.top (us ++ xs) ≤ u.level = subst (λ n. n ≤ u.level) (top_reads l t stored (us ++ xs)) h.0.low in
    omega (arith, later, low)

pub level_down : (p : Problem) (l : LayoutState) (t u : Table) (stored : List StoredBox) (old new : TrailState) → IsTrailOf p l t stored old → IsTrailOf p l u stored new → IsCutFrom old new → new.level ≤ old.level
level_down p l t u stored old new is to cut =
    let split : reverse old.entries ≡ reverse cut.0 ++ reverse new.entries = ap reverse cut.1 ∙ reverse-append new.entries cut.0 in
    let replays = subst (λ (es : List Entry). rules.Replays (problem_of p) (map (entry_of l t stored) es) (family l t old.domains)) split is.trail.replays in
    let down = replays_down p l t stored (reverse cut.0) (reverse new.entries) (family l t old.domains) replays in
    let low : new.level ≡ trails.top (reverse new.entries) = to.level ∙ top_reads l u stored (reverse new.entries) in
    let high : old.level ≡ trails.top (reverse cut.0 ++ reverse new.entries) = is.level ∙ top_reads l t stored (reverse old.entries) ∙ ap trails.top split in
    omega (arith, down, low, high)

-- the walk comes to no higher level
walk_down : (p : Problem) (turns : TurnLaws p) (boxes : List (rules.Stored Value)) (es : List (rules.Entry Value)) (f b : ℕ → Value → Bool) {rest : List (rules.Entry Value)} {g c : ℕ → Value → Bool} → rules.IsTrail (problem_of p) boxes es f
    → Walk (problem_of p) es f b rest g c → rules.top rest ≤ rules.top es
walk_down p turns boxes es f b trail begin = omega arith
walk_down p turns boxes es f b trail (pass {e} {rest} {g} {c} walk on lies) =
    let before = walk_down p turns boxes es f b trail walk in
    let low = (turns.walk_trail boxes es (e ∷ rest) f b g c trail walk).replays.0.low in
    omega (arith, before, low)
walk_down p turns boxes es f b trail (resolve {e} {rest} {g} {c} walk on matters) =
    let before = walk_down p turns boxes es f b trail walk in
    let low = (turns.walk_trail boxes es (e ∷ rest) f b g c trail walk).replays.0.low in
    omega (arith, before, low)

grows_itself : (t : Table) → Grows t t
grows_itself t = record { kept = λ i n h. h; live = λ r h. h; depths = λ r h. refl; words = λ r h w. refl }

pub of_search : (p : Problem) (l : LayoutState) (a b : PoolState) (before after : List Ref) → UnitsLeave (IsOfVariable l) a b before after → UnitsLeave (IsOfSearch p l) a b before after
of_search p l a b before after is = units_also (IsOfVariable l) (IsOfSearch p l) a b before after (λ W h. inr h) is

-- ---- from one state

module _ (laws : LowerLaws) (p : Problem) (turns : TurnLaws p) (l : LayoutState) (k : CompiledState) (a : PoolState) (stored : List StoredBox) (trail : TrailState) (standing : IsStanding p l a k stored trail) where
  abbrev t : Table
  t = table a.arena

  abbrev es : List (rules.Entry Value)
  es = entries_of l t stored trail.entries

  abbrev f : ℕ → Value → Bool
  f = family l t trail.domains

  stored_mean : (P : Words → Type 0) (b : PoolState) (after : List Ref) → UnitsLeave P a b (held trail) after → MeansTheSame t (table b.arena) (stored_sets stored)
  stored_mean P b after left = left.kept (stored_sets stored) (last_two a (pinned_by k) (held trail) (stored_sets stored) standing.pinned)

  -- ---- nothing is left

  pub root_turn : (m : PoolState) (new : TrailState) → IsRoot p l t (table m.arena) stored trail new → UnitsLeave (IsOfVariable l) a m (held trail) (held new ++ [])
      → TurnLeaves p l k a m stored trail stored new (Ok (turn.Ended found.Complete))
  root_turn m new root left =
      let all : UnitsLeave (IsOfSearch p l) a m (held_by_search trail stored) (held_by_search new stored) =
      of_search p l a m (held_by_search trail stored) (held_by_search new stored)
      (with_boxes_alone (IsOfVariable l) a m (held trail) (held new) (stored_sets stored)
      (units_alike (IsOfVariable l) a m (held trail) (held new ++ []) (held trail) (held new) (λ i. refl) (alike_none (held new)) left)) in
      record {
        turned = λ answers state. turns.covered answers (boxes_of l t stored) es f root.last state.legal root.derives;
        further = further_trail p l t (table m.arena) stored trail new root.boxes (λ answers state. legal_again p l t (table m.arena) answers stored trail new root.trail root.boxes state);
        standing = standing_after laws (IsOfSearch p l) p l a m k stored stored trail new standing all root.trail standing.few
            (λ above. let down = level_down p l t (table m.arena) stored trail new standing.trail_is root.trail root.left in standing.grounded (omega (arith, above, down)));
        left = all;
        full = λ e. absurd (cc);
      }

  -- ---- no room for a resolvent

  safe_box : (b : ℕ → Value → Bool) → HoldsExcluded p l t stored b → (answers : List (ℕ → Value)) → IsLegalState p l t answers stored trail → IsSafe (problem_of p) answers b
  safe_box b excluded answers state s solves within = elim (excluded s within) [
    | inl inside ↦ state.legal.safe inside.0 inside.1 s solves inside.2
    | inr broken ↦ absurd (broken.2 (solves.holds broken.0 broken.1))
  ]

  module _ (m b : PoolState) (new : TrailState) (now : List StoredBox) (first : ℕ → Value → Bool) (only : b ≡ record m { counts = b.counts }) where
    kept_further : (sides : List Side) → IsStoppedAt p l t (table m.arena) stored trail new first sides → now ≡ stored ++ stored_box sides 0 false ∷ [] → IsFurther p l t (table m.arena) stored trail now new
    kept_further sides at is = record {
      added = stored_box sides 0 false ∷ [];
      grown = is;
      boxes = at.walk.boxes;
      legal = λ answers state. subst (λ (bs : List StoredBox). IsLegalState p l (table m.arena) answers bs new) (sym is)
          (turns.safe l (table m.arena) answers stored new sides 0 (legal_again p l t (table m.arena) answers stored trail new at.walk.trail at.walk.boxes state) at.sides_are
          (safe_box (box_of l (table m.arena) sides) at.excluded answers state));
    }

    by_stop : (s : AnalyseStop) (r : FindStop) → IsStopped p l t (table m.arena) stored trail new first s → IsFullAt l s m → (r ≡ stop.Conflicts → ⊥) → IsKept stored now r s
        → UnlessMemory {A = Turn} (Err r) (IsFurther p l t (table m.arena) stored trail now new) × (r ≡ stop.Full → IsFull m)
    by_stop (analysis.Full sides) stop.Conflicts at full never kept = absurd (never refl)
    by_stop (analysis.Full sides) stop.Full at full never kept = (kept_further sides at (kept refl), λ e. full.0)
    by_stop (analysis.Full sides) stop.Memory at full never kept = (tt, λ e. absurd (cc))
    by_stop analysis.Memory stop.Conflicts at full never kept = absurd (never refl)
    by_stop analysis.Memory stop.Full at full never kept = absurd (cc)
    by_stop analysis.Memory stop.Memory at full never kept = (tt, λ e. absurd (cc))

    full_of : (r : FindStop) (x : Result Turn FindStop) → x ≡ Err r → x ≡ Err stop.Full → r ≡ stop.Full
    full_of r x is e = cc

    pub halted_turn : (s : AnalyseStop) (r : FindStop) → IsStopped p l t (table m.arena) stored trail new first s → UnitsLeave (IsOfVariable l) a m (held trail) (held new ++ held_at s) → IsFullAt l s m → PinnedAreLive m
        → Moves m b (stored_sets stored ++ held_at s) (stored_sets now) → (r ≡ stop.Conflicts → ⊥) → IsKept stored now r s → TurnLeaves p l k a b stored trail now new (Err r)
    halted_turn s r at left full pinned moved never kept = record {
      turned = tt;
      further = subst (λ (x : PoolState). UnlessMemory {A = Turn} (Err r) (IsFurther p l t (table x.arena) stored trail now new)) (sym only) (by_stop s r at full never kept).0;
      standing = tt;
      left = of_search p l a b (held_by_search trail stored) (held_by_search new now)
          (units_then (IsOfVariable l) a m b (held_by_search trail stored) (held_by_search new stored ++ held_at s) (held_by_search new now)
          (with_boxes (IsOfVariable l) a m (held trail) (held new) (stored_sets stored) (held_at s) left)
          (pins_leave (IsOfVariable l) m b (held_by_search new stored ++ held_at s) (held_by_search new now) pinned left.reduced (ap (λ (x : PoolState). x.arena) only) (moves_with_trail m b new stored now (held_at s) moved)));
      full = λ e. subst IsFull (sym only) ((by_stop s r at full never kept).1 (full_of r (Err r) refl e));
    }

  pub running_held : (m : PoolState) (new : TrailState) (more : List Ref) → UnitsLeave (IsOfVariable l) a m (held trail) (held new ++ more) → AreHeld m more
  running_held m new more left =
      only_last m (held new) more (only_last m (pinned_by k) (held new ++ more)
      (held_beside_frame (IsOfVariable l) a m (pinned_by k) (held trail) (held new ++ more) left (front_two a (pinned_by k) (held trail) (stored_sets stored) standing.pinned)))

  -- ---- a box was derived

  module _ (m : PoolState) (mid : TrailState) (sides : List Side) (v : VarId) (level : ℕ) (at : IsAsserting p l t (table m.arena) stored trail mid sides v.0 level)
      (left : UnitsLeave (IsOfVariable l) a m (held trail) (held mid ++ sets_of sides)) where
    abbrev x : Table
    x = table m.arena

    left_all : UnitsLeave (IsOfVariable l) a m (held_by_search trail stored) (held_by_search mid stored ++ sets_of sides)
    left_all = with_boxes (IsOfVariable l) a m (held trail) (held mid) (stored_sets stored) (sets_of sides) left

    known : v.0 < length l.kinds
    known = subst (λ n. v.0 < n) (sym (ap length standing.compiled.kinds))
        (turns.known (boxes_of l t stored) es f (box_of l x sides) at.turn.level v.0 standing.trail_is.trail at.turn.derives)

    pub ready_to_assert : IsReadyToAssert l m stored mid sides v
    ready_to_assert = record {
      readable = at.trail.readable;
      few = standing.few;
      sides_are = at.sides_are;
      within = known;
      narrows = subst (λ (g : ℕ → Value → Bool). IsBoxNarrowed (box_of l x sides) g v.0 (without (g v.0) (box_of l x sides v.0))) (sym at.gone.family)
          (turns.narrows (boxes_of l t stored) es f (box_of l x sides) at.turn.level v.0 level standing.trail_is.trail at.turn.derives at.turn.back);
      pinned = λ i.
          let h = standing.pinned i in
          let d = left_all.pins i in
          let e = times-append i (pinned_by k) (held_by_search trail stored) in
          omega (arith, h, d, e);
    }

    -- above level 0 constraints without variables hold
    above : 0 < rules.top es
    above =
        let d = at.turn.derives in
        let trail_at = turns.walk_trail (boxes_of l t stored) es d.rest f d.first d.reached (box_of l x sides) standing.trail_is.trail d.walk in
        let one = turns.stop_level (boxes_of l t stored) d.rest d.reached (box_of l x sides) at.turn.level v.0 trail_at d.stops in
        let two = walk_down p turns (boxes_of l t stored) es f d.first standing.trail_is.trail d.walk in
        let three = d.stops.above in
        omega (arith, one, two, three)

    lower : level < rules.top es
    lower =
        let d = at.turn.derives in
        let trail_at = turns.walk_trail (boxes_of l t stored) es d.rest f d.first d.reached (box_of l x sides) standing.trail_is.trail d.walk in
        let one = turns.stop_level (boxes_of l t stored) d.rest d.reached (box_of l x sides) at.turn.level v.0 trail_at d.stops in
        let two = walk_down p turns (boxes_of l t stored) es f d.first standing.trail_is.trail d.walk in
        let three = turns.below (boxes_of l t stored) es f (box_of l x sides) at.turn.level v.0 level standing.trail_is.trail at.turn.derives at.turn.back in
        omega (arith, one, two, three)

    grounded : HoldWithoutVariables p
    grounded = standing.grounded (let e = standing.trail_is.level in let z = above in omega (arith, e, z))

    -- ---- what was analysed, in a pool where what it holds means the same

    module _ (b : PoolState) (kept : MeansTheSame x (table b.arena) (held_by_search mid stored ++ sets_of sides)) where
      abbrev u : Table
      u = table b.arena

      of_sides : MeansTheSame x u (sets_of sides)
      of_sides r h = kept r (Contains-append_right (held_by_search mid stored) (sets_of sides) r h)

      of_trail : MeansTheSame x u (held mid)
      of_trail r h = kept r (Contains-append_left (held_by_search mid stored) (sets_of sides) r (Contains-append_left (held mid) (stored_sets stored) r h))

      of_boxes : MeansTheSame x u (stored_sets stored)
      of_boxes r h = kept r (Contains-append_left (held_by_search mid stored) (sets_of sides) r (Contains-append_right (held mid) (stored_sets stored) r h))

      box_same : box_of l u sides ≡ box_of l x sides
      box_same = laws.box_stays l x u sides of_sides

      turn_at : IsTurn p l t stored trail (box_of l u sides) v.0 level
      turn_at = subst (λ (g : ℕ → Value → Bool). IsTurn p l t stored trail g v.0 level) (sym box_same) at.turn

      gone_at : HasGoneBack l t u stored level trail mid
      gone_at = record {
        boxes = laws.boxes_stay l x u stored of_boxes ∙ at.gone.boxes;
        entries = laws.entries_stay l x u stored mid.entries (λ r h. of_trail r (Contains-append_right mid.domains (befores mid.entries) r h)) of_boxes ∙ at.gone.entries;
        family = laws.family_stays l x u mid.domains (λ r h. of_trail r (Contains-append_left mid.domains (befores mid.entries) r h)) ∙ at.gone.family;
      }

      trail_at : IsTrailOf p l u stored mid
      trail_at = laws.trail_stays p l x u stored mid of_trail of_boxes at.trail

      sides_at_u : AreSides l u sides
      sides_at_u = laws.sides_stay l x u sides of_sides at.sides_are

      abbrev longer : List StoredBox
      longer = stored ++ stored_box sides 0 true ∷ []

      pub learned_further : (now : List StoredBox) → now ≡ longer → IsFurther p l t u stored trail now mid
      learned_further now is = record {
        added = stored_box sides 0 true ∷ [];
        grown = is;
        boxes = gone_at.boxes;
        legal = λ answers state. subst (λ (bs : List StoredBox). IsLegalState p l u answers bs mid) (sym is)
            (turns.learned l t u answers stored trail mid sides 0 v.0 level state turn_at gone_at trail_at sides_at_u);
      }

      module _ (new : TrailState) (is : IsAsserted l u stored sides v mid new) where
        newest_sides : sides_at longer is.id.0 ≡ sides
        newest_sides = sides_newest stored (stored_box sides 0 true) is.id.0 is.newest

        left_values : values_in l u v is.narrowed.to ≡ without (family l u mid.domains v.0) (box_of l u sides v.0)
        left_values = is.narrowed.values ∙ ap (λ (ss : List Side). without (family l u mid.domains v.0) (box_of l u ss v.0)) newest_sides

        legal_now : (answers : List (ℕ → Value)) → IsLegalState p l t answers stored trail → IsLegalState p l u answers longer new × (measure_of p l u longer new < measure_of p l t stored trail)
        legal_now answers state = subst (λ (s : TrailState). IsLegalState p l u answers longer s × (measure_of p l u longer s < measure_of p l t stored trail)) (sym is.narrowed.is)
            (turns.narrowed l t u answers stored trail mid sides 0 level v is.narrowed.to is.id standing.compiled.kinds state turn_at gone_at trail_at sides_at_u is.narrowed.domain left_values is.newest)

        pub narrowed_further : (now : List StoredBox) → now ≡ longer → IsFurther p l t u stored trail now new
        narrowed_further now same = record {
          added = stored_box sides 0 true ∷ [];
          grown = same;
          boxes = gone_at.boxes;
          legal = λ answers state. subst (λ (bs : List StoredBox). IsLegalState p l u answers bs new) (sym same) (legal_now answers state).0;
        }

        family_now : family l u new.domains ≡ put (rules.back level es f) v.0 (values_in l u v is.narrowed.to)
        family_now =
            let within : v.0 < length mid.domains = subst (λ n. v.0 < n) (sym trail_at.readable.domains.long) known in
            ap (λ (s : TrailState). family l u s.domains) is.narrowed.is
            ∙ laws.family_put l u u mid.domains v is.narrowed.to (grows_itself u) trail_at.readable.domains within
            ∙ ap (λ (g : ℕ → Value → Bool). put g v.0 (values_in l u v is.narrowed.to)) gone_at.family

        pub narrowed_is : (now : List StoredBox) → now ≡ longer → IsLegalForSome p l t stored trail → IsNarrowed p l t u stored trail now new v.0
        narrowed_is now same some = record {
          falls = subst (λ (bs : List StoredBox). measure_of p l u bs new < measure_of p l t stored trail) (sym same) (legal_now some.0 some.1).1;
          settled = λ c within apart. subst (λ (g : ℕ → Value → Bool). IsLeft (problem_of p) c g) (sym family_now)
              (turns.left_outside c (rules.back level es f) v.0 (values_in l u v is.narrowed.to) apart
              ((turns.quiet_below (boxes_of l t stored) es f level standing.trail_is.trail lower).constraints c within));
          grounded = grounded;
        }

        pub trail_now : (now : List StoredBox) → now ≡ longer → IsLegalForSome p l t stored trail → IsTrailOf p l u now new
        trail_now now same some =
            let state = (narrowed_further now same).legal some.0 some.1 in
            record { readable = state.readable; level = state.level; trail = state.legal.trail }

    pub assert_turn : (b : PoolState) (now : List StoredBox) (new : TrailState) → IsLegalForSome p l t stored trail → AssertLeaves l m b stored mid now new sides v (Ok tt) → TurnLeaves p l k a b stored trail now new (Ok (turn.Narrowed v))
    assert_turn b now new some leaves =
        let all : UnitsLeave (IsOfSearch p l) a b (held_by_search trail stored) (held_by_search new now) =
        of_search p l a b (held_by_search trail stored) (held_by_search new now)
        (units_then (IsOfVariable l) a m b (held_by_search trail stored) (held_by_search mid stored ++ sets_of sides) (held_by_search new now) left_all leaves.left) in
        record {
          turned = narrowed_is b leaves.kept new leaves.asserted now leaves.learned some;
          further = narrowed_further b leaves.kept new leaves.asserted now leaves.learned;
          standing = standing_after laws (IsOfSearch p l) p l a b k stored now trail new standing all (trail_now b leaves.kept new leaves.asserted now leaves.learned some) leaves.few (λ h. grounded);
          left = all;
          full = λ e. absurd (cc);
        }

    pub stopped_turn : (b : PoolState) (now : List StoredBox) (new : TrailState) (s : FindStop) → AssertLeaves l m b stored mid now new sides v (Err s) → TurnLeaves p l k a b stored trail now new (Err s)
    stopped_turn b now new s leaves = record {
      turned = tt;
      further = by_stop s leaves;
      standing = tt;
      left = of_search p l a b (held_by_search trail stored) (held_by_search new now)
          (units_then (IsOfVariable l) a m b (held_by_search trail stored) (held_by_search mid stored ++ sets_of sides) (held_by_search new now) left_all leaves.left);
      full = λ e. leaves.full (full_handed {A = Turn} s (Err s) (Err s) refl refl e);
    }
      where
        at_mid : IsFurther p l t (table b.arena) stored trail now mid → IsFurther p l t (table b.arena) stored trail now new
        at_mid h = subst (λ (z : TrailState). IsFurther p l t (table b.arena) stored trail now z) (sym leaves.same) h

        by_stop : (s : FindStop) → AssertLeaves l m b stored mid now new sides v (Err s) → UnlessMemory {A = Turn} (Err s) (IsFurther p l t (table b.arena) stored trail now new)
        by_stop stop.Conflicts h = at_mid (learned_further b h.kept now h.learned)
        by_stop stop.Full h = at_mid (learned_further b h.kept now h.learned)
        by_stop stop.Memory h = tt
