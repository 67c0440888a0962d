-- One try of a unit, and the unit with its second try.
use Rattle.std.proofs.Common.{◌≡◌, ◌⊎◌, ℕ, ◌<◌, Bool, List, [], ◌∷◌, ◌++◌, length, None, Some, refl, sym, ap, ◌∙◌, subst, inl, inr, append-nil, arith}
use Rattle.std.specs.List.{All}
use Rattle.std.specs.Option.{unwrap_or}
use Rattle.std.specs.FinMap as map
use Rattle.std.proofs.lemmas.List.Elements.{All-weaker, Contains-append_left, Contains-append_right}
use Rattle.set_meaning.specs.declared.kinds.Value.{Value}
use Rattle.set_meaning.specs.declared.problems.Problem.{Problem}
use Rattle.bit_layout.specs.Order.{LayoutState}
use Rattle.diagram_arena.specs.declared.nodes.NodeId.{NodeId}
use Rattle.diagram_arena.specs.declared.nodes.Ref.{Ref}
use Rattle.diagram_arena.specs.declared.nodes.Ref.TheVariants.{Zero, One, Node}
use Rattle.diagram_arena.specs.Table.{Word, Table, id_cmp, has, IsLive, IsReduced}
use Rattle.diagram_arena.specs.Arena.{ArenaState, table}
use Rattle.diagram_arena.proofs.Meaning.{live_from}
use Rattle.node_reclaim.specs.Pool.{PoolState, IsPinned}
use Rattle.node_reclaim.specs.Growth.{Stays, NewAre}
use Rattle.node_reclaim.specs.Holders.{AreHeld, MeansTheSame}
use Rattle.node_reclaim.specs.Reclaim.{IsReached}
use Rattle.pin_lists.specs.Units.{PinnedAreLive, Moves, UnitsLeave, Collects}
use Rattle.pin_lists.proofs.Counting.{times-append}
use Rattle.pin_lists.proofs.Leaving.{unit_leaves, units_then, units_frame, units_begun, pins_leave, pinned_grown, pinned_begun, collection_leaves, held_beside, means_then}
use Rattle.pin_lists.proofs.Reached.{reached_grows}
use Rattle.exact_steps.specs.Domains.{family}
use Rattle.propagators.specs.Compiled.{CompiledState, pinned_by}
use Rattle.domain_trail.specs.declared.entries.Entry.{Entry}
use Rattle.domain_trail.specs.Trail.{TrailState, held}
use Rattle.box_clauses.specs.declared.sides.Side.{Side}
use Rattle.box_clauses.specs.declared.store.StoredBox.{StoredBox}
use Rattle.box_clauses.specs.Stored.{stored_sets}
use Rattle.running_boxes.specs.Running.{IsNewest, resolvent_of, IsResolved, IsRunning}
use Rattle.running_boxes.specs.Nodes.{IsOfVariable, IsMadeOf, AreReachedOrMade}
use Rattle.running_boxes.specs.Work.{put_sides, IsSideOf, AreChanges, IsReady}
use Rattle.running_boxes.specs.Laws.{LowerLaws}
use Rattle.running_boxes.proofs.Places.{put_is, sides_put, only_sides}
use Rattle.running_boxes.proofs.Moving.{running_grows, running_family_grows, running_same}
use Rattle.running_boxes.proofs.Trails.{resolvent_same}
use Rattle.running_boxes.proofs.Made.{new_also, of_variable, made_of_still}

-- ---- one try

-- there is one newest entry
one_newest : (s : TrailState) (e f : Entry) → IsNewest s e → IsNewest s f → e ≡ f
one_newest s e f first second = let same : e ∷ first.0 ≡ f ∷ second.0 = sym first.1 ∙ second.1 in cc

pub held_later : (a b : PoolState) (frame held : List Ref) → Stays a b → AreHeld a (frame ++ held) → AreHeld b held
held_later a b frame held stays is i =
    let h = is i in
    let e = times-append i frame held in
    let same = ap (λ (m : map.FinMap id_cmp ℕ). unwrap_or (map.get m i) 0) stays.counts in
    omega (arith, h, e, same)

module _ (laws : LowerLaws) (p : Problem) (l : LayoutState) (a b : PoolState) (k : CompiledState) (trail : TrailState) (stored : List StoredBox) (running : List Ref) (ready : IsReady p l a k trail stored running)
    (pinned : PinnedAreLive a) (stays : Stays a b) (made : NewAre (table a.arena) (table b.arena) (IsMadeOf l a)) where
  pub try_held : AreHeld b running
  try_held = held_later a b (pinned_by k ++ (held trail ++ stored_sets stored)) running stays (λ i.
      let h = ready.pinned i in
      let one = times-append i (pinned_by k) (held trail ++ (stored_sets stored ++ running)) in
      let two = times-append i (held trail) (stored_sets stored ++ running) in
      let three = times-append i (stored_sets stored) running in
      let four = times-append i (pinned_by k ++ (held trail ++ stored_sets stored)) running in
      let five = times-append i (pinned_by k) (held trail ++ stored_sets stored) in
      let six = times-append i (held trail) (stored_sets stored) in
      omega (arith, h, one, two, three, four, five, six))

  pub try_leaves : UnitsLeave (IsOfVariable l) a b running running
  try_leaves = unit_leaves (IsOfVariable l) a b running pinned stays (new_also (table a.arena) (table b.arena) (IsMadeOf l a) (IsOfVariable l) (of_variable l a) made)

  pub put_leaves : (d : PoolState) (after : List Ref) → d.arena ≡ b.arena → Moves b d running after → UnitsLeave (IsOfVariable l) a d running after
  put_leaves d after same moved =
      units_then (IsOfVariable l) a b d running running after try_leaves (pins_leave (IsOfVariable l) b d running after (pinned_grown a b pinned stays) stays.reduced same moved)

  module _ (e : Entry) (newest : IsNewest trail e) (sides : List Side) (are : AreChanges l (table a.arena) (table b.arena) running (resolvent_of p l (table a.arena) stored trail e running) sides) where
    pub sides_known : All (λ (s : Side). s.var.0 < length running) sides
    sides_known = All-weaker (IsSideOf l (table b.arena) (resolvent_of p l (table a.arena) stored trail e running)) (λ (s : Side). s.var.0 < length running)
        (λ s is. subst (λ n. s.var.0 < n) (sym ready.sets.long) is.side.known) sides are.each

    pub sides_live : All (λ (s : Side). IsLive (table b.arena) s.set) sides
    sides_live = All-weaker (IsSideOf l (table b.arena) (resolvent_of p l (table a.arena) stored trail e running)) (λ (s : Side). IsLive (table b.arena) s.set) (λ s is. is.side.set.live) sides are.each

    pub try_resolved : (d : PoolState) (after : List Ref) → d.arena ≡ b.arena → after ≡ put_sides sides running → IsResolved p l (table a.arena) (table d.arena) stored trail running after
    try_resolved d after same put =
        subst (λ (x : ArenaState). IsResolved p l (table a.arena) (table x) stored trail running after) (sym same)
        (subst (IsResolved p l (table a.arena) (table b.arena) stored trail running) (sym put) (record {
          sets = sides_put l (table b.arena) sides running (running_grows laws l (table a.arena) (table b.arena) running stays.grows ready.sets)
              (only_sides l (table b.arena) (resolvent_of p l (table a.arena) stored trail e running) sides are.each);
          values = λ f other. put_is l (table b.arena) (resolvent_of p l (table a.arena) stored trail e running) sides running ready.sets.long are.each
              (λ w none. ap (λ (g : ℕ → Value → Bool). g w) (running_family_grows laws l (table a.arena) (table b.arena) running stays.grows ready.sets) ∙ are.others w none)
              ∙ ap (λ x. resolvent_of p l (table a.arena) stored trail x running) (one_newest trail e f newest other);
        }))

-- ---- a try that finds no room, and a second one

module _ (laws : LowerLaws) (p : Problem) (l : LayoutState) (k : CompiledState) (trail : TrailState) (stored : List StoredBox) (running : List Ref) where
  pub ready_begun : (a begun : PoolState) → begun ≡ record a { units = begun.units } → IsReady p l a k trail stored running → IsReady p l begun k trail stored running
  ready_begun a begun e ready =
      let same : IsReady p l (record a { units = begun.units }) k trail stored running = record { compiled = ready.compiled; legal = ready.legal; sets = ready.sets; pinned = ready.pinned } in
      subst (λ (s : PoolState). IsReady p l s k trail stored running) (sym e) same

  module _ (a begun b c again : PoolState) (first : begun ≡ record a { units = begun.units }) (ready : IsReady p l a k trail stored running) (pinned : PinnedAreLive a) (stays : Stays begun b)
      (made : NewAre (table begun.arena) (table b.arena) (IsMadeOf l begun)) (swept : Collects b c) (second : again ≡ record c { units = again.units }) where
    abbrev all : List Ref
    all = pinned_by k ++ (held trail ++ (stored_sets stored ++ running))

    refused : UnitsLeave (IsOfVariable l) begun b [] []
    refused = unit_leaves (IsOfVariable l) begun b [] (pinned_begun a begun first pinned) stays (new_also (table begun.arena) (table b.arena) (IsMadeOf l begun) (IsOfVariable l) (of_variable l begun) made)

    -- up to the second try
    before_again : UnitsLeave (IsOfVariable l) a c [] []
    before_again = units_then (IsOfVariable l) a b c [] [] [] (units_begun (IsOfVariable l) a begun b [] [] first refused) (collection_leaves (IsOfVariable l) b c [] swept)

    means : MeansTheSame (table a.arena) (table c.arena) all
    means = before_again.kept all (held_beside a all ready.pinned)

    trail_means : MeansTheSame (table a.arena) (table c.arena) (held trail)
    trail_means r h = means r (Contains-append_right (pinned_by k) (held trail ++ (stored_sets stored ++ running)) r (Contains-append_left (held trail) (stored_sets stored ++ running) r h))

    stored_means : MeansTheSame (table a.arena) (table c.arena) (stored_sets stored)
    stored_means r h = means r (Contains-append_right (pinned_by k) (held trail ++ (stored_sets stored ++ running)) r
        (Contains-append_right (held trail) (stored_sets stored ++ running) r (Contains-append_left (stored_sets stored) running r h)))

    running_means : MeansTheSame (table a.arena) (table c.arena) running
    running_means r h = means r (Contains-append_right (pinned_by k) (held trail ++ (stored_sets stored ++ running)) r
        (Contains-append_right (held trail) (stored_sets stored ++ running) r (Contains-append_right (stored_sets stored) running r h)))

    ready_swept : IsReady p l c k trail stored running
    ready_swept = record {
      compiled = laws.compiled l p (table a.arena) (table c.arena) k (λ r h. means r (Contains-append_left (pinned_by k) (held trail ++ (stored_sets stored ++ running)) r h)) ready.compiled;
      legal = laws.trails p l (table a.arena) (table c.arena) stored trail trail_means stored_means ready.legal;
      sets = running_same laws l (table a.arena) (table c.arena) running running_means ready.sets;
      pinned = λ i. let m = before_again.pins i in let n = ready.pinned i in omega (arith, m, n);
    }

    pub ready_again : (now : List Ref) → now ≡ running → IsReady p l again k trail stored now
    ready_again now same = subst (IsReady p l again k trail stored) (sym same) (begun_again again second)
      where
        begun_again : (again : PoolState) → again ≡ record c { units = again.units } → IsReady p l again k trail stored running
        begun_again again e =
            let swept_same : IsReady p l (record c { units = again.units }) k trail stored running
            = record { compiled = ready_swept.compiled; legal = ready_swept.legal; sets = ready_swept.sets; pinned = ready_swept.pinned } in
            subst (λ (s : PoolState). IsReady p l s k trail stored running) (sym e) swept_same

    pub after_again : (d : PoolState) (now after : List Ref) → now ≡ running → UnitsLeave (IsOfVariable l) again d now after → UnitsLeave (IsOfVariable l) a d running after
    after_again d now after same more =
        units_then (IsOfVariable l) a c d running running after (subst (λ hs. UnitsLeave (IsOfVariable l) a c hs hs) (append-nil running) (units_frame (IsOfVariable l) a c running [] [] before_again))
        (units_begun (IsOfVariable l) c again d running after second (subst (λ rs. UnitsLeave (IsOfVariable l) again d rs after) same more))

    pub resolved_again : (d : PoolState) (now after : List Ref) → now ≡ running → IsResolved p l (table again.arena) (table d.arena) stored trail now after → IsResolved p l (table a.arena) (table d.arena) stored trail running after
    resolved_again d now after same is =
        let told : IsResolved p l (table c.arena) (table d.arena) stored trail running after
        = subst (λ (s : PoolState). IsResolved p l (table s.arena) (table d.arena) stored trail running after) second (subst (λ rs. IsResolved p l (table again.arena) (table d.arena) stored trail rs after) same is) in
        record {
          sets = told.sets;
          values = λ e newest. told.values e newest ∙ resolvent_same laws l (table a.arena) (table c.arena) stored stored_means trail trail_means p e running newest running_means;
        }

    -- where the second try is refused too
    module _ (live_again : PinnedAreLive again) (d : PoolState) (more : Stays again d) (new : NewAre (table again.arena) (table d.arena) (IsMadeOf l again)) where
      same_table : table again.arena ≡ table c.arena
      same_table = ap (λ (s : PoolState). table s.arena) second

      still : (r : Ref) → IsPinned again r → IsPinned d r
      still Zero p = tt
      still One p = tt
      still (Node i) p = subst (λ (m : map.FinMap id_cmp ℕ). 0 < unwrap_or (map.get m i) 0) (sym more.counts) p

      live_pinned : (r : Ref) → IsPinned again r → IsLive (table again.arena) r
      live_pinned Zero p = tt
      live_pinned One p = tt
      live_pinned (Node i) p = live_again i p

      meant : (r : Ref) → IsPinned again r → IsLive (table d.arena) r × ((w : Word) → has (table d.arena) r w ≡ has (table again.arena) r w)
      meant r p = let live = live_pinned r p in (more.grows.live r live, more.grows.words r live)

      reached_begun : (again : PoolState) → again ≡ record c { units = again.units } → (i : NodeId) → IsReached c i → IsReached again i
      reached_begun again e i h = let same : IsReached (record c { units = again.units }) i = h in subst (λ (s : PoolState). IsReached s i) (sym e) same

      reduced_again : IsReduced (table again.arena)
      reduced_again = subst IsReduced (sym same_table) swept.reduced

      running_later : MeansTheSame (table c.arena) (table d.arena) running
      running_later r h =
          let live : IsLive (table again.arena) r = subst (λ (t : Table). IsLive t r) (sym same_table) (running_means r h).0 in
          subst (λ (t : Table). IsLive (table d.arena) r × ((w : Word) → has (table d.arena) r w ≡ has t r w)) same_table (more.grows.live r live, more.grows.words r live)

      running_all : MeansTheSame (table a.arena) (table d.arena) running
      running_all = means_then (table a.arena) (table c.arena) (table d.arena) running running_means running_later

      pub reads_same : (after : List Ref) → after ≡ running → IsRunning l (table d.arena) (family l (table a.arena) running) after
      reads_same after same = subst (IsRunning l (table d.arena) (family l (table a.arena) running)) (sym same) (record {
        sets = running_same laws l (table a.arena) (table d.arena) running running_all ready.sets;
        values = laws.families l (table a.arena) (table d.arena) running running_all;
      })

      pub reached_or_made : AreReachedOrMade l d
      reached_or_made i live = elim (table again.arena i) as (λ o. table again.arena i ≡ o → IsReached d i ⊎ IsMadeOf l d (has (table d.arena) (Node i))) [
        | None ↦ λ e. inr (made_of_still laws l again d still meant (has (table d.arena) (Node i)) (new i e live))
        | Some n ↦ λ e.
            let there : IsLive (table c.arena) (Node i) = subst (λ (t : Table). IsLive t (Node i)) same_table (live_from (table again.arena) i n e) in
            inl (reached_grows again d reduced_again live_again more.grows more.counts i (reached_begun again second i (swept.reached i there)))
      ] refl
