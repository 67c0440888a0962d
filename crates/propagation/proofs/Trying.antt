-- One try of a unit, and the unit with its second try.
use Rattle.std.proofs.Common.{◌≡◌, ◌≢◌, ◌⊎◌, ℕ, ◌<◌, Bool, List, [], None, Some, refl, sym, ap, ◌∙◌, subst, inl, inr, append-nil}
use Rattle.std.specs.List.{All}
use Rattle.set_meaning.specs.declared.kinds.Value.{Value}
use Rattle.set_meaning.specs.declared.problems.Problem.{Problem}
use Rattle.bit_layout.specs.Order.{LayoutState}
use Rattle.diagram_arena.specs.declared.nodes.NodeId.{NodeId}
use Rattle.diagram_arena.specs.declared.nodes.Ref.{Ref}
use Rattle.diagram_arena.specs.declared.nodes.Ref.TheVariants.{Node}
use Rattle.diagram_arena.specs.Table.{Words, Table, has, IsLive, IsReduced}
use Rattle.diagram_arena.specs.Arena.{ArenaState, table}
use Rattle.diagram_arena.proofs.Meaning.{live_from}
use Rattle.node_reclaim.specs.Pool.{PoolState}
use Rattle.node_reclaim.specs.Growth.{Stays, NewAre}
use Rattle.node_reclaim.specs.Holders.{MeansTheSame}
use Rattle.node_reclaim.specs.Reclaim.{IsReached}
use Rattle.pin_lists.specs.Units.{PinnedAreLive, Moves, UnitsLeave, Collects}
use Rattle.pin_lists.proofs.Leaving.{unit_leaves, units_then, units_frame, pins_leave, pinned_grown, collection_leaves}
use Rattle.pin_lists.proofs.Reached.{reached_grows}
use Rattle.search_rules.specs.Family.{AllLie}
use Rattle.search_rules.specs.Measure.{total}
use Rattle.search_rules.specs.Walk.{IsConflictBox}
use Rattle.search_rules.proofs.WalkLemmas.{replays_within}
use Rattle.exact_steps.specs.declared.steps.StepResult.{StepResult}
use Rattle.exact_steps.specs.declared.steps.StepResult.TheVariants as step
use Rattle.exact_steps.specs.Domains.{family}
use Rattle.problem_rules.specs.Posed.{problem_of}
use Rattle.propagators.specs.Compiled.{CompiledState, pinned_by}
use Rattle.domain_trail.specs.declared.entries.Reason.TheVariants as why
use Rattle.domain_trail.specs.Trail.{TrailState, held}
use Rattle.box_clauses.specs.declared.store.StoredBox.{StoredBox}
use Rattle.box_clauses.specs.Boxes.{box_of}
use Rattle.box_clauses.specs.Stored.{stored_sets}
use Rattle.search_state.specs.Readings.{sides_at, boxes_of, entries_of, IsKnown}
use Rattle.running_boxes.specs.declared.beginning.Conflict.{Conflict}
use Rattle.running_boxes.specs.declared.beginning.Conflict.TheVariants as conflict
use Rattle.running_boxes.specs.Running.{IsConflictOf, box_of_conflict}
use Rattle.propagation.specs.Quiet.{HasNarrowed}
use Rattle.propagation.specs.Nodes.{IsOfStep, IsOfBoxStep, IsOfUnit, IsOfPropagation, AreReachedOrOfUnit}
use Rattle.propagation.specs.Nodes.IsOfPropagation.{of_step, of_box}
use Rattle.propagation.specs.Work.{reason_for, IsUnitQuiet, IsConstraintQuiet, box_at_family, AreNarrowings, put_all, narrowed_by, narrowings_in, IsAnswerOf, IsReady, IsOnward, values_left, IsStepped}
use Rattle.propagation.specs.Laws.{StayLaws, NarrowLaws}
use Rattle.propagation.proofs.Narrowings.{narrowed_then, narrowed_moved, family_by, narrowings_live, fewer_left, others_stay}
use Rattle.propagation.proofs.Moving.{middle_held, last_held, family_kept, onward_then, onward_begun, ready_on}

-- ---- units

pub reason_known : (p : Problem) (stored : List StoredBox) (unit : Conflict) → IsConflictOf p stored unit → IsKnown stored (reason_for unit)
reason_known p stored (conflict.Constraint c) h = tt
reason_known p stored (conflict.Box b) h = h

pub not_decision : (unit : Conflict) → reason_for unit ≢ why.Decision
not_decision (conflict.Constraint c) e = cc
not_decision (conflict.Box b) e = cc

pub narrowings_of : (p : Problem) (l : LayoutState) (t : Table) (stored : List StoredBox) (f : ℕ → Value → Bool) (unit : Conflict) (o : StepResult) → IsAnswerOf p l t stored f unit o
    → AreNarrowings p l t stored (reason_for unit) f (narrowings_in o)
narrowings_of p l t stored f unit step.Same h = tt
narrowings_of p l t stored f unit (step.Narrowed kept) h = h.1
narrowings_of p l t stored f unit step.Empty h = tt

conflict_box_is : (p : Problem) (l : LayoutState) (t : Table) (stored : List StoredBox) (domains : List Ref) (unit : Conflict) → box_at_family p l t stored (family l t domains) unit ≡ box_of_conflict p l t stored domains unit
conflict_box_is p l t stored domains (conflict.Constraint c) = refl
conflict_box_is p l t stored domains (conflict.Box b) = refl

-- ---- one try

module _ (stay : StayLaws) (p : Problem) (l : LayoutState) (a b : PoolState) (k : CompiledState) (stored : List StoredBox) (old : TrailState) (unit : Conflict) (ready : IsReady p l a k stored old)
    (pinned : PinnedAreLive a) (stays : Stays a b) (made : NewAre (table a.arena) (table b.arena) (IsOfUnit p l (table a.arena) stored (family l (table a.arena) old.domains) unit)) where
  abbrev P : Words → Type 0
  P = IsOfPropagation p l

  of_unit : (unit : Conflict) (W : Words) → IsOfUnit p l (table a.arena) stored (family l (table a.arena) old.domains) unit W → P W
  of_unit (conflict.Constraint c) W h = of_step ready.legal.trail h
  of_unit (conflict.Box b) W h = of_box ready.legal.trail h

  step_leaves : UnitsLeave P a b [] []
  step_leaves = unit_leaves P a b [] pinned stays (λ i none live. of_unit unit (has (table b.arena) (Node i)) (made i none live))

  pub step_onward : IsOnward p l stored a b old old
  step_onward =
      let live = stay.live l (table a.arena) stored old ready.legal.readable in
      record {
        left = subst (λ hs. UnitsLeave P a b hs hs) (append-nil (held old)) (units_frame P a b (held old) [] [] step_leaves);
        narrowed = narrowed_moved p stay l (table a.arena) (table b.arena) stored old (stay.grown (table a.arena) (table b.arena) (held old) stays.grows live.0)
            (stay.grown (table a.arena) (table b.arena) (stored_sets stored) stays.grows live.1) ready.legal;
      }

  module _ (d : PoolState) (new : TrailState) (same : d.arena ≡ b.arena) (moved : Moves b d (held old) (held new)) (put : HasNarrowed p l (table b.arena) (table b.arena) stored old new) where
    pub put_onward : IsOnward p l stored a d old new
    put_onward = record {
      left = units_then P a b d (held old) (held old) (held new) step_onward.left (pins_leave P b d (held old) (held new) (pinned_grown a b pinned stays) stays.reduced same moved);
      narrowed = subst (λ (x : ArenaState). HasNarrowed p l (table a.arena) (table x) stored old new) (sym same)
          (narrowed_then p l (table a.arena) (table b.arena) (table b.arena) stored old old new step_onward.narrowed put);
    }

    module _ (laws : NarrowLaws p) (known : IsConflictOf p stored unit) where
      abbrev u : Table
      u = table b.arena

      abbrev g : ℕ → Value → Bool
      g = family l u old.domains

      before : g ≡ family l (table a.arena) old.domains
      before = family_kept stay l (table a.arena) u old (stay.grown (table a.arena) u (held old) stays.grows (stay.live l (table a.arena) stored old ready.legal.readable).0)

      stepped_at_u : (o : StepResult) → IsAnswerOf p l u stored g unit o → new ≡ narrowed_by (reason_for unit) (narrowings_in o) old → IsStepped p l (table a.arena) u stored unit old new o
      stepped_at_u step.Same h is = (
        is,
        ap (λ (s : TrailState). family l u s.domains) is ∙ before,
        subst (λ (s : TrailState). IsUnitQuiet p l u stored (family l u s.domains) unit) (sym is) h,
      )
      stepped_at_u (step.Narrowed kept) h is =
          let initial : AllLie g (problem_of p).initial = replays_within (problem_of p) (entries_of l u stored old.entries) g step_onward.narrowed.trail.trail.replays in
          let by : family l u new.domains ≡ put_all l u kept.items g
          = ap (λ (s : TrailState). family l u s.domains) is
          ∙ family_by p laws l u stored (reason_for unit) ready.compiled.kinds (reason_known p stored unit known) (not_decision unit) kept.items old step_onward.narrowed.trail h.1 in
          let less : total (problem_of p) (put_all l u kept.items g) < total (problem_of p) g = fewer_left p l u stored (reason_for unit) ready.compiled.kinds kept.items g h.0 initial h.1 in
          record {
            fewer = subst (λ f. total (problem_of p) f < total (problem_of p) (family l (table a.arena) old.domains)) (sym by)
                (subst (λ f. total (problem_of p) (put_all l u kept.items g) < total (problem_of p) f) before less);
            live = narrowings_live p l u stored (reason_for unit) g kept.items h.1;
            quiet = subst (λ f. IsConstraintQuiet p f unit) (sym by) h.2;
            others = λ v none. ap (λ (f : ℕ → Value → Bool). f v) by ∙ others_stay l u kept.items g v none ∙ ap (λ (f : ℕ → Value → Bool). f v) before;
          }
      stepped_at_u step.Empty h is =
          subst (λ (s : TrailState). IsConflictBox (problem_of p) (boxes_of l u stored) (family l u s.domains) (box_of_conflict p l u stored s.domains unit)) (sym is)
          (subst (IsConflictBox (problem_of p) (boxes_of l u stored) g) (conflict_box_is p l u stored old.domains unit) h)

      pub has_stepped : (o : StepResult) → IsAnswerOf p l u stored g unit o → new ≡ narrowed_by (reason_for unit) (narrowings_in o) old → IsStepped p l (table a.arena) (table d.arena) stored unit old new o
      has_stepped o h is = subst (λ (x : ArenaState). IsStepped p l (table a.arena) (table x) stored unit old new o) (sym same) (stepped_at_u o h is)

-- ---- a try that finds no room, and a second one

-- what a unit did, told from an earlier table in which the domains mean the same
pub stepped_from : (p : Problem) (l : LayoutState) (s t u : Table) (stored : List StoredBox) (unit : Conflict) (old new : TrailState) (o : StepResult) → family l t old.domains ≡ family l s old.domains
    → IsStepped p l t u stored unit old new o → IsStepped p l s u stored unit old new o
stepped_from p l s t u stored unit old new step.Same same h = (h.0, h.1 ∙ same, h.2)
stepped_from p l s t u stored unit old new (step.Narrowed kept) same h = record {
  fewer = subst (λ f. values_left p l u new < total (problem_of p) f) same h.fewer;
  live = h.live;
  quiet = h.quiet;
  others = λ v none. h.others v none ∙ ap (λ (f : ℕ → Value → Bool). f v) same;
}
stepped_from p l s t u stored unit old new step.Empty same h = h

pub ready_begun : (p : Problem) (l : LayoutState) (a begun : PoolState) (k : CompiledState) (stored : List StoredBox) (trail : TrailState) → begun ≡ record a { units = begun.units } → IsReady p l a k stored trail
    → IsReady p l begun k stored trail
ready_begun p l a begun k stored trail e ready =
    let same : IsReady p l (record a { units = begun.units }) k stored trail = record { compiled = ready.compiled; legal = ready.legal; pinned = ready.pinned } in
    subst (λ (s : PoolState). IsReady p l s k stored trail) (sym e) same

-- a set of a unit is one in another table where the domains and boxes read the same
unit_reads : (p : Problem) (l : LayoutState) (t u : Table) (stored : List StoredBox) (f g : ℕ → Value → Bool) (unit : Conflict) (W : Words) → g ≡ f
    → ((id : ℕ) → box_of l u (sides_at stored id) ≡ box_of l t (sides_at stored id)) → IsOfUnit p l t stored f unit W → IsOfUnit p l u stored g unit W
unit_reads p l t u stored f g (conflict.Constraint c) W same boxes h = subst (λ x. IsOfStep p l x c.0 W) (sym same) h
unit_reads p l t u stored f g (conflict.Box b) W same boxes h =
    subst (λ x. IsOfBoxStep l x (box_of l u (sides_at stored b.0)) W) (sym same) (subst (λ x. IsOfBoxStep l f x W) (sym (boxes b.0)) h)

module _ (stay : StayLaws) (p : Problem) (l : LayoutState) (k : CompiledState) (stored : List StoredBox) (old : TrailState) (a begun b c again : PoolState)
    (first : begun ≡ record a { units = begun.units }) (ready : IsReady p l a k stored old) (mid : TrailState) (mid_is : mid ≡ old) (onward : IsOnward p l stored begun b old mid) (stays : Stays begun b)
    (swept : Collects b c) (second : again ≡ record c { units = again.units }) where
  ready_first : IsReady p l begun k stored old
  ready_first = ready_begun p l a begun k stored old first ready

  up_to_b : IsOnward p l stored a b old old
  up_to_b = onward_begun p l stored a begun b old old first (subst (IsOnward p l stored begun b old) mid_is onward)

  ready_b : IsReady p l b k stored old
  ready_b = ready_on p l stored stay k a b old old ready up_to_b

  means_c : MeansTheSame (table b.arena) (table c.arena) (held old)
  means_c = swept.kept (held old) (middle_held b (pinned_by k) (held old) (stored_sets stored) ready_b.pinned)

  -- the collection
  swept_on : IsOnward p l stored b c old old
  swept_on = record {
    left = collection_leaves (IsOfPropagation p l) b c (held old) swept;
    narrowed = narrowed_moved p stay l (table b.arena) (table c.arena) stored old means_c
        (swept.kept (stored_sets stored) (last_held b (pinned_by k) (held old) (stored_sets stored) ready_b.pinned)) ready_b.legal;
  }

  up_to_c : IsOnward p l stored a c old old
  up_to_c = onward_then p l stored a b c old old old up_to_b swept_on

  ready_c : IsReady p l c k stored old
  ready_c = ready_on p l stored stay k a c old old ready up_to_c

  pub ready_again : IsReady p l again k stored mid
  ready_again = subst (IsReady p l again k stored) (sym mid_is) (ready_begun p l c again k stored old second ready_c)

  -- the domains read the same
  family_again : family l (table again.arena) old.domains ≡ family l (table a.arena) old.domains
  family_again =
      ap (λ (s : PoolState). family l (table s.arena) old.domains) second
      ∙ family_kept stay l (table b.arena) (table c.arena) old means_c
      ∙ family_kept stay l (table begun.arena) (table b.arena) old
      (stay.grown (table begun.arena) (table b.arena) (held old) stays.grows (stay.live l (table begun.arena) stored old ready_first.legal.readable).0)
      ∙ ap (λ (s : PoolState). family l (table s.arena) old.domains) first

  pub onward_again : (d : PoolState) (new : TrailState) → IsOnward p l stored again d mid new → IsOnward p l stored a d old new
  onward_again d new more =
      onward_then p l stored a c d old old new up_to_c (onward_begun p l stored c again d old new second (subst (λ (s : TrailState). IsOnward p l stored again d s new) mid_is more))

  pub stepped_again : (d : PoolState) (unit : Conflict) (new : TrailState) (o : StepResult) → IsStepped p l (table again.arena) (table d.arena) stored unit mid new o
      → IsStepped p l (table a.arena) (table d.arena) stored unit old new o
  stepped_again d unit new o h =
      stepped_from p l (table a.arena) (table again.arena) (table d.arena) stored unit old new o family_again
      (subst (λ (s : TrailState). IsStepped p l (table again.arena) (table d.arena) stored unit s new o) mid_is h)

  -- where the second try is refused too
  module _ (live_again : PinnedAreLive again) (d : PoolState) (more : Stays again d) (unit : Conflict)
      (new : NewAre (table again.arena) (table d.arena) (IsOfUnit p l (table again.arena) stored (family l (table again.arena) mid.domains) unit)) where
    same_table : table again.arena ≡ table c.arena
    same_table = ap (λ (s : PoolState). table s.arena) second

    reached_begun : (again : PoolState) → again ≡ record c { units = again.units } → (i : NodeId) → IsReached c i → IsReached again i
    reached_begun again e i h = let same : IsReached (record c { units = again.units }) i = h in subst (λ (s : PoolState). IsReached s i) (sym e) same

    reduced_again : IsReduced (table again.arena)
    reduced_again = subst IsReduced (sym same_table) swept.reduced

    all_live : All (IsLive (table again.arena)) (held mid) × All (IsLive (table again.arena)) (stored_sets stored)
    all_live = stay.live l (table again.arena) stored mid ready_again.legal.readable

    reads : (W : Words) → IsOfUnit p l (table again.arena) stored (family l (table again.arena) mid.domains) unit W → IsOfUnit p l (table d.arena) stored (family l (table d.arena) mid.domains) unit W
    reads W = unit_reads p l (table again.arena) (table d.arena) stored (family l (table again.arena) mid.domains) (family l (table d.arena) mid.domains) unit W
        (family_kept stay l (table again.arena) (table d.arena) mid (stay.grown (table again.arena) (table d.arena) (held mid) more.grows all_live.0))
        (λ id. stay.under l (table again.arena) (table d.arena) stored id (stay.grown (table again.arena) (table d.arena) (stored_sets stored) more.grows all_live.1))

    pub reached_or_wanted : (last : TrailState) → last ≡ mid → AreReachedOrOfUnit p l stored last.domains d
    reached_or_wanted last last_is = subst (λ (s : TrailState). AreReachedOrOfUnit p l stored s.domains d) (sym last_is) (
      unit,
      λ i live.
          elim (table again.arena i) as (λ o. table again.arena i ≡ o → IsReached d i ⊎ IsOfUnit p l (table d.arena) stored (family l (table d.arena) mid.domains) unit (has (table d.arena) (Node i))) [
            | None ↦ λ e. inr (reads (has (table d.arena) (Node i)) (new i e live))
            | Some n ↦ λ e.
                let there : IsLive (table c.arena) (Node i) = subst (λ (t : Table). IsLive t (Node i)) same_table (live_from (table again.arena) i n e) in
                inl (reached_grows again d reduced_again live_again more.grows more.counts i (reached_begun again second i (swept.reached i there)))
          ] refl,
    )
