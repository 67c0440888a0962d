-- One turn of the walk: entries are passed, a resolvent is made, and one entry more is taken back.
use Rattle.std.proofs.Common.{◌≡◌, ◌≢◌, ℕ, ◌+◌, ◌<◌, List, ◌++◌, length, take, drop, Result, Ok, Err, sym, ap, ◌∙◌, subst, arith}
use Rattle.std.specs.Prelude.{IsErrAnd}
use Rattle.std.proofs.lemmas.List.{length-append}
use Rattle.set_meaning.specs.declared.problems.Problem.{Problem}
use Rattle.bit_layout.specs.Order.{LayoutState}
use Rattle.diagram_arena.specs.declared.nodes.Ref.{Ref}
use Rattle.diagram_arena.specs.declared.nodes.Stop.{Stop}
use Rattle.diagram_arena.specs.declared.nodes.Stop.TheVariants.{Full}
use Rattle.diagram_arena.specs.Table.{Table, IsReduced}
use Rattle.diagram_arena.specs.Arena.{table}
use Rattle.node_reclaim.specs.Pool.{PoolState}
use Rattle.node_reclaim.specs.Holders.{AreHeld, MeansTheSame}
use Rattle.pin_lists.specs.Units.{PinnedAreLive, Moves, UnitsLeave}
use Rattle.search_rules.specs.Walk.{GoesOn}
use Rattle.exact_steps.specs.Domains.{family}
use Rattle.propagators.specs.Compiled.{CompiledState}
use Rattle.domain_trail.specs.declared.entries.Entry.{Entry}
use Rattle.domain_trail.specs.declared.entries.Reason.TheVariants as why
use Rattle.domain_trail.specs.Trail.{TrailState, held, IsUndone}
use Rattle.box_clauses.specs.declared.store.StoredBox.{StoredBox}
use Rattle.box_clauses.specs.Stored.{stored_sets}
use Rattle.search_state.specs.Readings.{entries_of, IsTrailOf}
use Rattle.running_boxes.specs.Running.{IsRunning, IsResolved}
use Rattle.running_boxes.specs.Running.{IsNewest as IsNewestOf}
use Rattle.running_boxes.specs.Nodes.{IsOfVariable}
use Rattle.explain.specs.Scans.{IsNewest}
use Rattle.explain.specs.Ways.{IsCutFrom}
use Rattle.explain.specs.Work.{pinned_on_walk, IsOnWalk, AreUndone}
use Rattle.explain.specs.WalkLaws.{GoingLaws, StayingLaws}
use Rattle.explain.proofs.Undoing.{left_and_taken, one_less}
use Rattle.explain.proofs.Passing.{IsPassing, starts, passing}
use Rattle.explain.proofs.Pins.{held_moved, trail_means, stored_means, trail_held_after, left_by_unit, left_beyond}
use Rattle.explain.proofs.Beyond.{undone_newest, newest_matters, no_decision, stays_there, comes_beyond}

-- what the exit of a `?` hands on
pub passed_on : {T : Type 0} (o : Result T Stop) (e : Stop) (P : Type 0) → IsErrAnd o (λ x. x ≡ e) → (e ≡ Full → P) → o ≡ Err Full → P
passed_on (Ok r) e P is full at = absurd is
passed_on (Err x) e P is full at = let same : x ≡ Full = (cc) in full (sym is ∙ same)

module _ (p : Problem) (going : GoingLaws p) (staying : StayingLaws p) (l : LayoutState) (stored : List StoredBox) (k : CompiledState) (old mid : TrailState) (running : List Ref) (place : ℕ) (a b : PoolState)
    (trail : IsTrailOf p l (table a.arena) stored old) (pinned : AreHeld a (pinned_on_walk k old stored running))
    (newest : IsNewest l (table a.arena) running old.entries place) (on : GoesOn (entries_of l (table a.arena) stored old.entries) (family l (table a.arena) running))
    (left : mid.entries ≡ take (place + 1) old.entries) (undone : AreUndone (drop (place + 1) old.entries) old mid)
    (only : b ≡ record a { counts = b.counts }) (moved : Moves a b (held old) (held mid)) where
  same_table : table b.arena ≡ table a.arena
  same_table = ap (λ (s : PoolState). table s.arena) only

  passed : IsPassing p l (table a.arena) stored old mid running
  passed = passing p going l (table a.arena) stored old running (drop (place + 1) old.entries) old mid undone newest.later
      (starts p going l (table a.arena) stored old running trail on)

  cut_passed : IsCutFrom old mid
  cut_passed = (drop (place + 1) old.entries, left_and_taken (drop (place + 1) old.entries) old mid undone)

  pub reason_known : (e : Entry) → IsNewestOf mid e → e.reason ≢ why.Decision
  reason_known e is =
      no_decision p going staying l (table a.arena) (table a.arena) stored old mid running trail passed e is
      (newest_matters l (table a.arena) running place old mid newest left e is)

  pub trail_passed : IsTrailOf p l (table b.arena) stored mid
  trail_passed = subst (λ (t : Table). IsTrailOf p l t stored mid) (sym same_table) passed.trail

  pub held_passed : AreHeld b (pinned_on_walk k mid stored running)
  held_passed = held_moved a b k old mid stored running moved pinned

  module _ (c : PoolState) (after : List Ref) (unit_left : UnitsLeave (IsOfVariable l) b c running after) where
    held_means : MeansTheSame (table a.arena) (table c.arena) (held mid)
    held_means = subst (λ (t : Table). MeansTheSame t (table c.arena) (held mid)) same_table (trail_means (IsOfVariable l) b c k mid stored running after unit_left held_passed)

    boxes_mean : MeansTheSame (table a.arena) (table c.arena) (stored_sets stored)
    boxes_mean = subst (λ (t : Table). MeansTheSame t (table c.arena) (stored_sets stored)) same_table (stored_means (IsOfVariable l) b c k mid stored running after unit_left held_passed)

    pub held_resolved : AreHeld c (held mid)
    held_resolved = trail_held_after (IsOfVariable l) b c k mid stored running after unit_left held_passed

    pub refused_left : PinnedAreLive a → IsReduced (table a.arena) → UnitsLeave (IsOfVariable l) a c (held old ++ running) (held mid ++ after)
    refused_left live reduced = left_by_unit l a b c old mid running after live reduced only moved unit_left

    pub refused_way : IsRunning l (table c.arena) (family l (table b.arena) running) after
        → IsOnWalk p l (table a.arena) (table c.arena) stored old mid (family l (table a.arena) running) after
    refused_way is =
        stays_there p going staying l (table a.arena) (table c.arena) stored old mid running trail passed cut_passed held_means boxes_mean after
        (subst (λ (t : Table). IsRunning l (table c.arena) (family l t running) after) same_table is)

    module _ (d : PoolState) (new : TrailState) (one : IsUndone mid new) (only_one : d ≡ record c { counts = d.counts }) where
      pub resolved_left : PinnedAreLive a → IsReduced (table a.arena) → PinnedAreLive c → Moves c d (held mid) (held new)
          → UnitsLeave (IsOfVariable l) a d (held old ++ running) (held new ++ after)
      resolved_left live reduced live_after taken = left_beyond l a b c old mid running after live reduced only moved unit_left d new live_after only_one taken

      pub resolved_less : length new.entries < length old.entries
      resolved_less =
          let some = one_less mid new one in
          let whole = ap length cut_passed.1 ∙ length-append mid.entries cut_passed.0 in
          omega (arith, some, whole)

      pub resolved_way : IsResolved p l (table b.arena) (table c.arena) stored mid running after
          → IsOnWalk p l (table a.arena) (table d.arena) stored old new (family l (table a.arena) running) after
      resolved_way is =
          subst (λ (t : Table). IsOnWalk p l (table a.arena) t stored old new (family l (table a.arena) running) after) (sym (ap (λ (s : PoolState). table s.arena) only_one))
          (comes_beyond p going staying l (table a.arena) (table c.arena) stored old mid running trail passed cut_passed held_means boxes_mean after new one
          (newest_matters l (table a.arena) running place old mid newest left one.entry (undone_newest mid new one))
          (subst (λ (t : Table). IsResolved p l t (table c.arena) stored mid running after) same_table is))
