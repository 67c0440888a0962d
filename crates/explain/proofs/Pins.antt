-- What stands pinned as a walk goes on.
use Rattle.std.proofs.Common.{◌≡◌, List, ◌++◌, ap, arith}
use Rattle.std.proofs.lemmas.List.Elements.{Contains-append_left, Contains-append_right}
use Rattle.bit_layout.specs.Order.{LayoutState}
use Rattle.diagram_arena.specs.declared.nodes.Ref.{Ref}
use Rattle.diagram_arena.specs.Table.{Words, IsReduced}
use Rattle.diagram_arena.specs.Arena.{table}
use Rattle.node_reclaim.specs.Pool.{PoolState}
use Rattle.node_reclaim.specs.Holders.{AreHeld, MeansTheSame}
use Rattle.pin_lists.specs.Units.{PinnedAreLive, Moves, UnitsLeave}
use Rattle.pin_lists.proofs.Counting.{times-append}
use Rattle.pin_lists.proofs.Leaving.{units_then, units_frame, pins_leave}
use Rattle.propagators.specs.Compiled.{CompiledState, pinned_by}
use Rattle.domain_trail.specs.Trail.{TrailState, held}
use Rattle.box_clauses.specs.declared.store.StoredBox.{StoredBox}
use Rattle.box_clauses.specs.Stored.{stored_sets}
use Rattle.running_boxes.specs.Nodes.{IsOfVariable}
use Rattle.explain.specs.Work.{pinned_on_walk}

pub trail_held : (s : PoolState) (k : CompiledState) (trail : TrailState) (stored : List StoredBox) (running : List Ref)
    → AreHeld s (pinned_on_walk k trail stored running) → AreHeld s (held trail)
trail_held s k trail stored running is i =
    let h = is i in
    let one = times-append i (pinned_by k) (held trail ++ (stored_sets stored ++ running)) in
    let two = times-append i (held trail) (stored_sets stored ++ running) in
    omega (arith, h, one, two)

-- the pins of the trail moved
pub held_moved : (a b : PoolState) (k : CompiledState) (old new : TrailState) (stored : List StoredBox) (running : List Ref)
    → Moves a b (held old) (held new) → AreHeld a (pinned_on_walk k old stored running) → AreHeld b (pinned_on_walk k new stored running)
held_moved a b k old new stored running moved is i =
    let h = is i in
    let m = moved i in
    let one = times-append i (pinned_by k) (held old ++ (stored_sets stored ++ running)) in
    let two = times-append i (held old) (stored_sets stored ++ running) in
    let three = times-append i (pinned_by k) (held new ++ (stored_sets stored ++ running)) in
    let four = times-append i (held new) (stored_sets stored ++ running) in
    omega (arith, h, m, one, two, three, four)

-- the trail and the running box, of which one or the other moved
pub moved_beside : (a b : PoolState) (old new running : List Ref) → Moves a b old new → Moves a b (old ++ running) (new ++ running)
moved_beside a b old new running moved i =
    let m = moved i in
    let one = times-append i old running in
    let two = times-append i new running in
    omega (arith, m, one, two)

-- units left other pins of the trail and the running box
pub held_after_units : (P : Words → Type 0) (a b : PoolState) (k : CompiledState) (old new : TrailState) (stored : List StoredBox) (running after : List Ref)
    → UnitsLeave P a b (held old ++ running) (held new ++ after) → AreHeld a (pinned_on_walk k old stored running) → AreHeld b (pinned_on_walk k new stored after)
held_after_units P a b k old new stored running after left is i =
    let h = is i in
    let m = left.pins i in
    let one = times-append i (pinned_by k) (held old ++ (stored_sets stored ++ running)) in
    let two = times-append i (held old) (stored_sets stored ++ running) in
    let three = times-append i (stored_sets stored) running in
    let four = times-append i (pinned_by k) (held new ++ (stored_sets stored ++ after)) in
    let five = times-append i (held new) (stored_sets stored ++ after) in
    let six = times-append i (stored_sets stored) after in
    let seven = times-append i (held old) running in
    let eight = times-append i (held new) after in
    omega (arith, h, m, one, two, three, four, five, six, seven, eight)

-- and what is pinned beside them means what it meant
module _ (P : Words → Type 0) (a b : PoolState) (k : CompiledState) (old new : TrailState) (stored : List StoredBox) (running after : List Ref)
    (left : UnitsLeave P a b (held old ++ running) (held new ++ after)) (is : AreHeld a (pinned_on_walk k old stored running)) where
  beside : MeansTheSame (table a.arena) (table b.arena) (pinned_by k ++ stored_sets stored)
  beside = left.kept (pinned_by k ++ stored_sets stored) (λ i.
      let h = is i in
      let one = times-append i (pinned_by k) (held old ++ (stored_sets stored ++ running)) in
      let two = times-append i (held old) (stored_sets stored ++ running) in
      let three = times-append i (stored_sets stored) running in
      let four = times-append i (pinned_by k ++ stored_sets stored) (held old ++ running) in
      let five = times-append i (pinned_by k) (stored_sets stored) in
      let six = times-append i (held old) running in
      omega (arith, h, one, two, three, four, five, six))

  pub compiled_means : MeansTheSame (table a.arena) (table b.arena) (pinned_by k)
  compiled_means r h = beside r (Contains-append_left (pinned_by k) (stored_sets stored) r h)

-- a unit left other pins of the running box
module _ (P : Words → Type 0) (a b : PoolState) (k : CompiledState) (trail : TrailState) (stored : List StoredBox) (running after : List Ref)
    (left : UnitsLeave P a b running after) (is : AreHeld a (pinned_on_walk k trail stored running)) where
  all_means : MeansTheSame (table a.arena) (table b.arena) (held trail ++ stored_sets stored)
  all_means = left.kept (held trail ++ stored_sets stored) (λ i.
      let h = is i in
      let one = times-append i (pinned_by k) (held trail ++ (stored_sets stored ++ running)) in
      let two = times-append i (held trail) (stored_sets stored ++ running) in
      let three = times-append i (stored_sets stored) running in
      let four = times-append i (held trail ++ stored_sets stored) running in
      let five = times-append i (held trail) (stored_sets stored) in
      omega (arith, h, one, two, three, four, five))

  pub trail_means : MeansTheSame (table a.arena) (table b.arena) (held trail)
  trail_means r h = all_means r (Contains-append_left (held trail) (stored_sets stored) r h)

  pub stored_means : MeansTheSame (table a.arena) (table b.arena) (stored_sets stored)
  stored_means r h = all_means r (Contains-append_right (held trail) (stored_sets stored) r h)

  pub trail_held_after : AreHeld b (held trail)
  trail_held_after i =
      let h = is i in
      let m = left.pins i in
      let one = times-append i (pinned_by k) (held trail ++ (stored_sets stored ++ running)) in
      let two = times-append i (held trail) (stored_sets stored ++ running) in
      let three = times-append i (stored_sets stored) running in
      omega (arith, h, m, one, two, three)

-- entries were passed, a resolvent was made, and one entry was taken back
module _ (l : LayoutState) (a b c : PoolState) (old mid : TrailState) (running after : List Ref)
    (live : PinnedAreLive a) (reduced : IsReduced (table a.arena)) (same : b ≡ record a { counts = b.counts }) (passed : Moves a b (held old) (held mid))
    (left : UnitsLeave (IsOfVariable l) b c running after) where
  pub left_by_unit : UnitsLeave (IsOfVariable l) a c (held old ++ running) (held mid ++ after)
  left_by_unit =
      units_then (IsOfVariable l) a b c (held old ++ running) (held mid ++ running) (held mid ++ after)
      (pins_leave (IsOfVariable l) a b (held old ++ running) (held mid ++ running) live reduced (ap (λ (s : PoolState). s.arena) same) (moved_beside a b (held old) (held mid) running passed))
      (units_frame (IsOfVariable l) b c (held mid) running after left)

  module _ (d : PoolState) (new : TrailState) (live_after : PinnedAreLive c) (same_after : d ≡ record c { counts = d.counts }) (taken : Moves c d (held mid) (held new)) where
    pub left_beyond : UnitsLeave (IsOfVariable l) a d (held old ++ running) (held new ++ after)
    left_beyond =
        units_then (IsOfVariable l) a c d (held old ++ running) (held mid ++ after) (held new ++ after) left_by_unit
        (pins_leave (IsOfVariable l) c d (held mid ++ after) (held new ++ after) live_after left.reduced (ap (λ (s : PoolState). s.arena) same_after)
        (moved_beside c d (held mid) (held new) after taken))
