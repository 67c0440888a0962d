-- A box that is learned, and the narrowing by it.
use Rattle.std.proofs.Common.{◌≡◌, ℕ, ◌<◌, ◌^◌, Bool, true, List, [], ◌∷◌, ◌++◌, length, Some, Result, Err, refl, sym, ap, ◌∙◌, subst, arith, length-append}
use Rattle.std.specs.Prelude.{OnOk, OnErr, slice_get}
use Rattle.std.specs.Option.{option_map_or}
use Rattle.std.proofs.lemmas.Result.{on_ok_weaker}
use Rattle.set_meaning.specs.declared.problems.BoxId.{BoxId}
use Rattle.set_meaning.specs.declared.problems.VarId.{VarId}
use Rattle.bit_layout.specs.Order.{LayoutState}
use Rattle.diagram_arena.specs.declared.nodes.Ref.{Ref}
use Rattle.diagram_arena.specs.Table.{IsReduced}
use Rattle.diagram_arena.specs.Arena.{table}
use Rattle.node_reclaim.specs.Pool.{PoolState, times}
use Rattle.node_reclaim.specs.Growth.{IsFull}
use Rattle.node_reclaim.specs.Holders.{AreHeld, MeansTheSame}
use Rattle.pin_lists.specs.Units.{PinnedAreLive, Moves, UnitsLeave}
use Rattle.pin_lists.proofs.Counting.{times-append}
use Rattle.pin_lists.proofs.Leaving.{units_then, pins_leave, means_itself, means_then}
use Rattle.search_rules.specs.Family.{without}
use Rattle.search_rules.specs.Box.{IsBoxNarrowed}
use Rattle.exact_steps.specs.Domains.{family}
use Rattle.domain_trail.specs.Trail.{TrailState, held}
use Rattle.box_clauses.specs.declared.sides.Side.{Side}
use Rattle.box_clauses.specs.declared.store.StoredBox.{StoredBox}
use Rattle.box_clauses.specs.Boxes.{box_of}
use Rattle.box_clauses.specs.Sides.{sets_of}
use Rattle.box_clauses.specs.Stored.{stored as stored_box, stored_sets}
use Rattle.search_state.specs.Readings.{sides_at, AreReadable}
use Rattle.running_boxes.specs.Nodes.{IsOfVariable}
use Rattle.search_turns.specs.Laws.{LowerLaws}
use Rattle.search_turns.specs.States.{held_by_search}
use Rattle.search_turns.specs.Outcomes.{UnlessMemory}
use Rattle.search_turns.specs.Work.{IsNarrowedOutside, IsReadyToNarrow, IsReadyToAssert, AssertLeaves}
use Rattle.search_turns.specs.declared.outcomes.FindStop.{FindStop}
use Rattle.search_turns.specs.declared.outcomes.FindStop.TheVariants as stop
use Rattle.search_turns.proofs.Pins.{AreAlike, times_added, with_boxes_alone}
use Rattle.search_turns.proofs.Results.{unless_always, unless_handed, full_handed}
use Rattle.search_turns.proofs.Units.{Keeps}

get_end : {X : Type 0} (xs : List X) (x : X) → slice_get (xs ++ x ∷ []) (length xs) ≡ Some x
get_end [] x = refl
get_end (y ∷ ys) x = get_end ys x

-- the newest box in store
pub sides_newest : (stored : List StoredBox) (b : StoredBox) (n : ℕ) → n ≡ length stored → sides_at (stored ++ b ∷ []) n ≡ b.sides
sides_newest stored b n is = ap (λ i. sides_at (stored ++ b ∷ []) i) is ∙ ap (λ o. option_map_or (λ (s : StoredBox). s.sides) o []) (get_end stored b)

-- what is pinned once the box is stored
pub alike_stored : (trail : TrailState) (stored : List StoredBox) (sides : List Side) (line : ℕ) (learned : Bool)
    → AreAlike (held_by_search trail stored ++ sets_of sides) (held_by_search trail (stored ++ stored_box sides line learned ∷ []))
alike_stored trail stored sides line learned i =
    let now = stored ++ stored_box sides line learned ∷ [] in
    let e = times-append i (held_by_search trail stored) (sets_of sides) in
    let f = times-append i (held trail) (stored_sets stored) in
    let g = times-append i (held trail) (stored_sets now) in
    let h = times_added i stored (stored_box sides line learned) in
    omega (arith, e, f, g, h)

pub moves_with_trail : (a b : PoolState) (trail : TrailState) (stored now : List StoredBox) (more : List Ref) → Moves a b (stored_sets stored ++ more) (stored_sets now)
    → Moves a b (held_by_search trail stored ++ more) (held_by_search trail now)
moves_with_trail a b trail stored now more moved i =
    let m = moved i in
    let e = times-append i (held_by_search trail stored) more in
    let f = times-append i (held trail) (stored_sets stored) in
    let g = times-append i (held trail) (stored_sets now) in
    let h = times-append i (stored_sets stored) more in
    omega (arith, m, e, f, g, h)

pub keeps_counted : (a b : PoolState) → PinnedAreLive a → b ≡ record a { counts = b.counts } → Keeps a b
keeps_counted a b pinned only rs h = subst (λ (s : PoolState). MeansTheSame (table a.arena) (table s.arena) rs) (sym only) (means_itself a rs pinned h)

module _ (laws : LowerLaws) (l : LayoutState) (a m : PoolState) (stored now : List StoredBox) (trail : TrailState) (sides : List Side) (v : VarId) (ready : IsReadyToAssert l a stored trail sides v)
    (only : m ≡ record a { counts = m.counts }) (moved : Moves a m (stored_sets stored ++ sets_of sides) (stored_sets now)) (pinned : PinnedAreLive a) (reduced : IsReduced (table a.arena)) where
  learn_left : UnitsLeave (IsOfVariable l) a m (held_by_search trail stored ++ sets_of sides) (held_by_search trail now)
  learn_left = pins_leave (IsOfVariable l) a m (held_by_search trail stored ++ sets_of sides) (held_by_search trail now) pinned reduced (ap (λ (s : PoolState). s.arena) only) (moves_with_trail a m trail stored now (sets_of sides) moved)

  learn_kept : MeansTheSame (table a.arena) (table m.arena) (held_by_search trail stored ++ sets_of sides)
  learn_kept = keeps_counted a m pinned only (held_by_search trail stored ++ sets_of sides) ready.pinned

  -- the search stops right after the box was stored, or it was not stored
  pub stopped_learning : (s : FindStop) (r : Result BoxId FindStop) → r ≡ Err s → length now < 2 ^ 32 → (r ≡ Err stop.Full → ⊥) → UnlessMemory r (now ≡ stored ++ stored_box sides 0 true ∷ [])
      → AssertLeaves l a m stored trail now trail sides v (Err s)
  stopped_learning s r is few never learned = record {
    asserted = tt;
    learned = unless_handed {B = Unit {0}} s (now ≡ stored ++ stored_box sides 0 true ∷ []) r (Err s) is refl learned;
    few = few;
    same = refl;
    kept = learn_kept;
    left = learn_left;
    full = λ e. absurd (never (full_handed {A = Unit {0}} s (Err s) r refl is e));
  }

  module _ (learned : now ≡ stored ++ stored_box sides 0 true ∷ []) (id : BoxId) (newest : id.0 ≡ length stored) where
    sides_are : sides_at now id.0 ≡ sides
    sides_are = subst (λ (bs : List StoredBox). sides_at bs id.0 ≡ sides) (sym learned) (sides_newest stored (stored_box sides 0 true) id.0 newest)

    same_table : table a.arena ≡ table m.arena
    same_table = sym (ap (λ (s : PoolState). table s.arena) only)

    still : AreHeld m (held_by_search trail now)
    still i =
        let all = ready.pinned i in
        let m1 = moves_with_trail a m trail stored now (sets_of sides) moved i in
        omega (arith, all, m1)

    still_all : AreHeld m (held_by_search trail stored ++ sets_of sides)
    still_all i =
        let h = still i in
        let e = alike_stored trail stored sides 0 true i in
        let f = ap (λ (bs : List StoredBox). times i (held_by_search trail bs)) learned in
        omega (arith, h, e, f)

    pub ready_to_narrow : IsReadyToNarrow l m now trail id v
    ready_to_narrow = record {
      readable = subst (λ t. AreReadable l t now trail) same_table
          (subst (λ (bs : List StoredBox). AreReadable l (table a.arena) bs trail) (sym learned) (laws.readable_added l (table a.arena) stored (stored_box sides 0 true) trail ready.readable ready.sides_are));
      known =
          let e = ap length learned ∙ length-append stored (stored_box sides 0 true ∷ []) in
          omega (arith, e, newest);
      within = ready.within;
      narrows = subst (λ t. IsBoxNarrowed (box_of l t (sides_at now id.0)) (family l t trail.domains) v.0 (without (family l t trail.domains v.0) (box_of l t (sides_at now id.0) v.0))) same_table
          (subst (λ (ss : List Side). IsBoxNarrowed (box_of l (table a.arena) ss) (family l (table a.arena) trail.domains) v.0 (without (family l (table a.arena) trail.domains v.0) (box_of l (table a.arena) ss v.0))) (sym sides_are) ready.narrows);
      pinned = still;
    }

    pub narrowed_leaves : (b : PoolState) (new : TrailState) (r : Result (Unit {0}) FindStop) → length now < 2 ^ 32 → OnOk r (IsNarrowedOutside l (table b.arena) now id v trail new) → OnErr r (new ≡ trail)
        → UnitsLeave (IsOfVariable l) m b (held trail) (held new) → Keeps m b → (r ≡ Err stop.Full → IsFull b) → AssertLeaves l a b stored trail now new sides v r
    narrowed_leaves b new r few narrowed same left keeps full = record {
      asserted = on_ok_weaker r (λ is. record {
        id = id;
        newest = newest;
        narrowed = subst (λ (bs : List StoredBox). IsNarrowedOutside l (table b.arena) bs id v trail new) learned is;
      }) narrowed;
      learned = unless_always r (now ≡ stored ++ stored_box sides 0 true ∷ []) learned;
      few = few;
      same = same;
      kept = means_then (table a.arena) (table m.arena) (table b.arena) (held_by_search trail stored ++ sets_of sides) learn_kept (keeps (held_by_search trail stored ++ sets_of sides) still_all);
      left = units_then (IsOfVariable l) a m b (held_by_search trail stored ++ sets_of sides) (held_by_search trail now) (held_by_search new now) learn_left
          (with_boxes_alone (IsOfVariable l) m b (held trail) (held new) (stored_sets now) left);
      full = full;
    }
