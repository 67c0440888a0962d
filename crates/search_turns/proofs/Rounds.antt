-- Turns of the search, one after another.
use Rattle.std.proofs.Common.{◌≡◌, ℕ, suc, ◌<◌, true, false, List, [], ◌∷◌, length, get_or, Option, None, Result, Ok, Err, refl, sym, ap, ◌∙◌, subst, arith, inl, inr, Contains}
use Rattle.std.specs.Prelude.{IfSome}
use Rattle.std.specs.List.{AllZip}
use Rattle.std.proofs.lemmas.Option.{slice_get-get_or}
use Rattle.std.proofs.lemmas.Result.{IfOk-weaker}
use Rattle.set_meaning.specs.declared.kinds.Value.{Value}
use Rattle.set_meaning.specs.declared.kinds.Value.TheVariants as value
use Rattle.set_meaning.specs.declared.problems.VarId.{VarId}
use Rattle.set_meaning.specs.declared.problems.Problem.{Problem}
use Rattle.bit_layout.specs.Order.{LayoutState}
use Rattle.diagram_arena.specs.declared.nodes.Ref.TheVariants.{Zero}
use Rattle.diagram_arena.specs.Table.{Table, IsReduced}
use Rattle.diagram_arena.specs.Arena.{table}
use Rattle.node_reclaim.specs.Pool.{PoolState}
use Rattle.node_reclaim.specs.Growth.{IsFull}
use Rattle.node_reclaim.specs.Holders.{MeansTheSame}
use Rattle.pin_lists.specs.Units.{PinnedAreLive, UnitsLeave}
use Rattle.pin_lists.proofs.Leaving.{units_itself, units_then, units_also}
use Rattle.exact_steps.specs.Domains.{variable, family}
use Rattle.problem_rules.specs.Posed.{problem_of}
use Rattle.constraint_queue.specs.Queue.{QueueState, HasFlaggedReaders, Reads}
use Rattle.set_meaning.specs.Relations.{IsScope}
use Rattle.propagators.specs.Compiled.{CompiledState, pinned_by, IsDiagramOfConstraint, IsCompiled}
use Rattle.propagators.proofs.Scopes.{entry}
use Rattle.domain_trail.specs.Trail.{TrailState, held}
use Rattle.box_clauses.specs.declared.store.StoredBox.{StoredBox}
use Rattle.box_clauses.specs.Stored.{stored_sets}
use Rattle.propagation.specs.Quiet.{IsQueueOf, AreSettled, HasNarrowed}
use Rattle.propagation.specs.Nodes.{IsOfPropagation}
use Rattle.search_turns.specs.Laws.{LowerLaws, TurnLaws}
use Rattle.search_turns.specs.States.{held_by_search, learned_count, IsStanding, IsLegalForSome, IsFurther}
use Rattle.search_turns.specs.Outcomes.{UnlessMemory, IsNarrowed, IsFoundFrom, IsTurnOf}
use Rattle.search_turns.specs.Nodes.{IsOfSearch}
use Rattle.search_turns.specs.Work.{FlagsReaders, TurnLeaves, FindLeaves}
use Rattle.search_turns.specs.declared.outcomes.Turn.{Turn}
use Rattle.search_turns.specs.declared.outcomes.Turn.TheVariants as turn
use Rattle.search_turns.specs.declared.outcomes.Found.{Found}
use Rattle.search_turns.specs.declared.outcomes.Found.TheVariants as found
use Rattle.search_turns.specs.declared.outcomes.FindStop.{FindStop}
use Rattle.search_turns.specs.declared.outcomes.FindStop.TheVariants as stop
use Rattle.search_turns.proofs.Pins.{last_two, with_boxes_alone}
use Rattle.search_turns.proofs.Results.{unless_weaker, full_handed}
use Rattle.search_turns.proofs.Further.{further_itself, further_then, further_trail, some_further, standing_after}

-- ---- after propagation

module _ (laws : LowerLaws) (p : Problem) (l : LayoutState) (k : CompiledState) (a m : PoolState) (stored : List StoredBox) (trail mid : TrailState) (standing : IsStanding p l a k stored trail)
    (is : HasNarrowed p l (table a.arena) (table m.arena) stored trail mid) (left : UnitsLeave (IsOfPropagation p l) a m (held trail) (held mid)) where
  of_boxes : MeansTheSame (table a.arena) (table m.arena) (stored_sets stored)
  of_boxes = left.kept (stored_sets stored) (last_two a (pinned_by k) (held trail) (stored_sets stored) standing.pinned)

  pub spread_left : UnitsLeave (IsOfSearch p l) a m (held_by_search trail stored) (held_by_search mid stored)
  spread_left = with_boxes_alone (IsOfSearch p l) a m (held trail) (held mid) (stored_sets stored) (units_also (IsOfPropagation p l) (IsOfSearch p l) a m (held trail) (held mid) (λ W h. inl h) left)

  pub spread_further : IsFurther p l (table a.arena) (table m.arena) stored trail stored mid
  spread_further = further_trail p l (table a.arena) (table m.arena) stored trail mid (laws.boxes_stay l (table a.arena) (table m.arena) stored of_boxes) is.legal

  pub spread_standing : IsStanding p l m k stored mid
  spread_standing = standing_after laws (IsOfSearch p l) p l a m k stored stored trail mid standing spread_left is.trail standing.few
      (λ above. standing.grounded (subst (λ n. 0 < n) is.level above))

  pub spread_some : IsLegalForSome p l (table a.arena) stored trail → IsLegalForSome p l (table m.arena) stored mid
  spread_some some = (some.0, is.legal some.0 some.1)

  pub full_spread : IsFull m → TurnLeaves p l k a m stored trail stored mid (Err stop.Full)
  full_spread full = record { turned = tt; further = spread_further; standing = tt; left = spread_left; full = λ e. full }

  pub memory_spread : TurnLeaves p l k a m stored trail stored mid (Err stop.Memory)
  memory_spread = record { turned = tt; further = tt; standing = tt; left = spread_left; full = λ e. absurd (cc) }

  pub turn_after : (b : PoolState) (now : List StoredBox) (new : TrailState) (r : Result Turn FindStop) → IsLegalForSome p l (table a.arena) stored trail → TurnLeaves p l k m b stored mid now new r
      → TurnLeaves p l k a b stored trail now new r
  turn_after b now new r some leaves = record {
    turned = IfOk-weaker r (IsTurnOf p l (table m.arena) (table b.arena) stored mid now new) (IsTurnOf p l (table a.arena) (table b.arena) stored trail now new) by_turn leaves.turned;
    further = unless_weaker r (IsFurther p l (table m.arena) (table b.arena) stored mid now new) (IsFurther p l (table a.arena) (table b.arena) stored trail now new)
        (λ h. further_then p l (table a.arena) (table m.arena) (table b.arena) stored stored now trail mid new spread_further h) leaves.further;
    standing = leaves.standing;
    left = units_then (IsOfSearch p l) a m b (held_by_search trail stored) (held_by_search mid stored) (held_by_search new now) spread_left leaves.left;
    full = leaves.full;
  }
    where
      by_turn : (x : Turn) → IsTurnOf p l (table m.arena) (table b.arena) stored mid now new x → IsTurnOf p l (table a.arena) (table b.arena) stored trail now new x
      by_turn (turn.Narrowed v) h =
          let nearer = is.nearer some.0 some.1 in
          let falls = h.falls in
          record { falls = omega (arith, nearer, falls); settled = h.settled; grounded = h.grounded }
      by_turn (turn.Ended found.Single) h = h
      by_turn (turn.Ended found.Complete) h = λ answers state. h answers (is.legal answers state)

-- ---- the queue

pub flags_readers : (old cleared new : QueueState) (v : VarId) → cleared.scopes ≡ old.scopes → length cleared.flags ≡ length old.flags → HasFlaggedReaders cleared new v None → FlagsReaders old new v
flags_readers old cleared new v scopes long is = record {
  scopes = is.scopes ∙ scopes;
  long = is.long ∙ long;
  flags = λ c reads. (is.flags (record { 0 = c })).1 (inr (subst (λ (ss : List (List VarId)). Contains (get_or ss c []) v) (sym scopes) reads, λ e. absurd (cc)));
}

pub queue_woken : (k : CompiledState) (old new : QueueState) (v : VarId) → IsQueueOf k old → FlagsReaders old new v → IsQueueOf k new
queue_woken k old new v is flagged = record { scopes = flagged.scopes ∙ is.scopes; long = flagged.long ∙ is.long }

lengths : {A B : Type 0} (R : A → B → Type 0) (xs : List A) (ys : List B) → AllZip R xs ys → length xs ≡ length ys
lengths R [] [] h = refl
lengths R [] (y ∷ ys) h = absurd h
lengths R (x ∷ xs) [] h = absurd h
lengths R (x ∷ xs) (y ∷ ys) h = ap suc (lengths R xs ys h.1)

module _ (p : Problem) (turns : TurnLaws p) (l : LayoutState) (t : Table) (k : CompiledState) (is : IsCompiled l p t k) where
  -- a constraint reads the variables of its scope
  reads : (q : QueueState) (c v : ℕ) → IsQueueOf k q → c < length p.constraints → (problem_of p).scope c v ≡ true → Reads q c (variable v)
  reads q c v queue within scoped =
      let scope = get_or k.scopes c [] in
      let diagram = get_or k.diagrams c Zero in
      let scope_at = slice_get-get_or k.scopes c [] (subst (λ n. c < n) (lengths IsScope p.constraints k.scopes is.scopes) within) in
      let diagram_at = slice_get-get_or k.diagrams c Zero (subst (λ n. c < n) (lengths (IsDiagramOfConstraint l t) p.constraints k.diagrams is.diagrams) within) in
      let e = entry l p t k c scope diagram is scope_at diagram_at in
      let rule = turns.posed l c e.0 scope is.legal is.kinds e.1 e.2.is_scope in
      subst (λ (ss : List (List VarId)). Contains (get_or ss c []) (variable v)) (sym queue.scopes) ((rule.scoped v).0 scoped)

  -- where the readers of the narrowed variable have flags, the others are settled
  pub woken_settled : (stored now : List StoredBox) (trail new : TrailState) (from u : Table) (v : VarId) (old woken : QueueState) → IsQueueOf k old → FlagsReaders old woken v → IsNarrowed p l from u stored trail now new v.0
      → AreSettled p (family l u new.domains) woken
  woken_settled stored now trail new from u v old woken queue flagged narrowed c within none =
      let apart : (problem_of p).scope c v.0 ≡ false =
      elim ((problem_of p).scope c v.0) as (λ b. (problem_of p).scope c v.0 ≡ b → b ≡ false) [
        | true ↦ λ e. absurd (none (flagged.flags c (reads old c v.0 queue within e)))
        | false ↦ λ e. refl
      ] refl in
      record {
        stays = narrowed.settled c within apart;
        constant = λ free. let x : ℕ → Value = λ _. value.Bool false in (x, narrowed.grounded c within free x);
      }

-- ---- on the way

-- where the search has come from the state of the pool a
pub record IsUnderWay (p : Problem) (l : LayoutState) (k : CompiledState) (conflicts : Option ℕ) (a b : PoolState) (stored : List StoredBox) (trail : TrailState) (now : List StoredBox) (new : TrailState) (queue : QueueState)
    (count : ℕ) : Type 0 where
  pub further : IsFurther p l (table a.arena) (table b.arena) stored trail now new
  pub standing : IsStanding p l b k now new
  pub left : UnitsLeave (IsOfSearch p l) a b (held_by_search trail stored) (held_by_search new now)
  pub queue_is : IsQueueOf k queue
  pub settled : AreSettled p (family l (table b.arena) new.domains) queue
  pub counted : count ≡ learned_count now
  pub capped : IfSome conflicts (λ n. count < n)

pub begins : (p : Problem) (l : LayoutState) (k : CompiledState) (conflicts : Option ℕ) (a : PoolState) (stored : List StoredBox) (trail : TrailState) (queue : QueueState) (count : ℕ) → IsStanding p l a k stored trail
    → PinnedAreLive a → IsReduced (table a.arena) → IsQueueOf k queue → AreSettled p (family l (table a.arena) trail.domains) queue → count ≡ learned_count stored → IfSome conflicts (λ n. count < n)
    → IsUnderWay p l k conflicts a a stored trail stored trail queue count
begins p l k conflicts a stored trail queue count standing pinned reduced is settled counted capped = record {
  further = further_itself p l (table a.arena) stored trail;
  standing = standing;
  left = units_itself (IsOfSearch p l) a (held_by_search trail stored) pinned reduced;
  queue_is = is;
  settled = settled;
  counted = counted;
  capped = capped;
}

module _ (p : Problem) (turns : TurnLaws p) (l : LayoutState) (k : CompiledState) (conflicts : Option ℕ) (a b c : PoolState) (stored : List StoredBox) (trail : TrailState) (now : List StoredBox) (new : TrailState)
    (after : List StoredBox) (last : TrailState) (queue : QueueState) (count : ℕ) (way : IsUnderWay p l k conflicts a b stored trail now new queue count) where
  pub some_now : IsLegalForSome p l (table a.arena) stored trail → IsLegalForSome p l (table b.arena) now new
  some_now some = some_further p l (table a.arena) (table b.arena) stored now trail new way.further some

  further_all : IsFurther p l (table b.arena) (table c.arena) now new after last → IsFurther p l (table a.arena) (table c.arena) stored trail after last
  further_all more = further_then p l (table a.arena) (table b.arena) (table c.arena) stored now after trail new last way.further more

  left_all : UnitsLeave (IsOfSearch p l) b c (held_by_search new now) (held_by_search last after) → UnitsLeave (IsOfSearch p l) a c (held_by_search trail stored) (held_by_search last after)
  left_all more = units_then (IsOfSearch p l) a b c (held_by_search trail stored) (held_by_search new now) (held_by_search last after) way.left more

  -- one turn more
  pub goes_on : (old woken : QueueState) (later : ℕ) (v : VarId) → TurnLeaves p l k b c now new after last (Ok (turn.Narrowed v)) → IsQueueOf k old → FlagsReaders old woken v → later ≡ learned_count after
      → IfSome conflicts (λ n. later < n) → IsUnderWay p l k conflicts a c stored trail after last woken later
  goes_on old woken later v leaves is flagged counted capped = record {
    further = further_all leaves.further;
    standing = leaves.standing;
    left = left_all leaves.left;
    queue_is = queue_woken k old woken v is flagged;
    settled = woken_settled p turns l (table c.arena) k leaves.standing.compiled now after new last (table b.arena) (table c.arena) v old woken is flagged leaves.turned;
    counted = counted;
    capped = capped;
  }

  -- the end
  pub ends : (x : Found) → TurnLeaves p l k b c now new after last (Ok (turn.Ended x)) → FindLeaves p l k a c stored trail after last (Ok x)
  ends x leaves = record {
    found = by_found x leaves.turned;
    further = further_all leaves.further;
    standing = leaves.standing;
    left = left_all leaves.left;
    full = λ e. absurd (cc);
  }
    where
      by_found : (x : Found) → IsFoundFrom p l (table b.arena) (table c.arena) now new after last x → IsFoundFrom p l (table a.arena) (table c.arena) stored trail after last x
      by_found found.Single h = h
      by_found found.Complete h = λ answers state. h answers (way.further.legal answers state)

  pub stops : (s : FindStop) → TurnLeaves p l k b c now new after last (Err s) → FindLeaves p l k a c stored trail after last (Err s)
  stops s leaves = record {
    found = tt;
    further = by_stop s leaves;
    standing = tt;
    left = left_all leaves.left;
    full = λ e. leaves.full (full_handed {A = Found} s (Err s) (Err s) refl refl e);
  }
    where
      by_stop : (s : FindStop) → TurnLeaves p l k b c now new after last (Err s) → UnlessMemory {A = Found} (Err s) (IsFurther p l (table a.arena) (table c.arena) stored trail after last)
      by_stop stop.Conflicts h = further_all h.further
      by_stop stop.Full h = further_all h.further
      by_stop stop.Memory h = tt

-- ---- a turn, and a search from there

module _ (p : Problem) (l : LayoutState) (k : CompiledState) (a b c : PoolState) (stored : List StoredBox) (trail : TrailState) (now : List StoredBox) (new : TrailState) (after : List StoredBox) (last : TrailState)
    (further : IsFurther p l (table a.arena) (table b.arena) stored trail now new) (left : UnitsLeave (IsOfSearch p l) a b (held_by_search trail stored) (held_by_search new now)) where
  pub find_after : (r : Result Found FindStop) → FindLeaves p l k b c now new after last r → FindLeaves p l k a c stored trail after last r
  find_after r leaves = record {
    found = IfOk-weaker r (IsFoundFrom p l (table b.arena) (table c.arena) now new after last) (IsFoundFrom p l (table a.arena) (table c.arena) stored trail after last) by_found leaves.found;
    further = unless_weaker r (IsFurther p l (table b.arena) (table c.arena) now new after last) (IsFurther p l (table a.arena) (table c.arena) stored trail after last)
        (λ h. further_then p l (table a.arena) (table b.arena) (table c.arena) stored now after trail new last further h) leaves.further;
    standing = leaves.standing;
    left = units_then (IsOfSearch p l) a b c (held_by_search trail stored) (held_by_search new now) (held_by_search last after) left leaves.left;
    full = leaves.full;
  }
    where
      by_found : (x : Found) → IsFoundFrom p l (table b.arena) (table c.arena) now new after last x → IsFoundFrom p l (table a.arena) (table c.arena) stored trail after last x
      by_found found.Single h = h
      by_found found.Complete h = λ answers state. h answers (further.legal answers state)
