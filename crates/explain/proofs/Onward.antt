-- The walk, one turn after another.
use Rattle.std.proofs.Common.{◌≡◌, ℕ, ◌<◌, ◌≤◌, Bool, List, [], ◌∷◌, ◌++◌, length, Option, None, Some, refl, sym, ap, ◌∙◌, subst, arith}
use Rattle.std.specs.Prelude.{slice_get, MatchOption}
use Rattle.std.specs.List.{All}
use Rattle.std.proofs.lemmas.List.{append_assoc, append-nil}
use Rattle.std.proofs.lemmas.List.Elements.{All-head, All-tail}
use Rattle.std.proofs.lemmas.Option.{same_Some, slice_get_within}
use Rattle.set_meaning.specs.declared.kinds.Value.{Value}
use Rattle.set_meaning.specs.declared.problems.Problem.{Problem}
use Rattle.bit_layout.specs.Order.{LayoutState}
use Rattle.diagram_arena.specs.declared.nodes.Ref.{Ref}
use Rattle.diagram_arena.specs.Table.{Table, IsReduced}
use Rattle.diagram_arena.specs.Arena.{table}
use Rattle.node_reclaim.specs.Pool.{PoolState}
use Rattle.node_reclaim.specs.Holders.{AreHeld}
use Rattle.pin_lists.specs.Units.{PinnedAreLive, UnitsLeave}
use Rattle.pin_lists.proofs.Leaving.{units_itself, units_then}
use Rattle.search_rules.specs.Family.{Lies}
use Rattle.search_rules.specs.Problem.{Problem as RulesProblem}
use Rattle.search_rules.specs.Trail as rules
use Rattle.search_rules.specs.Walk.{Walk, begin, pass, resolve, IsConflictBox}
use Rattle.search_rules.proofs.LearnLemmas.{walk_top}
use Rattle.search_moves.specs.Scans.{NoneMatters}
use Rattle.exact_steps.specs.Domains.{family}
use Rattle.problem_rules.specs.Posed.{problem_of}
use Rattle.domain_trail.specs.declared.entries.Entry.{Entry}
use Rattle.domain_trail.specs.Trail.{TrailState, newest_first, top, held}
use Rattle.propagators.specs.Compiled.{CompiledState, IsCompiled}
use Rattle.running_boxes.specs.Nodes.{IsOfVariable}
use Rattle.box_clauses.specs.declared.store.StoredBox.{StoredBox}
use Rattle.search_state.specs.Readings.{boxes_of, entries_of, IsTrailOf}
use Rattle.search_state.specs.Turns.{IsPartlyUndone}
use Rattle.explain.proofs.Stopping.{top_reads}
use Rattle.running_boxes.specs.Running.{AreRunning}
use Rattle.explain.specs.Scans.{Passes, IsNewest}
use Rattle.explain.specs.Ways.{IsCutFrom}
use Rattle.explain.specs.Work.{IsOnWalk, IsStop, IsPassed, IsStopAt, pinned_on_walk}
use Rattle.explain.specs.WalkLaws.{GoingLaws, StayingLaws, StoppingLaws}
use Rattle.explain.proofs.Pins.{held_after_units, compiled_means}

-- ---- one walk behind another

walk_then : {p : RulesProblem Value} {es mid : List (rules.Entry Value)} {f b g c : ℕ → Value → Bool} {rest : List (rules.Entry Value)} {h d : ℕ → Value → Bool}
    → Walk p es f b mid g c → Walk p mid g c rest h d → Walk p es f b rest h d
walk_then first begin = first
walk_then first (pass walk on lies) = pass (walk_then first walk) on lies
walk_then first (resolve walk on matters) = resolve (walk_then first walk) on matters

cut_then : (old mid new : TrailState) → IsCutFrom old mid → IsCutFrom mid new → IsCutFrom old new
cut_then old mid new (first, is) (second, so) =
    (second ++ first, is ∙ ap (λ (xs : List Entry). xs ++ first) so ∙ append_assoc new.entries second first)

module _ (p : Problem) (l : LayoutState) (t u v : Table) (stored : List StoredBox) (old mid new : TrailState) (first : ℕ → Value → Bool) (running after : List Ref)
    (one : IsOnWalk p l t u stored old mid first running) (two : IsOnWalk p l u v stored mid new (family l u running) after) where
  -- the level falls
  falls : top (newest_first new) ≤ top (newest_first mid)
  falls =
      let low = (walk_top one.walk.trail.trail.replays two.walk.walk).1 in
      let before = top_reads l u stored (newest_first mid) in
      let now = top_reads l v stored (newest_first new) in
      omega (arith, low, before, now)

  alike : IsPartlyUndone old new
  alike k end below undone =
      let fall = falls in
      let less : k < top (newest_first mid) = omega (arith, fall, below) in
      one.partly k end less (two.partly k end below undone)

  pub way_then : IsOnWalk p l t v stored old new first after
  way_then = record {
    running_is = two.running_is;
    walk = record {
      trail = two.walk.trail;
      left = cut_then old mid new one.walk.left two.walk.left;
      boxes = two.walk.boxes ∙ one.walk.boxes;
      walk = walk_then one.walk.walk two.walk.walk;
    };
    partly = alike;
  }

pub way_begins : (p : Problem) → GoingLaws p → (l : LayoutState) (t : Table) (stored : List StoredBox) (old : TrailState) (running : List Ref)
    → IsTrailOf p l t stored old → AreRunning l t running → IsOnWalk p l t t stored old old (family l t running) running
way_begins p laws l t stored old running trail are = record {
  running_is = are;
  walk = record { trail = trail; left = ([], sym (append-nil old.entries)); boxes = refl; walk = begin };
  partly = laws.itself old;
}

-- ---- no entry matters any more

none_on : (p : Problem) → GoingLaws p → (es : List (rules.Entry Value)) (f b : ℕ → Value → Bool) (rest : List (rules.Entry Value)) (g c : ℕ → Value → Bool)
    → Walk (problem_of p) es f b rest g c → NoneMatters rest c → (reached : ℕ → Value → Bool) × Walk (problem_of p) es f b [] reached c
none_on p laws es f b [] g c walk none = (g, walk)
none_on p laws es f b (e ∷ rest) g c walk none =
    none_on p laws es f b rest (rules.undo g e) c
    (pass walk (laws.none (e ∷ rest) c none) (All-head (λ (x : rules.Entry Value). Lies x.before (c x.var)) e rest none))
    (All-tail (λ (x : rules.Entry Value). Lies x.before (c x.var)) e rest none)

module _ (p : Problem) (going : GoingLaws p) (stopping : StoppingLaws p) (l : LayoutState) (t u : Table) (stored : List StoredBox) (old new : TrailState) (first : ℕ → Value → Bool) (running : List Ref)
    (way : IsOnWalk p l t u stored old new first running) where
  pub none_left : IsConflictBox (problem_of p) (boxes_of l t stored) (family l t old.domains) first → All (Passes l u running) new.entries
      → IsPassed p l t u stored old new first running
  none_left conflict passes =
      let end = none_on p going (entries_of l t stored old.entries) (family l t old.domains) first (entries_of l u stored new.entries) (family l u new.domains) (family l u running) way.walk.walk
      (stopping.none l u stored new.entries (family l u running) passes) in
      record { way = way; derives = record { first = first; conflict = conflict; reached = end.0; walk = end.1 } }

  pub stops_for : (place : ℕ) (e : Entry) → IsStopAt l u stored new.entries place running → slice_get new.entries place ≡ Some e
      → IsStop p l t u stored old new first running e.var
  stops_for place e stop at =
      subst (λ (x : Entry). IsStop p l t u stored old new first running x.var) (same_Some stop.entry e (sym stop.there ∙ at))
      (record { way = way; level = stop.entry.level; stops = stop.stops })

-- ---- the loop

-- the walk has come to this trail and this running box, between units
pub record IsUnderWay (p : Problem) (l : LayoutState) (a s : PoolState) (stored : List StoredBox) (old now : TrailState) (before running : List Ref) : Type 0 where
  pub way : IsOnWalk p l (table a.arena) (table s.arena) stored old now (family l (table a.arena) before) running
  pub left : UnitsLeave (IsOfVariable l) a s (held old ++ before) (held now ++ running)

module _ (p : Problem) (l : LayoutState) (a : PoolState) (stored : List StoredBox) (old : TrailState) (before : List Ref) where
  pub under_way_begins : GoingLaws p → PinnedAreLive a → IsReduced (table a.arena) → IsTrailOf p l (table a.arena) stored old → AreRunning l (table a.arena) before
      → IsUnderWay p l a a stored old old before before
  under_way_begins going live reduced trail are = record {
    way = way_begins p going l (table a.arena) stored old before trail are;
    left = units_itself (IsOfVariable l) a (held old ++ before) live reduced;
  }

  module _ (s : PoolState) (now : TrailState) (running : List Ref) (h : IsUnderWay p l a s stored old now before running) where
    pub held_now : (k : CompiledState) → AreHeld a (pinned_on_walk k old stored before) → AreHeld s (pinned_on_walk k now stored running)
    held_now k pinned = held_after_units (IsOfVariable l) a s k old now stored before running h.left pinned

    pub compiled_now : StayingLaws p → (k : CompiledState) → AreHeld a (pinned_on_walk k old stored before) → IsCompiled l p (table a.arena) k → IsCompiled l p (table s.arena) k
    compiled_now staying k pinned compiled =
        staying.compiled l (table a.arena) (table s.arena) k (compiled_means (IsOfVariable l) a s k old now stored before running h.left pinned) compiled

    pub way_on : (u : Table) (new : TrailState) (after : List Ref) → IsOnWalk p l (table s.arena) u stored now new (family l (table s.arena) running) after
        → IsOnWalk p l (table a.arena) u stored old new (family l (table a.arena) before) after
    way_on u new after way = way_then p l (table a.arena) (table s.arena) u stored old now new (family l (table a.arena) before) running after h.way way

    pub left_on : (d : PoolState) (new : TrailState) (after : List Ref) → UnitsLeave (IsOfVariable l) s d (held now ++ running) (held new ++ after)
        → UnitsLeave (IsOfVariable l) a d (held old ++ before) (held new ++ after)
    left_on d new after left = units_then (IsOfVariable l) a s d (held old ++ before) (held now ++ running) (held new ++ after) h.left left

    pub under_way_on : (d : PoolState) (new : TrailState) (after : List Ref)
        → IsOnWalk p l (table s.arena) (table d.arena) stored now new (family l (table s.arena) running) after
        → UnitsLeave (IsOfVariable l) s d (held now ++ running) (held new ++ after) → IsUnderWay p l a d stored old new before after
    under_way_on d new after way left = record {
      way = way_then p l (table a.arena) (table s.arena) (table d.arena) stored old now new (family l (table a.arena) before) running after h.way way;
      left = units_then (IsOfVariable l) a s d (held old ++ before) (held now ++ running) (held new ++ after) h.left left;
    }

pub at_pool : (p : Problem) (l : LayoutState) (a s r : PoolState) (stored : List StoredBox) (old now : TrailState) (before running : List Ref) → r ≡ s
    → IsUnderWay p l a s stored old now before running → IsUnderWay p l a r stored old now before running
at_pool p l a s r stored old now before running same h = subst (λ (x : PoolState). IsUnderWay p l a x stored old now before running) (sym same) h

-- ---- what the newest entry that matters is found to be

module _ (l : LayoutState) (t : Table) (shown : List Ref) (entries : List Entry) (o : Option ℕ)
    (found : MatchOption o (All (Passes l t shown) entries) (IsNewest l t shown entries)) where
  pub none_found : (u : Table) (running : List Ref) → o ≡ None → u ≡ t → shown ≡ running → All (Passes l u running) entries
  none_found u running none same show =
      subst (λ (x : Table). All (Passes l x running) entries) (sym same)
      (subst (λ (r : List Ref). All (Passes l t r) entries) show
      (subst (λ (x : Option ℕ). MatchOption x (All (Passes l t shown) entries) (IsNewest l t shown entries)) none found))

  pub found_within : (place : ℕ) → o ≡ Some place → place < length entries
  found_within place some =
      let newest : IsNewest l t shown entries place = subst (λ (x : Option ℕ). MatchOption x (All (Passes l t shown) entries) (IsNewest l t shown entries)) some found in
      slice_get_within entries place newest.entry newest.there
