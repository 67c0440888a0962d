-- The box that a walk derived, and the trail that goes back with it.
use Rattle.std.proofs.Common.{ℕ, ◌++◌, ◌<◌, Bool, List, ◌∙◌}
use Rattle.std.specs.List.{All}
use Rattle.std.proofs.lemmas.List.Elements.{All-weaker}
use Rattle.set_meaning.specs.declared.kinds.Value.{Value}
use Rattle.set_meaning.specs.declared.problems.Problem.{Problem}
use Rattle.set_meaning.specs.declared.problems.VarId.{VarId}
use Rattle.bit_layout.specs.Order.{LayoutState}
use Rattle.diagram_arena.specs.declared.nodes.Ref.{Ref}
use Rattle.diagram_arena.specs.Table.{Words, Table}
use Rattle.diagram_arena.specs.Arena.{table}
use Rattle.node_reclaim.specs.Pool.{PoolState}
use Rattle.node_reclaim.specs.Holders.{AreHeld, MeansTheSame}
use Rattle.pin_lists.specs.Units.{UnitsLeave}
use Rattle.search_rules.specs.Family.{AllLie}
use Rattle.search_rules.specs.Walk.{IsConflictBox, Derives, IsBackLevel, IsNewestOther}
use Rattle.exact_steps.specs.Domains.{family}
use Rattle.problem_rules.specs.Posed.{problem_of}
use Rattle.propagators.specs.Compiled.{CompiledState, pinned_by, AreInitialDomains, IsCompiled}
use Rattle.domain_trail.specs.Trail.{TrailState, IsUndoneTo}
use Rattle.domain_trail.specs.declared.entries.Entry.{Entry}
use Rattle.box_clauses.specs.declared.store.StoredBox.{StoredBox}
use Rattle.search_state.specs.Readings.{boxes_of, entries_of, IsEntry, IsTrailOf}
use Rattle.explain.specs.Scans.{IsOld}
use Rattle.explain.specs.Work.{IsOnWalk, IsStop}
use Rattle.explain.specs.Walks.{HoldsExcluded}
use Rattle.explain.specs.Returning.{IsTurned}
use Rattle.explain.specs.DerivedLaws.{ExclusionLaws, TurnLaws}

module _ (p : Problem) (l : LayoutState) (t u : Table) (stored : List StoredBox) (old now : TrailState) (first : ℕ → Value → Bool)
    (legal : IsTrailOf p l t stored old) (conflict : IsConflictBox (problem_of p) (boxes_of l t stored) (family l t old.domains) first) (laws : ExclusionLaws p) (running : List Ref) where
  pub holds_excluded : IsOnWalk p l t u stored old now first running → HoldsExcluded p l t stored (family l u running)
  holds_excluded way =
      laws.excluded (boxes_of l t stored) (entries_of l t stored old.entries) (entries_of l u stored now.entries) (family l t old.domains) first (family l u now.domains) (family l u running) legal.trail conflict way.walk.walk

  pub all_inside : IsOnWalk p l t u stored old now first running → AllLie (family l u now.domains) (family l u running)
  all_inside way =
      laws.inside (boxes_of l t stored) (entries_of l t stored old.entries) (entries_of l u stored now.entries) (family l t old.domains) first (family l u now.domains) (family l u running) legal.trail conflict way.walk.walk

  module _ (turns : TurnLaws p) (v : VarId) (stop : IsStop p l t u stored old now first running v) where
    derives : Derives (problem_of p) (boxes_of l t stored) (entries_of l t stored old.entries) (family l t old.domains) (family l u running) stop.level v.0
    derives = record {
      first = first;
      conflict = conflict;
      rest = entries_of l u stored now.entries;
      reached = family l u now.domains;
      walk = stop.way.walk.walk;
      stops = stop.stops;
    }

    module _ (k : ℕ) (newest : IsNewestOther (entries_of l u stored now.entries) (family l u running) v.0 k) where
      back_level : IsBackLevel (entries_of l t stored old.entries) (family l t old.domains) (family l u running) v.0 k
      unfolding derives
      back_level = turns.newest (boxes_of l t stored) (entries_of l t stored old.entries) (family l t old.domains) (family l u running) stop.level v.0 k legal.trail derives newest

      below : k < stop.level
      below = turns.below (boxes_of l t stored) (entries_of l t stored old.entries) (family l t old.domains) (family l u running) stop.level v.0 k legal.trail derives back_level

      pub turned : (new : TrailState) → IsUndoneTo k now new → IsTurned p l t u stored old new running (record { var = v; level = k })
      unfolding derives
      turned new undone = record {
        running_is = stop.way.running_is;
        turn = record { level = stop.level; derives = derives; back = back_level };
        gone = record {
          boxes = stop.way.walk.boxes;
          entries = turns.undone_entries l u stored k now new undone
              ∙ turns.entries (boxes_of l t stored) (entries_of l t stored old.entries) (family l t old.domains) (family l u running) stop.level v.0 k legal.trail derives below;
          family = turns.undone_family l u stored k now new undone stop.way.walk.trail.readable
              ∙ turns.families (boxes_of l t stored) (entries_of l t stored old.entries) (family l t old.domains) (family l u running) stop.level v.0 k legal.trail derives below;
        };
        trail = turns.undone_trail l u stored k now new undone stop.way.walk.trail;
        excluded = holds_excluded stop.way;
        is_new = turns.is_new (boxes_of l t stored) (entries_of l t stored old.entries) (family l t old.domains) (family l u running) stop.level v.0 legal.trail derives;
      }

-- ---- what the way back asks for

pub old_entries : (l : LayoutState) (t : Table) (stored : List StoredBox) (es : List Entry) → All (IsEntry l t stored) es → All (IsOld l t) es
old_entries l t stored es each = All-weaker (IsEntry l t stored) (IsOld l t) (λ e is. record { known = is.known; before = is.before }) es each

pub start_later :
    ((l : LayoutState) (p : Problem) (t u : Table) (k : CompiledState) → MeansTheSame t u (pinned_by k) → IsCompiled l p t k → IsCompiled l p u k)
    → (l : LayoutState) (p : Problem) (P : Words → Type 0) (a b : PoolState) (k : CompiledState) (before after : List Ref) → IsCompiled l p (table a.arena) k
    → AreHeld a (pinned_by k ++ before) → UnitsLeave P a b before after → AreInitialDomains l (table b.arena) k.start
start_later law l p P a b k before after is held left = (law l p (table a.arena) (table b.arena) k (left.kept (pinned_by k) held) is).start
