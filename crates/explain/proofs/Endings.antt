-- What is answered, from what the walk left and the sides that are held.
use Rattle.std.proofs.Common.{◌≡◌, ℕ, Bool, List, sym, subst, inl, inr}
use Rattle.std.specs.FinMap as map
use Rattle.set_meaning.specs.declared.kinds.Value.{Value}
use Rattle.set_meaning.specs.declared.problems.Problem.{Problem}
use Rattle.set_meaning.specs.declared.problems.VarId.{VarId}
use Rattle.bit_layout.specs.Order.{LayoutState}
use Rattle.diagram_arena.specs.declared.nodes.NodeId.{NodeId}
use Rattle.diagram_arena.specs.declared.nodes.Ref.{Ref}
use Rattle.diagram_arena.specs.declared.nodes.Ref.TheVariants.{Node}
use Rattle.diagram_arena.specs.Table.{Words, Table, id_cmp}
use Rattle.node_reclaim.specs.Pool.{PoolState, IsPinned}
use Rattle.node_reclaim.specs.Growth.{IsFull}
use Rattle.node_reclaim.specs.Reclaim.{IsReached}
use Rattle.exact_steps.specs.Domains.{family}
use Rattle.search_rules.specs.Family.{AllLie}
use Rattle.domain_trail.specs.Trail.{TrailState}
use Rattle.box_clauses.specs.declared.sides.Side.{Side}
use Rattle.box_clauses.specs.declared.store.StoredBox.{StoredBox}
use Rattle.search_state.specs.Turns.{IsTurn}
use Rattle.running_boxes.specs.Running.{AreSidesOfRunning}
use Rattle.running_boxes.specs.Nodes.{IsMade, IsMadeOf, AreReachedOrMade}
use Rattle.running_boxes.specs.Nodes.IsMade.{pinned, union, intersection, difference}
use Rattle.explain.specs.declared.returning.BackTo.{BackTo}
use Rattle.explain.specs.Ways.{IsWalkTo}
use Rattle.explain.specs.Walks.{HoldsExcluded, IsNewBox, IsAsserting, IsRoot, IsStoppedAt}
use Rattle.explain.specs.Work.{IsOnWalk, IsPassed}
use Rattle.explain.specs.Returning.{IsTurned}

module _ (p : Problem) (l : LayoutState) (t u : Table) (stored : List StoredBox) (old new : TrailState) where
  pub root : (first : ℕ → Value → Bool) (running : List Ref) → IsPassed p l t u stored old new first running → IsRoot p l t u stored old new
  root first running is = record {
    last = family l u running;
    derives = is.derives;
    trail = is.way.walk.trail;
    left = is.way.walk.left;
    boxes = is.way.walk.boxes;
  }

  module _ (running : List Ref) (sides : List Side) (of : AreSidesOfRunning l u running sides) where
    pub asserting : (to : BackTo) → IsTurned p l t u stored old new running to → IsAsserting p l t u stored old new sides to.var.0 to.level
    asserting to is = record {
      sides_are = of.ascending;
      turn = subst (λ b. IsTurn p l t stored old b to.var.0 to.level) (sym of.values) is.turn;
      gone = is.gone;
      trail = is.trail;
      excluded = subst (HoldsExcluded p l t stored) (sym of.values) is.excluded;
      is_new = subst (IsNewBox l t stored) (sym of.values) is.is_new;
    }

    pub stopped_at : (first : ℕ → Value → Bool) → IsOnWalk p l t u stored old new first running → AllLie (family l u new.domains) (family l u running)
        → HoldsExcluded p l t stored (family l u running) → IsStoppedAt p l t u stored old new first sides
    stopped_at first way inside excluded = record {
      sides_are = of.ascending;
      walk = subst (IsWalkTo p l t u stored old new first) (sym of.values) way.walk;
      inside = subst (AllLie (family l u new.domains)) (sym of.values) inside;
      excluded = subst (HoldsExcluded p l t stored) (sym of.values) excluded;
    }

-- ---- only pins have changed, and what was pinned still is

abbrev with_counts : PoolState → map.FinMap id_cmp ℕ → PoolState
with_counts a counts = record a { counts = counts }

module _ (l : LayoutState) (a : PoolState) (counts : map.FinMap id_cmp ℕ) (still : (r : Ref) → IsPinned a r → IsPinned (with_counts a counts) r) where
  made_still : (v : VarId) {n : ℕ} {f : Value → Bool} → IsMade l a v n f → IsMade l (with_counts a counts) v n f
  made_still v (pinned {n} {r} p set) = pinned (still r p) set
  made_still v (union x y) = union (made_still v x) (made_still v y)
  made_still v (intersection x y) = intersection (made_still v x) (made_still v y)
  made_still v (difference x y) = difference (made_still v x) (made_still v y)

  made_of_still : (W : Words) → IsMadeOf l a W → IsMadeOf l (with_counts a counts) W
  made_of_still W is = record { variable = is.variable; known = is.known; values = is.values; made = made_still is.variable is.made; part = is.part }

  reached_still : (i : NodeId) → IsReached a i → IsReached (with_counts a counts) i
  reached_still i h = (h.0, still (Node h.0) h.1, h.2)

  all_still : AreReachedOrMade l a → AreReachedOrMade l (with_counts a counts)
  all_still are i live = elim (are i live) [
    | inl reached ↦ inl (reached_still i reached)
    | inr made ↦ inr (made_of_still _ made)
  ]

module _ (l : LayoutState) (a c : PoolState) (only : c ≡ record a { counts = c.counts }) where
  pub full_still : IsFull a → IsFull c
  full_still full = let same : IsFull (with_counts a c.counts) = full in subst IsFull (sym only) same

  pub reached_or_made_still : ((r : Ref) → IsPinned a r → IsPinned c r) → AreReachedOrMade l a → AreReachedOrMade l c
  reached_or_made_still still are =
      let here : (r : Ref) → IsPinned a r → IsPinned (with_counts a c.counts) r = λ r p. subst (λ (s : PoolState). IsPinned s r) only (still r p) in
      subst (AreReachedOrMade l) (sym only) (all_still l a c.counts here are)
