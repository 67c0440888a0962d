-- What pins reach they reach still once what they do not reach was freed, and as nodes are added.
use Rattle.std.proofs.Common.{◌≡◌, ℕ, ◌<◌, Bool, true, false, List, [], ◌∷◌, ◌++◌, Option, None, Some, refl, sym, ap, ◌∙◌, subst}
use Rattle.std.specs.Prelude.{IsSome}
use Rattle.std.specs.Option.{option_map, option_map_or, unwrap_or}
use Rattle.std.specs.FinMap as map
use Rattle.diagram_arena.specs.declared.nodes.NodeId.{NodeId}
use Rattle.diagram_arena.specs.declared.nodes.Node.{Node as Stored}
use Rattle.diagram_arena.specs.declared.nodes.Ref.{Ref}
use Rattle.diagram_arena.specs.declared.nodes.Ref.TheVariants.{Zero, One, Node}
use Rattle.diagram_arena.specs.declared.nodes.Triple.{Triple}
use Rattle.diagram_arena.specs.Table.{Table, id_cmp, child, IsLive, IsReduced}
use Rattle.diagram_arena.specs.Reach.{step, follow}
use Rattle.diagram_arena.specs.Arena.{table, triple_of, Grows}
use Rattle.node_reclaim.specs.Pool.{PoolState, pins_of}
use Rattle.node_reclaim.specs.Reclaim.{Reaches, IsReached, IsKept, Reclaims}
use Rattle.pin_lists.specs.Units.{PinnedAreLive}

follow_on : (t : Table) (r : Ref) (path : List Bool) (v : Bool) → follow t r (path ++ v ∷ []) ≡ step t (follow t r path) v
follow_on t r [] v = refl
follow_on t r (u ∷ path) v = follow_on t (step t r u) path v

module _ (a b : PoolState) (is : Reclaims a b) where
  -- a ref that pins reach
  abbrev Found : Ref → Type 0
  Found Zero = Unit {0}
  Found One = Unit {0}
  Found (Node i) = IsReached a i

  at_node : (i : NodeId) (v : Bool) → IsKept a b i → step (table b.arena) (Node i) v ≡ step (table a.arena) (Node i) v
  unfolding table
  at_node i v kept =
      let there : (o : Option Stored) → o ≡ Some kept.0 → option_map_or (λ (n : Triple). child n v) (option_map triple_of o) (Node i) ≡ child (triple_of kept.0) v
      = λ o e. ap (λ (q : Option Stored). option_map_or (λ (n : Triple). child n v) (option_map triple_of q) (Node i)) e in
      ap (λ (q : Option Stored). option_map_or (λ (n : Triple). child n v) (option_map triple_of q) (Node i)) kept.2 ∙ sym (there (map.get a.arena.nodes i) kept.1)

  same_step : (r : Ref) (v : Bool) → Found r → step (table b.arena) r v ≡ step (table a.arena) r v
  same_step Zero v h = refl
  same_step One v h = refl
  same_step (Node i) v h = at_node i v (is.kept i h)

  found_from : (r : Ref) → ((i : NodeId) → r ≡ Node i → IsReached a i) → Found r
  found_from Zero h = tt
  found_from One h = tt
  found_from (Node i) h = h i refl

  found_next : (r : Ref) (v : Bool) → Found r → Found (step (table a.arena) r v)
  found_next Zero v h = tt
  found_next One v h = tt
  found_next (Node i) v h = found_from (step (table a.arena) (Node i) v)
      (λ k e. (h.0, h.1, (h.2.0 ++ v ∷ [], follow_on (table a.arena) (Node h.0) h.2.0 v ∙ ap (λ r. step (table a.arena) r v) h.2.1 ∙ e)))

  same_follow : (path : List Bool) (r : Ref) → Found r → follow (table b.arena) r path ≡ follow (table a.arena) r path
  same_follow [] r h = refl
  same_follow (v ∷ path) r h =
      ap (λ q. follow (table b.arena) q path) (same_step r v h) ∙ same_follow path (step (table a.arena) r v) (found_next r v h)

  pub still_reached : (i : NodeId) → IsReached a i → IsReached b i
  still_reached i h =
      let root : IsReached a h.0 = (h.0, h.1, ([], refl)) in
      let pinned : 0 < pins_of b h.0 = subst (λ (m : map.FinMap id_cmp ℕ). 0 < unwrap_or (map.get m h.0) 0) (sym is.counts) h.1 in
      (h.0, pinned, (h.2.0, same_follow h.2.0 (Node h.0) root ∙ h.2.1))

-- ---- nodes were added

module _ (t u : Table) (ok : IsReduced t) (grows : Grows t u) where
  step_at : (s : Table) (i : NodeId) (n : Triple) (v : Bool) → s i ≡ Some n → step s (Node i) v ≡ child n v
  step_at s i n v is = ap (λ o. option_map_or (λ (m : Triple). child m v) o (Node i)) is

  grown_step : (r : Ref) (v : Bool) → IsLive t r → (step u r v ≡ step t r v) × IsLive t (step t r v)
  grown_step Zero v live = (refl, tt)
  grown_step One v live = (refl, tt)
  grown_step (Node i) v live = at (t i) refl live
    where
      at : (o : Option Triple) → t i ≡ o → IsSome o → (step u (Node i) v ≡ step t (Node i) v) × IsLive t (step t (Node i) v)
      at None e h = let clash : false ≡ true = h in absurd (cc)
      at (Some n) e h = (step_at u i n v (grows.kept i n e) ∙ sym (step_at t i n v e), subst (IsLive t) (sym (step_at t i n v e)) (ok.live i n v e))

  grown_follow : (path : List Bool) (r : Ref) → IsLive t r → follow u r path ≡ follow t r path
  grown_follow [] r live = refl
  grown_follow (v ∷ path) r live =
      let next = grown_step r v live in
      ap (λ q. follow u q path) next.0 ∙ grown_follow path (step t r v) next.1

-- what pins reach, where there are as many pins
pub reached_grows : (a b : PoolState) → IsReduced (table a.arena) → PinnedAreLive a → Grows (table a.arena) (table b.arena) → b.counts ≡ a.counts → (i : NodeId) → IsReached a i → IsReached b i
reached_grows a b ok pinned grows same i h =
    let there : 0 < pins_of b h.0 = subst (λ (m : map.FinMap id_cmp ℕ). 0 < unwrap_or (map.get m h.0) 0) (sym same) h.1 in
    (h.0, there, (h.2.0, grown_follow (table a.arena) (table b.arena) ok grows h.2.0 (Node h.0) (pinned h.0 h.1) ∙ h.2.1))
