-- What one try of a step leaves.
use Rattle.std.proofs.Common.{◌≡◌, ℕ, ◌<◌, List, [], ◌++◌, length, ap, arith}
use Rattle.std.specs.Option.{unwrap_or}
use Rattle.std.specs.FinMap as map
use Rattle.set_meaning.specs.declared.problems.VarId.{VarId}
use Rattle.set_meaning.specs.declared.problems.ConId.{ConId}
use Rattle.set_meaning.specs.declared.problems.Constraint.{Constraint}
use Rattle.set_meaning.specs.declared.problems.Problem.{Problem}
use Rattle.set_meaning.specs.Relations.{Holds}
use Rattle.bit_layout.specs.Order.{LayoutState, IsLayout}
use Rattle.diagram_arena.specs.declared.nodes.Ref.{Ref}
use Rattle.diagram_arena.specs.Table.{id_cmp}
use Rattle.diagram_arena.specs.Arena.{table}
use Rattle.node_reclaim.specs.Pool.{PoolState}
use Rattle.node_reclaim.specs.Growth.{Stays}
use Rattle.node_reclaim.specs.Holders.{AreHeld}
use Rattle.pin_lists.specs.Units.{PinnedAreLive, Moves, UnitsLeave}
use Rattle.pin_lists.proofs.Counting.{times-append}
use Rattle.pin_lists.proofs.Leaving.{unit_leaves, units_then, pins_leave, pinned_grown}
use Rattle.exact_steps.specs.Domains.{family}
use Rattle.exact_steps.specs.Parts.{NewAreWanted}
use Rattle.propagators.specs.Compiled.{CompiledState, IsCompiled, IsConstraintAt}
use Rattle.learn_search.specs.Nodes.{IsOfRoot}
use Rattle.learn_search.specs.Way.{IsOnWay}
use Rattle.learn_search.proofs.Taking.{news}
use Rattle.learn_search.proofs.Keeping.{framed}

pub held_of_step : (a b : PoolState) (frame held : List Ref) → Stays a b → AreHeld a (frame ++ held) → AreHeld b held
held_of_step a b frame held stays is i =
    let h = is i in
    let e = times-append i frame held in
    let same = ap (λ (m : map.FinMap id_cmp ℕ). unwrap_or (map.get m i) 0) stays.counts in
    omega (arith, h, e, same)

module _ (p : Problem) (l : LayoutState) (a b : PoolState) (k : CompiledState) (c : ConId) (domains lent : List Ref) (ok : IsLayout l) (known : c.0 < length p.constraints) (is : IsCompiled l p (table a.arena) k)
    (way : IsOnWay p l (table a.arena) domains) (is_lent : lent ≡ domains) (pinned : PinnedAreLive a) (stays : Stays a b)
    (parts : (con : Constraint) (scope : List VarId) → IsConstraintAt l (table a.arena) k c con scope → NewAreWanted l scope (Holds con) (family l (table a.arena) lent) (table a.arena) (table b.arena)) where
  pub step_leaves : UnitsLeave (IsOfRoot p) a b [] []
  step_leaves = unit_leaves (IsOfRoot p) a b [] pinned stays (news p l (table a.arena) (table b.arena) k c domains lent ok known is way is_lent parts)

  pub step_keeps : UnitsLeave (IsOfRoot p) a b domains domains
  step_keeps = framed (IsOfRoot p) a b domains step_leaves

  pub put_leaves : (d : PoolState) (after : List Ref) → d.arena ≡ b.arena → Moves b d domains after → UnitsLeave (IsOfRoot p) a d domains after
  put_leaves d after same moved =
      units_then (IsOfRoot p) a b d domains domains after step_keeps (pins_leave (IsOfRoot p) b d domains after (pinned_grown a b pinned stays) stays.reduced same moved)
