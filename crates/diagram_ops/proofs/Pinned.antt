-- Pins change nothing that the memo speaks of.
use Rattle.std.proofs.Common.{◌≡◌, List, Result, Ok, Err, ap}
use Rattle.std.specs.Prelude.{OnOk, OnErr}
use Rattle.diagram_arena.specs.declared.nodes.Ref.{Ref}
use Rattle.node_reclaim.specs.Pool.{PoolState, Pins}

pub pinned_arena : {A B : Type 0} (o : Result A B) (old new : PoolState) (rs : List Ref) → OnOk o (Pins old new rs) → OnErr o (new ≡ old) → new.arena ≡ old.arena
pinned_arena (Ok p) old new rs pinned err = ap (λ (x : PoolState). x.arena) pinned.only
pinned_arena (Err e) old new rs pinned err = ap (λ (x : PoolState). x.arena) err
