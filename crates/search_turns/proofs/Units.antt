-- A unit, and its second try after a collection.
use Rattle.std.proofs.Common.{◌≡◌, List, sym, ap, subst, arith}
use Rattle.diagram_arena.specs.declared.nodes.Ref.{Ref}
use Rattle.diagram_arena.specs.Table.{Words}
use Rattle.diagram_arena.specs.Arena.{ArenaState, table}
use Rattle.node_reclaim.specs.Pool.{PoolState, pins_of}
use Rattle.node_reclaim.specs.Growth.{Stays, NewAre}
use Rattle.node_reclaim.specs.Holders.{AreHeld, MeansTheSame}
use Rattle.pin_lists.specs.Units.{PinnedAreLive, Moves, UnitsLeave, Collects}
use Rattle.pin_lists.proofs.Leaving.{unit_leaves, units_then, units_begun, pins_leave, pinned_grown, collection_leaves, means_then, means_grown}

-- what is pinned means the same
abbrev pub Keeps : PoolState → PoolState → Type 0
Keeps a b = (rs : List Ref) → AreHeld a rs → MeansTheSame (table a.arena) (table b.arena) rs

pub keeps_then : (a b c : PoolState) → Keeps a b → ((rs : List Ref) → AreHeld a rs → AreHeld b rs) → Keeps b c → Keeps a c
keeps_then a b c first still second rs h = means_then (table a.arena) (table b.arena) (table c.arena) rs (first rs h) (second rs (still rs h))

-- ---- a unit was begun

module _ (a begun : PoolState) (e : begun ≡ record a { units = begun.units }) where
  pub table_begun : table begun.arena ≡ table a.arena
  table_begun = ap (λ (s : PoolState). table s.arena) e

  pub held_begun : (rs : List Ref) → AreHeld a rs → AreHeld begun rs
  held_begun rs h i = let all = h i in let p = ap (λ (s : PoolState). pins_of s i) e in omega (arith, all, p)

  pub keeps_begun : (b : PoolState) → Keeps begun b → Keeps a b
  keeps_begun b keeps rs h = subst (λ t. MeansTheSame t (table b.arena) rs) table_begun (keeps rs (held_begun rs h))

-- ---- one try

module _ (P : Words → Type 0) (a b : PoolState) (held : List Ref) (pinned : PinnedAreLive a) (stays : Stays a b) (news : NewAre (table a.arena) (table b.arena) P) where
  pub try_leaves : UnitsLeave P a b held held
  try_leaves = unit_leaves P a b held pinned stays news

  pub try_keeps : Keeps a b
  try_keeps rs h = means_grown a (table b.arena) rs pinned stays.grows h

  module _ (d : PoolState) (after : List Ref) (same : d.arena ≡ b.arena) (moved : Moves b d held after) where
    pub pinned_leaves : UnitsLeave P a d held after
    pinned_leaves = units_then P a b d held held after try_leaves (pins_leave P b d held after (pinned_grown a b pinned stays) stays.reduced same moved)

    pub pinned_keeps : Keeps a d
    pinned_keeps rs h = subst (λ (x : ArenaState). MeansTheSame (table a.arena) (table x) rs) (sym same) (try_keeps rs h)

-- ---- a try that found no room, a collection, and a second try

module _ (P : Words → Type 0) (a begun b c again : PoolState) (held : List Ref) (first : begun ≡ record a { units = begun.units }) (left : UnitsLeave P begun b held held) (keeps : Keeps begun b) (swept : Collects b c)
    (second : again ≡ record c { units = again.units }) where
  still : (rs : List Ref) → AreHeld a rs → AreHeld b rs
  still rs h i = let all = held_begun a begun first rs h i in let m = left.pins i in omega (arith, all, m)

  swept_still : (rs : List Ref) → AreHeld b rs → AreHeld c rs
  swept_still rs h i = let all = h i in let m = (collection_leaves P b c held swept).pins i in omega (arith, all, m)

  pub held_again : (rs : List Ref) → AreHeld a rs → AreHeld again rs
  held_again rs h = held_begun c again second rs (swept_still rs (still rs h))

  keeps_swept : Keeps a c
  keeps_swept = keeps_then a b c (keeps_begun a begun first b keeps) still swept.kept

  pub means_again : Keeps a again
  means_again rs h = subst (λ t. MeansTheSame (table a.arena) t rs) (sym (table_begun c again second)) (keeps_swept rs h)

  pub left_again : (d : PoolState) (after : List Ref) → UnitsLeave P again d held after → UnitsLeave P a d held after
  left_again d after more =
      units_then P a b d held held after (units_begun P a begun b held held first left)
      (units_then P b c d held held after (collection_leaves P b c held swept) (units_begun P c again d held after second more))

  pub keeps_again : (d : PoolState) → Keeps again d → Keeps a d
  keeps_again d more = keeps_then a again d means_again held_again more
