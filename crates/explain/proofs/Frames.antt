-- Pins of the trail and of the running box, one beside the other.
use Rattle.std.proofs.Common.{◌≡◌, List, [], ◌++◌, sym, ap, ◌∙◌, subst, arith}
use Rattle.diagram_arena.specs.declared.nodes.Ref.{Ref}
use Rattle.diagram_arena.specs.Table.{Words, IsReduced}
use Rattle.diagram_arena.specs.Arena.{table}
use Rattle.node_reclaim.specs.Pool.{PoolState, Unpins}
use Rattle.node_reclaim.specs.Holders.{Gains, AreHeld}
use Rattle.pin_lists.specs.Units.{PinnedAreLive, Moves, UnitsLeave}
use Rattle.pin_lists.proofs.Counting.{times-append}
use Rattle.pin_lists.proofs.Leaving.{pins_leave}

-- ---- what is held, of the compiled problem, the trail, the stored boxes and the running box

module _ (a : PoolState) (ks hs ss rs : List Ref) (held : AreHeld a (ks ++ (hs ++ (ss ++ rs)))) where
  pub compiled_beside : AreHeld a (ks ++ (hs ++ rs))
  compiled_beside i =
      let h = held i in
      let e = times-append i ks (hs ++ (ss ++ rs)) in
      let f = times-append i hs (ss ++ rs) in
      let g = times-append i ss rs in
      let k = times-append i ks (hs ++ rs) in
      let m = times-append i hs rs in
      omega (arith, h, e, f, g, k, m)

  pub trail_after : (b : PoolState) (qs ps : List Ref) → Moves a b (hs ++ rs) (qs ++ ps) → AreHeld b qs
  trail_after b qs ps moved i =
      let h = held i in
      let e = times-append i ks (hs ++ (ss ++ rs)) in
      let f = times-append i hs (ss ++ rs) in
      let g = times-append i ss rs in
      let k = times-append i hs rs in
      let m = times-append i qs ps in
      let n = moved i in
      omega (arith, h, e, f, g, k, m, n)

-- likewise before there is a running box; the compiled problem has initial domains and diagrams
module _ (a b : PoolState) (start ds hs ss qs rs : List Ref) (held : AreHeld a ((start ++ ds) ++ (hs ++ ss))) (moved : Moves a b hs (qs ++ rs)) where
  pub compiled_first : AreHeld a ((start ++ ds) ++ hs)
  compiled_first i =
      let h = held i in
      let e = times-append i (start ++ ds) (hs ++ ss) in
      let g = times-append i hs ss in
      let k = times-append i (start ++ ds) hs in
      omega (arith, h, e, g, k)

  pub start_after : AreHeld b (start ++ rs)
  start_after i =
      let h = held i in
      let e = times-append i (start ++ ds) (hs ++ ss) in
      let f = times-append i start ds in
      let g = times-append i hs ss in
      let k = times-append i qs rs in
      let m = times-append i start rs in
      let n = moved i in
      omega (arith, h, e, f, g, k, m, n)

  pub running_after : AreHeld b rs
  running_after i = let h = start_after i in let e = times-append i start rs in omega (arith, h, e)

pub held_begun : (a b : PoolState) (ks hs ss rs : List Ref) → AreHeld a (ks ++ (hs ++ ss)) → Moves a b [] rs → AreHeld b (ks ++ (hs ++ (ss ++ rs)))
held_begun a b ks hs ss rs held moved i =
    let h = held i in
    let e = times-append i ks (hs ++ ss) in
    let f = times-append i hs ss in
    let g = times-append i ss rs in
    let k = times-append i hs (ss ++ rs) in
    let m = times-append i ks (hs ++ (ss ++ rs)) in
    let n = moved i in
    omega (arith, h, e, f, g, k, m, n)

pub begun_leaves : (P : Words → Type 0) (a b : PoolState) (hs rs : List Ref) → PinnedAreLive a → IsReduced (table a.arena) → b ≡ record a { counts = b.counts } → Moves a b [] rs → UnitsLeave P a b hs (hs ++ rs)
begun_leaves P a b hs rs live ok only moved =
    pins_leave P a b hs (hs ++ rs) live ok (ap (λ (s : PoolState). s.arena) only) (λ i. let m = moved i in let e = times-append i hs rs in omega (arith, m, e))

-- ---- only pins have changed, of the one or of the other

module _ (P : Words → Type 0) (a b c : PoolState) (before hs rs : List Ref) (first : UnitsLeave P a b before (hs ++ rs)) (only : c ≡ record b { counts = c.counts }) where
  -- the rest is of the nodes alone
  rest_same : (after : List Ref) → Moves a c before after → UnitsLeave P a c before after
  rest_same after moved = subst (λ (s : PoolState). Moves a s before after → UnitsLeave P a s before after) (sym only) (λ pins. record {
    reduced = first.reduced;
    limit = first.limit;
    pins = pins;
    kept = first.kept;
    sets = first.sets;
  }) moved

  pub running_moved : (qs : List Ref) → Moves b c rs qs → UnitsLeave P a c before (hs ++ qs)
  running_moved qs moved = rest_same (hs ++ qs) (λ i.
      let f = first.pins i in
      let m = moved i in
      let e = times-append i hs rs in
      let g = times-append i hs qs in
      omega (arith, f, m, e, g))

  pub trail_moved : (qs : List Ref) → Moves b c hs qs → UnitsLeave P a c before (qs ++ rs)
  trail_moved qs moved = rest_same (qs ++ rs) (λ i.
      let f = first.pins i in
      let m = moved i in
      let e = times-append i hs rs in
      let g = times-append i qs rs in
      omega (arith, f, m, e, g))

-- ---- pins held and spent

pub held_grown : (a b : PoolState) (start rs qs : List Ref) → AreHeld a (start ++ rs) → Gains a b qs → AreHeld b rs
held_grown a b start rs qs held gained i = let h = held i in let e = times-append i start rs in let g = gained i in omega (arith, h, e, g)

pub held_and_spent : (a b c : PoolState) (rs qs : List Ref) → Gains a b qs → Unpins b c rs → Moves a c rs qs
held_and_spent a b c rs qs gained spent i = let g = gained i in let s = spent.lost i in omega (arith, g, s)

pub only_pins : (a b c : PoolState) (rs : List Ref) → b ≡ record a { counts = b.counts } → Unpins b c rs → c ≡ record a { counts = c.counts }
only_pins a b c rs first spent = spent.only ∙ ap (λ (s : PoolState). record s { counts = c.counts }) first

pub spent_moves : (a c : PoolState) (rs : List Ref) → Unpins a c rs → Moves a c rs []
spent_moves a c rs spent i = let s = spent.lost i in omega (arith, s)
