-- What a trail pins, and how that moves.
use Rattle.std.proofs.Common.{◌≡◌, ℕ, List, ◌++◌, sym, subst, arith}
use Rattle.diagram_arena.specs.declared.nodes.Ref.{Ref}
use Rattle.node_reclaim.specs.Pool.{PoolState, Unpins}
use Rattle.node_reclaim.specs.Holders.{AreHeld}
use Rattle.pin_lists.proofs.Counting.{times-append}
use Rattle.pin_lists.proofs.Leaving.{only_then}
use Rattle.domain_trail.specs.declared.entries.Entry.{Entry}
use Rattle.domain_trail.specs.Trail.{TrailState, befores, held}

-- the two lists of pins of a trail, seen through its state
pub parts_held : (p : PoolState) (s : TrailState) (ds bs : List Ref) (es : List Entry) (k : ℕ) → record { domains = ds; entries = es; level = k } ≡ s → bs ≡ befores es → AreHeld p (held s) → AreHeld p (ds ++ bs)
parts_held p s ds bs es k is kept h =
    subst (λ (rs : List Ref). AreHeld p (ds ++ rs)) (sym kept) (subst (λ (x : TrailState). AreHeld p (held x)) (sym is) h)

pub held_later : (a b : PoolState) (rs qs : List Ref) → AreHeld a (rs ++ qs) → Unpins a b rs → AreHeld b qs
held_later a b rs qs held spent i = let h = held i in let l = spent.lost i in let e = times-append i rs qs in omega (arith, h, l, e)

pub both_spent : (a b c : PoolState) (rs qs : List Ref) → Unpins a b rs → Unpins b c qs → Unpins a c (rs ++ qs)
both_spent a b c rs qs first second = record {
  only = only_then a b c first.only second.only;
  lost = λ i. let f = first.lost i in let s = second.lost i in let e = times-append i rs qs in omega (arith, f, s, e);
}
