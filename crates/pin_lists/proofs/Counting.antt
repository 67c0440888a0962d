-- Pins that are spent one after another.
use Rattle.std.proofs.Common.{◌≡◌, ℕ, zero, suc, ◌+◌, ◌-◌, ◌<◌, ◌≤◌, Bool, List, [], ◌∷◌, ◌++◌, length, length-append, get_or, Some, refl, ap, ◌∙◌, subst, eq-eqb, arith}
use Rattle.std.specs.Prelude.{if◌then◌else◌, slice_get, slice_set}
use Rattle.diagram_arena.specs.declared.nodes.NodeId.{NodeId}
use Rattle.diagram_arena.specs.declared.nodes.Ref.{Ref}
use Rattle.diagram_arena.specs.declared.nodes.Ref.TheVariants.{Zero, One, Node}
use Rattle.node_reclaim.specs.Pool.{PoolState, pins_of, times, Pins, Unpins, IsPinned}
use Rattle.node_reclaim.specs.Holders.{Gains, AreHeld}
use Rattle.pin_lists.specs.Units.{Moves}
use Rattle.std.proofs.lemmas.Option.{get_or_from_slice_get}
use Rattle.std.proofs.lemmas.List.{get_or_push, set_at}

pub times-append : (i : NodeId) (rs qs : List Ref) → times i (rs ++ qs) ≡ times i rs + times i qs
times-append i [] qs = omega arith
times-append i (Zero ∷ rs) qs = times-append i rs qs
times-append i (One ∷ rs) qs = times-append i rs qs
times-append i (Node j ∷ rs) qs = let e = times-append i rs qs in omega (arith, e)

held_last : (s : PoolState) (rs : List Ref) (r : Ref) → AreHeld s (rs ++ r ∷ []) → IsPinned s r
held_last s rs Zero h = tt
held_last s rs One h = tt
held_last s rs (Node i) h =
    let e = times-append i rs (Node i ∷ []) in
    let own : times i (Node i ∷ []) ≡ 1 = ap (λ (b : Bool). (if b then 1 else 0) + 0) (eq-eqb i.0 i.0 refl) in
    let all = h i in
    omega (arith, e, own, all)

-- of all these pins some are left, and the others were spent
pub record AreLeft (initial : PoolState) (all : List Ref) (s : PoolState) (left : List Ref) : Type 0 where
  pub only : s ≡ record initial { counts = s.counts }
  pub held : AreHeld s left
  pub lost : (i : NodeId) → pins_of initial i + times i left ≡ pins_of s i + times i all

pub first_left : (s : PoolState) (all : List Ref) → AreHeld s all → AreLeft s all s all
first_left s all h = record { only = refl; held = h; lost = λ i. refl }

pub next_pinned : (initial a : PoolState) (all before left : List Ref) (r : Ref) → AreLeft initial all a before → before ≡ left ++ r ∷ [] → IsPinned a r
next_pinned initial a all before left r is e = held_last a left r (subst (AreHeld a) e is.held)

pub next_left : (initial a b : PoolState) (all before left : List Ref) (r : Ref) → AreLeft initial all a before → before ≡ left ++ r ∷ [] → Unpins a b (r ∷ []) → AreLeft initial all b left
next_left initial a b all before left r is e un = record {
  only = un.only ∙ ap (λ (x : PoolState). record x { counts = b.counts }) is.only;
  held = λ i.
      let h = subst (AreHeld a) e is.held i in
      let app = times-append i left (r ∷ []) in
      let lost = un.lost i in
      omega (arith, h, app, lost);
  lost = λ i.
      let l = subst (λ rs. pins_of initial i + times i rs ≡ pins_of a i + times i all) e (is.lost i) in
      let app = times-append i left (r ∷ []) in
      let lost = un.lost i in
      omega (arith, l, app, lost);
}

pub all_spent : (initial s : PoolState) (all left : List Ref) → AreLeft initial all s left → left ≡ [] → Unpins initial s all
all_spent initial s all left is e = record {
  only = is.only;
  lost = λ i. let l = subst (λ rs. pins_of initial i + times i rs ≡ pins_of s i + times i all) e (is.lost i) in omega (arith, l);
}

-- ---- one pin in place of another

times_cons : (i : NodeId) (r : Ref) (rs : List Ref) → times i (r ∷ rs) ≡ times i (r ∷ []) + times i rs
times_cons i r rs = times-append i (r ∷ []) rs

pub times_replaced : (i : NodeId) (rs : List Ref) (n : ℕ) (r d : Ref) → n < length rs → times i (slice_set rs n r) + times i (get_or rs n d ∷ []) ≡ times i rs + times i (r ∷ [])
times_replaced i [] n r d within = absurd (let none : n < 0 = within in omega (arith, none))
times_replaced i (q ∷ rs) zero r d within = let a = times_cons i r rs in let b = times_cons i q rs in omega (arith, a, b)
times_replaced i (q ∷ rs) (suc n) r d within =
    let less : n < length rs = omega (arith, within) in
    let later = times_replaced i rs n r d less in
    let a = times_cons i q (slice_set rs n r) in
    let b = times_cons i q rs in
    omega (arith, later, a, b)

-- the pin that is spent is one of those that are held
pub held_at : (s : PoolState) (rs : List Ref) (n : ℕ) (d : Ref) → n < length rs → AreHeld s rs → IsPinned s (get_or rs n d)
held_at s rs n d within held = of_ref (get_or rs n d) (λ i. let e = times_replaced i rs n Zero d within in let h = held i in omega (arith, e, h))
  where
    of_ref : (r : Ref) → ((i : NodeId) → times i (r ∷ []) ≤ pins_of s i) → IsPinned s r
    of_ref Zero h = tt
    of_ref One h = tt
    of_ref (Node i) h =
        let own : times i (Node i ∷ []) ≡ 1 = ap (λ (b : Bool). (if b then 1 else 0) + 0) (eq-eqb i.0 i.0 refl) in
        let all = h i in
        omega (arith, own, all)

pub spent_is_held : (old now : PoolState) (rs : List Ref) (n : ℕ) (q r : Ref) → n < length rs → slice_get rs n ≡ Some q → AreHeld old rs → Pins old now (r ∷ []) → IsPinned now q
spent_is_held old now rs n q r within at held pins =
    subst (IsPinned now) (get_or_from_slice_get rs n q q at) (held_at now rs n q within (λ i. let h = held i in let g = pins.gained i in omega (arith, h, g)))

pub replaced : (old mid new : PoolState) (rs : List Ref) (n : ℕ) (q r : Ref) → n < length rs → slice_get rs n ≡ Some q → Pins old mid (r ∷ []) → Unpins mid new (q ∷ []) → Moves old new rs (slice_set rs n r)
replaced old mid new rs n q r within at pins unpins i =
    let g = pins.gained i in
    let l = unpins.lost i in
    let t = subst (λ (x : Ref). times i (slice_set rs n r) + times i (x ∷ []) ≡ times i rs + times i (r ∷ [])) (get_or_from_slice_get rs n q q at) (times_replaced i rs n r q within) in
    omega (arith, g, l, t)

-- ---- pins that go from one list to another

pub taken_pinned : (s : PoolState) (rs : List Ref) (n : ℕ) (q : Ref) → n < length rs → slice_get rs n ≡ Some q → AreHeld s rs → IsPinned s q
taken_pinned s rs n q within at held = subst (IsPinned s) (get_or_from_slice_get rs n q q at) (held_at s rs n q within held)

pub taken_back : (old new : PoolState) (rs aside rest : List Ref) (n : ℕ) (q r : Ref) → n < length rs → slice_get rs n ≡ Some q → aside ≡ rest ++ r ∷ [] → Unpins old new (q ∷ [])
    → Moves old new (rs ++ aside) (slice_set rs n r ++ rest)
taken_back old new rs aside rest n q r within at was unpins i =
    let l = unpins.lost i in
    let t = subst (λ (x : Ref). times i (slice_set rs n r) + times i (x ∷ []) ≡ times i rs + times i (r ∷ [])) (get_or_from_slice_get rs n q q at) (times_replaced i rs n r q within) in
    let before = times-append i rs aside in
    let after = times-append i (slice_set rs n r) rest in
    let all = ap (times i) was in
    let parts = times-append i rest (r ∷ []) in
    omega (arith, l, t, before, after, all, parts)

pub put_aside : (old new : PoolState) (rs aside : List Ref) (n : ℕ) (r : Ref) → n < length rs → Gains old new (r ∷ [])
    → Moves old new (rs ++ aside) (slice_set rs n r ++ (aside ++ get_or rs n Zero ∷ []))
put_aside old new rs aside n r within gained i =
    let g = gained i in
    let t = times_replaced i rs n r Zero within in
    let before = times-append i rs aside in
    let after = times-append i (slice_set rs n r) (aside ++ get_or rs n Zero ∷ []) in
    let parts = times-append i aside (get_or rs n Zero ∷ []) in
    omega (arith, g, t, before, after, parts)

last_place : (rs qs : List Ref) (r : Ref) (n : ℕ) → qs ≡ rs ++ r ∷ [] → n ≡ length qs → length rs ≡ n - 1
last_place rs qs r n e long = let all = ap length e in let parts = length-append rs (r ∷ []) in omega (arith, long, all, parts)

pub last_is : (rs qs : List Ref) (r d : Ref) (n : ℕ) → qs ≡ rs ++ r ∷ [] → n ≡ length qs → get_or qs (n - 1) d ≡ r
last_is rs qs r d n e long = ap (λ xs. get_or xs (n - 1) d) e ∙ get_or_push rs r d (n - 1) (last_place rs qs r n e long)

pub last_set : (rs qs : List Ref) (r q : Ref) (n : ℕ) → qs ≡ rs ++ r ∷ [] → n ≡ length qs → slice_set qs (n - 1) q ≡ rs ++ q ∷ []
last_set rs qs r q n e long = ap (λ xs. slice_set xs (n - 1) q) e ∙ set_at rs r [] q (n - 1) (last_place rs qs r n e long)

pub same_exchange : (ps rs qs ss : List Ref) (at to : ℕ) → ps ≡ rs → qs ≡ ss → slice_set qs to (get_or ps at Zero) ≡ slice_set ss to (get_or rs at Zero)
same_exchange ps rs qs ss at to e f = ap (λ xs. slice_set qs to (get_or xs at Zero)) e ∙ ap (λ xs. slice_set xs to (get_or rs at Zero)) f
