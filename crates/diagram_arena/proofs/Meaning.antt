-- The walk without its bound on steps, induction over a reduced table, and refs of a table that grows.
use Rattle.std.proofs.Common.{◌≡◌, ℕ, ◌+◌, ◌-◌, ◌^◌, ◌<◌, ◌≤◌, Bool, true, false, zero, suc, Some, None, refl, sym, ◌∙◌, ap, arith}
use Rattle.std.specs.Prelude.{IsSome}
use Rattle.diagram_arena.specs.declared.nodes.NodeId.{NodeId}
use Rattle.diagram_arena.specs.declared.nodes.Ref.{Ref}
use Rattle.diagram_arena.specs.declared.nodes.Ref.TheVariants.{Zero, One, Node}
use Rattle.diagram_arena.specs.declared.nodes.Triple.{Triple}
use Rattle.diagram_arena.specs.Table.{Word, Table, child, bit_end, walk, has, IsLive, depth, IsReduced}

pub bit_end_is : bit_end ≡ 2 ^ 32
unfolding bit_end
bit_end_is = refl

-- the bound as one step and the rest
pub bit_end_steps : (m : ℕ) × (bit_end ≡ suc m)
bit_end_steps = (2 ^ 32 - 1, rw bit_end_is refl)

pub depth-zero : (t : Table) → depth t Zero ≡ bit_end
unfolding depth
depth-zero t = refl

pub depth-one : (t : Table) → depth t One ≡ bit_end
unfolding depth
depth-one t = refl

pub depth-at : (t : Table) (i : NodeId) (n : Triple) → t i ≡ Some n → depth t (Node i) ≡ n.bit
unfolding depth
depth-at t i n e = rw (e, depth) refl

-- a live id has its triple
pub live_triple : (t : Table) (i : NodeId) → IsLive t (Node i) → (n : Triple) × (t i ≡ Some n)
live_triple t i h =
    elim (t i) as (λ o. t i ≡ o → IsSome o → (n : Triple) × (t i ≡ Some n)) [
      | None ↦ λ e s. cc
      | Some n ↦ λ e s. (n, e)
    ] refl h

pub live_from : (t : Table) (i : NodeId) (n : Triple) → t i ≡ Some n → IsLive t (Node i)
live_from t i n e = rw e refl

walk-zero : (k : ℕ) (t : Table) (w : Word) → walk k t Zero w ≡ false
unfolding walk
walk-zero zero t w = refl
walk-zero (suc k) t w = refl

walk-one : (k : ℕ) (t : Table) (w : Word) → walk k t One w ≡ true
unfolding walk
walk-one zero t w = refl
walk-one (suc k) t w = refl

walk-at : (k : ℕ) (t : Table) (i : NodeId) (n : Triple) (w : Word) → t i ≡ Some n → walk (suc k) t (Node i) w ≡ walk k t (child n (w n.bit)) w
unfolding walk
walk-at k t i n w e = rw (e, walk) refl

-- one more step changes nothing once there are enough
stable : (t : Table) → IsReduced t → (k : ℕ) (r : Ref) (w : Word) → IsLive t r → bit_end ≤ k + depth t r → walk (suc k) t r w ≡ walk k t r w
stable t ok k Zero w live far = walk-zero (suc k) t w ∙ sym (walk-zero k t w)
stable t ok k One w live far = walk-one (suc k) t w ∙ sym (walk-one k t w)
stable t ok zero (Node i) w live far =
    let found = live_triple t i live in
    let deep : depth t (Node i) ≡ found.0.bit = depth-at t i found.0 found.1 in
    let small : found.0.bit < bit_end = ok.small i found.0 found.1 in
    absurd (omega arith)
stable t ok (suc k) (Node i) w live far =
    let found = live_triple t i live in
    let n : Triple = found.0 in
    let is : t i ≡ Some n = found.1 in
    let deep : depth t (Node i) ≡ n.bit = depth-at t i n is in
    let deeper : n.bit < depth t (child n (w n.bit)) = ok.deeper i n (w n.bit) is in
    walk-at (suc k) t i n w is
    ∙ stable t ok k (child n (w n.bit)) w (ok.live i n (w n.bit) is) (omega arith)
    ∙ sym (walk-at k t i n w is)

pub has-zero : (t : Table) (w : Word) → has t Zero w ≡ false
unfolding has
has-zero t w = walk-zero bit_end t w

pub has-one : (t : Table) (w : Word) → has t One w ≡ true
unfolding has
has-one t w = walk-one bit_end t w

pub has-at : (t : Table) → IsReduced t → (i : NodeId) (n : Triple) (w : Word) → t i ≡ Some n → has t (Node i) w ≡ has t (child n (w n.bit)) w
unfolding has
has-at t ok i n w is =
    let m : ℕ = bit_end_steps.0 in
    let steps : bit_end ≡ suc m = bit_end_steps.1 in
    let deeper : n.bit < depth t (child n (w n.bit)) = ok.deeper i n (w n.bit) is in
    ap (λ k. walk k t (Node i) w) steps
    ∙ walk-at m t i n w is
    ∙ sym (stable t ok m (child n (w n.bit)) w (ok.live i n (w n.bit) is) (omega arith))
    ∙ sym (ap (λ k. walk k t (child n (w n.bit)) w) steps)

induct_below : (t : Table) → IsReduced t → (P : Ref → Type 0) → P Zero → P One
    → ((i : NodeId) (n : Triple) → t i ≡ Some n → ((v : Bool) → P (child n v)) → P (Node i))
    → (k : ℕ) (r : Ref) → IsLive t r → bit_end ≤ k + depth t r → P r
induct_below t ok P none all step k Zero live far = none
induct_below t ok P none all step k One live far = all
induct_below t ok P none all step zero (Node i) live far =
    let found = live_triple t i live in
    let deep : depth t (Node i) ≡ found.0.bit = depth-at t i found.0 found.1 in
    let small : found.0.bit < bit_end = ok.small i found.0 found.1 in
    absurd (omega arith)
induct_below t ok P none all step (suc k) (Node i) live far =
    let found = live_triple t i live in
    let n : Triple = found.0 in
    let is : t i ≡ Some n = found.1 in
    let deep : depth t (Node i) ≡ n.bit = depth-at t i n is in
    step i n is (λ v. let deeper : n.bit < depth t (child n v) = ok.deeper i n v is in
    induct_below t ok P none all step k (child n v) (ok.live i n v is) (omega arith))

-- what holds of Zero and One, and of each node whose children it holds of, holds of every live ref
pub induct : (t : Table) → IsReduced t → (P : Ref → Type 0) → P Zero → P One
    → ((i : NodeId) (n : Triple) → t i ≡ Some n → ((v : Bool) → P (child n v)) → P (Node i))
    → (r : Ref) → IsLive t r → P r
induct t ok P none all step r live = induct_below t ok P none all step bit_end r live (omega arith)

-- no ref asks a bit that is no bit
pub depth_within : (t : Table) → IsReduced t → (r : Ref) → IsLive t r → depth t r ≤ bit_end
depth_within t ok Zero live = let e = depth-zero t in omega arith
depth_within t ok One live = let e = depth-one t in omega arith
depth_within t ok (Node i) live =
    let found = live_triple t i live in
    let at : depth t (Node i) ≡ found.0.bit = depth-at t i found.0 found.1 in
    let small : found.0.bit < bit_end = ok.small i found.0 found.1 in
    omega arith

-- what callers need of Zero and One
pub ruleset terminals = (bit_end_is, depth-zero, depth-one, has-zero, has-one)
