-- What a table means after a node was added under a free id.
use Rattle.std.proofs.Common.{◌≡◌, ◌≢◌, ℕ, ◌<◌, Bool, true, false, cond, Some, None, refl, sym, ◌∙◌, ap, subst, inl, inr, ◌⊎◌, arith}
use Rattle.diagram_arena.specs.declared.nodes.NodeId.{NodeId}
use Rattle.diagram_arena.specs.declared.nodes.Ref.{Ref}
use Rattle.diagram_arena.specs.declared.nodes.Ref.TheVariants.{Zero, One, Node}
use Rattle.diagram_arena.specs.declared.nodes.Triple.{Triple}
use Rattle.diagram_arena.specs.Table.{Word, Table, child, bit_end, has, IsLive, depth, IsReduced}
use Rattle.diagram_arena.specs.Arena.{CanMake, IsNeeded, Grows, Joins, OnlyNew, Stands}
use Rattle.diagram_arena.proofs.Meaning.{depth-zero, depth-one, depth-at, live_triple, live_from, has-zero, has-one, has-at, induct}
use Rattle.diagram_arena.proofs.Ids.{cases_id}
use Rattle.diagram_arena.proofs.Parts.{child_part, part_of_part}

pub stands : (t : Table) → IsReduced t → (i : NodeId) (n : Triple) → t i ≡ Some n → Stands t i n
stands t ok i n is = record {
  at = is;
  small = ok.small i n is;
  level = depth-at t i n is;
  live = λ v. ok.live i n v is;
  deeper = λ v. ok.deeper i n v is;
  words = λ w. has-at t ok i n w is;
  parts = λ v. child_part t ok i n is v;
  inherit = λ v whole part. part_of_part _ _ _ (child_part t ok i n is v) part;
}

abbrev Keeps : Table → Table → Type 0
Keeps t u = (i : NodeId) (n : Triple) → t i ≡ Some n → u i ≡ Some n

live_kept : (t u : Table) → Keeps t u → (r : Ref) → IsLive t r → IsLive u r
live_kept t u keeps Zero live = tt
live_kept t u keeps One live = tt
live_kept t u keeps (Node i) live = let found = live_triple t i live in live_from u i found.0 (keeps i found.0 found.1)

depth_kept : (t u : Table) → Keeps t u → (r : Ref) → IsLive t r → depth u r ≡ depth t r
depth_kept t u keeps Zero live = depth-zero u ∙ sym (depth-zero t)
depth_kept t u keeps One live = depth-one u ∙ sym (depth-one t)
depth_kept t u keeps (Node i) live =
    let found = live_triple t i live in
    depth-at u i found.0 (keeps i found.0 found.1) ∙ sym (depth-at t i found.0 found.1)

-- a table that keeps the nodes of another means the same at each of its refs
pub grows : (t u : Table) → IsReduced t → IsReduced u → Keeps t u → Grows t u
grows t u ok ok' keeps = record {
  kept = keeps;
  live = live_kept t u keeps;
  depths = depth_kept t u keeps;
  words = λ r live. induct t ok (λ s. (w : Word) → has u s w ≡ has t s w)
      (λ w. has-zero u w ∙ sym (has-zero t w))
      (λ w. has-one u w ∙ sym (has-one t w))
      (λ i n is below w. has-at u ok' i n w (keeps i n is) ∙ below (w n.bit) w ∙ sym (has-at t ok i n w is))
      r live;
}

pub grows_self : (t : Table) → IsReduced t → Grows t t
grows_self t ok = grows t t ok ok (λ i n is. is)

-- u is t with the node n under the id i, which was free
pub record Adds (t u : Table) (i : NodeId) (n : Triple) : Type 0 where
  pub free : t i ≡ None
  pub here : u i ≡ Some n
  pub others : (j : NodeId) → j ≢ i → u j ≡ t j

free_apart : (t : Table) (i j : NodeId) (m : Triple) → t i ≡ None → t j ≡ Some m → j ≢ i
free_apart t i j m free is e = let at : t j ≡ t i = ap t e in cc

adds_keeps : (t u : Table) (i : NodeId) (n : Triple) → Adds t u i n → Keeps t u
adds_keeps t u i n adds j m is = adds.others j (free_apart t i j m adds.free is) ∙ is

-- a node of u is the new one, or one of t
adds_cases : (t u : Table) (i : NodeId) (n : Triple) → Adds t u i n → (j : NodeId) (m : Triple) → u j ≡ Some m → ((j ≡ i) × (m ≡ n)) ⊎ (t j ≡ Some m)
adds_cases t u i n adds j m is =
    elim (cases_id j i) [
      | inl e ↦ let at : u j ≡ u i = ap u e in let same : Some m ≡ Some n = sym is ∙ at ∙ adds.here in inl (e, (cc))
      | inr ne ↦ inr (sym (adds.others j ne) ∙ is)
    ]

child_live : (t : Table) (n : Triple) → CanMake t n.bit n.lo n.hi → (v : Bool) → IsLive t (child n v)
child_live t n can false = can.lo_live
child_live t n can true = can.hi_live

child_deeper : (t : Table) (n : Triple) → CanMake t n.bit n.lo n.hi → (v : Bool) → n.bit < depth t (child n v)
child_deeper t n can false = can.lo_deeper
child_deeper t n can true = can.hi_deeper

pub adds_reduced : (t u : Table) → IsReduced t → (i : NodeId) (n : Triple) → Adds t u i n → n.bit < bit_end → CanMake t n.bit n.lo n.hi → IsNeeded t n.bit n.lo n.hi → IsReduced u
adds_reduced t u ok i n adds small can needed =
    let keeps : Keeps t u = adds_keeps t u i n adds in
    let cases = adds_cases t u i n adds in
    record {
      small = λ j m is. elim (cases j m is) [ inl new ↦ subst (λ (x : Triple). x.bit < bit_end) (sym new.1) small | inr old ↦ ok.small j m old ];
      deeper = λ j m v is. elim (cases j m is) [
        | inl new ↦ subst (λ (x : Triple). x.bit < depth u (child x v)) (sym new.1)
            (let same : depth u (child n v) ≡ depth t (child n v) = depth_kept t u keeps (child n v) (child_live t n can v) in
            let deeper : n.bit < depth t (child n v) = child_deeper t n can v in omega arith)
        | inr old ↦ let same : depth u (child m v) ≡ depth t (child m v) = depth_kept t u keeps (child m v) (ok.live j m v old) in
            let deeper : m.bit < depth t (child m v) = ok.deeper j m v old in omega arith
      ];
      live = λ j m v is. elim (cases j m is) [
        | inl new ↦ subst (λ (x : Triple). IsLive u (child x v)) (sym new.1) (live_kept t u keeps (child n v) (child_live t n can v))
        | inr old ↦ live_kept t u keeps (child m v) (ok.live j m v old)
      ];
      differ = λ j m is. elim (cases j m is) [
        | inl new ↦ subst (λ (x : Triple). x.lo ≢ x.hi) (sym new.1) needed.differ
        | inr old ↦ ok.differ j m old
      ];
      once = λ j k m is is'. elim (cases j m is) [
        | inl new ↦ elim (cases k m is') [
          | inl new' ↦ new.0 ∙ sym new'.0
          | inr old' ↦ absurd (needed.absent k (old' ∙ ap Some new.1))
        ]
        | inr old ↦ elim (cases k m is') [
          | inl new' ↦ absurd (needed.absent j (old ∙ ap Some new'.1))
          | inr old' ↦ ok.once j k m old old'
        ]
      ];
    }

pub adds_grows : (t u : Table) → IsReduced t → (i : NodeId) (n : Triple) → Adds t u i n → IsReduced u → Grows t u
adds_grows t u ok i n adds ok' = grows t u ok ok' (adds_keeps t u i n adds)

joins_at : (t : Table) (n : Triple) (w : Word) (v : Bool) → has t (child n v) w ≡ cond v (has t n.hi w) (has t n.lo w)
joins_at t n w false = refl
joins_at t n w true = refl

-- a node of the grown table joins its children
pub joins_node : (t u : Table) → Grows t u → IsReduced u → (i : NodeId) (n : Triple) → u i ≡ Some n → CanMake t n.bit n.lo n.hi → Joins t u n.bit n.lo n.hi (Node i)
joins_node t u grown ok' i n is can = record {
  live = live_from u i n is;
  deep = let at : depth u (Node i) ≡ n.bit = depth-at u i n is in omega arith;
  words = λ w. has-at u ok' i n w is ∙ grown.words (child n (w n.bit)) (child_live t n can (w n.bit)) w ∙ joins_at t n w (w n.bit);
}

cond-same : (b : Bool) (x : Bool) → x ≡ cond b x x
cond-same true x = refl
cond-same false x = refl

-- two equal children join to either
pub joins_equal : (t : Table) (bit : ℕ) (lo hi : Ref) → CanMake t bit lo hi → lo ≡ hi → Joins t t bit lo hi lo
joins_equal t bit lo hi can e = record {
  live = can.lo_live;
  deep = let deeper : bit < depth t lo = can.lo_deeper in omega arith;
  words = λ w. cond-same (w bit) (has t lo w) ∙ ap (λ h. cond (w bit) (has t h w) (has t lo w)) e;
}

pub adds_only : (t u : Table) (i : NodeId) (n : Triple) → Adds t u i n → OnlyNew t u (Node i)
adds_only t u i n adds j free live =
    elim (cases_id j i) [
      | inl e ↦ ap Node (sym e)
      | inr ne ↦ let found = live_triple u j live in
          let at : t j ≡ Some found.0 = sym (adds.others j ne) ∙ found.1 in absurd (cc)
    ]
