-- The words of a ref with a true bit, node by node.
use Rattle.std.proofs.Common.{◌≡◌, ℕ, ◌+◌, ◌-◌, ◌<◌, ◌^◌, ◌↔◌, Bool, true, false, ◌&&◌, cond, Some, Result, Ok, Err, refl, sym, ◌∙◌, ap, subst, arith}
use Rattle.std.specs.Prelude.{IfOk, OnErr, IsErr}
use Rattle.std.proofs.lemmas.Bool.Decides.{nat_tests}
use Rattle.std.proofs.Math.Path.{fun_ext}
use Rattle.diagram_arena.specs.declared.nodes.NodeId.{NodeId}
use Rattle.diagram_arena.specs.declared.nodes.Ref.{Ref}
use Rattle.diagram_arena.specs.declared.nodes.Ref.TheVariants.{Zero, Node}
use Rattle.diagram_arena.specs.declared.nodes.Triple.{Triple}
use Rattle.diagram_arena.specs.declared.nodes.Stop.{Stop}
use Rattle.diagram_arena.specs.declared.nodes.Stop.TheVariants.{Full}
use Rattle.diagram_arena.specs.Table.{Word, Words, Table, child, bit_end, has, IsLive, depth, IsReduced}
use Rattle.diagram_arena.specs.Part.{with_front, IsPartOf}
use Rattle.diagram_arena.specs.Arena.{table, triple, CanMake, Joins, Grows}
use Rattle.diagram_arena.proofs.Meaning.{bit_end_is, has-zero, depth-zero, depth-at}
use Rattle.node_reclaim.specs.Pool.{PoolState}
use Rattle.node_reclaim.specs.Growth.{IsFull, Stays, NewArePartsOf}
use Rattle.diagram_ops.specs.Words.{joined}
use Rattle.diagram_ops.specs.Steps.{IsSplit}
use Rattle.diagram_ops.proofs.Steps.{stays_self, stays_then, no_news, news_then, parts_of_part}
use Rattle.diagram_ops.proofs.Splits.{split_node}
use Rattle.branching.specs.Work.{kept, IsTrueSide, Keeps}

-- ---- truth

off_both : (a b : Bool) → a ≡ false → a ≡ (a && b)
off_both true b e = absurd (cc)
off_both false b e = refl

and_true : (a : Bool) → a ≡ (a && true)
and_true true = refl
and_true false = refl

off_and : (a z : Bool) → z ≡ false → z ≡ (a && false)
off_and true z e = e
off_and false z e = e

-- ---- one side

top_word : (v h z f : Bool) → f ≡ cond v h f → z ≡ false → cond v h z ≡ (f && v)
top_word true h z f e off = sym e ∙ and_true f
top_word false h z f e off = off_and f z off

side_word : (t : Table) (f lo hi : Ref) (bit : ℕ) (w : Word) (v : Bool) → has t f w ≡ has t (child (triple bit lo hi) v) w → has t f w ≡ cond v (has t hi w) (has t f w)
side_word t f lo hi bit w true e = e
side_word t f lo hi bit w false e = refl

above_word : (t : Table) (f lo hi : Ref) (bit : ℕ) → IsSplit t f bit lo hi → (w : Word) → cond (w bit) (has t hi w) (has t Zero w) ≡ kept t f bit w
above_word t f lo hi bit split w =
    top_word (w bit) (has t hi w) (has t Zero w) (has t f w) (side_word t f lo hi bit w (w bit) (split.words w)) (has-zero t w)

pub can_put : (t : Table) (f hi : Ref) (bit : ℕ) → IsTrueSide t f bit hi → bit < 2 ^ 32 → CanMake t bit Zero hi
can_put t f hi bit side small =
    let at : depth t Zero ≡ bit_end = depth-zero t in
    let end : bit_end ≡ 2 ^ 32 = bit_end_is in
    record {
      lo_live = tt;
      hi_live = side.1.live true;
      lo_deeper = omega (arith, at, end, small);
      hi_deeper = side.1.deeper true;
    }

pub keeps_above : (s d : PoolState) (f hi : Ref) (bit : ℕ) (o : Result Ref Stop) → IsTrueSide (table s.arena) f bit hi
    → IfOk o (Joins (table s.arena) (table d.arena) bit Zero hi) → Stays s d → (o ≡ Err Full → IsFull d)
    → NewArePartsOf (table s.arena) (table d.arena) (joined bit (has (table s.arena) Zero) (has (table s.arena) hi)) → Keeps s d f bit o
keeps_above s d f hi bit (Ok r) side joins stays full parts = record {
  words = record { live = joins.live; words = λ w. joins.words w ∙ above_word (table s.arena) f side.0 hi bit side.1 w };
  deep = λ b low within. let deep = joins.deep in omega (arith, within, deep);
  stays = stays;
  full = full;
  parts = subst (NewArePartsOf (table s.arena) (table d.arena)) (fun_ext (above_word (table s.arena) f side.0 hi bit side.1)) parts;
}
keeps_above s d f hi bit (Err e) side joins stays full parts = record {
  words = tt;
  deep = tt;
  stays = stays;
  full = full;
  parts = subst (NewArePartsOf (table s.arena) (table d.arena)) (fun_ext (above_word (table s.arena) f side.0 hi bit side.1)) parts;
}

pub keeps_zero : (s : PoolState) (f : Ref) (bit : ℕ) → IsReduced (table s.arena) → f ≡ Zero → Keeps s s f bit (Ok Zero)
keeps_zero s f bit ok e = subst (λ (f : Ref). Keeps s s f bit (Ok Zero)) (sym e) (record {
  words = record { live = tt; words = λ w. off_both (has (table s.arena) Zero w) (w bit) (has-zero (table s.arena) w) };
  deep = λ b low within. low;
  stays = stays_self s ok;
  full = λ e. absurd (cc);
  parts = no_news (table s.arena) (λ (W : Words). IsPartOf W (kept (table s.arena) Zero bit));
})

pub full_after : (s d : PoolState) (o : Result Ref Stop) (P : Type 0) → (o ≡ Err Full) ↔ (P × IsFull s) → OnErr o (d ≡ s) → o ≡ Err Full → IsFull d
full_after s d o P full err e =
    let same : d ≡ s = subst (λ (q : Result Ref Stop). OnErr q (d ≡ s)) e err in
    subst IsFull (sym same) (full.0 e).1

-- ---- both sides

front_beyond : (a b : ℕ) (v : Bool) (w : Word) → a < b → with_front (a + 1) (λ _. v) w b ≡ w b
front_beyond a b v w far = grind (arith, nat_tests)

-- what is kept of a side is a part of what is kept
pub side_part : (t : Table) → IsReduced t → (i : NodeId) (n : Triple) (bit : ℕ) → t i ≡ Some n → n.bit < bit → (v : Bool) → IsPartOf (kept t (child n v) bit) (kept t (Node i) bit)
side_part t ok i n bit at below v = record {
  from = n.bit + 1;
  front = λ _. v;
  same = λ w.
      let u : Word = with_front (n.bit + 1) (λ _. v) w in
      ap (λ x. x && w bit) ((split_node t ok i n at).front v w)
      ∙ ap (λ y. has t (Node i) u && y) (sym (front_beyond n.bit bit v w below));
}

pub falls : (s a : PoolState) (i : NodeId) (n : Triple) (f : Ref) (v : Bool) → IsReduced (table s.arena) → table s.arena i ≡ Some n → f ≡ Node i → Stays s a
    → bit_end - depth (table a.arena) (child n v) < bit_end - depth (table s.arena) f
falls s a i n f v ok at e stays =
    let t = table s.arena in
    let level : depth t f ≡ n.bit = ap (depth t) e ∙ depth-at t i n at in
    let deeper = ok.deeper i n v at in
    let small = ok.small i n at in
    let same = stays.grows.depths (child n v) (ok.live i n v at) in
    omega (arith, level, deeper, small, same)

kept_same : (t u : Table) → Grows t u → (r : Ref) (bit : ℕ) → IsLive t r → kept u r bit ≡ kept t r bit
kept_same t u grows r bit live = fun_ext (λ w. ap (λ x. x && w bit) (grows.words r live w))

-- a node above the bit
pub record IsAbove (s : PoolState) (i : NodeId) (n : Triple) (f : Ref) (bit : ℕ) : Type 0 where
  pub reduced : IsReduced (table s.arena)
  pub at : table s.arena i ≡ Some n
  pub is : f ≡ Node i
  pub below : n.bit < bit

-- the news of a call for one side
side_news : (s a b : PoolState) (i : NodeId) (n : Triple) (f : Ref) (bit : ℕ) (v : Bool) (o : Result Ref Stop) → IsAbove s i n f bit → Stays s a → Keeps a b (child n v) bit o
    → NewArePartsOf (table a.arena) (table b.arena) (kept (table s.arena) f bit)
side_news s a b i n f bit v o is stays call =
    let t = table s.arena in
    let live = is.reduced.live i n v is.at in
    let parts = subst (NewArePartsOf (table a.arena) (table b.arena)) (kept_same t (table a.arena) stays.grows (child n v) bit live) call.parts in
    let part = subst (λ (f : Ref). IsPartOf (kept t (child n v) bit) (kept t f bit)) (sym is.is) (side_part t is.reduced i n bit is.at is.below v) in
    parts_of_part (table a.arena) (table b.arena) (kept t (child n v) bit) (kept t f bit) part parts

pub keeps_err : (s d : PoolState) (f : Ref) (bit : ℕ) (o : Result Ref Stop) → IsErr o → Stays s d → NewArePartsOf (table s.arena) (table d.arena) (kept (table s.arena) f bit) → (o ≡ Err Full → IsFull d) → Keeps s d f bit o
keeps_err s d f bit (Ok r) err stays parts full = absurd (cc)
keeps_err s d f bit (Err e) err stays parts full = record { words = tt; deep = tt; stays = stays; full = full; parts = parts }

-- what a call for the side of false leaves, and one for the side of true after it
pub lo_parts : (s a : PoolState) (i : NodeId) (n : Triple) (f : Ref) (bit : ℕ) (o : Result Ref Stop) → IsAbove s i n f bit → Keeps s a n.lo bit o
    → NewArePartsOf (table s.arena) (table a.arena) (kept (table s.arena) f bit)
lo_parts s a i n f bit o is call = side_news s s a i n f bit false o is (stays_self s is.reduced) call

pub hi_parts : (s a b : PoolState) (i : NodeId) (n : Triple) (f : Ref) (bit : ℕ) (x o : Result Ref Stop) → IsAbove s i n f bit → Keeps s a n.lo bit x → Keeps a b n.hi bit o
    → NewArePartsOf (table s.arena) (table b.arena) (kept (table s.arena) f bit)
hi_parts s a b i n f bit x o is first second =
    news_then (table s.arena) (table a.arena) (table b.arena) (λ (W : Words). IsPartOf W (kept (table s.arena) f bit)) second.stays.grows
    (lo_parts s a i n f bit x is first) (side_news s a b i n f bit true o is first.stays second)

-- both sides of it are kept
pub record BothKept (s a b : PoolState) (n : Triple) (bit : ℕ) (x y : Ref) : Type 0 where
  pub lo : Keeps s a n.lo bit (Ok x)
  pub hi : Keeps a b n.hi bit (Ok y)

pub can_join : (s a b : PoolState) (i : NodeId) (n : Triple) (f : Ref) (bit : ℕ) (x y : Ref) → IsAbove s i n f bit → BothKept s a b n bit x y → CanMake (table b.arena) n.bit x y
can_join s a b i n f bit x y is both =
    let lo_live = is.reduced.live i n false is.at in
    let hi_live = is.reduced.live i n true is.at in
    let lo_far = is.reduced.deeper i n false is.at in
    let hi_far = is.reduced.deeper i n true is.at in
    let hi_same = both.lo.stays.grows.depths n.hi hi_live in
    let x_same = both.hi.stays.grows.depths x both.lo.words.live in
    let below = is.below in
    let x_deep = both.lo.deep (n.bit + 1) (omega (arith, lo_far)) (omega (arith, below)) in
    let y_deep = both.hi.deep (n.bit + 1) (omega (arith, hi_far, hi_same)) (omega (arith, below)) in
    record {
      lo_live = both.hi.stays.grows.live x both.lo.words.live;
      hi_live = both.hi.words.live;
      lo_deeper = omega (arith, x_deep, x_same);
      hi_deeper = omega (arith, y_deep);
    }

join_word : (v X Y lo hi f c : Bool) → X ≡ (lo && c) → Y ≡ (hi && c) → f ≡ cond v hi lo → cond v Y X ≡ (f && c)
join_word true X Y lo hi f c x y e = y ∙ ap (λ z. z && c) (sym e)
join_word false X Y lo hi f c x y e = x ∙ ap (λ z. z && c) (sym e)

child_word : (t : Table) (n : Triple) (v : Bool) (w : Word) → has t (child n v) w ≡ cond v (has t n.hi w) (has t n.lo w)
child_word t n true w = refl
child_word t n false w = refl

both_word : (s a b : PoolState) (i : NodeId) (n : Triple) (f : Ref) (bit : ℕ) (x y : Ref) → IsAbove s i n f bit → BothKept s a b n bit x y → (w : Word)
    → cond (w n.bit) (has (table b.arena) y w) (has (table b.arena) x w) ≡ kept (table s.arena) f bit w
both_word s a b i n f bit x y is both w =
    let t = table s.arena in
    let hi_live = is.reduced.live i n true is.at in
    join_word (w n.bit) (has (table b.arena) x w) (has (table b.arena) y w) (has t n.lo w) (has t n.hi w) (has t f w) (w bit)
    (both.hi.stays.grows.words x both.lo.words.live w ∙ both.lo.words.words w)
    (both.hi.words.words w ∙ ap (λ (V : Words). V w) (kept_same t (table a.arena) both.lo.stays.grows n.hi bit hi_live))
    (ap (λ q. has t q w) is.is ∙ (split_node t is.reduced i n is.at).words w ∙ child_word t n (w n.bit) w)

pub keeps_both : (s a b d : PoolState) (i : NodeId) (n : Triple) (f : Ref) (bit : ℕ) (x y : Ref) (o : Result Ref Stop) → IsAbove s i n f bit → BothKept s a b n bit x y
    → IfOk o (Joins (table b.arena) (table d.arena) n.bit x y) → Stays b d → (o ≡ Err Full → IsFull d)
    → NewArePartsOf (table b.arena) (table d.arena) (joined n.bit (has (table b.arena) x) (has (table b.arena) y)) → Keeps s d f bit o
keeps_both s a b d i n f bit x y o is both joins stays full parts =
    let t = table s.arena in
    let word = both_word s a b i n f bit x y is both in
    let made = subst (NewArePartsOf (table b.arena) (table d.arena)) (fun_ext word) parts in
    let all = stays_then s b d (stays_then s a b both.lo.stays both.hi.stays) stays in
    let news = news_then t (table b.arena) (table d.arena) (λ (W : Words). IsPartOf W (kept t f bit)) stays.grows (hi_parts s a b i n f bit (Ok x) (Ok y) is both.lo both.hi) made in
    let level : depth t f ≡ n.bit = ap (depth t) is.is ∙ depth-at t i n is.at in
    elim o as (λ o. IfOk o (Joins (table b.arena) (table d.arena) n.bit x y) → (o ≡ Err Full → IsFull d) → Keeps s d f bit o) [
      | Ok r ↦ λ joins full. record {
        words = record { live = joins.live; words = λ w. joins.words w ∙ word w };
        deep = λ c low within. let deep = joins.deep in omega (arith, low, level, deep);
        stays = all;
        full = full;
        parts = news;
      }
      | Err e ↦ λ joins full. record { words = tt; deep = tt; stays = all; full = full; parts = news }
    ] joins full
