-- One step of the recursion: what its calls leave, one after another, and that the node made last is the result.
use Rattle.std.proofs.Common.{◌≡◌, ℕ, ◌+◌, ◌≤◌, min, Bool, true, false, cond, Some, None, refl, sym, ◌∙◌, ap, subst, arith}
use Rattle.std.specs.Prelude.{IsSome}
use Rattle.std.specs.FinMap as map
use mathlib.Core.Path.{fun_ext}
use Rattle.diagram_arena.specs.declared.nodes.NodeId.{NodeId}
use Rattle.diagram_arena.specs.declared.nodes.Node.{Node as Stored}
use Rattle.diagram_arena.specs.declared.nodes.Ref.{Ref}
use Rattle.diagram_arena.specs.declared.nodes.Ref.TheVariants.{Node}
use Rattle.diagram_arena.specs.declared.nodes.Triple.{Triple}
use Rattle.diagram_arena.specs.Table.{Word, Words, Table, bit_end, has, IsLive, IsReduced}
use Rattle.diagram_arena.specs.Part.{with_bit, with_front, IsPartOf}
use Rattle.diagram_arena.specs.Reach.{Bits, DependsOn}
use Rattle.diagram_arena.specs.Arena.{ArenaState, table, CanMake, Grows, Joins, KeepsNodes, NewAreUntagged}
use Rattle.diagram_arena.proofs.Growth.{grows_self}
use Rattle.diagram_arena.proofs.Meaning.{live_from, depth_within}
use Rattle.diagram_arena.proofs.Parts.{part_self, part_of_part}
use Rattle.diagram_arena.proofs.Reach.{reaches_only, part_depends}
use Rattle.node_reclaim.specs.Pool.{PoolState}
use Rattle.diagram_ops.specs.declared.question.Question.{Question}
use Rattle.diagram_ops.specs.declared.question.Question.TheVariants.{Combine, Restrict}
use Rattle.node_reclaim.specs.Growth.{NewAre, NewAreUnmarked, Stays, NewArePartsOf, NewReachOnly}
use Rattle.diagram_ops.specs.Steps.{combine, side, first, AreLive, asked, IsAnswer, IsStep}

-- tables that grow one after another
grows_then : (t u v : Table) → Grows t u → Grows u v → Grows t v
grows_then t u v a b = record {
  kept = λ i n is. b.kept i n (a.kept i n is);
  live = λ r live. b.live r (a.live r live);
  depths = λ r live. b.depths r (a.live r live) ∙ a.depths r live;
  words = λ r live w. b.words r (a.live r live) w ∙ a.words r live w;
}

untagged_then : (a b c : ArenaState) → KeepsNodes b c → NewAreUntagged a b → NewAreUntagged b c → NewAreUntagged a c
untagged_then a b c keeps first second i n none is =
    elim (map.get b.nodes i) as (λ o. map.get b.nodes i ≡ o → n.tag ≡ 0) [
      | None ↦ λ e. second i n e is
      | Some m ↦ λ e.
          let same : Some m ≡ Some n = sym (keeps i m e) ∙ is in
          let same' : m ≡ n = (cc) in
          ap (λ (x : Stored). x.tag) (sym same') ∙ first i m none e
    ] refl

unmarked_then : (a b c : ArenaState) → KeepsNodes b c → NewAreUnmarked a b → NewAreUnmarked b c → NewAreUnmarked a c
unmarked_then a b c keeps first second i n none is =
    elim (map.get b.nodes i) as (λ o. map.get b.nodes i ≡ o → n.mark ≡ false) [
      | None ↦ λ e. second i n e is
      | Some m ↦ λ e.
          let same : Some m ≡ Some n = sym (keeps i m e) ∙ is in
          let same' : m ≡ n = (cc) in
          ap (λ (x : Stored). x.mark) (sym same') ∙ first i m none e
    ] refl

pub stays_self : (s : PoolState) → IsReduced (table s.arena) → Stays s s
stays_self s ok = record {
  reduced = ok;
  grows = grows_self (table s.arena) ok;
  keeps = λ i n is. is;
  unmarked = λ i n none is. let no : None ≡ Some n = sym none ∙ is in absurd (cc);
  untagged = λ i n none is. let no : None ≡ Some n = sym none ∙ is in absurd (cc);
  limit = refl;
  counts = refl;
  units = refl;
  made = refl;
}

pub stays_then : (a b c : PoolState) → Stays a b → Stays b c → Stays a c
stays_then a b c first second = record {
  reduced = second.reduced;
  grows = grows_then _ _ _ first.grows second.grows;
  keeps = λ i n is. second.keeps i n (first.keeps i n is);
  unmarked = unmarked_then a.arena b.arena c.arena second.keeps first.unmarked second.unmarked;
  untagged = untagged_then a.arena b.arena c.arena second.keeps first.untagged second.untagged;
  limit = second.limit ∙ first.limit;
  counts = second.counts ∙ first.counts;
  units = second.units ∙ first.units;
  made = let e = first.made in let f = second.made in omega (arith, e, f);
}

-- in one table there is no new node
pub no_news : (t : Table) (P : Words → Type 0) → NewAre t t P
no_news t P i none live = let no : IsSome {T = Triple} None = subst IsSome none live in absurd (cc)

pub parts_of_part : (t u : Table) (V W : Words) → IsPartOf V W → NewArePartsOf t u V → NewArePartsOf t u W
parts_of_part t u V W part news i none live = part_of_part _ _ _ (news i none live) part

pub same_part : (U V W : Words) → ((w : Word) → U w ≡ V w) → IsPartOf V W → IsPartOf U W
same_part U V W same part = subst (λ X. IsPartOf X W) (sym (fun_ext same)) part

-- new nodes of one call after another
pub news_then : (t u v : Table) (P : Words → Type 0) → Grows u v → NewAre t u P → NewAre u v P → NewAre t v P
news_then t u v P grown first second i none live =
    elim (u i) as (λ o. u i ≡ o → P (has v (Node i))) [
      | None ↦ λ e. second i e live
      | Some n ↦ λ e.
          let there : IsLive u (Node i) = live_from u i n e in
          subst P (sym (fun_ext (grown.words (Node i) there))) (first i none there)
    ] refl

-- a question in a table that grows
pub live_grows : (t u : Table) → Grows t u → (q : Question) → AreLive t q → AreLive u q
live_grows t u grown (Combine op f g) live = (grown.live f live.0, grown.live g live.1)
live_grows t u grown (Restrict f bit value) live = grown.live f live

pub first_grows : (t u : Table) → Grows t u → (q : Question) → AreLive t q → first u q ≡ first t q
first_grows t u grown (Combine op f g) live = λ i. min (grown.depths f live.0 i) (grown.depths g live.1 i)
first_grows t u grown (Restrict f bit value) live = grown.depths f live

pub asked_grows : (t u : Table) → Grows t u → (q : Question) → AreLive t q → (w : Word) → asked u q w ≡ asked t q w
asked_grows t u grown (Combine op f g) live w = λ i. combine op (grown.words f live.0 w i) (grown.words g live.1 w i)
asked_grows t u grown (Restrict f bit value) live w = grown.words f live (with_bit w bit value)

pub first_within : (t : Table) → IsReduced t → (q : Question) → AreLive t q → first t q ≤ bit_end
first_within t ok (Combine op f g) live = let within = depth_within t ok f live.0 in omega (arith, within)
first_within t ok (Restrict f bit value) live = depth_within t ok f live

pub answer_grows : (t u : Table) → Grows t u → (q : Question) (r : Ref) → IsAnswer t q r → IsAnswer u q r
answer_grows t u grown q r is = record {
  given = live_grows t u grown q is.given;
  live = grown.live r is.live;
  deep = let same = first_grows t u grown q is.given in let r_same = grown.depths r is.live in let deep = is.deep in omega (arith, same, r_same, deep);
  words = λ w. grown.words r is.live w ∙ is.words w ∙ sym (asked_grows t u grown q is.given w);
}

pub step_grows : (t u : Table) → Grows t u → (q : Question) → AreLive t q → (bit : ℕ) (lo hi : Question) → IsStep t q bit lo hi → IsStep u q bit lo hi
step_grows t u grown q live bit lo hi is = record {
  live = λ v. live_grows t u grown _ (is.live v);
  deeper = λ v. let same = first_grows t u grown _ (is.live v) in let deeper = is.deeper v in omega (arith, same, deeper);
  words = λ w. asked_grows t u grown q live w ∙ is.words w ∙ sym (asked_grows t u grown _ (is.live (w bit)) w);
  front = λ v w. asked_grows t u grown _ (is.live v) w ∙ is.front v w ∙ sym (asked_grows t u grown q live (with_front (bit + 1) (λ _. v) w));
}

-- what is asked of a side is a part of what is asked
pub side_part : (t : Table) (q : Question) (bit : ℕ) (lo hi : Question) → IsStep t q bit lo hi → (v : Bool) → IsPartOf (asked t (side lo hi v)) (asked t q)
side_part t q bit lo hi is v = record {
  from = bit + 1;
  front = λ _. v;
  same = is.front v;
}

-- the same set in a grown table
pub same_asked : (t u : Table) → Grows t u → (q : Question) → AreLive t q → asked u q ≡ asked t q
same_asked t u grown q live = fun_ext (asked_grows t u grown q live)

side_words : (t : Table) (lo hi : Question) (v : Bool) (w : Word) (x y : Bool) → x ≡ asked t lo w → y ≡ asked t hi w → cond v y x ≡ asked t (side lo hi v) w
side_words t lo hi true w x y los his = his
side_words t lo hi false w x y los his = los

-- the node over the answers to both sides is the answer
pub joined_answer : (t u : Table) (q : Question) (bit : ℕ) (q_lo q_hi : Question) (lo hi r : Ref) → AreLive t q → bit ≡ first t q → IsStep t q bit q_lo q_hi
    → IsAnswer t q_lo lo → IsAnswer t q_hi hi → Grows t u → Joins t u bit lo hi r → IsAnswer u q r
joined_answer t u q bit q_lo q_hi lo hi r live at is los his grown joins = record {
  given = live_grows t u grown q live;
  live = joins.live;
  deep = let same = first_grows t u grown q live in let deep = joins.deep in omega (arith, same, at, deep);
  words = λ w. joins.words w ∙ side_words t q_lo q_hi (w bit) w (has t lo w) (has t hi w) (los.words w) (his.words w)
      ∙ sym (is.words w) ∙ sym (asked_grows t u grown q live w);
}

-- the answers to both sides may stand below a node of the bit
pub can_join : (t : Table) (q : Question) (bit : ℕ) (q_lo q_hi : Question) (lo hi : Ref) → IsStep t q bit q_lo q_hi → IsAnswer t q_lo lo → IsAnswer t q_hi hi → CanMake t bit lo hi
can_join t q bit q_lo q_hi lo hi is los his =
    let lo_step = is.deeper false in
    let hi_step = is.deeper true in
    let lo_deep = los.deep in
    let hi_deep = his.deep in
    record {
      lo_live = los.live;
      hi_live = his.live;
      lo_deeper = omega (arith, lo_step, lo_deep);
      hi_deeper = omega (arith, hi_step, hi_deep);
    }

-- where r is the one new node and its words are those of V, it is a part of V
pub made_part : (t u : Table) (V : Words) (r : Ref) → ((i : NodeId) → t i ≡ None → IsLive u (Node i) → r ≡ Node i) → ((w : Word) → has u r w ≡ V w) → NewArePartsOf t u V
made_part t u V r only words i none live =
    same_part _ V V (λ w. sym (ap (λ s. has u s w) (only i none live)) ∙ words w) (part_self V)

-- parts of a set reach only what the set depends on
pub news_reach : (t u : Table) → IsReduced u → (bits : Bits) (V : Words) → DependsOn bits V → NewArePartsOf t u V → NewReachOnly t u bits
news_reach t u ok bits V depends news i none live =
    reaches_only u ok bits (Node i) live (part_depends bits _ V (news i none live) depends)
