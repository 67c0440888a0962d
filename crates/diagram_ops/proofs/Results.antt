-- What the calls answer, from what the recursion leaves.
use Rattle.std.proofs.Common.{◌≡◌, ℕ, ◌≤◌, ◌<◌, ◌^◌, Bool, true, false, not, ◌&&◌, cond, eqb, Some, None, Result, Ok, Err, sym, ◌∙◌, ap, subst, inl, inr, arith}
use Rattle.std.specs.Prelude.{IfOk, OnErr}
use Rattle.std.specs.Ordering.{eq_by_cmp}
use Rattle.std.specs.FinMap as map
use Rattle.std.proofs.lemmas.Bool.{cases_Bool}
use mathlib.Core.Path.{fun_ext}
use Rattle.diagram_arena.specs.declared.nodes.NodeId.{NodeId}
use Rattle.diagram_arena.specs.declared.nodes.Node.{Node as Stored}
use Rattle.diagram_arena.specs.declared.nodes.Ref.{Ref}
use Rattle.diagram_arena.specs.declared.nodes.Ref.TheVariants.{Zero, One, Node}
use Rattle.diagram_arena.specs.declared.nodes.Stop.{Stop}
use Rattle.diagram_arena.specs.Table.{Word, Words, Table, id_cmp, bit_end, has, IsLive, depth, IsReduced}
use Rattle.diagram_arena.specs.Reach.{Bits, ReachesOnly, DependsOn}
use Rattle.diagram_arena.specs.Part.{with_bit}
use Rattle.diagram_arena.specs.Arena.{ArenaState, table, CanMake, new_node, triple, IsMade, equal_children, node_there, node_added, AddsNode, Joins}
use Rattle.diagram_arena.proofs.Ids.{id_cmp_total}
use Rattle.diagram_arena.proofs.Meaning.{bit_end_is, has-zero, has-one, depth-zero, depth-one, depth_within}
use Rattle.diagram_arena.proofs.Parts.{part_self}
use Rattle.diagram_arena.proofs.Reach.{depends_only, reaches_only}
use Rattle.node_reclaim.specs.Pool.{PoolState}
use Rattle.diagram_ops.specs.declared.question.Op.{Op}
use Rattle.diagram_ops.specs.declared.question.Op.TheVariants.{Diff}
use Rattle.diagram_ops.specs.declared.question.Question.{Question}
use Rattle.diagram_ops.specs.declared.question.Question.TheVariants.{Combine, Restrict}
use Rattle.node_reclaim.specs.Growth.{NewAreUnmarked, NewArePartsOf, NewReachOnly}
use Rattle.diagram_ops.specs.Words.{complement, words_with, joined, restricted, all_but, Denotes, IsAsDeep}
use Rattle.diagram_ops.specs.Steps.{combine, asked, AreLive, Answered}
use Rattle.diagram_ops.proofs.Steps.{same_part, news_reach, asked_grows}

pub if_ok : (o : Result Ref Stop) (P Q : Ref → Type 0) → ((r : Ref) → P r → Q r) → IfOk o P → IfOk o Q
if_ok (Ok r) P Q f p = f r p
if_ok (Err e) P Q f p = tt

-- the result has the words that were asked for before the call
pub answered_words : (s u : PoolState) (q : Question) (o : Result Ref Stop) → AreLive (table s.arena) q → Answered s u q o → IfOk o (Denotes (table u.arena) (asked (table s.arena) q))
answered_words s u q o given is = if_ok o _ _ (λ r answer. record {
  live = answer.live;
  words = λ w. answer.words w ∙ asked_grows _ _ is.stays.grows q given w;
}) is.answer

pub answered_deep : (s u : PoolState) (op : Op) (f g : Ref) (o : Result Ref Stop) → Answered s u (Combine op f g) o → IfOk o (IsAsDeep (table u.arena) f g)
answered_deep s u op f g o is = if_ok o _ _ (λ r answer b f_above g_above. let deep = answer.deep in omega (arith, deep, f_above, g_above)) is.answer

-- a ref reaches only what its set depends on
pub set_reach : (t : Table) → IsReduced t → (bits : Bits) (V : Words) (r : Ref) → DependsOn bits V → IsLive t r → ((w : Word) → has t r w ≡ V w) → ReachesOnly t bits r
set_reach t ok bits V r depends live words = reaches_only t ok bits r live (λ w u agree. words w ∙ depends w u agree ∙ sym (words u))

answered_asks : (s u : PoolState) (q : Question) (o : Result Ref Stop) → AreLive (table s.arena) q → Answered s u q o → (bits : Bits) → DependsOn bits (asked (table s.arena) q)
    → IfOk o (ReachesOnly (table u.arena) bits)
answered_asks s u q o given is bits depends = if_ok o _ _ (λ r denotes.
    set_reach (table u.arena) is.stays.reduced bits (asked (table s.arena) q) r depends denotes.live denotes.words)
    (answered_words s u q o given is)

combine_depends : (t : Table) → IsReduced t → (op : Op) (f g : Ref) → IsLive t f → IsLive t g → (bits : Bits) → ReachesOnly t bits f → ReachesOnly t bits g
    → DependsOn bits (asked t (Combine op f g))
combine_depends t ok op f g f_live g_live bits f_reach g_reach w v agree =
    λ i. combine op (depends_only t ok bits f f_live f_reach w v agree i) (depends_only t ok bits g g_live g_reach w v agree i)

pub combine_asks : (s u : PoolState) (op : Op) (f g : Ref) (o : Result Ref Stop) → IsLive (table s.arena) f → IsLive (table s.arena) g
    → Answered s u (Combine op f g) o → (bits : Bits) → ReachesOnly (table s.arena) bits f → ReachesOnly (table s.arena) bits g → IfOk o (ReachesOnly (table u.arena) bits)
combine_asks s u op f g o f_live g_live is bits f_reach g_reach =
    answered_asks s u (Combine op f g) o (f_live, g_live) is bits (combine_depends _ is.reduced op f g f_live g_live bits f_reach g_reach)

pub combine_reach : (s u : PoolState) (op : Op) (f g : Ref) (o : Result Ref Stop) → IsLive (table s.arena) f → IsLive (table s.arena) g
    → Answered s u (Combine op f g) o → (bits : Bits) → ReachesOnly (table s.arena) bits f → ReachesOnly (table s.arena) bits g → NewReachOnly (table s.arena) (table u.arena) bits
combine_reach s u op f g o f_live g_live is bits f_reach g_reach =
    news_reach (table s.arena) (table u.arena) is.stays.reduced bits (asked (table s.arena) (Combine op f g))
    (combine_depends _ is.reduced op f g f_live g_live bits f_reach g_reach) is.parts

-- what is left of a set once a bit has a value
pub restrict_deep : (s u : PoolState) (f : Ref) (bit : ℕ) (value : Bool) (o : Result Ref Stop) → IsLive (table s.arena) f → Answered s u (Restrict f bit value) o
    → IfOk o (λ r. depth (table s.arena) f ≤ depth (table u.arena) r)
restrict_deep s u f bit value o live is = if_ok o _ _ (λ r answer.
    let same = is.stays.grows.depths f live in
    let deep = answer.deep in
    omega (arith, same, deep)) is.answer

-- words that agree on all bits of a set but one agree on the set once that bit is set
set_agree : (bits : Bits) (bit : ℕ) (value : Bool) (w u : Word) → ((b : ℕ) → all_but bit bits b ≡ true → w b ≡ u b) → (b : ℕ) → bits b ≡ true → with_bit w bit value b ≡ with_bit u bit value b
set_agree bits bit value w u agree b on =
    elim (cases_Bool (eqb b bit)) [
      | inl here ↦ ap (λ x. cond x value (w b)) here ∙ sym (ap (λ x. cond x value (u b)) here)
      | inr other ↦
          let kept : all_but bit bits b ≡ true = (λ i. on i && not (other i)) in
          ap (cond (eqb b bit) value) (agree b kept)
    ]

restricted_depends : (bits : Bits) (V : Words) (bit : ℕ) (value : Bool) → DependsOn bits V → DependsOn (all_but bit bits) (restricted V bit value)
restricted_depends bits V bit value depends w u agree = depends (with_bit w bit value) (with_bit u bit value) (set_agree bits bit value w u agree)

pub restrict_reach : (s u : PoolState) (f : Ref) (bit : ℕ) (value : Bool) (o : Result Ref Stop) → IsLive (table s.arena) f
    → Answered s u (Restrict f bit value) o → (bits : Bits) → ReachesOnly (table s.arena) bits f → NewReachOnly (table s.arena) (table u.arena) (all_but bit bits)
restrict_reach s u f bit value o live is bits reach =
    news_reach (table s.arena) (table u.arena) is.stays.reduced (all_but bit bits) (restricted (has (table s.arena) f) bit value)
    (restricted_depends bits _ bit value (depends_only _ is.reduced bits f live reach))
    is.parts

pub restrict_asks : (s u : PoolState) (f : Ref) (bit : ℕ) (value : Bool) (o : Result Ref Stop) → IsLive (table s.arena) f
    → Answered s u (Restrict f bit value) o → (bits : Bits) → ReachesOnly (table s.arena) bits f → IfOk o (ReachesOnly (table u.arena) (all_but bit bits))
restrict_asks s u f bit value o live is bits reach =
    answered_asks s u (Restrict f bit value) o live is (all_but bit bits) (restricted_depends bits _ bit value (depends_only _ is.reduced bits f live reach))

-- all words without those of a ref
pub not_words : (s : PoolState) (f : Ref) → asked (table s.arena) (Combine Diff One f) ≡ complement (has (table s.arena) f)
not_words s f = fun_ext (λ w. ap (λ a. combine Diff a (has (table s.arena) f w)) (has-one (table s.arena) w))

pub not_deep : (s u : PoolState) (f : Ref) (o : Result Ref Stop) → IsLive (table s.arena) f → Answered s u (Combine Diff One f) o
    → IfOk o (λ r. depth (table s.arena) f ≤ depth (table u.arena) r)
not_deep s u f o live is = if_ok o _ _ (λ r answer.
    let same = is.stays.grows.depths f live in
    let one = depth-one (table u.arena) in
    let within = depth_within (table u.arena) is.stays.reduced f (is.stays.grows.live f live) in
    let deep = answer.deep in
    omega (arith, same, one, within, deep)) is.answer

-- One reaches nothing
pub reaches_one : (t : Table) (bits : Bits) → DependsOn bits (has t One)
reaches_one t bits w v agree = has-one t w ∙ sym (has-one t v)

not_depends : (t : Table) → IsReduced t → (f : Ref) → IsLive t f → (bits : Bits) → ReachesOnly t bits f → DependsOn bits (asked t (Combine Diff One f))
not_depends t ok f live bits reach w v agree = λ i. combine Diff (reaches_one t bits w v agree i) (depends_only t ok bits f live reach w v agree i)

pub not_asks : (s u : PoolState) (f : Ref) (o : Result Ref Stop) → IsLive (table s.arena) f
    → Answered s u (Combine Diff One f) o → (bits : Bits) → ReachesOnly (table s.arena) bits f → IfOk o (ReachesOnly (table u.arena) bits)
not_asks s u f o live is bits reach = answered_asks s u (Combine Diff One f) o (tt, live) is bits (not_depends _ is.reduced f live bits reach)

pub not_reach : (s u : PoolState) (f : Ref) (o : Result Ref Stop) → IsLive (table s.arena) f
    → Answered s u (Combine Diff One f) o → (bits : Bits) → ReachesOnly (table s.arena) bits f → NewReachOnly (table s.arena) (table u.arena) bits
not_reach s u f o live is bits reach =
    news_reach (table s.arena) (table u.arena) is.stays.reduced bits (asked (table s.arena) (Combine Diff One f)) (not_depends _ is.reduced f live bits reach) is.parts

-- words with a value of one bit
on_true : (t : Table) (w : Word) (v : Bool) → cond v (has t One w) (has t Zero w) ≡ v
on_true t w true = has-one t w
on_true t w false = has-zero t w

on_false : (t : Table) (w : Word) (v : Bool) → cond v (has t Zero w) (has t One w) ≡ words_with 0 false (λ _. v)
on_false t w true = has-zero t w
on_false t w false = has-one t w

pub literal_true : (t u : Table) (bit : ℕ) (o : Result Ref Stop) → IfOk o (Joins t u bit Zero One) → IfOk o (Denotes u (words_with bit true))
literal_true t u bit o joins = if_ok o _ _ (λ r is. record { live = is.live; words = λ w. is.words w ∙ on_true t w (w bit) }) joins

pub literal_false : (t u : Table) (bit : ℕ) (o : Result Ref Stop) → IfOk o (Joins t u bit One Zero) → IfOk o (Denotes u (words_with bit false))
literal_false t u bit o joins = if_ok o _ _ (λ r is. record { live = is.live; words = λ w. is.words w ∙ on_false t w (w bit) }) joins

pub joins_deep : (t u : Table) (bit : ℕ) (lo hi : Ref) (o : Result Ref Stop) → IfOk o (Joins t u bit lo hi) → IfOk o (λ r. bit ≤ depth u r)
joins_deep t u bit lo hi o joins = if_ok o _ _ (λ r is. is.deep) joins

-- the one new node is the result, so each new node is a part of the result
pub result_part : (t u : Table) (V : Words) (o : Result Ref Stop) → ((i : NodeId) → t i ≡ None → IsLive u (Node i) → o ≡ Ok (Node i))
    → IfOk o (Denotes u V) → NewArePartsOf t u V
result_part t u V o only denotes i none live =
    let is : Denotes u V (Node i) = subst (λ x. IfOk x (Denotes u V)) (only i none live) denotes in
    same_part _ V V is.words (part_self V)

literal_depends : (bits : Bits) (bit : ℕ) (v : Bool) → bits bit ≡ true → DependsOn bits (words_with bit v)
literal_depends bits bit v on w u agree = ap (λ x. words_with 0 v (λ _. x)) (agree bit on)

pub literal_asks : (u : Table) → IsReduced u → (bit : ℕ) (v : Bool) (o : Result Ref Stop) → IfOk o (Denotes u (words_with bit v)) → (bits : Bits) → bits bit ≡ true
    → IfOk o (ReachesOnly u bits)
literal_asks u ok bit v o denotes bits on = if_ok o _ _ (λ r is. set_reach u ok bits (words_with bit v) r (literal_depends bits bit v on) is.live is.words) denotes

pub literal_reach : (t u : Table) → IsReduced u → (bit : ℕ) (v : Bool) → NewArePartsOf t u (words_with bit v) → (bits : Bits) → bits bit ≡ true → NewReachOnly t u bits
literal_reach t u ok bit v news bits on = news_reach t u ok bits (words_with bit v) (literal_depends bits bit v on) news

pub can_literal_true : (t : Table) (bit : ℕ) → bit < 2 ^ 32 → CanMake t bit Zero One
can_literal_true t bit small =
    let end : bit_end ≡ 2 ^ 32 = bit_end_is in
    record { lo_live = tt; hi_live = tt; lo_deeper = rw (depth-zero t) (rw end small); hi_deeper = rw (depth-one t) (rw end small) }

pub can_literal_false : (t : Table) (bit : ℕ) → bit < 2 ^ 32 → CanMake t bit One Zero
can_literal_false t bit small =
    let end : bit_end ≡ 2 ^ 32 = bit_end_is in
    record { lo_live = tt; hi_live = tt; lo_deeper = rw (depth-one t) (rw end small); hi_deeper = rw (depth-zero t) (rw end small) }

-- the node over two refs depends on its bit and on what they depend on
joins_depends : (t u : Table) → IsReduced t → (bits : Bits) (bit : ℕ) (lo hi r : Ref) → bits bit ≡ true → IsLive t lo → IsLive t hi → ReachesOnly t bits lo → ReachesOnly t bits hi
    → Joins t u bit lo hi r → DependsOn bits (has u r)
joins_depends t u ok bits bit lo hi r on lo_live hi_live lo_reach hi_reach is w v agree =
    is.words w ∙ (λ i. cond (agree bit on i) (depends_only t ok bits hi hi_live hi_reach w v agree i) (depends_only t ok bits lo lo_live lo_reach w v agree i)) ∙ sym (is.words v)

pub node_asks : (t u : Table) → IsReduced t → IsReduced u → (bit : ℕ) (lo hi : Ref) (o : Result Ref Stop) → CanMake t bit lo hi → IfOk o (Joins t u bit lo hi)
    → (bits : Bits) → bits bit ≡ true → ReachesOnly t bits lo → ReachesOnly t bits hi → IfOk o (ReachesOnly u bits)
node_asks t u ok ok' bit lo hi o can joins bits on lo_reach hi_reach = if_ok o _ _ (λ r is.
    reaches_only u ok' bits r is.live (joins_depends t u ok bits bit lo hi r on can.lo_live can.hi_live lo_reach hi_reach is)) joins

pub node_reach : (t u : Table) → IsReduced t → IsReduced u → (bit : ℕ) (lo hi : Ref) (o : Result Ref Stop) → CanMake t bit lo hi → IfOk o (Joins t u bit lo hi)
    → ((i : NodeId) → t i ≡ None → IsLive u (Node i) → o ≡ Ok (Node i)) → (bits : Bits) → bits bit ≡ true → ReachesOnly t bits lo → ReachesOnly t bits hi → NewReachOnly t u bits
node_reach t u ok ok' bit lo hi o can joins only bits on lo_reach hi_reach i none live =
    let is : Joins t u bit lo hi (Node i) = subst (λ x. IfOk x (Joins t u bit lo hi)) (only i none live) joins in
    reaches_only u ok' bits (Node i) live (joins_depends t u ok bits bit lo hi (Node i) on can.lo_live can.hi_live lo_reach hi_reach is)

-- the one new node is a part of the set of the result
pub node_parts : (t u : Table) (bit : ℕ) (lo hi : Ref) (o : Result Ref Stop) → IfOk o (Joins t u bit lo hi)
    → ((i : NodeId) → t i ≡ None → IsLive u (Node i) → o ≡ Ok (Node i)) → NewArePartsOf t u (joined bit (has t lo) (has t hi))
node_parts t u bit lo hi o joins only =
    result_part t u (joined bit (has t lo) (has t hi)) o only (if_ok o _ _ (λ r is. record { live = is.live; words = is.words }) joins)

unmarked_same : (old new : ArenaState) → new ≡ old → NewAreUnmarked old new
unmarked_same old new same i n none is =
    let there : map.get old.nodes i ≡ Some n = ap (λ (a : ArenaState). map.get a.nodes i) (sym same) ∙ is in
    let no : None ≡ Some n = sym none ∙ there in
    absurd (cc)

unmarked_added : (old new : ArenaState) (bit : ℕ) (lo hi : Ref) (j : NodeId) → AddsNode old new bit lo hi j → NewAreUnmarked old new
unmarked_added old new bit lo hi j adds i n none is =
    let m : Stored = new_node (triple bit lo hi) in
    let at : map.get new.nodes i ≡ cond (eq_by_cmp id_cmp i j) (Some m) (map.get old.nodes i) =
    ap (λ (a : ArenaState). map.get a.nodes i) adds.added ∙ map.get-insert id_cmp_total old.nodes j m i in
    elim (cases_Bool (eq_by_cmp id_cmp i j)) [
      | inl same ↦
          let there : Some n ≡ Some m = sym is ∙ at ∙ ap (λ b. cond b (Some m) (map.get old.nodes i)) same in
          let e : n ≡ m = (cc) in
          ap (λ (x : Stored). x.mark) e
      | inr other ↦
          let no : Some n ≡ None = sym is ∙ at ∙ ap (λ b. cond b (Some m) (map.get old.nodes i)) other ∙ none in
          absurd (cc)
    ]

-- a new node has no mark
pub made_unmarked : (old new : ArenaState) (bit : ℕ) (lo hi : Ref) (o : Result Ref Stop) → IfOk o (IsMade old new bit lo hi) → OnErr o (new ≡ old) → NewAreUnmarked old new
made_unmarked old new bit lo hi (Err e) made err i n none is = unmarked_same old new err i n none is
made_unmarked old new bit lo hi (Ok r) made err i n none is =
    elim made [
      | equal_children e at same ↦ unmarked_same old new same i n none is
      | node_there j differ at e same ↦ unmarked_same old new same i n none is
      | node_added j needed e adds ↦ unmarked_added old new bit lo hi j adds i n none is
    ]

pub on_err_arena : (o : Result Ref Stop) (old new : PoolState) → OnErr o (new ≡ old) → OnErr o (new.arena ≡ old.arena)
on_err_arena (Ok r) old new err = tt
on_err_arena (Err e) old new err = ap (λ (p : PoolState). p.arena) err
