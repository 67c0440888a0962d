-- The words of a ref on one side of a word, bit by bit.
use Rattle.std.proofs.Common.{◌≡◌, ◌≢◌, ℕ, ◌+◌, ◌<◌, ◌≤◌, ◌^◌, Bool, true, false, eqb, ◌&&◌, cond, List, [], ◌∷◌, map, length, drop, get_or, Result, Ok, Err, refl, sym, ◌∙◌, ap, subst, arith, inl, inr}
use Rattle.std.specs.Prelude.{IfOk, IsErr}
use Rattle.std.proofs.lemmas.Bool.{cases_eq, or_left, eq-eqb}
use Rattle.std.proofs.lemmas.Bool.Decides.{nat_tests}
use Rattle.std.proofs.Math.Path.{fun_ext}
use Rattle.std.proofs.lemmas.List.{drop_more, drop_all}
use Rattle.diagram_arena.specs.declared.nodes.Ref.{Ref}
use Rattle.diagram_arena.specs.declared.nodes.Ref.TheVariants.{Zero, One, Node}
use Rattle.diagram_arena.specs.declared.nodes.Stop.{Stop}
use Rattle.diagram_arena.specs.declared.nodes.Stop.TheVariants.{Full}
use Rattle.diagram_arena.specs.Table.{Word, Words, Table, child, has, IsLive, depth}
use Rattle.diagram_arena.specs.Part.{with_front, IsPartOf}
use Rattle.diagram_arena.specs.Reach.{among}
use Rattle.diagram_arena.specs.Arena.{table, CanMake, Joins}
use Rattle.diagram_arena.proofs.Meaning.{bit_end_is, has-zero, depth-zero, depth-one, depth-at}
use Rattle.node_reclaim.specs.Pool.{PoolState}
use Rattle.node_reclaim.specs.Growth.{IsFull, Stays, NewArePartsOf}
use Rattle.diagram_ops.specs.Words.{joined}
use Rattle.diagram_ops.specs.Steps.{IsSplit}
use Rattle.diagram_ops.proofs.Steps.{stays_self, stays_then, no_news, news_then, parts_of_part}
use Rattle.diagram_ops.proofs.Splits.{split_zero, split_one, split_there, split_below}
use Rattle.diagram_view.specs.Steps.{Laws, side}
use Rattle.diagram_view.proofs.Over.{IsOver}
use Rattle.diagram_view.proofs.Bits.{among_rest, among_tail}
use Rattle.diagram_view.proofs.Stepping.{over_side, side-there, side-below, live_triple}
use Rattle.objective_sides.specs.declared.sense.Sense.{Sense}
use Rattle.objective_sides.specs.declared.sense.Sense.TheVariants as sense
use Rattle.objective_sides.specs.Work.{keeps_other, goes, cut_words, other_side, Cuts}

-- ---- truth

and_on : (a : Bool) → a ≡ (a && true)
and_on true = refl
and_on false = refl

and_off : (a : Bool) → false ≡ (a && false)
and_off true = refl
and_off false = refl

-- what is joined of the words at one bit
joined_word : (s : Sense) (v c : Bool) (vs us : List Bool) (f i o lo hi : Bool) → f ≡ cond c hi lo → i ≡ (cond v hi lo && goes s vs us) → o ≡ cond (keeps_other s v) (cond v lo hi) false
    → cond c (cond v i o) (cond v o i) ≡ (f && goes s (v ∷ vs) (c ∷ us))
joined_word s true true vs us f i o lo hi e p q = p ∙ ap (λ z. z && goes s vs us) (sym e)
joined_word s false false vs us f i o lo hi e p q = p ∙ ap (λ z. z && goes s vs us) (sym e)
joined_word sense.AtLeast true false vs us f i o lo hi e p q = q ∙ and_off f
joined_word sense.AtLeast false true vs us f i o lo hi e p q = q ∙ sym e ∙ and_on f
joined_word sense.AtMost true false vs us f i o lo hi e p q = q ∙ sym e ∙ and_on f
joined_word sense.AtMost false true vs us f i o lo hi e p q = q ∙ and_off f

same_goes : (s : Sense) (v : Bool) (vs us : List Bool) → goes s vs us ≡ goes s (v ∷ vs) (v ∷ us)
same_goes s true vs us = refl
same_goes s false vs us = refl

-- ---- one bit

-- a ref over later bits asks no bit before them
over_deep : (t : Table) → Laws t → (r : Ref) (bs : List ℕ) (b : ℕ) → IsOver t r bs → b < 2 ^ 32 → ((c : ℕ) → among bs c ≡ true → b < c) → b < depth t r
over_deep t ok Zero bs b over small before = let e = depth-zero t in let end = bit_end_is in omega (arith, e, end, small)
over_deep t ok One bs b over small before = let e = depth-one t in let end = bit_end_is in omega (arith, e, end, small)
over_deep t ok (Node i) bs b over small before =
    let found = live_triple t i over.live in
    let level = depth-at t i found.0 found.1 in
    let far = before found.0.bit (over.reaches [] i found.0 refl found.1) in
    omega (arith, level, far)

among_first : (b : ℕ) (bs : List ℕ) → among (b ∷ bs) b ≡ true
among_first b bs = or_left (eqb b b) (among bs b) (eq-eqb b b refl)

split_over : (t : Table) → Laws t → (f : Ref) (b : ℕ) (bs : List ℕ) → IsOver t f (b ∷ bs) → b < 2 ^ 32 → IsSplit t f b (side t f b false) (side t f b true)
split_over t ok Zero b bs over small = split_zero t Zero b refl small
split_over t ok One b bs over small = split_one t One b refl small
split_over t ok (Node i) b bs over small =
    let found = live_triple t i over.live in
    let n = found.0 in
    let at = found.1 in
    let level = depth-at t i n at in
    elim (cases_eq n.bit b) [
      | inl e ↦
          subst (λ (r : Ref). IsSplit t (Node i) b r (side t (Node i) b true)) (sym (side-there t i n b false at e))
          (subst (λ (r : Ref). IsSplit t (Node i) b n.lo r) (sym (side-there t i n b true at e)) (split_there t ok.reduced (Node i) b i n refl at e))
      | inr ne ↦
          let far : b < n.bit = over.rises.0 n.bit (among_rest b bs n.bit (over.reaches [] i n refl at) ne) in
          let above : b ≤ depth t (Node i) = omega (arith, level, far) in
          subst (λ (r : Ref). IsSplit t (Node i) b r (side t (Node i) b true)) (sym (side-below t i n b false at ne))
          (subst (λ (r : Ref). IsSplit t (Node i) b (Node i) r) (sym (side-below t i n b true at ne)) (split_below t ok.reduced (Node i) b i n over.live refl at above ne))
    ]

word_of_side : (t : Table) (f : Ref) (b : ℕ) (w : Word) (v : Bool) → has t (side t f b v) w ≡ cond v (has t (side t f b true) w) (has t (side t f b false) w)
word_of_side t f b w true = refl
word_of_side t f b w false = refl

word_of_other : (t : Table) (f : Ref) (b : ℕ) (w : Word) (v : Bool) (s : Sense)
    → has t (other_side t f b v s) w ≡ cond (keeps_other s v) (cond v (has t (side t f b false) w) (has t (side t f b true) w)) false
word_of_other t f b w true sense.AtLeast = has-zero t w
word_of_other t f b w false sense.AtLeast = refl
word_of_other t f b w true sense.AtMost = refl
word_of_other t f b w false sense.AtMost = has-zero t w

word_of_split : (t : Table) (f : Ref) (b : ℕ) (w : Word) → IsSplit t f b (side t f b false) (side t f b true) → has t f w ≡ cond (w b) (has t (side t f b true) w) (has t (side t f b false) w)
word_of_split t f b w split = split.words w ∙ by (w b)
  where
    by : (v : Bool) → has t (child (record { bit = b; lo = side t f b false; hi = side t f b true }) v) w ≡ cond v (has t (side t f b true) w) (has t (side t f b false) w)
    by true = refl
    by false = refl

live_other : (t : Table) (f : Ref) (b : ℕ) (v : Bool) (s : Sense) → IsSplit t f b (side t f b false) (side t f b true) → IsLive t (other_side t f b v s)
live_other t f b true sense.AtLeast split = tt
live_other t f b false sense.AtLeast split = split.live true
live_other t f b true sense.AtMost split = split.live false
live_other t f b false sense.AtMost split = tt

deep_other : (t : Table) (f : Ref) (b : ℕ) (v : Bool) (s : Sense) → b < 2 ^ 32 → IsSplit t f b (side t f b false) (side t f b true) → b < depth t (other_side t f b v s)
deep_other t f b true sense.AtLeast small split = let e = depth-zero t in let end = bit_end_is in omega (arith, e, end, small)
deep_other t f b false sense.AtLeast small split = split.deeper true
deep_other t f b true sense.AtMost small split = split.deeper false
deep_other t f b false sense.AtMost small split = let e = depth-zero t in let end = bit_end_is in omega (arith, e, end, small)

same_front : (b : ℕ) (v : Bool) (w : Word) (bs : List ℕ) → ((c : ℕ) → among bs c ≡ true → b < c) → map (with_front (b + 1) (λ _. v) w) bs ≡ map w bs
same_front b v w [] above = refl
same_front b v w (c ∷ bs) above =
    let u : Word = with_front (b + 1) (λ _. v) w in
    ap (λ x. x ∷ map u bs) (beyond c (above c (among_first c bs))) ∙ ap (λ xs. w c ∷ xs) (same_front b v w bs (λ d on. above d (among_tail c bs d on)))
  where
    beyond : (c : ℕ) → b < c → with_front (b + 1) (λ _. v) w c ≡ w c
    beyond c far = grind (arith, nat_tests)

front_here : (b : ℕ) (v : Bool) (w : Word) → with_front (b + 1) (λ _. v) w b ≡ v
front_here b v w = grind (arith, nat_tests)

-- ---- a turn

module _ (s : PoolState) (f : Ref) (b : ℕ) (bs : List ℕ) (v : Bool) (vs : List Bool) (o : Sense) (ok : Laws (table s.arena)) (over : IsOver (table s.arena) f (b ∷ bs)) (small : b < 2 ^ 32) where
  abbrev t : Table
  t = table s.arena

  split : IsSplit t f b (side t f b false) (side t f b true)
  split = split_over t ok f b bs over small

  pub over_next : IsOver t (side t f b v) bs
  over_next = over_side t ok f b bs v over

  -- what is left of the side is a part of the whole
  side_part : IsPartOf (cut_words t (side t f b v) bs vs o) (cut_words t f (b ∷ bs) (v ∷ vs) o)
  side_part = record {
    from = b + 1;
    front = λ _. v;
    same = λ w.
        let u : Word = with_front (b + 1) (λ _. v) w in
        let front : has t (side t f b v) w ≡ has t f u = front_of v w in
        let rest : goes o vs (map w bs) ≡ goes o (v ∷ vs) (u b ∷ map u bs) =
        same_goes o v vs (map w bs) ∙ ap (λ x. goes o (v ∷ vs) (x ∷ map w bs)) (sym (front_here b v w)) ∙ ap (λ us. goes o (v ∷ vs) (u b ∷ us)) (sym (same_front b v w bs over.rises.0)) in
        ap (λ x. x && goes o vs (map w bs)) front ∙ ap (λ x. has t f u && x) rest;
  }
    where
      front_of : (x : Bool) (w : Word) → has t (side t f b x) w ≡ has t f (with_front (b + 1) (λ _. x) w)
      front_of true w = split.front true w
      front_of false w = split.front false w

  side_news : (a : PoolState) (x : Result Ref Stop) → Cuts s a (side t f b v) bs vs o x → NewArePartsOf t (table a.arena) (cut_words t f (b ∷ bs) (v ∷ vs) o)
  side_news a x call = parts_of_part t (table a.arena) (cut_words t (side t f b v) bs vs o) (cut_words t f (b ∷ bs) (v ∷ vs) o) side_part call.parts

  pub cuts_err : (a : PoolState) (x y : Result Ref Stop) → Cuts s a (side t f b v) bs vs o x → IsErr y → (y ≡ Err Full → IsFull a) → Cuts s a f (b ∷ bs) (v ∷ vs) o y
  cuts_err a x (Ok r) call err full = absurd (cc)
  cuts_err a x (Err e) call err full = record { words = tt; deep = tt; stays = call.stays; full = full; parts = side_news a x call }

  module _ (a : PoolState) (i : Ref) (call : Cuts s a (side t f b v) bs vs o (Ok i)) where
    abbrev q : Ref
    q = other_side t f b v o

    live_q : IsLive t q
    live_q = live_other t f b v o split

    pub can_join : CanMake (table a.arena) b (cond v q i) (cond v i q)
    can_join =
        let grown = call.stays.grows in
        let at = deep_other t f b v o small split in
        let same = grown.depths q live_q in
        let deep_q : b < depth (table a.arena) q = omega (arith, at, same) in
        let deep_i = call.deep b small over.rises.0 in
        both v q i (grown.live q live_q) deep_q call.words.live deep_i
      where
        both : (v : Bool) (q i : Ref) → IsLive (table a.arena) q → b < depth (table a.arena) q → IsLive (table a.arena) i → b < depth (table a.arena) i → CanMake (table a.arena) b (cond v q i) (cond v i q)
        both true q i lq dq li di = record { lo_live = lq; hi_live = li; lo_deeper = dq; hi_deeper = di }
        both false q i lq dq li di = record { lo_live = li; hi_live = lq; lo_deeper = di; hi_deeper = dq }

    whole_word : (w : Word) → cond (w b) (has (table a.arena) (cond v i q) w) (has (table a.arena) (cond v q i) w) ≡ cut_words t f (b ∷ bs) (v ∷ vs) o w
    whole_word w =
        spread v q i ∙ joined_word o v (w b) vs (map w bs) (has t f w) (has (table a.arena) i w) (has (table a.arena) q w) (has t (side t f b false) w) (has t (side t f b true) w)
        (word_of_split t f b w split)
        (call.words.words w ∙ ap (λ x. x && goes o vs (map w bs)) (word_of_side t f b w v))
        (call.stays.grows.words q live_q w ∙ word_of_other t f b w v o)
      where
        spread : (v : Bool) (q i : Ref) → cond (w b) (has (table a.arena) (cond v i q) w) (has (table a.arena) (cond v q i) w)
            ≡ cond (w b) (cond v (has (table a.arena) i w) (has (table a.arena) q w)) (cond v (has (table a.arena) q w) (has (table a.arena) i w))
        spread true q i = refl
        spread false q i = refl

    pub cuts_join : (d : PoolState) (y : Result Ref Stop) → IfOk y (Joins (table a.arena) (table d.arena) b (cond v q i) (cond v i q)) → Stays a d → (y ≡ Err Full → IsFull d)
        → NewArePartsOf (table a.arena) (table d.arena) (joined b (has (table a.arena) (cond v q i)) (has (table a.arena) (cond v i q))) → Cuts s d f (b ∷ bs) (v ∷ vs) o y
    cuts_join d y joins stays full parts =
        let made = subst (NewArePartsOf (table a.arena) (table d.arena)) (fun_ext whole_word) parts in
        let all = stays_then s a d call.stays stays in
        let news = news_then t (table a.arena) (table d.arena) (λ (W : Words). IsPartOf W (cut_words t f (b ∷ bs) (v ∷ vs) o)) stays.grows (side_news a (Ok i) call) made in
        elim y as (λ y. IfOk y (Joins (table a.arena) (table d.arena) b (cond v q i) (cond v i q)) → (y ≡ Err Full → IsFull d) → Cuts s d f (b ∷ bs) (v ∷ vs) o y) [
          | Ok r ↦ λ joins full. record {
            words = record { live = joins.live; words = λ w. joins.words w ∙ whole_word w };
            deep = λ c low before. let deep = joins.deep in let far = before b (among_first b bs) in omega (arith, deep, far);
            stays = all;
            full = full;
            parts = news;
          }
          | Err e ↦ λ joins full. record { words = tt; deep = tt; stays = all; full = full; parts = news }
        ] joins full

-- ---- the end

pub cuts_end : (s : PoolState) (f : Ref) (vs : List Bool) (o : Sense) → Laws (table s.arena) → IsOver (table s.arena) f [] → Cuts s s f [] vs o (Ok f)
cuts_end s f vs o ok over = record {
  words = record { live = over.live; words = λ w. and_on (has (table s.arena) f w) ∙ ap (λ x. has (table s.arena) f w && x) (ends vs) };
  deep = λ b small before. over_deep (table s.arena) ok f [] b over small before;
  stays = stays_self s ok.reduced;
  full = λ e. absurd (cc);
  parts = no_news (table s.arena) (λ (W : Words). IsPartOf W (cut_words (table s.arena) f [] vs o));
}
  where
    ends : (vs : List Bool) → true ≡ goes o vs []
    ends [] = refl
    ends (v ∷ vs) = refl

-- ---- places

pub at_end : (s : PoolState) (f : Ref) (bits : List ℕ) (word : List Bool) (at : ℕ) (o : Sense) → Laws (table s.arena) → length word ≡ length bits → at ≡ length bits → IsOver (table s.arena) f (drop at bits)
    → Cuts s s f (drop at bits) (drop at word) o (Ok f)
at_end s f bits word at o ok long last over =
    let none : drop at bits ≡ [] = drop_all at bits (omega (arith, last)) in
    subst (λ (bs : List ℕ). Cuts s s f bs (drop at word) o (Ok f)) (sym none) (cuts_end s f (drop at word) o ok (subst (IsOver (table s.arena) f) none over))

module _ (s : PoolState) (f : Ref) (bits : List ℕ) (word : List Bool) (at : ℕ) (o : Sense) (ok : Laws (table s.arena)) (long : length word ≡ length bits) (within : at ≤ length bits) (more : at ≢ length bits)
    (over : IsOver (table s.arena) f (drop at bits)) (small : get_or bits at 0 < 2 ^ 32) where
  abbrev b : ℕ
  b = get_or bits at 0

  abbrev v : Bool
  v = get_or word at false

  bits_here : drop at bits ≡ b ∷ drop (at + 1) bits
  bits_here = drop_more bits at 0 (omega (arith, within, more))

  word_here : drop at word ≡ v ∷ drop (at + 1) word
  word_here = drop_more word at false (omega (arith, within, more, long))

  over_here : IsOver (table s.arena) f (b ∷ drop (at + 1) bits)
  over_here = subst (IsOver (table s.arena) f) bits_here over

  pub here_next : (r : Ref) → r ≡ side (table s.arena) f b v → IsOver (table s.arena) r (drop (at + 1) bits)
  here_next r is = subst (λ (r : Ref). IsOver (table s.arena) r (drop (at + 1) bits)) (sym is) (over_side (table s.arena) ok f b (drop (at + 1) bits) v over_here)

  pub here_live : IsLive (table s.arena) f
  here_live = over.live

  from_cuts : (d : PoolState) (y : Result Ref Stop) → Cuts s d f (b ∷ drop (at + 1) bits) (v ∷ drop (at + 1) word) o y → Cuts s d f (drop at bits) (drop at word) o y
  from_cuts d y h = subst (λ (bs : List ℕ). Cuts s d f bs (drop at word) o y) (sym bits_here) (subst (λ (vs : List Bool). Cuts s d f (b ∷ drop (at + 1) bits) vs o y) (sym word_here) h)

  pub here_err : (a : PoolState) (r : Ref) (x y : Result Ref Stop) → r ≡ side (table s.arena) f b v → Cuts s a r (drop (at + 1) bits) (drop (at + 1) word) o x → IsErr y → (y ≡ Err Full → IsFull a)
      → Cuts s a f (drop at bits) (drop at word) o y
  here_err a r x y is call err full =
      from_cuts a y (cuts_err s f b (drop (at + 1) bits) v (drop (at + 1) word) o ok over_here small a x y (subst (λ (r : Ref). Cuts s a r (drop (at + 1) bits) (drop (at + 1) word) o x) is call) err full)

  module _ (a : PoolState) (r q i : Ref) (is : r ≡ side (table s.arena) f b v) (other : q ≡ other_side (table s.arena) f b v o) (call : Cuts s a r (drop (at + 1) bits) (drop (at + 1) word) o (Ok i)) where
    call_side : Cuts s a (side (table s.arena) f b v) (drop (at + 1) bits) (drop (at + 1) word) o (Ok i)
    call_side = subst (λ (r : Ref). Cuts s a r (drop (at + 1) bits) (drop (at + 1) word) o (Ok i)) is call

    pub here_join : CanMake (table a.arena) b (cond v q i) (cond v i q)
    here_join = subst (λ (q : Ref). CanMake (table a.arena) b (cond v q i) (cond v i q)) (sym other)
        (can_join s f b (drop (at + 1) bits) v (drop (at + 1) word) o ok over_here small a i call_side)

    pub here_cuts : (d : PoolState) (y : Result Ref Stop) → IfOk y (Joins (table a.arena) (table d.arena) b (cond v q i) (cond v i q)) → Stays a d → (y ≡ Err Full → IsFull d)
        → NewArePartsOf (table a.arena) (table d.arena) (joined b (has (table a.arena) (cond v q i)) (has (table a.arena) (cond v i q))) → Cuts s d f (drop at bits) (drop at word) o y
    here_cuts d y joins stays full parts =
        from_cuts d y (cuts_join s f b (drop (at + 1) bits) v (drop (at + 1) word) o ok over_here small a i call_side d y
        (subst (λ (q : Ref). IfOk y (Joins (table a.arena) (table d.arena) b (cond v q i) (cond v i q))) other joins) stays full
        (subst (λ (q : Ref). NewArePartsOf (table a.arena) (table d.arena) (joined b (has (table a.arena) (cond v q i)) (has (table a.arena) (cond v i q)))) other parts))
