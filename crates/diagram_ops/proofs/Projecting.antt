-- The ways in which a projection ends: what has been made so far, and why it stopped.
use Rattle.std.proofs.Common.{◌≡◌, ℕ, ◌∷◌, All, ◌+◌, ◌-◌, ◌<◌, ◌≤◌, Bool, true, false, ◌&&◌, cond, List, [], Option, Some, Result, Ok, Err, refl, sym, ◌∙◌, ap, subst, inl, inr, arith}
use Rattle.std.specs.Prelude.{IsErr, IfOk, IfSome, MatchBool}
use Rattle.std.specs.List.{list_all, AllByRecursion as ByRecursion}
use Rattle.std.proofs.lemmas.List.Elements.{recursion_from_All}
use Rattle.std.specs.FinMap as map
use Rattle.std.proofs.lemmas.Bool.{cases_Bool}
use Rattle.std.proofs.lemmas.Bool.Decides.{nat_tests}
use mathlib.Core.Path.{fun_ext}
use Rattle.diagram_arena.specs.declared.nodes.Ref.{Ref}
use Rattle.diagram_arena.specs.declared.nodes.Ref.TheVariants.{Zero, One, Node}
use Rattle.diagram_arena.specs.declared.nodes.Stop.{Stop}
use Rattle.diagram_arena.specs.declared.nodes.Stop.TheVariants.{Full}
use Rattle.diagram_arena.specs.Table.{Word, Words, Table, child, has, IsLive, depth, IsReduced}
use Rattle.diagram_arena.specs.Part.{with_bit, with_front, IsPartOf}
use Rattle.diagram_arena.specs.Reach.{Bits, ReachesOnly, DependsOn, among}
use Rattle.diagram_arena.specs.Arena.{table, triple, CanMake}
use Rattle.diagram_arena.proofs.Meaning.{has-zero, has-one, depth-zero, depth-one}
use Rattle.diagram_arena.proofs.Parts.{part_self}
use Rattle.diagram_arena.proofs.Reach.{depends_only, reaches_only, part_depends}
use Rattle.node_reclaim.specs.Pool.{PoolState}
use Rattle.node_reclaim.specs.Growth.{NewReachOnly}
use Rattle.diagram_ops.specs.declared.product.Product.{Product}
use Rattle.diagram_ops.specs.declared.product.Product.TheVariants.{Single}
use Rattle.diagram_ops.specs.declared.product.Pair.{Pair}
use Rattle.diagram_ops.specs.Words.{common, Agree, Lies, HasNone, HasSome, IsProjection, IsPartOfProjection, product_of, IsAsDeepAsAll}
use Rattle.diagram_ops.specs.Steps.{sides_joined, SidesJoined}
use Rattle.diagram_ops.specs.Meanings.{first_of, Means, IsThere, IsConstant, Extends, front_of, AreSidesOf, IsProjectionOf, ProjectsWords}
use Rattle.diagram_ops.specs.Work.{AreBounds, IsStepOf}
use Rattle.diagram_ops.proofs.Exits.{Sofar, sofar_self, sofar_then}
use Rattle.diagram_ops.proofs.Results.{if_ok}
use Rattle.diagram_ops.proofs.Projections.{AreSides, sides_projection, same_projection, projected_part, projection_depends, bit-here, free_agree, full_projection, front-below, front-above}
use Rattle.diagram_ops.proofs.Meant.{of_single, first_grows, first_more, first_within, means_grows, means_more, means_agree, means_once}
use Rattle.diagram_ops.proofs.Emptying.{zero_none}

-- to be a part of the projection of a part of V
abbrev pub PartOf : List ℕ → Words → Words → Type 0
PartOf keep V = λ W. IsPartOfProjection (among keep) W V

-- both sides of a set at a bit
front-bit : (bit : ℕ) (p w : Word) (x : Bool) (b : ℕ) → with_front (bit + 1) p (with_bit w bit x) b ≡ with_front (bit + 1) p w b
front-bit bit p w x b = grind (arith, nat_tests)

pub front_sides : (V : Words) (bit : ℕ) → ((w : Word) → V w ≡ front_of V bit (w bit) w) → AreSides V bit (front_of V bit)
front_sides V bit words = record {
  words = words;
  free = λ v x w. ap V (fun_ext (front-bit bit (λ _. v) w x));
}

front_part : (V : Words) (bit : ℕ) (v : Bool) → IsPartOf (front_of V bit v) V
front_part V bit v = record { from = bit + 1; front = λ _. v; same = λ w. refl }

-- a call for one side
side_call : (a b : PoolState) (keep : List ℕ) (V : Words) (bit : ℕ) (v : Bool) (d : ℕ) (o : Result Ref Stop) → ProjectsWords a b keep (front_of V bit v) d o → Sofar a b (PartOf keep V)
side_call a b keep V bit v d o call = record {
  stays = call.stays;
  news = λ i none live. projected_part (among keep) _ (front_of V bit v) V (call.parts i none live) (front_part V bit v);
}

pub lo_call : (s a : PoolState) (keep : List ℕ) (V : Words) (bit d : ℕ) (o : Result Ref Stop) → ProjectsWords s a keep (front_of V bit false) d o → Sofar s a (PartOf keep V)
lo_call s a keep V bit d o call = side_call s a keep V bit false d o call

pub hi_call : (s a b : PoolState) (keep : List ℕ) (V : Words) (bit d e : ℕ) (lo : Ref) (o : Result Ref Stop) → ProjectsWords s a keep (front_of V bit false) d (Ok lo)
    → ProjectsWords a b keep (front_of V bit true) e o → Sofar s b (PartOf keep V)
hi_call s a b keep V bit d e lo o lo_done hi_done = sofar_then s a b _ (lo_call s a keep V bit d (Ok lo) lo_done) (side_call a b keep V bit true e o hi_done)

-- both projections are there, in the pool that the second call left
pub record Both (s b : PoolState) (keep : List ℕ) (V : Words) (bit : ℕ) (lo hi : Ref) : Type 0 where
  pub sofar : Sofar s b (PartOf keep V)
  pub can : CanMake (table b.arena) bit lo hi
  pub whole : IsProjection (among keep) V (sides_joined (among keep) bit (has (table b.arena) lo) (has (table b.arena) hi))

each_side : (keep : List ℕ) (V : Words) (bit : ℕ) (lo hi : Words) → IsProjection (among keep) (front_of V bit false) lo → IsProjection (among keep) (front_of V bit true) hi
    → (v : Bool) → IsProjection (among keep) (front_of V bit v) (cond v hi lo)
each_side keep V bit lo hi los his true = his
each_side keep V bit lo hi los his false = los

pub both_calls : (s a b : PoolState) (keep : List ℕ) (V : Words) (bit d e : ℕ) (lo hi : Ref) → ((w : Word) → V w ≡ front_of V bit (w bit) w) → bit < d → bit < e
    → ProjectsWords s a keep (front_of V bit false) d (Ok lo) → ProjectsWords a b keep (front_of V bit true) e (Ok hi) → Both s b keep V bit lo hi
both_calls s a b keep V bit d e lo hi words lo_far hi_far lo_done hi_done =
    let grown = hi_done.stays.grows in
    let lo_deep = lo_done.deep in
    let hi_deep = hi_done.deep in
    let lo_same = grown.depths lo lo_done.live in
    record {
      sofar = hi_call s a b keep V bit d e lo (Ok hi) lo_done hi_done;
      can = record {
        lo_live = grown.live lo lo_done.live;
        hi_live = hi_done.live;
        lo_deeper = omega (arith, lo_far, lo_deep, lo_same);
        hi_deeper = omega (arith, hi_far, hi_deep);
      };
      whole = sides_projection (among keep) bit V (front_of V bit) (λ v. cond v (has (table b.arena) hi) (has (table b.arena) lo)) (front_sides V bit words)
          (each_side keep V bit (has (table b.arena) lo) (has (table b.arena) hi)
          (same_projection (among keep) _ _ _ _ (λ w. refl) (grown.words lo lo_done.live) lo_done.words) hi_done.words);
    }

-- after joining, whatever came of it
pub join_call : (s b d : PoolState) (keep : List ℕ) (V : Words) (bit : ℕ) (lo hi : Ref) (o : Result Ref Stop) → Both s b keep V bit lo hi
    → SidesJoined b d keep bit lo hi o → Sofar s d (PartOf keep V)
join_call s b d keep V bit lo hi o is call = sofar_then s b d _ is.sofar (record {
  stays = call.stays;
  news = λ i none live. record {
    part = V;
    projection = sides_joined (among keep) bit (has (table b.arena) lo) (has (table b.arena) hi);
    of_part = part_self _;
    projects = is.whole;
    within = call.parts i none live;
  };
})

pub ends_ok : (s d : PoolState) (keep : List ℕ) (V : Words) (first : ℕ) (r : Ref) → Sofar s d (PartOf keep V) → IsLive (table d.arena) r → first ≤ depth (table d.arena) r
    → IsProjection (among keep) V (has (table d.arena) r) → ProjectsWords s d keep V first (Ok r)
ends_ok s d keep V first r sofar live deep words = record {
  live = live;
  deep = deep;
  words = words;
  stays = sofar.stays;
  full = λ e. absurd (cc);
  parts = sofar.news;
}

pub ends_err : (s d : PoolState) (keep : List ℕ) (V : Words) (first : ℕ) (o : Result Ref Stop) → IsErr o → Sofar s d (PartOf keep V)
    → (o ≡ Err Full → map.len d.arena.nodes ≡ d.arena.limit) → ProjectsWords s d keep V first o
ends_err s d keep V first (Ok r) err sofar full = absurd (cc)
ends_err s d keep V first (Err e) err sofar full = record {
  live = tt;
  deep = tt;
  words = tt;
  stays = sofar.stays;
  full = full;
  parts = sofar.news;
}

pub joined_ends : (s b d : PoolState) (keep : List ℕ) (V : Words) (bit : ℕ) (lo hi r : Ref) → Both s b keep V bit lo hi → SidesJoined b d keep bit lo hi (Ok r)
    → ProjectsWords s d keep V bit (Ok r)
joined_ends s b d keep V bit lo hi r is call =
    ends_ok s d keep V bit r (join_call s b d keep V bit lo hi (Ok r) is call) call.words.live call.deep
    (same_projection (among keep) _ _ _ _ (λ w. refl) call.words.words is.whole)

-- the projection of the false side is that of the whole where it holds all words of the true side, and the bit is not kept
agree_then : (bits : Bits) (w u x : Word) → Agree bits w u → Agree bits u x → Agree bits w x
agree_then bits w u x first second b on = first b on ∙ second b on

pub covered : (bits : Bits) (V : Words) (bit : ℕ) (P : Words) → ((w : Word) → V w ≡ front_of V bit (w bit) w) → IsProjection bits (front_of V bit false) P
    → Lies (front_of V bit true) P → bits bit ≡ false → IsProjection bits V P
covered bits V bit P words is over off = record {
  sound = λ w on.
      let found = is.sound w on in
      let u : Word = with_bit found.0 bit false in
      (u, words u ∙ ap (λ v. front_of V bit v u) (bit-here bit false found.0) ∙ (front_sides V bit words).free false false found.0 ∙ found.1, free_agree bits bit off w found.0 false found.2);
  whole = λ w u on agree. elim (cases_Bool (u bit)) [
    | inl at ↦
        let there : front_of V bit true u ≡ true = ap (λ v. front_of V bit v u) (sym at) ∙ sym (words u) ∙ on in
        let found = is.sound u (over u there) in
        is.whole w found.0 found.1 (agree_then bits w u found.0 agree found.2)
    | inr at ↦
        let there : front_of V bit false u ≡ true = ap (λ v. front_of V bit v u) (sym at) ∙ sym (words u) ∙ on in
        is.whole w u there agree
  ];
}

pub covered_ends : (s a : PoolState) (keep : List ℕ) (V : Words) (bit d : ℕ) (lo bound : Ref) → ((w : Word) → V w ≡ front_of V bit (w bit) w) → bit < d
    → ProjectsWords s a keep (front_of V bit false) d (Ok lo) → Lies (front_of V bit true) (has (table s.arena) bound) → IsLive (table s.arena) bound
    → among keep bit ≡ false → lo ≡ bound → ProjectsWords s a keep V bit (Ok lo)
covered_ends s a keep V bit d lo bound words far lo_done over bound_live off same =
    let deep = lo_done.deep in
    ends_ok s a keep V bit lo (lo_call s a keep V bit d (Ok lo) lo_done) lo_done.live (omega (arith, far, deep))
    (covered (among keep) V bit (has (table a.arena) lo) words lo_done.words
    (λ w on. ap (λ r. has (table a.arena) r w) same ∙ lo_done.stays.grows.words bound bound_live w ∙ over w on) off)

-- a projection that was found before, in a pool that is as it was
pub found_ends : (s : PoolState) → IsReduced (table s.arena) → (ps qs : List Pair) (keep : List ℕ) (p : Product) (V : Words) (d : ℕ) (r : Ref) → Means (table s.arena) qs p V
    → d ≡ first_of (table s.arena) qs p → IsProjectionOf (table s.arena) qs keep p r → ProjectsWords s s keep V d (Ok r)
found_ends s ok ps qs keep p V d r means at is =
    let deep = is.deep in
    ends_ok s s keep V d r (sofar_self s _ ok) is.live (omega (arith, at, deep))
    (subst (λ X. IsProjection (among keep) X (has (table s.arena) r)) (means_once (table s.arena) qs p is.set V is.means means) is.words)

-- the projection of a product that a call has found, in the pool that it left
pub is_projection : (s u : PoolState) (ps qs : List Pair) (keep : List ℕ) (p : Product) (V : Words) (r : Ref) → Means (table s.arena) ps p V
    → Extends ps qs → ProjectsWords s u keep V (first_of (table s.arena) ps p) (Ok r) → IsProjectionOf (table u.arena) qs keep p r
is_projection s u ps qs keep p V r means more is =
    let grown = is.stays.grows in
    let there = means_grows _ _ grown ps p V means in
    let same = first_grows _ _ grown ps p V means in
    let same' = first_more (table u.arena) ps qs more p V there in
    let deep = is.deep in
    record {
      set = V;
      means = means_more (table u.arena) ps qs more p V there;
      live = is.live;
      deep = omega (arith, same, same', deep);
      words = is.words;
    }

-- the distance to the end falls with each step
pub falls : (end here there bit : ℕ) → bit ≡ here → bit < there → there ≤ end → end - there < end - here
falls end here there bit at deeper within = omega arith

-- a product whose bits are all beyond those that are kept: its projection is One, or Zero
pub free_of : (t : Table) → IsReduced t → (ps : List Pair) (keep : List ℕ) (p : Product) (V : Words) → Means t ps p V → HasSome V → ((b : ℕ) → among keep b ≡ true → b < first_of t ps p)
    → IsProjectionOf t ps keep p One
free_of t ok ps keep p V means some below = record {
  set = V;
  means = means;
  live = tt;
  deep = let one = depth-one t in let within = first_within t ok ps p V means in omega (arith, one, within);
  words = record {
    sound = λ w on.
        let u : Word = with_front (first_of t ps p) w some.0 in (
          u,
          means_agree t ok ps u some.0 p V means (λ b far. front-above (first_of t ps p) b w some.0 far) ∙ some.1,
          (λ b kept. sym (front-below (first_of t ps p) b w some.0 (below b kept))),
        );
    whole = λ w u on agree. has-one t w;
  };
}

pub none_of : (t : Table) → IsReduced t → (ps : List Pair) (keep : List ℕ) (p : Product) (V : Words) → Means t ps p V → HasNone V → IsProjectionOf t ps keep p Zero
none_of t ok ps keep p V means none = record {
  set = V;
  means = means;
  live = tt;
  deep = let zero = depth-zero t in let within = first_within t ok ps p V means in omega (arith, zero, within);
  words = record {
    sound = λ w on. let no : false ≡ true = sym (has-zero t w) ∙ on in absurd (cc);
    whole = λ w u on agree. let no : false ≡ true = sym (none u) ∙ on in absurd (cc);
  };
}

pub all_or_none_of : (t : Table) → IsReduced t → (ps : List Pair) (keep : List ℕ) (p : Product) (V : Words) (some : Bool) → Means t ps p V → MatchBool some (HasSome V) (HasNone V)
    → ((b : ℕ) → among keep b ≡ true → b < first_of t ps p) → IsProjectionOf t ps keep p (cond some One Zero)
all_or_none_of t ok ps keep p V true means is below = free_of t ok ps keep p V means is below
all_or_none_of t ok ps keep p V false means is below = none_of t ok ps keep p V means is

-- Zero and One are seen at once
pub zero_of : (t : Table) → IsReduced t → (ps : List Pair) (keep : List ℕ) (p : Product) (r : Ref) → IsThere t ps p → p ≡ Single r → r ≡ Zero → IsProjectionOf t ps keep p r
zero_of t ok ps keep p r there single e =
    subst (λ x. IsProjectionOf t ps keep p x) (sym e)
    (none_of t ok ps keep p there.0 there.1 (zero_none t ps p there.0 (single ∙ ap Single e) there.1))

pub one_of : (t : Table) → IsReduced t → (ps : List Pair) (keep : List ℕ) (p : Product) (r : Ref) → IsThere t ps p → p ≡ Single r → r ≡ One → IsProjectionOf t ps keep p r
one_of t ok ps keep p r there single e =
    let is = (of_single t ps One there.0 (subst (λ x. Means t ps x there.0) (single ∙ ap Single e) there.1)).1 in
    subst (λ x. IsProjectionOf t ps keep p x) (sym e) (record {
      set = there.0;
      means = there.1;
      live = tt;
      deep = let one = depth-one t in let within = first_within t ok ps p there.0 there.1 in omega (arith, one, within);
      words = subst (λ X. IsProjection (among keep) X (has t One)) (sym is) (full_projection (among keep) (has t One) (has-one t));
    })

pub constant_of : (t : Table) → IsReduced t → (ps : List Pair) (keep : List ℕ) (p : Product) (r : Ref) → IsThere t ps p → IsConstant p r → IsProjectionOf t ps keep p r
constant_of t ok ps keep p r there is =
    elim is.1 [
      | inl zero ↦ zero_of t ok ps keep p r there is.0 zero
      | inr one ↦ one_of t ok ps keep p r there is.0 one
    ]

-- what the calls answer
pub words_reach : (s u : PoolState) (keep : List ℕ) (V : Words) (d : ℕ) (o : Result Ref Stop) → ProjectsWords s u keep V d o → (bits : Bits) → DependsOn bits V
    → NewReachOnly (table s.arena) (table u.arena) (common bits (among keep))
words_reach s u keep V d o is bits whole i none there =
    let new = is.parts i none there in
    reaches_only _ is.stays.reduced (common bits (among keep)) (Node i) there
    (part_depends (common bits (among keep)) _ new.projection new.within
    (projection_depends bits (among keep) new.part new.projection (part_depends bits new.part _ new.of_part whole) new.projects))

asks_at : (u : PoolState) → IsReduced (table u.arena) → (keep : List ℕ) (V : Words) (bits : Bits) → DependsOn bits V → (o : Result Ref Stop) → IfOk o (IsLive (table u.arena))
    → IfOk o (λ r. IsProjection (among keep) V (has (table u.arena) r)) → IfOk o (ReachesOnly (table u.arena) (common bits (among keep)))
asks_at u ok keep V bits whole (Err e) live words = tt
asks_at u ok keep V bits whole (Ok r) live words =
    reaches_only _ ok (common bits (among keep)) r live (projection_depends bits (among keep) V (has (table u.arena) r) whole words)

pub words_asks : (s u : PoolState) (keep : List ℕ) (V : Words) (d : ℕ) (o : Result Ref Stop) → ProjectsWords s u keep V d o → (bits : Bits) → DependsOn bits V
    → IfOk o (ReachesOnly (table u.arena) (common bits (among keep)))
words_asks s u keep V d o is bits whole = asks_at u is.stays.reduced keep V bits whole o is.live is.words

-- a product depends on what its refs reach
all_depend : (t : Table) → IsReduced t → (bits : Bits) (w u : Word) → ((b : ℕ) → bits b ≡ true → w b ≡ u b) → (gs : List Ref) → ByRecursion (IsLive t) gs → ByRecursion (ReachesOnly t bits) gs
    → list_all (λ g. has t g w) gs ≡ list_all (λ g. has t g u) gs
all_depend t ok bits w u agree [] live reach = refl
all_depend t ok bits w u agree (g ∷ gs) live reach =
    λ k. depends_only t ok bits g live.0 reach.0 w u agree k && all_depend t ok bits w u agree gs live.1 reach.1 k

pub product_depends : (t : Table) → IsReduced t → (f : Ref) (gs : List Ref) → IsLive t f → All (IsLive t) gs → (bits : Bits) → ReachesOnly t bits f → All (ReachesOnly t bits) gs
    → DependsOn bits (product_of t f gs)
product_depends t ok f gs live all bits reach reach_all w u agree =
    let rest = all_depend t ok bits w u agree gs (recursion_from_All (IsLive t) gs all) (recursion_from_All (ReachesOnly t bits) gs reach_all) in
    λ k. depends_only t ok bits f live reach w u agree k && rest k

pub deep_as_all : (t u : Table) (f : Ref) (gs : List Ref) (d : ℕ) (o : Result Ref Stop) → IsAsDeepAsAll t f gs d → IfOk o (λ r. d ≤ depth u r) → IfOk o (λ r. IsAsDeepAsAll t f gs (depth u r))
deep_as_all t u f gs d o before deep = if_ok o _ _ (λ r far b here all. let near = before b here all in omega (arith, near, far)) deep

-- a step of a projection
pub no_bounds : (t : Table) (bound : Ref) (bit : ℕ) → AreBounds t bound bit One One
no_bounds t bound bit = record { live = each_live t bit; hold = λ v w on. each_one t bit v w } where
  each_live : (t : Table) (bit : ℕ) (v : Bool) → IsLive t (child (triple bit One One) v)
  each_live t bit true = tt
  each_live t bit false = tt

  each_one : (t : Table) (bit : ℕ) (v : Bool) (w : Word) → has t (child (triple bit One One) v) w ≡ true
  each_one t bit true w = has-one t w
  each_one t bit false w = has-one t w

pub step_of : (t : Table) (ps qs : List Pair) (p : Product) (bit : ℕ) (lo hi : Product) (bound b_lo b_hi : Ref) → bit ≡ first_of t ps p → AreSidesOf t ps qs p bit lo hi → IsThere t ps p
    → AreBounds t bound bit b_lo b_hi → ((V : Words) → Means t ps p V → Lies V (has t bound)) → IsStepOf t ps qs p (record { bit = bit; lo = lo; hi = hi; bound_lo = b_lo; bound_hi = b_hi })
step_of t ps qs p bit lo hi bound b_lo b_hi at sides there bounds bounded = record {
  at = at;
  sides = sides;
  lo_live = bounds.live false;
  hi_live = bounds.live true;
  lo_bounded = λ V means. subst (λ X. Lies X (has t b_lo)) (means_once t qs lo (front_of there.0 bit false) V (sides.means there.0 there.1 false) means)
      (λ w on. bounds.hold false w (bounded there.0 there.1 (with_front (bit + 1) (λ _. false) w) on));
  hi_bounded = λ V means. subst (λ X. Lies X (has t b_hi)) (means_once t qs hi (front_of there.0 bit true) V (sides.means there.0 there.1 true) means)
      (λ w on. bounds.hold true w (bounded there.0 there.1 (with_front (bit + 1) (λ _. true) w) on));
}

pub at_some : (o : Option Ref) (r : Ref) (P : Ref → Type 0) → o ≡ Some r → IfSome o P → P r
at_some o r P e is = subst (λ x. IfSome x P) e is
