-- Projections to the variables of the scope, one after another.
use Rattle.std.proofs.Common.{◌≡◌, ◌≢◌, ◌⊎◌, ℕ, ◌+◌, ◌<◌, List, [], ◌∷◌, ◌++◌, length, get_or, take, Some, refl, sym, ap, ◌∙◌, subst, inl, inr, arith, Contains}
use Rattle.std.specs.Prelude.{slice_get}
use Rattle.std.specs.declared.cmp.Ordering.{Ordering}
use Rattle.std.specs.declared.cmp.Ordering.TheVariants.{Less}
use Rattle.std.specs.Ordering.{nat_cmp}
use Rattle.std.specs.List.{AllByRecursion}
use Rattle.std.specs.List.Sorted.{IsStrictlySortedBy}
use Rattle.std.proofs.lemmas.List.{take_more, get_or-take, length-take, get_or_default}
use Rattle.std.proofs.lemmas.List.Elements.{Contains-append_cases, Contains-append_left, Contains-append_right, Contains-get_or}
use Rattle.std.proofs.lemmas.Map.Keys.{Less-from_sorted}
use Rattle.set_meaning.specs.declared.problems.VarId.{VarId}
use Rattle.bit_layout.specs.Order.{LayoutState}
use Rattle.bit_layout.proofs.Rising.{nothing_in_empty, in_cons, in_head, in_tail}
use Rattle.diagram_arena.specs.declared.nodes.Ref.{Ref}
use Rattle.diagram_arena.specs.declared.nodes.Ref.TheVariants.{Node}
use Rattle.diagram_arena.specs.Table.{Words, Table, has, IsLive, IsReduced}
use Rattle.diagram_arena.specs.Reach.{among}
use Rattle.diagram_arena.specs.Arena.{table, Grows}
use Rattle.node_reclaim.specs.Pool.{PoolState}
use Rattle.node_reclaim.specs.Growth.{Stays}
use Rattle.diagram_ops.specs.Words.{IsProjection, IsPartOfProjection, NewArePartsOfProjections}
use Rattle.diagram_ops.proofs.Steps.{stays_self, stays_then, no_news, news_then}
use Rattle.scope_words.specs.Words.{bits_at}
use Rattle.exact_steps.specs.Steps.{narrowed_in}
use Rattle.exact_steps.specs.Work.{IsProjectedPart, NewAreProjected, IsChanged, AreChanged, IsProjecting, IsLookedAt}
use Rattle.exact_steps.proofs.Values.{same_some}
use Rattle.exact_steps.proofs.Readings.{one_of}
use Rattle.exact_steps.proofs.Wanted.{words_grow}

-- ---- lists

abbrev order : VarId → VarId → Ordering
order v w = nat_cmp v.0 w.0

sorted_end : (vs : List VarId) (v : VarId) → IsStrictlySortedBy order vs → ((u : VarId) → Contains vs u → order u v ≡ Less) → IsStrictlySortedBy order (vs ++ v ∷ [])
unfolding IsStrictlySortedBy
sorted_end [] v up below = (tt, tt)
sorted_end (u ∷ us) v up below = (every_end us (up.0), sorted_end us v up.1 (λ w h. below w (in_tail u us w h)))
  where
    every_end : (ws : List VarId) → AllByRecursion (λ y. order u y ≡ Less) ws → AllByRecursion (λ y. order u y ≡ Less) (ws ++ v ∷ [])
    every_end [] all = (below u (in_head u us), tt)
    every_end (w ∷ ws) all = (all.0, every_end ws all.1)

-- a variable among the first ones is below the next
earlier_less : (scope : List VarId) (i : ℕ) (u v : VarId) → IsStrictlySortedBy order scope → i < length scope → get_or scope i v ≡ v → Contains (take i scope) u → order u v ≡ Less
earlier_less scope i u v up within at h =
    let k : ℕ = h.0 in
    let short : k < length (take i scope) = h.1 in
    let long = length-take i scope in
    let below : k < i = omega (arith, short, long) in
    let here : get_or scope k u ≡ u = sym (get_or-take i scope k u below) ∙ h.2 in
    let whole : k < length scope = omega (arith, below, within) in
    let here' : get_or scope k v ≡ u = get_or_default scope k v u whole ∙ here in
    subst (λ x. order x v ≡ Less) here' (subst (λ y. order (get_or scope k v) y ≡ Less) at (Less-from_sorted order scope k i v up below within))

split_map : (kept : List (VarId × Ref)) (v : VarId) (r : Ref) → narrowed_in (kept ++ (v, r) ∷ []) ≡ narrowed_in kept ++ v ∷ []
split_map [] v r = refl
split_map (e ∷ es) v r = ap (λ vs. e.0 ∷ vs) (split_map es v r)

pub in_narrowed : (kept : List (VarId × Ref)) (v : VarId) → Contains (narrowed_in kept) v → (r : Ref) × Contains kept (v, r)
in_narrowed [] v h = absurd (nothing_in_empty v h)
in_narrowed (e ∷ es) v h =
    elim (in_cons e.0 (narrowed_in es) v h) [
      | inl here ↦ (e.1, subst (λ u. Contains (e ∷ es) (u, e.1)) here (in_head e es))
      | inr later ↦ let r = in_narrowed es v later in (r.0, in_tail e es (v, r.0) r.1)
    ]

-- ---- what is left

-- the variables among one more
more : (scope : List VarId) (i : ℕ) (v : VarId) → i < length scope → get_or scope i v ≡ v → take (i + 1) scope ≡ take i scope ++ v ∷ []
more scope i v within at = take_more scope i v within ∙ ap (λ z. take i scope ++ z ∷ []) at

pub first_projecting : (l : LayoutState) (scope : List VarId) (V : Words) (domains : List Ref) (s : PoolState) → IsReduced (table s.arena) → IsProjecting l scope V domains s 0 s []
unfolding IsStrictlySortedBy
first_projecting l scope V domains s ok = record {
  found = record {
    ascending = tt;
    each = λ v r none. absurd (nothing_in_empty (v, r) none);
    others = λ v none. absurd (nothing_in_empty v none);
  };
  stays = stays_self s ok;
  parts = no_news (table s.arena) (IsProjectedPart l scope V);
}

projection_grows : (t u : Table) (bits : List ℕ) (V : Words) (r : Ref) → Grows t u → IsLive t r → IsProjection (among bits) V (has t r) → IsProjection (among bits) V (has u r)
projection_grows t u bits V r grows live is = subst (IsProjection (among bits) V) (sym (words_grow t u grows r live)) is

changed_grows : (l : LayoutState) (vs ws : List VarId) (domains : List Ref) (V : Words) (t u : Table) (v : VarId) (r : Ref) → Grows t u → ((x : VarId) → Contains vs x → Contains ws x)
    → IsChanged l vs domains V t v r → IsChanged l ws domains V u v r
changed_grows l vs ws domains V t u v r grows among is = record {
  scoped = among v is.scoped;
  live = grows.live r is.live;
  words = projection_grows t u (bits_at l v) V r grows is.live is.words;
  other = is.other;
}

-- after one more variable was looked at, whatever came of it; now is V in the table at that moment
pub projecting_leaves : (l : LayoutState) (scope : List VarId) (V now : Words) (domains : List Ref) (s a b : PoolState) (i : ℕ) (kept : List (VarId × Ref)) (v : VarId)
    → i < length scope → get_or scope i v ≡ v → now ≡ V → IsProjecting l scope V domains s i a kept → Stays a b
    → NewArePartsOfProjections (table a.arena) (table b.arena) (among (bits_at l v)) now
    → Stays s b × NewAreProjected l scope V (table s.arena) (table b.arena)
projecting_leaves l scope V now domains s a b i kept v within at same before stays parts = (
  stays_then s a b before.stays stays,
  news_then (table s.arena) (table a.arena) (table b.arena) (IsProjectedPart l scope V) stays.grows before.parts (λ n none there. record {
    variable = v;
    scoped = subst (Contains scope) at (Contains-get_or scope i v within);
    part = subst (λ X. IsPartOfProjection (among (bits_at l v)) (has (table b.arena) (Node n)) X) same (parts n none there);
  }),
)

pub next_projecting : (l : LayoutState) (scope : List VarId) (V now : Words) (domains : List Ref) (s a b : PoolState) (i : ℕ) (kept new : List (VarId × Ref)) (v : VarId) (d : Ref) → IsStrictlySortedBy order scope
    → ((n : ℕ) (d : Ref) → slice_get domains n ≡ Some d → IsLive (table s.arena) d)
    → i < length scope → get_or scope i v ≡ v → slice_get domains v.0 ≡ Some d → now ≡ V → IsProjecting l scope V domains s i a kept → Stays a b
    → NewArePartsOfProjections (table a.arena) (table b.arena) (among (bits_at l v)) now → IsLookedAt l d now (table b.arena) kept new v → IsProjecting l scope V domains s (i + 1) b new
next_projecting l scope V now domains s a b i kept new v d up lives within at domain same before stays parts looked =
    let left = projecting_leaves l scope V now domains s a b i kept v within at same before stays parts in
    let P : List VarId → Type 0 = λ vs. AreChanged l vs domains V (table b.arena) new in record {
      found = subst P (sym (more scope i v within at)) (changed (take i scope ++ v ∷ []) (λ x h. Contains-append_left (take i scope) (v ∷ []) x h) (λ x h. Contains-append_cases (take i scope) (v ∷ []) x h) (Contains-append_right (take i scope) (v ∷ []) v (in_head v []))
          (subst (λ X. IsLookedAt l d X (table b.arena) kept new v) same looked));
      stays = left.0;
      parts = left.1;
    }
  where
    of_domain : (P : Ref → Type 0) (u : VarId) (q : Ref) → v ≡ u → slice_get domains u.0 ≡ Some q → P d → P q
    of_domain P u q w e h = subst P (same_some (slice_get domains v.0) d q domain (subst (λ (x : VarId). slice_get domains x.0 ≡ Some q) (sym w) e)) h

    changed : (vs : List VarId) → ((x : VarId) → Contains (take i scope) x → Contains vs x)
        → ((x : VarId) → Contains vs x → (Contains (take i scope) x ⊎ Contains (v ∷ []) x)) → Contains vs v → IsLookedAt l d V (table b.arena) kept new v → AreChanged l vs domains V (table b.arena) new
    changed vs into from here looked = elim looked [
      | inl stood ↦ record {
        ascending = subst (λ ks. IsStrictlySortedBy order (narrowed_in ks)) (sym stood.0) before.found.ascending;
        each = λ u q h. changed_grows l (take i scope) vs domains V (table a.arena) (table b.arena) u q stays.grows into
            (before.found.each u q (subst (λ ks. Contains ks (u, q)) stood.0 h));
        others = λ u h none q e. elim (from u h) [
          | inl earlier ↦ projection_grows (table a.arena) (table b.arena) (bits_at l u) V q stays.grows (before.stays.grows.live q (lives u.0 q e))
              (before.found.others u earlier (λ k. none (subst (λ ks. Contains (narrowed_in ks) u) (sym stood.0) k)) q e)
          | inr one ↦
              let w : v ≡ u = one_of v u one in
              subst (λ (x : VarId). IsProjection (among (bits_at l x)) V (has (table b.arena) q)) w (of_domain (λ r. IsProjection (among (bits_at l v)) V (has (table b.arena) r)) u q w e stood.1)
        ];
      }
      | inr pushed ↦ record {
        ascending = subst (λ ks. IsStrictlySortedBy order (narrowed_in ks)) (sym pushed.1) (subst (IsStrictlySortedBy order) (sym (split_map kept v pushed.0))
            (sorted_end (narrowed_in kept) v before.found.ascending (λ u h. let k = in_narrowed kept u h in earlier_less scope i u v up within at (before.found.each u k.0 k.1).scoped)));
        each = λ u q h. elim (Contains-append_cases kept ((v, pushed.0) ∷ []) (u, q) (subst (λ ks. Contains ks (u, q)) pushed.1 h)) [
          | inl earlier ↦ changed_grows l (take i scope) vs domains V (table a.arena) (table b.arena) u q stays.grows into (before.found.each u q earlier)
          | inr one ↦
              elim (in_cons (v, pushed.0) [] (u, q) one) [
                | inl e ↦ subst (λ (x : VarId × Ref). IsChanged l vs domains V (table b.arena) x.0 x.1) e (record {
                  scoped = here;
                  live = pushed.2;
                  words = pushed.3;
                  other = λ q e'. of_domain (λ (r : Ref). pushed.0 ≢ r) v q refl e' pushed.4;
                })
                | inr nothing ↦ absurd (nothing_in_empty (u, q) nothing)
              ]
        ];
        others = λ u h none q e. elim (from u h) [
          | inl earlier ↦ projection_grows (table a.arena) (table b.arena) (bits_at l u) V q stays.grows (before.stays.grows.live q (lives u.0 q e))
              (before.found.others u earlier (λ k. none (subst (λ ks. Contains (narrowed_in ks) u) (sym pushed.1) (subst (λ vs. Contains vs u) (sym (split_map kept v pushed.0)) (Contains-append_left (narrowed_in kept) (v ∷ []) u k)))) q e)
          | inr one ↦ absurd (none (subst (λ ks. Contains (narrowed_in ks) u) (sym pushed.1) (subst (λ vs. Contains vs u) (sym (split_map kept v pushed.0)) (Contains-append_right (narrowed_in kept) (v ∷ []) u one))))
        ];
      }
    ]
