-- From a variable and a position to the bit, and back.
use Rattle.std.proofs.Common.{◌↔◌, ◌≡◌, ℕ, ◌+◌, ◌<◌, ◌==◌, Bool, true, false, List, length, get_or, ℤ, pos, Option, Some, None, refl, sym, ap, ◌∙◌, subst, inl, inr, arith, Contains}
use Rattle.std.specs.Prelude.{slice_get, IsSomeAnd, ◌&&◌}
use Rattle.std.specs.List.{position_or_len}
use Rattle.std.specs.Option.{option_cmp, option_map_or}
use Rattle.std.specs.declared.cmp.Ordering.{Ordering}
use Rattle.std.specs.declared.cmp.Ordering.TheVariants.{Less, Equal, Greater}
use Rattle.std.specs.Ordering.{nat_cmp, int_cmp, ordering_then, ordering_reverse}
use Rattle.std.specs.Cmp.{tied_itself, nat_cmp_total, ranked}
use Rattle.std.specs.List.Sorted.{IsStrictlySortedBy}
use Rattle.std.proofs.lemmas.Bool.{cases_order, cases_lt, eqb-true, eq-eqb}
use Rattle.std.proofs.lemmas.Bool.Decides.{nat_tests}
use Rattle.std.proofs.lemmas.Map.Keys.{Less-from_sorted}
use Rattle.std.proofs.lemmas.List.Elements.{All-get_or, Contains-get_or}
use Rattle.std.proofs.lemmas.List.Sums.{position_or_len_is}
use Rattle.std.proofs.lemmas.Option.{slice_get-get_or, get_or_from_slice_get, slice_get_within}
use Rattle.set_meaning.specs.declared.kinds.Kind.{Kind}
use Rattle.set_meaning.specs.declared.kinds.Kind.TheVariants as kind
use Rattle.set_meaning.specs.declared.problems.VarId.{VarId}
use Rattle.set_meaning.specs.Problems.{IsKind}
use Rattle.bit_layout.specs.declared.places.Place.{Place}
use Rattle.bit_layout.specs.Words.{width_of}
use Rattle.bit_layout.specs.Order.{LayoutState, IsLayout, element_at, IsPlace, place_cmp, IsOrder, is_at, width_at, bit_at, StandsFor, IsBoolOrInt}
use Rattle.bit_layout.specs.Body.{place_of}
use Rattle.bit_layout.proofs.Sorting.{place_cmp_total, same_place}

-- ---- one place a variable and position

pub same_kind : (kinds : List Kind) (i j : ℕ) (k l : Kind) → i ≡ j → slice_get kinds i ≡ Some k → slice_get kinds j ≡ Some l → k ≡ l
same_kind kinds i j k l e p q = let f : slice_get kinds i ≡ slice_get kinds j = ap (slice_get kinds) e in let g : Some k ≡ Some l = sym p ∙ f ∙ q in cc

-- the kind of a place, and what it says
pub kind_of_place : (kinds : List Kind) (p : Place) → IsPlace kinds p → (k : Kind) × (slice_get kinds p.variable.0 ≡ Some k) × (p.position < width_of k) × (p.element ≡ element_at k p.position)
kind_of_place kinds p h =
    elim (slice_get kinds p.variable.0) as (λ o. slice_get kinds p.variable.0 ≡ o → IsSomeAnd o (λ k. (p.position < width_of k) × (p.element ≡ element_at k p.position))
    → (k : Kind) × (slice_get kinds p.variable.0 ≡ Some k) × (p.position < width_of k) × (p.element ≡ element_at k p.position)) [
      | None ↦ λ e h. absurd h
      | Some k ↦ λ e h. (k, e, h.0, h.1)
    ] refl h

pub is_place : (kinds : List Kind) (p : Place) (k : Kind) → slice_get kinds p.variable.0 ≡ Some k → p.position < width_of k → p.element ≡ element_at k p.position → IsPlace kinds p
is_place kinds p k e h f = let P : Option Kind → Type 0 = λ o. IsSomeAnd o (λ k. (p.position < width_of k) × (p.element ≡ element_at k p.position)) in subst P (sym e) (h, f)

pub one_place : (kinds : List Kind) (p q : Place) → IsPlace kinds p → IsPlace kinds q → p.variable.0 ≡ q.variable.0 → p.position ≡ q.position → p ≡ q
one_place kinds p q a b v i =
    let r = kind_of_place kinds p a in
    let s = kind_of_place kinds q b in
    let k : r.0 ≡ s.0 = same_kind kinds p.variable.0 q.variable.0 r.0 s.0 v r.1 s.1 in
    same_place p q.element q.variable.0 q.position (r.3 ∙ ap (λ x. element_at x p.position) k ∙ ap (element_at s.0) i ∙ sym s.3) v i

-- ---- the bit of a place

pub both_true : (a b : Bool) → (a && b) ≡ true → (a ≡ true) × (b ≡ true)
both_true true b h = (refl, h)
both_true false b h = absurd (let e : false ≡ true = h in cc)

pub not_true : (b : Bool) → (b ≡ true → ⊥) → b ≡ false
not_true true h = absurd (h refl)
not_true false h = refl

pub is_at_itself : (v : VarId) (i : ℕ) (p : Place) → p.variable.0 ≡ v.0 → p.position ≡ i → is_at v i p ≡ true
is_at_itself v i p e f = let a : (p.variable.0 == v.0) ≡ true = eq-eqb p.variable.0 v.0 e in let b : (p.position == i) ≡ true = eq-eqb p.position i f in ap (λ x. x && (p.position == i)) a ∙ b

pub member_at : (kinds : List Kind) (places : List Place) (a : ℕ) (d : Place) → IsOrder kinds places → a < length places → IsPlace kinds (get_or places a d)
member_at kinds places a d order h = (order.members (get_or places a d)).0 (Contains-get_or places a d h)

pub bit_of_place : (kinds : List Kind) (places : List Place) (p : Place) (v : VarId) (i bit : ℕ) → IsOrder kinds places → slice_get places bit ≡ Some p → p.variable.0 ≡ v.0 → p.position ≡ i
    → position_or_len (is_at v i) places ≡ bit
bit_of_place kinds places p v i bit order at variable position =
    let within : bit < length places = slice_get_within places bit p at in
    let here : get_or places bit p ≡ p = get_or_from_slice_get places bit p p at in
    let known : IsPlace kinds p = subst (IsPlace kinds) here (member_at kinds places bit p order within) in
    position_or_len_is (is_at v i) places bit p (omega arith)
    (λ a less. not_true (is_at v i (get_or places a p)) (λ t.
    let q : Place = get_or places a p in
    let b = both_true (q.variable.0 == v.0) (q.position == i) t in
    let also : IsPlace kinds q = member_at kinds places a p order (omega arith) in
    let same : q ≡ p = one_place kinds q p also known (eqb-true q.variable.0 v.0 b.0 ∙ sym variable) (eqb-true q.position i b.1 ∙ sym position) in
    let before : place_cmp q (get_or places bit p) ≡ Less = Less-from_sorted place_cmp places a bit p order.ascending less within in
    let tied : place_cmp q (get_or places bit p) ≡ Equal = ap (place_cmp q) (here ∙ sym same) ∙ tied_itself place_cmp_total q in
    let e : Less ≡ Equal = sym before ∙ tied in cc))
    (λ _. is_at_itself v i (get_or places bit p) (ap (λ (q : Place). q.variable.0) here ∙ variable) (ap (λ (q : Place). q.position) here ∙ position))

pub stands_cases : (l : LayoutState) (bit : ℕ) (v : VarId) (i : ℕ) → StandsFor l bit v i → (p : Place) × (slice_get l.places bit ≡ Some p) × (p.variable ≡ v) × (p.position ≡ i)
stands_cases l bit v i h =
    elim (slice_get l.places bit) as (λ o. slice_get l.places bit ≡ o → IsSomeAnd o (λ p. (p.variable ≡ v) × (p.position ≡ i)) → (p : Place) × (slice_get l.places bit ≡ Some p) × (p.variable ≡ v) × (p.position ≡ i)) [
      | None ↦ λ e h. absurd h
      | Some p ↦ λ e h. (p, e, h.0, h.1)
    ] refl h

pub stands_from : (l : LayoutState) (bit : ℕ) (v : VarId) (i : ℕ) (p : Place) → slice_get l.places bit ≡ Some p → p.variable ≡ v → p.position ≡ i → StandsFor l bit v i
stands_from l bit v i p e f g = let P : Option Place → Type 0 = λ o. IsSomeAnd o (λ p. (p.variable ≡ v) × (p.position ≡ i)) in subst P (sym e) (f, g)

pub bit_once : (l : LayoutState) (v : VarId) (i bit : ℕ) → IsOrder l.kinds l.places → StandsFor l bit v i → bit_at l v i ≡ bit
unfolding bit_at
bit_once l v i bit order h =
    let r = stands_cases l bit v i h in
    bit_of_place l.kinds l.places r.0 v i bit order r.1 (ap (λ (x : VarId). x.0) r.2) r.3

-- the kind of a variable that has bits
pub kind_of_width : (l : LayoutState) (v : VarId) (i : ℕ) → i < width_at l v → (k : Kind) × (slice_get l.kinds v.0 ≡ Some k) × (i < width_of k)
kind_of_width l v i h =
    elim (slice_get l.kinds v.0) as (λ o. slice_get l.kinds v.0 ≡ o → i < option_map_or width_of o 0 → (k : Kind) × (slice_get l.kinds v.0 ≡ Some k) × (i < width_of k)) [
      | None ↦ λ e h. absurd (omega (arith, h))
      | Some k ↦ λ e h. (k, e, h)
    ] refl h

-- where the place of a position is
pub place_found : (l : LayoutState) (v : VarId) (i : ℕ) (k : Kind) → IsOrder l.kinds l.places → slice_get l.kinds v.0 ≡ Some k → i < width_of k
    → (bit : ℕ) × (bit < length l.places) × (slice_get l.places bit ≡ Some (place_of v.0 k i))
place_found l v i k order e h =
    let p : Place = place_of v.0 k i in
    let there : Contains l.places p = (order.members p).1 (is_place l.kinds p k e h refl) in
    (there.0, there.1, slice_get-get_or l.places there.0 p there.1 ∙ ap Some there.2)

pub bit_stands : (l : LayoutState) (v : VarId) (i : ℕ) → IsOrder l.kinds l.places → i < width_at l v → StandsFor l (bit_at l v i) v i
bit_stands l v i order h =
    let k = kind_of_width l v i h in
    let r = place_found l v i k.0 order k.1 k.2 in
    let stands : StandsFor l r.0 v i = stands_from l r.0 v i (place_of v.0 k.0 i) r.2 refl refl in
    let P : ℕ → Type 0 = λ b. StandsFor l b v i in
    subst P (sym (bit_once l v i r.0 order stands)) stands

-- ---- the bits of one variable ascend

pub scalar_less : (v i j : ℕ) → i < j → ordering_then (nat_cmp v v) (nat_cmp i j) ≡ Less
scalar_less v i j h = let e : nat_cmp i j ≡ Less = grind (arith, nat_tests) in ap (λ o. ordering_then o (nat_cmp i j)) (tied_itself nat_cmp_total v) ∙ e

pub position_less : (v : ℕ) (k : Kind) (i j : ℕ) → IsKind k → i < j → j < width_of k → place_cmp (place_of v k i) (place_of v k j) ≡ Less
position_less v kind.Bool i j legal h within = scalar_less v i j h
position_less v (kind.Int numbers) i j legal h within = scalar_less v i j h
position_less v (kind.Set u) i j legal h within =
    let one : slice_get u i ≡ Some (get_or u i (pos 0)) = slice_get-get_or u i (pos 0) (omega arith) in
    let two : slice_get u j ≡ Some (get_or u j (pos 0)) = slice_get-get_or u j (pos 0) within in
    let less : int_cmp (get_or u i (pos 0)) (get_or u j (pos 0)) ≡ Less = Less-from_sorted int_cmp u i j (pos 0) legal h within in
    let rest : Ordering = ordering_then (nat_cmp v v) (nat_cmp i j) in
    ap (λ o. ordering_then (option_cmp int_cmp o (slice_get u j)) rest) one
    ∙ ap (λ o. ordering_then (option_cmp int_cmp (Some (get_or u i (pos 0))) o) rest) two
    ∙ ap (λ o. ordering_then o rest) less

pub legal_kind : (l : LayoutState) (v : ℕ) (k : Kind) → IsLayout l → slice_get l.kinds v ≡ Some k → IsKind k
legal_kind l v k ok e =
    subst IsKind (get_or_from_slice_get l.kinds v k k e) (All-get_or IsKind l.kinds v k (slice_get_within l.kinds v k e) ok.limits.legal)

pub bits_by_places : (places : List Place) (a b : ℕ) (p q : Place) → IsStrictlySortedBy place_cmp places → slice_get places a ≡ Some p → slice_get places b ≡ Some q → place_cmp p q ≡ Less → a < b
bits_by_places places a b p q up e f less =
    elim (cases_order a b) [
      | inr (inl below) ↦ below
      | inl same ↦ absurd (
          let g : slice_get places a ≡ slice_get places b = ap (slice_get places) same in
          let h : Some p ≡ Some q = sym e ∙ g ∙ f in
          let one : p ≡ q = cc in
          let tied : place_cmp p q ≡ Equal = ap (place_cmp p) (sym one) ∙ tied_itself place_cmp_total p in
          let x : Less ≡ Equal = sym less ∙ tied in cc)
      | inr (inr above) ↦ absurd (
          let before : place_cmp (get_or places b p) (get_or places a p) ≡ Less = Less-from_sorted place_cmp places b a p up above (slice_get_within places a p e) in
          let back : place_cmp q p ≡ Less = ap (λ x. place_cmp x p) (sym (get_or_from_slice_get places b q p f)) ∙ ap (place_cmp (get_or places b p)) (sym (get_or_from_slice_get places a p p e)) ∙ before in
          let x : Less ≡ Greater = sym less ∙ place_cmp_total.antisymm p q ∙ ap ordering_reverse back in cc)
    ]

pub bits_ascend : (l : LayoutState) (v : VarId) (i j : ℕ) → IsLayout l → i < j → j < width_at l v → bit_at l v i < bit_at l v j
bits_ascend l v i j ok less within =
    let k = kind_of_width l v j within in
    let inside : i < width_of k.0 = let w : j < width_of k.0 = k.2 in omega (arith, w) in
    let a = place_found l v i k.0 ok.order k.1 inside in
    let b = place_found l v j k.0 ok.order k.1 k.2 in
    let first : bit_at l v i ≡ a.0 = bit_once l v i a.0 ok.order (stands_from l a.0 v i (place_of v.0 k.0 i) a.2 refl refl) in
    let second : bit_at l v j ≡ b.0 = bit_once l v j b.0 ok.order (stands_from l b.0 v j (place_of v.0 k.0 j) b.2 refl refl) in
    let order : a.0 < b.0 = bits_by_places l.places a.0 b.0 (place_of v.0 k.0 i) (place_of v.0 k.0 j) ok.order.ascending a.2 b.2 (position_less v.0 k.0 i j (legal_kind l v.0 k.0 ok k.1) less k.2) in
    omega (arith, first, second, order)

-- ---- the bits of a Boolean or an integer follow each other

pub pressed : (v w i j : ℕ) → ordering_then (nat_cmp v w) (nat_cmp i j) ≡ Less → ordering_then (nat_cmp w v) (nat_cmp j (i + 1)) ≡ Less → ⊥
pressed v w i j below above =
    elim (cases_order v w) [
      | inl same ↦
          let e : nat_cmp v w ≡ Equal = grind (arith, nat_tests) in
          let f : nat_cmp w v ≡ Equal = grind (arith, nat_tests) in
          let first : nat_cmp i j ≡ Less = sym (ap (λ o. ordering_then o (nat_cmp i j)) e) ∙ below in
          let second : nat_cmp j (i + 1) ≡ Less = sym (ap (λ o. ordering_then o (nat_cmp j (i + 1))) f) ∙ above in
          let less : i < j = ranked i j Less (sym first) in
          let most : j < i + 1 = ranked j (i + 1) Less (sym second) in
          omega arith
      | inr (inl less) ↦
          let e : nat_cmp w v ≡ Greater = grind (arith, nat_tests) in
          let f : Greater ≡ Less = sym (ap (λ o. ordering_then o (nat_cmp j (i + 1))) e) ∙ above in cc
      | inr (inr more) ↦
          let e : nat_cmp v w ≡ Greater = grind (arith, nat_tests) in
          let f : Greater ≡ Less = sym (ap (λ o. ordering_then o (nat_cmp i j)) e) ∙ below in cc
    ]

-- between two neighbours of one variable without elements there is no place
pub between_plain : (v w i j : ℕ) (e : Option ℤ) → ordering_then (option_cmp int_cmp None e) (ordering_then (nat_cmp v w) (nat_cmp i j)) ≡ Less
    → ordering_then (option_cmp int_cmp e None) (ordering_then (nat_cmp w v) (nat_cmp j (i + 1))) ≡ Less → ⊥
between_plain v w i j None below above = pressed v w i j below above
between_plain v w i j (Some x) below above = let e : Greater ≡ Less = above in cc

pub no_element : (k : Kind) (i : ℕ) → IsBoolOrInt k → element_at k i ≡ None
no_element kind.Bool i h = refl
no_element (kind.Int numbers) i h = refl
no_element (kind.Set u) i h = absurd h

pub neighbours : (l : LayoutState) (v : VarId) (i a b : ℕ) (k : Kind) → IsLayout l → IsBoolOrInt k → slice_get l.places a ≡ Some (place_of v.0 k i) → slice_get l.places b ≡ Some (place_of v.0 k (i + 1)) → a < b → b ≡ a + 1
neighbours l v i a b k ok plain e f less =
    elim (cases_lt (a + 1) b) [
      | inr near ↦ omega arith
      | inl far ↦ absurd (
          let p : Place = place_of v.0 k i in
          let r : Place = place_of v.0 k (i + 1) in
          let within : b < length l.places = slice_get_within l.places b r f in
          let q : Place = get_or l.places (a + 1) p in
          let below : place_cmp (get_or l.places a p) q ≡ Less = Less-from_sorted place_cmp l.places a (a + 1) p ok.order.ascending (omega arith) (omega arith) in
          let above : place_cmp q (get_or l.places b p) ≡ Less = Less-from_sorted place_cmp l.places (a + 1) b p ok.order.ascending far within in
          let first : place_cmp p q ≡ Less = ap (λ x. place_cmp x q) (sym (get_or_from_slice_get l.places a p p e)) ∙ below in
          let last : place_cmp q r ≡ Less = ap (place_cmp q) (sym (get_or_from_slice_get l.places b r p f)) ∙ above in
          between_plain v.0 q.variable.0 i q.position q.element
          (ap (λ x. ordering_then (option_cmp int_cmp x q.element) (ordering_then (nat_cmp v.0 q.variable.0) (nat_cmp i q.position))) (sym (no_element k i plain)) ∙ first)
          (ap (λ x. ordering_then (option_cmp int_cmp q.element x) (ordering_then (nat_cmp q.variable.0 v.0) (nat_cmp q.position (i + 1)))) (sym (no_element k (i + 1) plain)) ∙ last))
    ]

pub plain_bits_follow : (l : LayoutState) (v : VarId) (i : ℕ) → IsLayout l → IsSomeAnd (slice_get l.kinds v.0) IsBoolOrInt → i + 1 < width_at l v → bit_at l v (i + 1) ≡ bit_at l v i + 1
plain_bits_follow l v i ok plain within =
    let k = kind_of_width l v (i + 1) within in
    let inside : i < width_of k.0 = let w : i + 1 < width_of k.0 = k.2 in omega (arith, w) in
    let a = place_found l v i k.0 ok.order k.1 inside in
    let b = place_found l v (i + 1) k.0 ok.order k.1 k.2 in
    let first : bit_at l v i ≡ a.0 = bit_once l v i a.0 ok.order (stands_from l a.0 v i (place_of v.0 k.0 i) a.2 refl refl) in
    let second : bit_at l v (i + 1) ≡ b.0 = bit_once l v (i + 1) b.0 ok.order (stands_from l b.0 v (i + 1) (place_of v.0 k.0 (i + 1)) b.2 refl refl) in
    let up : bit_at l v i < bit_at l v (i + 1) = bits_ascend l v i (i + 1) ok (omega arith) within in
    let here : IsBoolOrInt k.0 = let P : Option Kind → Type 0 = λ o. IsSomeAnd o IsBoolOrInt in subst P k.1 plain in
    let next : b.0 ≡ a.0 + 1 = neighbours l v i a.0 b.0 k.0 ok here a.2 b.2 (omega (arith, first, second, up)) in
    omega (arith, first, second, next)

-- ---- bits are in the order of their places

pub bits_as_places : (l : LayoutState) (b c : ℕ) (p q : Place) → IsLayout l → slice_get l.places b ≡ Some p → slice_get l.places c ≡ Some q → (b < c) ↔ (place_cmp p q ≡ Less)
bits_as_places l b c p q ok e f = (
  λ less. ap (λ x. place_cmp x q) (sym (get_or_from_slice_get l.places b p p e)) ∙ ap (place_cmp (get_or l.places b p)) (sym (get_or_from_slice_get l.places c q p f))
      ∙ Less-from_sorted place_cmp l.places b c p ok.order.ascending less (slice_get_within l.places c q f),
  λ less. bits_by_places l.places b c p q ok.order.ascending e f less,
)

pub place_is_place : (l : LayoutState) (bit : ℕ) (p : Place) → IsLayout l → slice_get l.places bit ≡ Some p → IsPlace l.kinds p
place_is_place l bit p ok e =
    subst (IsPlace l.kinds) (get_or_from_slice_get l.places bit p p e) (member_at l.kinds l.places bit p ok.order (slice_get_within l.places bit p e))

pub place_known : (l : LayoutState) (bit : ℕ) (p : Place) → IsLayout l → slice_get l.places bit ≡ Some p → p.variable.0 < length l.kinds
place_known l bit p ok e = let k = kind_of_place l.kinds p (place_is_place l bit p ok e) in slice_get_within l.kinds p.variable.0 k.0 k.1
