-- The bits of a scope in order: those of an integer variable follow each other.
use Rattle.std.proofs.Common.{◌≡◌, ℕ, zero, suc, ◌+◌, ◌-◌, ◌<◌, ◌≤◌, ◌⊎◌, List, [], ◌∷◌, length, get_or, drop, ℤ, Option, Some, None, refl, sym, ap, ◌∙◌, subst, inl, inr, arith, Contains}
use Rattle.std.specs.Prelude.{slice_get, IsSomeAnd, ⊤}
use Rattle.std.proofs.lemmas.Bool.{cases_order}
use Rattle.std.proofs.lemmas.List.{drop_more, drop_all, get_or_default}
use Rattle.std.proofs.lemmas.List.Elements.{Contains-get_or}
use Rattle.std.proofs.lemmas.Map.Keys.{sorted_from_strictly_increasing, below_from_sorted}
use Rattle.set_meaning.specs.declared.kinds.Kind.{Kind}
use Rattle.set_meaning.specs.declared.kinds.Kind.TheVariants as kind
use Rattle.set_meaning.specs.declared.problems.VarId.{VarId}
use Rattle.bit_layout.specs.declared.places.Place.{Place}
use Rattle.bit_layout.specs.Words.{width_of}
use Rattle.bit_layout.specs.Order.{LayoutState, IsLayout, element_at, IsPlace, width_at, bit_at, StandsFor, IsBoolOrInt}
use Rattle.scope_words.specs.Words.{IsBitOf, AreBitsOf}
use Rattle.table_machine.specs.Laws.{WordLaws}

-- ---- places

pub stands_place : (l : LayoutState) (b : ℕ) (v : VarId) (i : ℕ) → StandsFor l b v i → (p : Place) × (slice_get l.places b ≡ Some p) × (p.variable ≡ v) × (p.position ≡ i)
stands_place l b v i h =
    elim (slice_get l.places b) as (λ o. slice_get l.places b ≡ o → IsSomeAnd o (λ p. (p.variable ≡ v) × (p.position ≡ i)) → (p : Place) × (slice_get l.places b ≡ Some p) × (p.variable ≡ v) × (p.position ≡ i)) [
      | None ↦ λ e h. absurd h
      | Some p ↦ λ e h. (p, e, h.0, h.1)
    ] refl h

pub bit_place : (l : LayoutState) (scope : List VarId) (b : ℕ) → IsBitOf l scope b → (p : Place) × (slice_get l.places b ≡ Some p) × Contains scope p.variable
bit_place l scope b h =
    elim (slice_get l.places b) as (λ o. slice_get l.places b ≡ o → IsSomeAnd o (λ p. Contains scope p.variable) → (p : Place) × (slice_get l.places b ≡ Some p) × Contains scope p.variable) [
      | None ↦ λ e h. absurd h
      | Some p ↦ λ e h. (p, e, h)
    ] refl h

pub place_kind : (l : LayoutState) (p : Place) → IsPlace l.kinds p → (k : Kind) × (slice_get l.kinds p.variable.0 ≡ Some k)
place_kind l p h =
    elim (slice_get l.kinds p.variable.0) as (λ o. slice_get l.kinds p.variable.0 ≡ o → IsSomeAnd o (λ k. (p.position < width_of k) × (p.element ≡ element_at k p.position)) → (k : Kind) × (slice_get l.kinds p.variable.0 ≡ Some k)) [
      | None ↦ λ e h. absurd h
      | Some k ↦ λ e h. (k, e)
    ] refl h

-- bits at two positions are one only where the positions are
pub one_position : (laws : WordLaws) (l : LayoutState) (u v : VarId) (i j : ℕ) → IsLayout l → i < width_at l u → j < width_at l v → bit_at l u i ≡ bit_at l v j → (u ≡ v) × (i ≡ j)
one_position laws l u v i j ok p q same =
    let a = stands_place l (bit_at l u i) u i (laws.stands l u i ok p) in
    let b = stands_place l (bit_at l v j) v j (laws.stands l v j ok q) in
    let e : Some a.0 ≡ Some b.0 = sym a.1 ∙ ap (slice_get l.places) same ∙ b.1 in
    let f : a.0 ≡ b.0 = cc in
    (sym a.2 ∙ ap (λ (p : Place). p.variable) f ∙ b.2, sym a.3 ∙ ap (λ (p : Place). p.position) f ∙ b.3)

-- ---- an integer variable

abbrev pub IsInt : LayoutState → VarId → Type 0
IsInt l v = (numbers : List ℤ) × (slice_get l.kinds v.0 ≡ Some (kind.Int numbers))

-- a bit of a variable of another kind
abbrev pub IsOther : LayoutState → ℕ → Type 0
IsOther l b = (p : Place) × (slice_get l.places b ≡ Some p) × ((slice_get l.kinds p.variable.0 ≡ Some kind.Bool) ⊎ ((u : List ℤ) × (slice_get l.kinds p.variable.0 ≡ Some (kind.Set u))))

int_is_plain : (l : LayoutState) (v : VarId) → IsInt l v → IsSomeAnd (slice_get l.kinds v.0) IsBoolOrInt
int_is_plain l v n = let P : Option Kind → Type 0 = λ o. IsSomeAnd o IsBoolOrInt in subst P (sym n.1) tt

pub int_bits_follow : (laws : WordLaws) (l : LayoutState) (v : VarId) (i : ℕ) → IsLayout l → IsInt l v → suc i < width_at l v → bit_at l v (suc i) ≡ bit_at l v i + 1
int_bits_follow laws l v i ok n within =
    let e : i + 1 ≡ suc i = omega arith in
    ap (bit_at l v) (sym e) ∙ laws.contiguous l v i ok (int_is_plain l v n) (omega (arith, within))

-- ---- the list, one variable after another

-- `left` bits of v are to come, and then the bits of others, each with all that follow it
abbrev pub Follow : LayoutState → VarId → ℕ → List ℕ → Type 0
Follow l v zero [] = ⊤
Follow l v (suc left) [] = ⊥
Follow l v zero (b ∷ bs) = (IsOther l b × Follow l v zero bs)
    ⊎ ((u : VarId) × (rest : ℕ) × IsInt l u × (width_at l u ≡ suc rest) × (b ≡ bit_at l u 0) × Follow l u rest bs)
Follow l v (suc left) (b ∷ bs) = (b ≡ bit_at l v (width_at l v - suc left)) × Follow l v left bs

-- what is asked of the list at place k for this
abbrev pub Expected : LayoutState → List ℕ → ℕ → VarId → ℕ → Type 0
Expected l bits k v zero = (u : VarId) (j : ℕ) → IsInt l u → suc j < width_at l u → k < length bits → get_or bits k 0 ≡ bit_at l u (suc j) → ⊥
Expected l bits k v (suc left) = IsInt l v × (suc left < width_at l v) × (k < length bits) × (get_or bits k 0 ≡ bit_at l v (width_at l v - suc left))

bits_less : (bits : List ℕ) (scope : List VarId) (l : LayoutState) → AreBitsOf l scope bits → (i j : ℕ) → i < j → j < length bits → get_or bits i 0 < get_or bits j 0
bits_less bits scope l are i j less within = below_from_sorted bits i j 0 (sorted_from_strictly_increasing bits are.ascending) less within

-- a lesser bit stands before
bits_before : (bits : List ℕ) (scope : List VarId) (l : LayoutState) → AreBitsOf l scope bits → (i j : ℕ) → i < length bits → j < length bits → get_or bits i 0 < get_or bits j 0 → i < j
bits_before bits scope l are i j p q less =
    elim (cases_order i j) [
      | inl same ↦ absurd (let e : get_or bits i 0 ≡ get_or bits j 0 = ap (λ k. get_or bits k 0) same in omega (arith, e, less))
      | inr (inl before) ↦ before
      | inr (inr after) ↦ absurd (let up = bits_less bits scope l are j i after p in omega (arith, up, less))
    ]

-- where in the list the bit of a position stands
place_in : (laws : WordLaws) (l : LayoutState) (scope : List VarId) (bits : List ℕ) (v : VarId) (i : ℕ) → IsLayout l → AreBitsOf l scope bits → Contains scope v → i < width_at l v
    → (m : ℕ) × (m < length bits) × (get_or bits m 0 ≡ bit_at l v i)
place_in laws l scope bits v i ok are h within =
    let c = (are.members (bit_at l v i)).1 (laws.of_scope l scope v i ok h within) in
    (c.0, c.1, get_or_default bits c.0 0 (bit_at l v i) c.1 ∙ c.2)

-- the variable of a bit of the list is one of the scope
in_scope : (laws : WordLaws) (l : LayoutState) (scope : List VarId) (bits : List ℕ) (k : ℕ) (u : VarId) (i : ℕ) → IsLayout l → AreBitsOf l scope bits → k < length bits → i < width_at l u
    → get_or bits k 0 ≡ bit_at l u i → Contains scope u
in_scope laws l scope bits k u i ok are within inside is =
    let b : ℕ = get_or bits k 0 in
    let p = bit_place l scope b ((are.members b).0 (Contains-get_or bits k 0 within)) in
    let back : bit_at l p.0.variable p.0.position ≡ b = laws.back l b p.0 ok p.1 in
    let same = one_position laws l p.0.variable u p.0.position i ok (laws.within l b p.0 ok p.1) inside (back ∙ is) in
    subst (Contains scope) same.0 p.2

-- the bit of the next position is the next of the list
next_bit : (laws : WordLaws) (l : LayoutState) (scope : List VarId) (bits : List ℕ) (k : ℕ) (v : VarId) (i : ℕ) → IsLayout l → AreBitsOf l scope bits → IsInt l v → suc i < width_at l v → k < length bits
    → get_or bits k 0 ≡ bit_at l v i → (k + 1 < length bits) × (get_or bits (k + 1) 0 ≡ bit_at l v (suc i))
next_bit laws l scope bits k v i ok are n within inside is =
    let h = in_scope laws l scope bits k v i ok are inside (omega (arith, within)) is in
    let follow = int_bits_follow laws l v i ok n within in
    let m = place_in laws l scope bits v (suc i) ok are h within in
    let less : get_or bits k 0 < get_or bits m.0 0 = let e = m.2 in omega (arith, e, is, follow) in
    let before : k < m.0 = bits_before bits scope l are k m.0 inside m.1 less in
    let there : m.0 < length bits = m.1 in
    let second : k + 1 < length bits = omega (arith, before, there) in
    let up : get_or bits k 0 < get_or bits (k + 1) 0 = bits_less bits scope l are k (k + 1) (omega arith) second in
    let at_most : get_or bits (k + 1) 0 ≤ get_or bits m.0 0 = not_above bits scope l are (k + 1) m.0 (omega (arith, before)) m.1 in
    (second, let e = m.2 in omega (arith, e, is, follow, up, at_most))
  where
    not_above : (bits : List ℕ) (scope : List VarId) (l : LayoutState) → AreBitsOf l scope bits → (i j : ℕ) → i ≤ j → j < length bits → get_or bits i 0 ≤ get_or bits j 0
    not_above bits scope l are i j le within =
        elim (cases_order i j) [
          | inl same ↦ let P : ℕ → Type 0 = λ k. get_or bits i 0 ≤ get_or bits k 0 in subst P same (omega arith)
          | inr (inl less) ↦ let up = bits_less bits scope l are i j less within in omega (arith, up)
          | inr (inr more) ↦ absurd (omega (arith, le, more))
        ]

-- the bit of the position before is in the list, before this one
bit_before : (laws : WordLaws) (l : LayoutState) (scope : List VarId) (bits : List ℕ) (k : ℕ) (v : VarId) (i : ℕ) → IsLayout l → AreBitsOf l scope bits → IsInt l v → suc i < width_at l v → k < length bits
    → get_or bits k 0 ≡ bit_at l v (suc i) → (m : ℕ) × (m < k) × (get_or bits m 0 ≡ bit_at l v i)
bit_before laws l scope bits k v i ok are n within inside is =
    let h = in_scope laws l scope bits k v (suc i) ok are inside within is in
    let follow = int_bits_follow laws l v i ok n within in
    let m = place_in laws l scope bits v i ok are h (omega (arith, within)) in
    let less : get_or bits m.0 0 < get_or bits k 0 = let e = m.2 in omega (arith, e, is, follow) in
    (m.0, bits_before bits scope l are m.0 k m.1 inside less, m.2)

-- it is the one before in the list
just_before : (laws : WordLaws) (l : LayoutState) (scope : List VarId) (bits : List ℕ) (k : ℕ) (v : VarId) (i : ℕ) → IsLayout l → AreBitsOf l scope bits → IsInt l v → suc i < width_at l v → k + 1 < length bits
    → get_or bits (k + 1) 0 ≡ bit_at l v (suc i) → get_or bits k 0 ≡ bit_at l v i
just_before laws l scope bits k v i ok are n within inside is =
    let m = bit_before laws l scope bits (k + 1) v i ok are n within inside is in
    let next = next_bit laws l scope bits m.0 v i ok are n within (let e : m.0 < k + 1 = m.1 in omega (arith, e, inside)) m.2 in
    elim (cases_order m.0 k) [
      | inl same ↦ ap (λ j. get_or bits j 0) (sym same) ∙ m.2
      | inr (inl less) ↦ absurd (let up = bits_less bits scope l are (m.0 + 1) (k + 1) (omega (arith, less)) inside in let e = next.1 in omega (arith, up, e, is))
      | inr (inr more) ↦ absurd (let e : m.0 < k + 1 = m.1 in omega (arith, e, more))
    ]

-- ---- the whole list

no_first : (laws : WordLaws) (l : LayoutState) (scope : List VarId) (bits : List ℕ) → IsLayout l → AreBitsOf l scope bits → (v : VarId) → Expected l bits 0 v 0
no_first laws l scope bits ok are v u j n within inside is =
    let m = bit_before laws l scope bits 0 u j ok are n within inside is in
    let less : m.0 < 0 = m.1 in omega (arith, less)

-- after a bit of another kind, or the last of a variable, a variable begins
expected_between : (laws : WordLaws) (l : LayoutState) (scope : List VarId) (bits : List ℕ) → IsLayout l → AreBitsOf l scope bits → (k : ℕ) (v : VarId)
    → ((u : VarId) (j : ℕ) → IsInt l u → suc j < width_at l u → get_or bits k 0 ≡ bit_at l u j → ⊥) → Expected l bits (k + 1) v 0
expected_between laws l scope bits ok are k v none u j n within inside is = none u j n within (just_before laws l scope bits k u j ok are n within inside is)

-- after another bit of a variable what is left of it is expected
expected_after : (laws : WordLaws) (l : LayoutState) (scope : List VarId) (bits : List ℕ) → IsLayout l → AreBitsOf l scope bits → (k : ℕ) (v : VarId) (i left : ℕ) → IsInt l v → suc (i + left) ≡ width_at l v
    → k < length bits → get_or bits k 0 ≡ bit_at l v i → Expected l bits (k + 1) v left
expected_after laws l scope bits ok are k v i zero n wide inside is =
    expected_between laws l scope bits ok are k v (λ u j m within at.
    let same = one_position laws l v u i j ok (omega (arith, wide)) (omega (arith, within)) (sym is ∙ at) in
    let e : width_at l v ≡ width_at l u = ap (width_at l) same.0 in
    let f : i ≡ j = same.1 in
    omega (arith, e, f, wide, within))
expected_after laws l scope bits ok are k v i (suc left) n wide inside is =
    let next = next_bit laws l scope bits k v i ok are n (omega (arith, wide)) inside is in
    let at : suc i ≡ width_at l v - suc left = omega (arith, wide) in
    (n, omega (arith, wide), next.0, next.1 ∙ ap (bit_at l v) at)

place_cases : (l : LayoutState) (p : Place) (k : Kind) → slice_get l.kinds p.variable.0 ≡ Some k
    → IsInt l p.variable ⊎ ((slice_get l.kinds p.variable.0 ≡ Some kind.Bool) ⊎ ((u : List ℤ) × (slice_get l.kinds p.variable.0 ≡ Some (kind.Set u))))
place_cases l p kind.Bool e = inr (inl e)
place_cases l p (kind.Int numbers) e = inl (numbers, e)
place_cases l p (kind.Set u) e = inr (inr (u, e))

-- a bit of another kind is none of an integer variable
pub not_int : (laws : WordLaws) (l : LayoutState) (b : ℕ) (u : VarId) (j : ℕ) → IsLayout l → IsOther l b → IsInt l u → j < width_at l u → b ≡ bit_at l u j → ⊥
not_int laws l b u j ok other n within is =
    let p : Place = other.0 in
    let back : bit_at l p.variable p.position ≡ b = laws.back l b p ok other.1 in
    let same = one_position laws l p.variable u p.position j ok (laws.within l b p ok other.1) within (back ∙ is) in
    let at : slice_get l.kinds p.variable.0 ≡ slice_get l.kinds u.0 = ap (λ (v : VarId). slice_get l.kinds v.0) same.0 in
    elim other.2 [
      | inl bool ↦ (let e : Some kind.Bool ≡ Some (kind.Int n.0) = sym bool ∙ at ∙ n.1 in cc)
      | inr set ↦ (let e : Some (kind.Set set.0) ≡ Some (kind.Int n.0) = sym set.1 ∙ at ∙ n.1 in cc)
    ]

follow_from : (laws : WordLaws) (l : LayoutState) (scope : List VarId) (bits : List ℕ) → IsLayout l → AreBitsOf l scope bits → (n k : ℕ) (v : VarId) (left : ℕ) → n + k ≡ length bits → Expected l bits k v left
    → Follow l v left (drop k bits)
follow_from laws l scope bits ok are zero k v zero long expected =
    let P : List ℕ → Type 0 = λ bs. Follow l v 0 bs in subst P (sym (drop_all k bits (omega (arith, long)))) tt
follow_from laws l scope bits ok are zero k v (suc left) long expected = absurd (let within : k < length bits = expected.2 in omega (arith, long, within))
follow_from laws l scope bits ok are (suc n) k v (suc left) long expected =
    let within : k < length bits = expected.2 in
    let wide : suc left < width_at l v = expected.1 in
    let i : ℕ = width_at l v - suc left in
    let next = expected_after laws l scope bits ok are k v i left expected.0 (omega (arith, wide)) within expected.3 in
    let P : List ℕ → Type 0 = λ bs. Follow l v (suc left) bs in
    subst P (sym (drop_more bits k 0 within)) (expected.3, follow_from laws l scope bits ok are n (k + 1) v left (omega (arith, long)) next)
follow_from laws l scope bits ok are (suc n) k v zero long expected =
    let within : k < length bits = omega (arith, long) in
    let b : ℕ = get_or bits k 0 in
    let p = bit_place l scope b ((are.members b).0 (Contains-get_or bits k 0 within)) in
    let known = place_kind l p.0 (laws.places l b p.0 ok p.1) in
    let P : List ℕ → Type 0 = λ bs. Follow l v 0 bs in
    subst P (sym (drop_more bits k 0 within)) (elim (place_cases l p.0 known.0 known.1) [
      | inl int ↦ inr (begun (λ u next. follow_from laws l scope bits ok are n (k + 1) u (width_at l u - 1) (omega (arith, long)) next) p.0 p.1 int within)
      | inr other ↦
          let o : IsOther l b = (p.0, p.1, other) in
          let next = expected_between laws l scope bits ok are k v (λ u j m inside at. not_int laws l b u j ok o m (omega (arith, inside)) at) in
          inl (o, follow_from laws l scope bits ok are n (k + 1) v zero (omega (arith, long)) next)
    ])
  where
    begun : ((u : VarId) → Expected l bits (k + 1) u (width_at l u - 1) → Follow l u (width_at l u - 1) (drop (k + 1) bits))
        → (p : Place) → slice_get l.places (get_or bits k 0) ≡ Some p → IsInt l p.variable → k < length bits
        → (u : VarId) × (rest : ℕ) × IsInt l u × (width_at l u ≡ suc rest) × (get_or bits k 0 ≡ bit_at l u 0) × Follow l u rest (drop (k + 1) bits)
    begun go p at int within =
        let u : VarId = p.variable in
        let back : bit_at l u p.position ≡ get_or bits k 0 = laws.back l (get_or bits k 0) p ok at in
        let inside : p.position < width_at l u = laws.within l (get_or bits k 0) p ok at in
        let first : p.position ≡ 0 = at_first p.position int inside (sym back) in
        let is : get_or bits k 0 ≡ bit_at l u 0 = sym back ∙ ap (bit_at l u) first in
        let wide : width_at l u ≡ suc (width_at l u - 1) = omega (arith, inside) in
        let next = expected_after laws l scope bits ok are k u 0 (width_at l u - 1) int (omega (arith, inside)) within is in
        (u, (width_at l u - 1), int, wide, is, go u next)
      where
        at_first : (i : ℕ) → IsInt l p.variable → i < width_at l p.variable → get_or bits k 0 ≡ bit_at l p.variable i → i ≡ 0
        at_first zero int inside is = refl
        at_first (suc i) int inside is = absurd (expected p.variable i int inside within is)

nobody : VarId
nobody = record { 0 = 0 }

pub follow : (laws : WordLaws) (l : LayoutState) (scope : List VarId) (bits : List ℕ) → IsLayout l → AreBitsOf l scope bits → (v : VarId) × Follow l v 0 bits
follow laws l scope bits ok are = (nobody, follow_from laws l scope bits ok are (length bits) 0 nobody 0 (omega arith) (no_first laws l scope bits ok are nobody))
