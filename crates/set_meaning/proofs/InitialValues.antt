-- The initial values of a kind are just the values in it.
use Rattle.std.proofs.Common.{◌≡◌, ◌↔◌, ◌⊎◌, ℕ, zero, suc, ◌<◌, Bool, true, false, List, [], ◌∷◌, map, length, get_or, ℤ, refl, sym, subst, inl, inr, arith, Contains}
use Rattle.std.specs.List.Sorted.{IsStrictlySortedBy}
use Rattle.std.proofs.lemmas.List.Elements.{Contains-append_left, Contains-append_right, Contains-append_cases}
use Rattle.std.proofs.lemmas.Map.Keys.{sorted_tail}
use Rattle.std.specs.Ordering.{int_cmp}
use Rattle.set_meaning.specs.declared.kinds.Value.{Value}
use Rattle.set_meaning.specs.declared.kinds.Value.TheVariants as value
use Rattle.set_meaning.specs.declared.kinds.Kind.TheVariants as kind
use Rattle.set_meaning.specs.Sets.{Has, IsAscending, IsSubset, subsets}
use Rattle.set_meaning.specs.Kinds.{InKind, IsSetWithin, initial_values}
use Rattle.set_meaning.proofs.Ascending as up

-- ---- membership in a list that a function makes

nothing_in : {X : Type 0} (x : X) → Contains [] x → ⊥
nothing_in x h = let none : h.0 < 0 = h.1 in omega arith

in_cons_at : {X : Type 0} (y : X) (ys : List X) (x : X) (k : ℕ) → k < length (y ∷ ys) → get_or (y ∷ ys) k x ≡ x → (y ≡ x) ⊎ Contains ys x
in_cons_at y ys x zero within at = inl at
in_cons_at y ys x (suc k) within at = inr (k, omega arith, at)

in_cons : {X : Type 0} (y : X) (ys : List X) (x : X) → Contains (y ∷ ys) x → (y ≡ x) ⊎ Contains ys x
in_cons y ys x h = in_cons_at y ys x h.0 h.1 h.2

in_head : {X : Type 0} (y : X) (ys : List X) → Contains (y ∷ ys) y
in_head y ys = (0, omega arith, refl)

in_tail : {X : Type 0} (y : X) (ys : List X) (x : X) → Contains ys x → Contains (y ∷ ys) x
in_tail y ys x h = (suc h.0, let within : h.0 < length ys = h.1 in omega arith, h.2)

in_map : {A B : Type 0} (f : A → B) (xs : List A) (x : A) → Contains xs x → Contains (map f xs) (f x)
in_map f [] x h = absurd (nothing_in x h)
in_map f (y ∷ ys) x h =
    elim (in_cons y ys x h) [
      | inl e ↦ subst (λ w. Contains (map f (y ∷ ys)) (f w)) e (in_head (f y) (map f ys))
      | inr later ↦ in_tail (f y) (map f ys) (f x) (in_map f ys x later)
    ]

of_map : {A B : Type 0} (f : A → B) (xs : List A) (z : B) → Contains (map f xs) z → (x : A) × (Contains xs x × (f x ≡ z))
of_map f [] z h = absurd (nothing_in z h)
of_map f (y ∷ ys) z h =
    elim (in_cons (f y) (map f ys) z h) [
      | inl e ↦ (y, (in_head y ys, e))
      | inr later ↦ let r = of_map f ys z later in (r.0, (in_tail y ys r.0 r.1.0, r.1.1))
    ]

-- ---- subsets

IsSetWithin-nil : (u : List ℤ) → IsSetWithin u []
unfolding IsStrictlySortedBy IsSubset Has
IsSetWithin-nil u = record { ascending = tt; within = λ x h. absurd (up.nothing_in_empty x h) }

IsSetWithin-keep : (x : ℤ) (u s : List ℤ) → IsAscending (x ∷ u) → IsSetWithin u s → IsSetWithin (x ∷ u) (x ∷ s)
unfolding IsSubset Has
IsSetWithin-keep x u s rises h = record {
  ascending = up.IsAscending-cons x s (λ z in_s. up.head_below x u z rises (h.within z in_s)) h.ascending;
  within = up.cons_members x s u h.within;
}

IsSetWithin-skip : (x : ℤ) (u s : List ℤ) → IsSetWithin u s → IsSetWithin (x ∷ u) s
unfolding IsSubset Has
IsSetWithin-skip x u s h = record { ascending = h.ascending; within = λ z in_s. up.in_tail x u z (h.within z in_s) }

pub subset_is_set : (u s : List ℤ) → IsAscending u → Contains (subsets u) s → IsSetWithin u s
subset_is_set [] s rises h =
    elim (in_cons [] [] s h) [ inl e ↦ subst (IsSetWithin []) e (IsSetWithin-nil []) | inr later ↦ absurd (nothing_in s later) ]
subset_is_set (x ∷ u) s rises h =
    elim (Contains-append_cases (map (λ t. x ∷ t) (subsets u)) (subsets u) s h) [
      | inl kept ↦
          let t = of_map (λ t. x ∷ t) (subsets u) s kept in
          subst (IsSetWithin (x ∷ u)) t.1.1 (IsSetWithin-keep x u t.0 rises (subset_is_set u t.0 (sorted_tail int_cmp x u rises) t.1.0))
      | inr skipped ↦ IsSetWithin-skip x u s (subset_is_set u s (sorted_tail int_cmp x u rises) skipped)
    ]

-- a set whose least element is the universe's
rest_within : (x : ℤ) (u ys : List ℤ) → IsSetWithin (x ∷ u) (x ∷ ys) → IsSetWithin u ys
unfolding IsSubset Has
rest_within x u ys h = record { ascending = sorted_tail int_cmp x ys h.ascending; within = up.tail_within x ys u h.ascending h.within }

-- a set whose least element comes later in the universe
later_within : (x : ℤ) (u : List ℤ) (y : ℤ) (ys : List ℤ) → IsAscending (x ∷ u) → Contains u y → IsSetWithin (x ∷ u) (y ∷ ys) → IsSetWithin u (y ∷ ys)
unfolding IsSubset Has
later_within x u y ys rises after h = record {
  ascending = h.ascending;
  within = λ z in_s. elim (up.in_cons x u z (h.within z in_s)) [
    | inr later ↦ later
    | inl e ↦ elim (up.in_cons y ys z in_s) [
      | inl same ↦ subst (Contains u) same after
      | inr below ↦ absurd (up.both_less x y (up.head_below x u y rises after) (up.head_below y ys x h.ascending (subst (Contains ys) (sym e) below)))
    ]
  ];
}

first_within : (u : List ℤ) (y : ℤ) (ys : List ℤ) → IsSetWithin u (y ∷ ys) → Contains u y
unfolding IsSubset Has
first_within u y ys h = h.within y (up.in_head y ys)

set_is_subset : (u s : List ℤ) → IsAscending u → IsSetWithin u s → Contains (subsets u) s
set_is_subset [] [] rises h = in_head [] []
set_is_subset [] (y ∷ ys) rises h = absurd (up.nothing_in_empty y (first_within [] y ys h))
set_is_subset (x ∷ u) [] rises h =
    Contains-append_right (map (λ t. x ∷ t) (subsets u)) (subsets u) [] (set_is_subset u [] (sorted_tail int_cmp x u rises) (IsSetWithin-nil u))
set_is_subset (x ∷ u) (y ∷ ys) rises h =
    elim (up.in_cons x u y (first_within (x ∷ u) y ys h)) [
      | inl e ↦
          let P : ℤ → Type 0 = λ w. IsSetWithin (x ∷ u) (w ∷ ys) → Contains (subsets (x ∷ u)) (w ∷ ys) in
          subst P e (λ h. Contains-append_left (map (λ t. x ∷ t) (subsets u)) (subsets u) (x ∷ ys)
          (in_map (λ t. x ∷ t) (subsets u) ys (set_is_subset u ys (sorted_tail int_cmp x u rises) (rest_within x u ys h)))) h
      | inr later ↦ Contains-append_right (map (λ t. x ∷ t) (subsets u)) (subsets u) (y ∷ ys)
          (set_is_subset u (y ∷ ys) (sorted_tail int_cmp x u rises) (later_within x u y ys rises later h))
    ]

-- ---- the law

bool_listed : (b : Bool) → Contains (value.Bool false ∷ value.Bool true ∷ []) (value.Bool b)
bool_listed false = in_head (value.Bool false) (value.Bool true ∷ [])
bool_listed true = in_tail (value.Bool false) (value.Bool true ∷ []) (value.Bool true) (in_head (value.Bool true) [])

bool_of_listed : (v : Value) → Contains (value.Bool false ∷ value.Bool true ∷ []) v → (b : Bool) × (value.Bool b ≡ v)
bool_of_listed v h =
    elim (in_cons (value.Bool false) (value.Bool true ∷ []) v h) [
      | inl e ↦ (false, e)
      | inr later ↦ elim (in_cons (value.Bool true) [] v later) [ inl e ↦ (true, e) | inr none ↦ absurd (nothing_in v none) ]
    ]

pub values_of_bool : (v : Value) → InKind kind.Bool v ↔ Contains (initial_values kind.Bool) v
unfolding InKind
values_of_bool (value.Bool b) = (λ _. bool_listed b, λ _. tt)
values_of_bool (value.Int x) = (λ h. absurd h, λ h. let r = bool_of_listed (value.Int x) h in let e : value.Bool r.0 ≡ value.Int x = r.1 in cc)
values_of_bool (value.Set s) = (λ h. absurd h, λ h. let r = bool_of_listed (value.Set s) h in let e : value.Bool r.0 ≡ value.Set s = r.1 in cc)

pub values_of_int : (numbers : List ℤ) (v : Value) → InKind (kind.Int numbers) v ↔ Contains (initial_values (kind.Int numbers)) v
unfolding InKind Has
values_of_int numbers (value.Bool b) = (λ h. absurd h, λ h. let r = of_map value.Int numbers (value.Bool b) h in let e : value.Int r.0 ≡ value.Bool b = r.1.1 in cc)
values_of_int numbers (value.Int x) = (
  λ h. in_map value.Int numbers x h,
  λ h. let r = of_map value.Int numbers (value.Int x) h in let e : value.Int r.0 ≡ value.Int x = r.1.1 in let same : r.0 ≡ x = cc in subst (Contains numbers) same r.1.0,
)
values_of_int numbers (value.Set s) = (λ h. absurd h, λ h. let r = of_map value.Int numbers (value.Set s) h in let e : value.Int r.0 ≡ value.Set s = r.1.1 in cc)

pub values_of_set : (universe : List ℤ) → IsAscending universe → (v : Value) → InKind (kind.Set universe) v ↔ Contains (initial_values (kind.Set universe)) v
unfolding InKind
values_of_set universe rises (value.Bool b) =
    (λ h. absurd h, λ h. let r = of_map value.Set (subsets universe) (value.Bool b) h in let e : value.Set r.0 ≡ value.Bool b = r.1.1 in cc)
values_of_set universe rises (value.Int x) =
    (λ h. absurd h, λ h. let r = of_map value.Set (subsets universe) (value.Int x) h in let e : value.Set r.0 ≡ value.Int x = r.1.1 in cc)
values_of_set universe rises (value.Set s) = (
  λ h. in_map value.Set (subsets universe) s (set_is_subset universe s rises h),
  λ h. let r = of_map value.Set (subsets universe) (value.Set s) h in let e : value.Set r.0 ≡ value.Set s = r.1.1 in let same : r.0 ≡ s = cc in
      subst (IsSetWithin universe) same (subset_is_set universe r.0 rises r.1.0),
)
