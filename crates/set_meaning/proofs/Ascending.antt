-- Ascending lists of integers: what they contain, that their members determine them, and how a set is put in order.
use Rattle.std.proofs.Common.{◌≡◌, ℕ, zero, suc, ◌+◌, ◌<◌, ◌⊎◌, List, [], ◌∷◌, length, get_or, ℤ, refl, sym, ap, ◌∙◌, subst, inl, inr, arith, Contains}
use Rattle.std.specs.declared.cmp.Ordering.{Ordering}
use Rattle.std.specs.declared.cmp.Ordering.TheVariants.{Less, Equal, Greater}
use Rattle.std.specs.Ordering.{int_cmp, int_eq, is_lt, ordering_reverse, ordering_index, match_ordering}
use Rattle.std.specs.Cmp.{int_cmp_total, int_eq_equiv, int_ranked, signed_Decides, tied_itself}
use Rattle.std.specs.List.{dedup}
use Rattle.std.specs.List.Retain.{IsFiltered, DiffersFromLast}
use Rattle.std.specs.List.Sorted.{IsStrictlySortedBy, IsSorted, IsPermutation, IsNonDecreasingBy, IsPartitionPoint}
use Rattle.std.proofs.lemmas.Bool.{cases_order}
use Rattle.std.proofs.lemmas.Map.Keys.{Less-from_sorted, sorted_head, sorted_tail}
use Rattle.std.proofs.lemmas.List.Sorted.{searchable_from_sorted, IsPermutation-sym, Contains-permutation}
use Rattle.std.proofs.lemmas.List.Elements.{All-from_recursion, recursion_from_All, All-contains, Contains-get_or}
use Rattle.std.proofs.lemmas.List.Kept.{Contains-dedup, Contains-from_dedup, IsStrictlySortedBy-dedup}
use Rattle.std.proofs.lemmas.List.Filters.{dedup_is}
use Rattle.set_meaning.specs.Sets.{Has, IsAscending, IsSetOf, with_element, ascending_set}

-- ---- what a list contains

pub nothing_in_empty : (x : ℤ) → Contains [] x → ⊥
nothing_in_empty x h = let none : h.0 < 0 = h.1 in omega arith

in_cons_at : (y : ℤ) (ys : List ℤ) (x : ℤ) (k : ℕ) → k < length (y ∷ ys) → get_or (y ∷ ys) k x ≡ x → (y ≡ x) ⊎ Contains ys x
in_cons_at y ys x zero within at = inl at
in_cons_at y ys x (suc k) within at = inr (k, omega arith, at)

pub in_cons : (y : ℤ) (ys : List ℤ) (x : ℤ) → Contains (y ∷ ys) x → (y ≡ x) ⊎ Contains ys x
in_cons y ys x h = in_cons_at y ys x h.0 h.1 h.2

pub in_head : (y : ℤ) (ys : List ℤ) → Contains (y ∷ ys) y
in_head y ys = (0, omega arith, refl)

pub in_tail : (y : ℤ) (ys : List ℤ) (x : ℤ) → Contains ys x → Contains (y ∷ ys) x
in_tail y ys x h = (suc h.0, let within : h.0 < length ys = h.1 in omega arith, h.2)

-- ---- what an ascending list contains

less_is_not_equal : (r : Ordering) → r ≡ Less → r ≡ Equal → ⊥
less_is_not_equal r p q = let e : Less ≡ Equal = sym p ∙ q in cc

-- the first element is below each later one
pub head_below : (y : ℤ) (ys : List ℤ) (x : ℤ) → IsAscending (y ∷ ys) → Contains ys x → int_cmp y x ≡ Less
head_below y ys x up h = All-contains (λ z. int_cmp y z ≡ Less) ys x (All-from_recursion _ ys (sorted_head int_cmp y ys up)) h

-- so it stands once
pub head_once : (y : ℤ) (ys : List ℤ) → IsAscending (y ∷ ys) → Contains ys y → ⊥
head_once y ys up h = less_is_not_equal (int_cmp y y) (head_below y ys y up h) (tied_itself int_cmp_total y)

pub IsAscending-cons : (y : ℤ) (ys : List ℤ) → ((x : ℤ) → Contains ys x → int_cmp y x ≡ Less) → IsAscending ys → IsAscending (y ∷ ys)
unfolding IsStrictlySortedBy
IsAscending-cons y ys below up = (recursion_from_All (λ z. int_cmp y z ≡ Less) ys (λ k d l. below _ (Contains-get_or ys k d l)), up)

pub both_less : (x y : ℤ) → int_cmp x y ≡ Less → int_cmp y x ≡ Less → ⊥
both_less x y p q = let e : Less ≡ Greater = sym p ∙ int_cmp_total.antisymm x y ∙ ap ordering_reverse q in cc

-- one and the same head
same_head : (x : ℤ) (xs : List ℤ) (y : ℤ) (ys : List ℤ) → IsAscending (x ∷ xs) → IsAscending (y ∷ ys)
    → Contains (y ∷ ys) x → Contains (x ∷ xs) y → x ≡ y
same_head x xs y ys p q h k =
    elim (in_cons y ys x h) [
      | inl e ↦ sym e
      | inr later ↦ elim (in_cons x xs y k) [
        | inl e ↦ e
        | inr after ↦ absurd (both_less x y (head_below x xs y p after) (head_below y ys x q later))
      ]
    ]

pub tail_within : (x : ℤ) (xs ys : List ℤ) → IsAscending (x ∷ xs) → ((z : ℤ) → Contains (x ∷ xs) z → Contains (x ∷ ys) z) → (z : ℤ) → Contains xs z → Contains ys z
tail_within x xs ys up all z h =
    elim (in_cons x ys z (all z (in_tail x xs z h))) [
      | inl e ↦ absurd (head_once x xs up (subst (Contains xs) (sym e) h))
      | inr later ↦ later
    ]

-- ascending lists with the same members are equal
pub same_members : (xs ys : List ℤ) → IsAscending xs → IsAscending ys → ((z : ℤ) → Contains xs z → Contains ys z) → ((z : ℤ) → Contains ys z → Contains xs z) → xs ≡ ys
same_members [] [] p q f g = refl
same_members [] (y ∷ ys) p q f g = absurd (nothing_in_empty y (g y (in_head y ys)))
same_members (x ∷ xs) [] p q f g = absurd (nothing_in_empty x (f x (in_head x xs)))
same_members (x ∷ xs) (y ∷ ys) p q f g =
    let e : x ≡ y = same_head x xs y ys p q (f x (in_head x xs)) (g y (in_head y ys)) in
    let P : ℤ → Type 0 = λ w. IsAscending (w ∷ ys) → ((z : ℤ) → Contains (x ∷ xs) z → Contains (w ∷ ys) z) → ((z : ℤ) → Contains (w ∷ ys) z → Contains (x ∷ xs) z) → x ∷ xs ≡ w ∷ ys in
    subst P e (λ q f g. ap (λ zs. x ∷ zs) (same_members xs ys (sorted_tail int_cmp x xs p) (sorted_tail int_cmp x ys q) (tail_within x xs ys p f) (tail_within x ys xs q g))) q f g

-- ---- binary search

pub sorted_from_ascending : (xs : List ℤ) → IsAscending xs → IsSorted int_cmp xs
sorted_from_ascending xs up k d low high =
    let less : int_cmp (get_or xs k d) (get_or xs (k + 1) d) ≡ Less = Less-from_sorted int_cmp xs k (k + 1) d up (omega arith) high in
    ap is_lt (int_cmp_total.antisymm (get_or xs (k + 1) d) (get_or xs k d) ∙ ap ordering_reverse less)

-- what a search that finds nothing says
pub not_found : (xs : List ℤ) (x : ℤ) (i : ℕ) → IsAscending xs
    → (IsNonDecreasingBy (λ y. ordering_index (int_cmp y x)) xs → IsPartitionPoint (λ y. int_cmp y x ≡ Less) (λ y. int_cmp y x ≡ Greater) xs i)
    → Contains xs x → ⊥
not_found xs x i up parts h =
    let p = parts (searchable_from_sorted int_cmp_total (λ y. y) xs x (sorted_from_ascending xs up)) in
    let tied : int_cmp (get_or xs h.0 x) x ≡ Equal = ap (λ y. int_cmp y x) h.2 ∙ tied_itself int_cmp_total x in
    elim (cases_order h.0 i) [
      | inl e ↦ greater_is_not_equal _ (p.1 h.0 x (omega arith) h.1) tied
      | inr (inl less) ↦ less_is_not_equal _ (p.0 h.0 x (omega arith) less) tied
      | inr (inr more) ↦ greater_is_not_equal _ (p.1 h.0 x (omega arith) h.1) tied
    ]
  where
    greater_is_not_equal : (r : Ordering) → r ≡ Greater → r ≡ Equal → ⊥
    greater_is_not_equal r p q = let e : Greater ≡ Equal = sym p ∙ q in cc

-- ---- a set put in order

-- what a sort and a `dedup` leave
pub set_from_sort : (items sorted set : List ℤ) → IsPermutation items sorted → IsSorted int_cmp sorted → IsFiltered (DiffersFromLast int_eq) [] sorted set → IsSetOf items set
unfolding Has
set_from_sort items sorted set moved up kept =
    let e : set ≡ dedup int_eq sorted = dedup_is int_eq sorted set kept in
    let P : List ℤ → Type 0 = λ s. IsSetOf items s in
    subst P (sym e) record {
      ascending = IsStrictlySortedBy-dedup int_cmp_total (λ x y. refl) sorted up;
      members = λ x. (
        λ h. Contains-permutation sorted items x (IsPermutation-sym items sorted moved) (Contains-from_dedup int_eq sorted x h),
        λ h. Contains-dedup int_eq_equiv (λ a b t. (signed_Decides a b).0 t) sorted x (Contains-permutation items sorted x moved h),
      );
    }

pub same_set : (items s t : List ℤ) → IsSetOf items s → IsSetOf items t → s ≡ t
unfolding Has
same_set items s t p q = same_members s t p.ascending q.ascending (λ z h. (q.members z).1 ((p.members z).0 h)) (λ z h. (p.members z).1 ((q.members z).0 h))

-- the three places that x may have before an ascending list's head
with_element_cases : (x y : ℤ) (ys : List ℤ) (P : List ℤ → Type 0) → (int_cmp x y ≡ Less → P (x ∷ y ∷ ys)) → (x ≡ y → P (y ∷ ys))
    → (int_cmp y x ≡ Less → P (y ∷ with_element x ys)) → P (with_element x (y ∷ ys))
with_element_cases x y ys P before at after =
    elim (int_cmp x y) as (λ r. int_cmp x y ≡ r → P (match_ordering r (x ∷ y ∷ ys) (y ∷ ys) (y ∷ with_element x ys))) [
      | Less ↦ before
      | Equal ↦ λ e. at (int_ranked x y Equal (sym e))
      | Greater ↦ λ e. after (int_cmp_total.antisymm y x ∙ ap ordering_reverse e)
    ] refl

in_with_element : (x : ℤ) (ys : List ℤ) (z : ℤ) → Contains (with_element x ys) z → Contains (x ∷ ys) z
in_with_element x [] z = λ h. h
in_with_element x (y ∷ ys) z =
    with_element_cases x y ys (λ s. Contains s z → Contains (x ∷ y ∷ ys) z) (λ _ h. h) (λ _ h. in_tail x (y ∷ ys) z h)
    (λ _ h. elim (in_cons y (with_element x ys) z h) [
      | inl e ↦ in_tail x (y ∷ ys) z (subst (Contains (y ∷ ys)) e (in_head y ys))
      | inr later ↦ elim (in_cons x ys z (in_with_element x ys z later)) [
        | inl e ↦ subst (Contains (x ∷ y ∷ ys)) e (in_head x (y ∷ ys))
        | inr after ↦ in_tail x (y ∷ ys) z (in_tail y ys z after)
      ]
    ])

stays_in_with_element : (x : ℤ) (ys : List ℤ) (z : ℤ) → Contains (x ∷ ys) z → Contains (with_element x ys) z
stays_in_with_element x [] z = λ h. h
stays_in_with_element x (y ∷ ys) z =
    with_element_cases x y ys (λ s. Contains (x ∷ y ∷ ys) z → Contains s z) (λ _ h. h)
    (λ same h. elim (in_cons x (y ∷ ys) z h) [
      | inl e ↦ subst (Contains (y ∷ ys)) (sym same ∙ e) (in_head y ys)
      | inr later ↦ later
    ])
    (λ _ h. elim (in_cons x (y ∷ ys) z h) [
      | inl e ↦ in_tail y (with_element x ys) z (stays_in_with_element x ys z (subst (Contains (x ∷ ys)) e (in_head x ys)))
      | inr later ↦ elim (in_cons y ys z later) [
        | inl e ↦ subst (Contains (y ∷ with_element x ys)) e (in_head y (with_element x ys))
        | inr after ↦ in_tail y (with_element x ys) z (stays_in_with_element x ys z (in_tail x ys z after))
      ]
    ])

IsAscending-with_element : (x : ℤ) (ys : List ℤ) → IsAscending ys → IsAscending (with_element x ys)
IsAscending-with_element x [] up = IsAscending-cons x [] (λ z h. absurd (nothing_in_empty z h)) up
IsAscending-with_element x (y ∷ ys) up =
    with_element_cases x y ys IsAscending
    (λ less. IsAscending-cons x (y ∷ ys) (λ z h. elim (in_cons y ys z h) [
      | inl e ↦ subst (λ w. int_cmp x w ≡ Less) e less
      | inr later ↦ int_cmp_total.trans x y z less (head_below y ys z up later)
    ]) up)
    (λ _. up)
    (λ more. IsAscending-cons y (with_element x ys) (λ z h. elim (in_cons x ys z (in_with_element x ys z h)) [
      | inl e ↦ subst (λ w. int_cmp y w ≡ Less) e more
      | inr later ↦ head_below y ys z up later
    ]) (IsAscending-with_element x ys (sorted_tail int_cmp y ys up)))

pub cons_members : (x : ℤ) (xs ys : List ℤ) → ((z : ℤ) → Contains xs z → Contains ys z) → (z : ℤ) → Contains (x ∷ xs) z → Contains (x ∷ ys) z
cons_members x xs ys all z h =
    elim (in_cons x xs z h) [
      | inl e ↦ subst (Contains (x ∷ ys)) e (in_head x ys)
      | inr later ↦ in_tail x ys z (all z later)
    ]

pub IsSetOf-ascending_set : (items : List ℤ) → IsSetOf items (ascending_set items)
unfolding IsStrictlySortedBy Has
IsSetOf-ascending_set [] = record { ascending = tt; members = λ x. (λ h. h, λ h. h) }
IsSetOf-ascending_set (x ∷ xs) =
    let s = IsSetOf-ascending_set xs in
    record {
      ascending = IsAscending-with_element x (ascending_set xs) s.ascending;
      members = λ z. (
        λ h. cons_members x (ascending_set xs) xs (λ w. (s.members w).0) z (in_with_element x (ascending_set xs) z h),
        λ h. stays_in_with_element x (ascending_set xs) z (cons_members x xs (ascending_set xs) (λ w. (s.members w).1) z h),
      );
    }

-- a set of the listed integers is `ascending_set` of them
pub ascending_set_is : (items set : List ℤ) → IsSetOf items set → set ≡ ascending_set items
ascending_set_is items set s = same_set items set (ascending_set items) s (IsSetOf-ascending_set items)
