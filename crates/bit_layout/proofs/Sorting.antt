-- The places of the bits: listed in file order, sorted, and found again.
use Rattle.std.proofs.Common.{◌≡◌, ℕ, zero, suc, ◌+◌, ◌<◌, ◌≤◌, ◌↔◌, true, false, List, [], ◌∷◌, ◌++◌, length, get_or, map, ℤ, Option, Some, None, refl, sym, ap, ◌∙◌, subst, inl, inr, arith, Contains}
use Rattle.std.specs.Prelude.{slice_get, IsSomeAnd}
use Rattle.std.specs.List.{flat_map, enumerate_from, range_with_len, All}
use Rattle.std.specs.Option.{option_cmp}
use Rattle.std.specs.declared.cmp.Ordering.{Ordering}
use Rattle.std.specs.declared.cmp.Ordering.TheVariants.{Less, Equal, Greater}
use Rattle.std.specs.Ordering.{nat_cmp, int_cmp, ordering_then, ordering_reverse, is_lt, is_eq, eq_by_cmp, ordering_index}
use Rattle.std.specs.Cmp.{IsTotalOrder, nat_cmp_total, int_cmp_total, on_total, then_total, tied_itself, ranked, int_ranked}
use Rattle.std.specs.Cmp.Lexicographic.{options_total}
use Rattle.std.specs.List.Sorted.{IsStrictlySortedBy, IsSorted, IsPermutation, IsNonDecreasingBy, IsPartitionPoint}
use Rattle.std.proofs.lemmas.Bool.{cases_order}
use Rattle.std.proofs.lemmas.Bool.Decides.{nat_tests}
use Rattle.std.proofs.lemmas.Map.Keys.{IsDistinct-from_apart, IsDistinct-IsPermutation, apart_from_distinct, Less-from_sorted, sorted_from_all_adjacent}
use Rattle.std.proofs.lemmas.List.Sorted.{Contains-permutation, IsPermutation-sym, searchable_from_sorted}
use Rattle.std.proofs.lemmas.List.Elements.{Contains-append_left, Contains-append_right, Contains-append_cases, All-append, All-from_recursion, recursion_from_All}
use Rattle.std.proofs.lemmas.List.FromFn.{length-map-range_with_len, get_or-map-range_with_len}
use Rattle.std.proofs.lemmas.Option.{slice_get-get_or}
use Rattle.set_meaning.specs.declared.kinds.Kind.{Kind}
use Rattle.bit_layout.proofs.Rising.{same_members}
use Rattle.bit_layout.specs.declared.places.Place.{Place}
use Rattle.bit_layout.specs.Words.{width_of}
use Rattle.bit_layout.specs.Order.{element_at, IsPlace, place_cmp, IsOrder}
use Rattle.bit_layout.specs.Body.{place_of, places_of, file_places}

-- ---- the order is total, and only equal places tie

pub place_cmp_total : IsTotalOrder place_cmp
place_cmp_total =
    then_total (on_total (λ (p : Place). p.element) (options_total int_cmp_total))
    (then_total (on_total (λ (p : Place). p.variable.0) nat_cmp_total) (on_total (λ (p : Place). p.position) nat_cmp_total))

pub same_place : (p : Place) (e : Option ℤ) (v i : ℕ) → p.element ≡ e → p.variable.0 ≡ v → p.position ≡ i → p ≡ record { element = e; variable = record { 0 = v }; position = i }
same_place p e v i f g h = λ k. record { element = f k; variable = record { 0 = g k }; position = h k }

-- ---- file order: by variable, then by position

abbrev file_cmp : Place → Place → Ordering
file_cmp p q = ordering_then (nat_cmp p.variable.0 q.variable.0) (nat_cmp p.position q.position)

-- the place comes after p in the file
abbrev IsAfter : Place → Place → Type 0
IsAfter p q = file_cmp p q ≡ Less

less_variable : (p q : Place) → p.variable.0 < q.variable.0 → file_cmp p q ≡ Less
less_variable p q h = let e : nat_cmp p.variable.0 q.variable.0 ≡ Less = grind (arith, nat_tests) in ap (λ o. ordering_then o (nat_cmp p.position q.position)) e

less_position : (p q : Place) → p.variable.0 ≡ q.variable.0 → p.position < q.position → file_cmp p q ≡ Less
less_position p q e h =
    let v : nat_cmp p.variable.0 q.variable.0 ≡ Equal = grind (arith, nat_tests) in
    let i : nat_cmp p.position q.position ≡ Less = grind (arith, nat_tests) in
    ap (λ o. ordering_then o (nat_cmp p.position q.position)) v ∙ i

-- a place of variable number v at a position from i on, n of them
abbrev some_places : ℕ → Kind → ℕ → ℕ → List Place
some_places v k i n = map (place_of v k) (range_with_len i n)

abbrev pub all_places : ℕ → List Kind → List Place
all_places v kinds = flat_map (λ e. places_of e.0 e.1) (enumerate_from v kinds)

later_positions : (v : ℕ) (k : Kind) (j i n : ℕ) → j < i → All (IsAfter (place_of v k j)) (some_places v k i n)
later_positions v k j i zero h = All-from_recursion (IsAfter (place_of v k j)) [] tt
later_positions v k j i (suc n) h =
    All-from_recursion (IsAfter (place_of v k j)) (some_places v k i (suc n))
    (less_position (place_of v k j) (place_of v k i) refl h, recursion_from_All (IsAfter (place_of v k j)) (some_places v k (i + 1) n) (later_positions v k j (i + 1) n (omega arith)))

later_variable : (p : Place) (v : ℕ) (k : Kind) (i n : ℕ) → p.variable.0 < v → All (IsAfter p) (some_places v k i n)
later_variable p v k i zero h = All-from_recursion (IsAfter p) [] tt
later_variable p v k i (suc n) h =
    All-from_recursion (IsAfter p) (some_places v k i (suc n))
    (less_variable p (place_of v k i) h, recursion_from_All (IsAfter p) (some_places v k (i + 1) n) (later_variable p v k (i + 1) n h))

later_variables : (p : Place) (v : ℕ) (kinds : List Kind) → p.variable.0 < v → All (IsAfter p) (all_places v kinds)
later_variables p v [] h = All-from_recursion (IsAfter p) [] tt
later_variables p v (k ∷ ks) h =
    All-append (IsAfter p) (places_of v k) (all_places (v + 1) ks) (later_variable p v k 0 (width_of k) h) (later_variables p (v + 1) ks (omega arith))

sorted_before : (v : ℕ) (k : Kind) (i n : ℕ) (rest : List Place) → IsStrictlySortedBy file_cmp rest → ((p : Place) → p.variable.0 ≡ v → All (IsAfter p) rest)
    → IsStrictlySortedBy file_cmp (some_places v k i n ++ rest)
unfolding IsStrictlySortedBy
sorted_before v k i zero rest up above = up
sorted_before v k i (suc n) rest up above = (
  recursion_from_All (IsAfter (place_of v k i)) (some_places v k (i + 1) n ++ rest) (All-append (IsAfter (place_of v k i)) (some_places v k (i + 1) n) rest (later_positions v k i (i + 1) n (omega arith)) (above (place_of v k i) refl)),
  sorted_before v k (i + 1) n rest up above,
)

file_sorted : (v : ℕ) (kinds : List Kind) → IsStrictlySortedBy file_cmp (all_places v kinds)
unfolding IsStrictlySortedBy
file_sorted v [] = tt
file_sorted v (k ∷ ks) =
    sorted_before v k 0 (width_of k) (all_places (v + 1) ks) (file_sorted (v + 1) ks) (λ p e. later_variables p (v + 1) ks (omega (arith, e)))

-- ---- no place stands twice

untied : (o f : Ordering) → f ≡ Less → is_eq (ordering_then o f) ≡ false
untied Less f e = refl
untied Equal f e = ap is_eq e
untied Greater f e = refl

apart_in_file : (v : ℕ) (kinds : List Kind) (i j : ℕ) (d : Place) → i < j → j < length (all_places v kinds) → eq_by_cmp place_cmp (get_or (all_places v kinds) i d) (get_or (all_places v kinds) j d) ≡ false
apart_in_file v kinds i j d less within =
    let p : Place = get_or (all_places v kinds) i d in
    let q : Place = get_or (all_places v kinds) j d in
    untied (option_cmp int_cmp p.element q.element) (file_cmp p q) (Less-from_sorted file_cmp (all_places v kinds) i j d (file_sorted v kinds) less within)

flipped : (o : Ordering) → is_eq o ≡ is_eq (ordering_reverse o)
flipped Less = refl
flipped Equal = refl
flipped Greater = refl

less_from_both : (o r : Ordering) → o ≡ ordering_reverse r → is_lt r ≡ false → is_eq o ≡ false → o ≡ Less
less_from_both o Less e lt eq = let t : is_lt Less ≡ false = lt in absurd (let u : true ≡ false = t in cc)
less_from_both o Equal e lt eq = absurd (let u : true ≡ false = sym (ap is_eq e) ∙ eq in cc)
less_from_both o Greater e lt eq = e

-- sorted, and no two tie
sorted_strictly : (places : List Place) → IsSorted place_cmp places
    → ((i j : ℕ) (d : Place) → i < j → j < length places → eq_by_cmp place_cmp (get_or places i d) (get_or places j d) ≡ false) → IsStrictlySortedBy place_cmp places
unfolding IsStrictlySortedBy
sorted_strictly [] up apart = tt
sorted_strictly (x ∷ xs) up apart =
    sorted_from_all_adjacent place_cmp_total (x ∷ xs) x (λ k within.
    let p : Place = get_or (x ∷ xs) k x in
    let q : Place = get_or (x ∷ xs) (k + 1) x in
    less_from_both (place_cmp p q) (place_cmp q p) (place_cmp_total.antisymm p q) (up k x (omega arith) within) (apart k (k + 1) x (omega arith) within))

-- ---- which places there are

in_some : (v : ℕ) (k : Kind) (i n : ℕ) (p : Place) → Contains (some_places v k i n) p → (j : ℕ) × (i ≤ j) × (j < i + n) × (p ≡ place_of v k j)
in_some v k i n p h =
    let within : h.0 < n = let w : h.0 < length (some_places v k i n) = h.1 in let l = length-map-range_with_len (place_of v k) i n in omega (arith, w, l) in
    (i + h.0, omega arith, omega arith, sym h.2 ∙ get_or-map-range_with_len (place_of v k) i n h.0 (i + h.0) p within refl)

some_has : (v : ℕ) (k : Kind) (n j : ℕ) → j < n → Contains (some_places v k 0 n) (place_of v k j)
some_has v k n j h =
    let l = length-map-range_with_len (place_of v k) 0 n in
    (j, omega (arith, l, h), get_or-map-range_with_len (place_of v k) 0 n j j (place_of v k j) h (omega arith))

abbrev IsPlaceOf : Kind → Place → Type 0
IsPlaceOf k p = (p.position < width_of k) × (p.element ≡ element_at k p.position)

in_file : (v : ℕ) (kinds : List Kind) (p : Place) → Contains (all_places v kinds) p → (i : ℕ) × (p.variable.0 ≡ v + i) × IsSomeAnd (slice_get kinds i) (λ k. IsPlaceOf k p)
in_file v [] p h = absurd (let none : h.0 < 0 = h.1 in omega arith)
in_file v (k ∷ ks) p h =
    elim (Contains-append_cases (places_of v k) (all_places (v + 1) ks) p h) [
      | inl here ↦
          let r = in_some v k 0 (width_of k) p here in
          let P : Place → Type 0 = λ q. (i : ℕ) × (q.variable.0 ≡ v + i) × IsSomeAnd (slice_get (k ∷ ks) i) (λ k. IsPlaceOf k q) in
          subst P (sym r.3) (0, omega arith, (let w : r.0 < 0 + width_of k = r.2 in omega arith, refl))
      | inr later ↦
          let r = in_file (v + 1) ks p later in
          (suc r.0, (let e : p.variable.0 ≡ (v + 1) + r.0 = r.1 in omega (arith, e)), r.2)
    ]

file_has : (v : ℕ) (kinds : List Kind) (i : ℕ) (p : Place) → p.variable.0 ≡ v + i → IsSomeAnd (slice_get kinds i) (λ k. IsPlaceOf k p) → Contains (all_places v kinds) p
file_has v [] i p e h = absurd h
file_has v (k ∷ ks) zero p e h =
    let same : p ≡ place_of v k p.position = same_place p (element_at k p.position) v p.position h.1 (omega (arith, e)) refl in
    Contains-append_left (places_of v k) (all_places (v + 1) ks) p (subst (Contains (places_of v k)) (sym same) (some_has v k (width_of k) p.position h.0))
file_has v (k ∷ ks) (suc i) p e h =
    Contains-append_right (places_of v k) (all_places (v + 1) ks) p (file_has (v + 1) ks i p (omega (arith, e)) h)

file_members : (kinds : List Kind) (p : Place) → Contains (file_places kinds) p ↔ IsPlace kinds p
file_members kinds p = (
  λ h. let r = in_file 0 kinds p h in
      let e : r.0 ≡ p.variable.0 = let f : p.variable.0 ≡ 0 + r.0 = r.1 in omega (arith, f) in
      let P : ℕ → Type 0 = λ i. IsSomeAnd (slice_get kinds i) (λ k. IsPlaceOf k p) in subst P e r.2,
  λ h. file_has 0 kinds p.variable.0 p (omega arith) h,
)

-- ---- all places, sorted, are the order

pub order_from_sort : (kinds : List Kind) (listed sorted : List Place) → listed ≡ file_places kinds → IsPermutation listed sorted → IsSorted place_cmp sorted → IsOrder kinds sorted
order_from_sort kinds listed sorted are moved up =
    let P : List Place → Type 0 = λ ps. IsPermutation ps sorted in
    let file : List Place = file_places kinds in
    let all : IsPermutation file sorted = subst P are moved in
    let apart = IsDistinct-IsPermutation (eq_by_cmp place_cmp) (λ p q. ap is_eq (place_cmp_total.antisymm p q) ∙ sym (flipped (place_cmp q p))) file sorted all
    (IsDistinct-from_apart (eq_by_cmp place_cmp) file (apart_in_file 0 kinds)) in
    record {
      ascending = sorted_strictly sorted up (λ i j d less within. apart_from_distinct (eq_by_cmp place_cmp) sorted i j d apart less within);
      members = λ p. (
        λ h. (file_members kinds p).0 (Contains-permutation sorted file p (IsPermutation-sym file sorted all) h),
        λ h. Contains-permutation file sorted p all ((file_members kinds p).1 h),
      );
    }

-- ---- a place is found where it stands

tied_options : (a b : Option ℤ) → option_cmp int_cmp a b ≡ Equal → a ≡ b
tied_options None None h = refl
tied_options None (Some y) h = absurd (let e : Less ≡ Equal = h in cc)
tied_options (Some x) None h = absurd (let e : Greater ≡ Equal = h in cc)
tied_options (Some x) (Some y) h = ap Some (int_ranked x y Equal (sym h))

both_tied : (o r : Ordering) → ordering_then o r ≡ Equal → (o ≡ Equal) × (r ≡ Equal)
both_tied Less r h = absurd (let e : Less ≡ Equal = h in cc)
both_tied Equal r h = (refl, h)
both_tied Greater r h = absurd (let e : Greater ≡ Equal = h in cc)

pub tied_places : (p q : Place) → place_cmp p q ≡ Equal → p ≡ q
tied_places p q h =
    let one = both_tied (option_cmp int_cmp p.element q.element) (file_cmp p q) h in
    let two = both_tied (nat_cmp p.variable.0 q.variable.0) (nat_cmp p.position q.position) one.1 in
    let v : p.variable.0 ≡ q.variable.0 = ranked p.variable.0 q.variable.0 Equal (sym two.0) in
    let i : p.position ≡ q.position = ranked p.position q.position Equal (sym two.1) in
    same_place p q.element q.variable.0 q.position (tied_options p.element q.element one.0) v i

pub found_place : (places : List Place) (p : Place) (bit : ℕ) → bit < length places → ((d : Place) → place_cmp (get_or places bit d) p ≡ Equal) → slice_get places bit ≡ Some p
found_place places p bit within tied = slice_get-get_or places bit p within ∙ ap Some (tied_places (get_or places bit p) p (tied p))

sorted_from_strict : (places : List Place) → IsStrictlySortedBy place_cmp places → IsSorted place_cmp places
sorted_from_strict places up k d low high =
    let less : place_cmp (get_or places k d) (get_or places (k + 1) d) ≡ Less = Less-from_sorted place_cmp places k (k + 1) d up (omega arith) high in
    ap is_lt (place_cmp_total.antisymm (get_or places (k + 1) d) (get_or places k d) ∙ ap ordering_reverse less)

-- what a search that finds nothing says
pub place_not_found : (places : List Place) (p : Place) (i : ℕ) → IsStrictlySortedBy place_cmp places
    → (IsNonDecreasingBy (λ q. ordering_index (place_cmp q p)) places → IsPartitionPoint (λ q. place_cmp q p ≡ Less) (λ q. place_cmp q p ≡ Greater) places i)
    → Contains places p → ⊥
place_not_found places p i up parts h =
    let point = parts (searchable_from_sorted place_cmp_total (λ q. q) places p (sorted_from_strict places up)) in
    let tied : place_cmp (get_or places h.0 p) p ≡ Equal = ap (λ q. place_cmp q p) h.2 ∙ tied_itself place_cmp_total p in
    elim (cases_order h.0 i) [
      | inl e ↦ greater_is_not_equal _ (point.1 h.0 p (omega arith) h.1) tied
      | inr (inl less) ↦ less_is_not_equal _ (point.0 h.0 p (omega arith) less) tied
      | inr (inr more) ↦ greater_is_not_equal _ (point.1 h.0 p (omega arith) h.1) tied
    ]
  where
    greater_is_not_equal : (r : Ordering) → r ≡ Greater → r ≡ Equal → ⊥
    greater_is_not_equal r p q = let e : Greater ≡ Equal = sym p ∙ q in cc

    less_is_not_equal : (r : Ordering) → r ≡ Less → r ≡ Equal → ⊥
    less_is_not_equal r p q = let e : Less ≡ Equal = sym p ∙ q in cc

-- ---- the order is one list

pub one_order : (kinds : List Kind) (xs ys : List Place) → IsOrder kinds xs → IsOrder kinds ys → xs ≡ ys
one_order kinds xs ys p q =
    same_members place_cmp place_cmp_total xs ys p.ascending q.ascending (λ z h. (q.members z).1 ((p.members z).0 h)) (λ z h. (p.members z).1 ((q.members z).0 h))
