-- The places of one set variable among those of several, and its bits.
use Rattle.std.proofs.Common.{◌≡◌, ◌↔◌, ◌⊎◌, ℕ, zero, suc, ◌+◌, ◌<◌, ◌≤◌, ◌==◌, Bool, true, false, cond, ℤ, pos, List, [], ◌∷◌, length, map, filter, drop, get_or, Contains, Option, Some, None, refl, sym, ap, ◌∙◌, subst, inl, inr, arith, drop-cons}
use Rattle.std.specs.Prelude.{slice_get, option_and_then}
use Rattle.std.specs.Option.{option_map_or}
use Rattle.std.specs.List.Sorted.{IsStrictlySortedBy}
use Rattle.std.proofs.lemmas.Bool.{eqb-true, eq-eqb}
use Rattle.std.proofs.lemmas.List.Kept.{IsStrictlySortedBy-filter}
use Rattle.std.proofs.lemmas.Map.Keys.{sorted_from_all_adjacent}
use Rattle.std.proofs.lemmas.Option.{slice_get-get_or}
use Rattle.set_meaning.specs.declared.kinds.Kind.{Kind}
use Rattle.set_meaning.specs.declared.kinds.Kind.TheVariants as kind
use Rattle.set_meaning.specs.declared.kinds.Value.{Value}
use Rattle.set_meaning.specs.declared.kinds.Value.TheVariants as value
use Rattle.set_meaning.specs.declared.problems.VarId.{VarId}
use Rattle.set_meaning.specs.Arguments.{set_in}
use Rattle.set_meaning.specs.Problems.{IsKind}
use Rattle.bit_layout.specs.declared.places.Place.{Place}
use Rattle.bit_layout.specs.Words.{lists, width_of, word_of}
use Rattle.bit_layout.specs.Order.{IsPlace, element_at, place_cmp}
use Rattle.bit_layout.specs.Body.{place_of}
use Rattle.bit_layout.proofs.Rising.{nothing_in_empty, in_cons, in_head, in_tail, same_members}
use Rattle.bit_layout.proofs.Finding.{kind_of_place, is_place, same_kind, position_less}
use Rattle.bit_layout.proofs.Sorting.{place_cmp_total}
use Rattle.sweep_rules.specs.SetPlaces.{AreSetPlaces, set_at, set_bit}
use Rattle.sweep_table.specs.Sides.{CountFrom, own_bits, own_count}
use Rattle.sweep_scopes.specs.Meetings.{place_in, places_in}

-- whether the place is one of the variable's
abbrev pub is_of : VarId → Place → Bool
is_of v p = p.variable.0 == v.0

-- ---- what a filter keeps

kept_first : {X : Type 0} (p : X → Bool) (x : X) (xs : List X) (z : X) (v : Bool) → p x ≡ v → (Contains (filter p xs) z → Contains xs z × (p z ≡ true)) → Contains (cond v (x ∷ filter p xs) (filter p xs)) z → Contains (x ∷ xs) z × (p z ≡ true)
kept_first {X} p x xs z true e later h =
    elim (in_cons x (filter p xs) z h) [
      | inl here ↦ let P : X → Type 0 = λ y. Contains (x ∷ xs) y × (p y ≡ true) in subst P here (in_head x xs, e)
      | inr behind ↦ let r = later behind in (in_tail x xs z r.0, r.1)
    ]
kept_first p x xs z false e later h = let r = later h in (in_tail x xs z r.0, r.1)

pub kept_is_in : {X : Type 0} (p : X → Bool) (xs : List X) (z : X) → Contains (filter p xs) z → Contains xs z × (p z ≡ true)
kept_is_in p [] z h = absurd (nothing_in_empty z h)
kept_is_in p (x ∷ xs) z h = kept_first p x xs z (p x) refl (kept_is_in p xs z) h

first_is_kept : {X : Type 0} (p : X → Bool) (x : X) (xs : List X) (z : X) (v : Bool) → p x ≡ v → p z ≡ true → (Contains xs z → Contains (filter p xs) z) → (x ≡ z) ⊎ Contains xs z → Contains (cond v (x ∷ filter p xs) (filter p xs)) z
first_is_kept {X} p x xs z true e k later (inl here) = let P : X → Type 0 = λ y. Contains (x ∷ filter p xs) y in subst P here (in_head x (filter p xs))
first_is_kept p x xs z true e k later (inr behind) = in_tail x (filter p xs) z (later behind)
first_is_kept p x xs z false e k later (inl here) = let c : false ≡ true = sym e ∙ ap p here ∙ k in absurd (cc)
first_is_kept p x xs z false e k later (inr behind) = later behind

pub is_kept : {X : Type 0} (p : X → Bool) (xs : List X) (z : X) → Contains xs z → p z ≡ true → Contains (filter p xs) z
is_kept p [] z h k = absurd (nothing_in_empty z h)
is_kept p (x ∷ xs) z h k = first_is_kept p x xs z (p x) refl k (λ later. is_kept p xs z later k) (in_cons x xs z h)

-- ---- the places of one variable, in order

abbrev pub own_places : ℕ → Kind → ℕ → ℕ → List Place
own_places v k i zero = []
own_places v k i (suc n) = place_of v k i ∷ own_places v k (i + 1) n

length-own : (v : ℕ) (k : Kind) (i n : ℕ) → length (own_places v k i n) ≡ n
length-own v k i zero = refl
length-own v k i (suc n) = ap suc (length-own v k (i + 1) n)

own_at : (v : ℕ) (k : Kind) (i n j : ℕ) (d : Place) → j < n → get_or (own_places v k i n) j d ≡ place_of v k (i + j)
own_at v k i zero j d within = absurd (omega (arith, within))
own_at v k i (suc n) zero d within = let e : i ≡ i + 0 = omega arith in ap (place_of v k) e
own_at v k i (suc n) (suc j) d within = let e : i + 1 + j ≡ i + suc j = omega arith in own_at v k (i + 1) n j d (omega (arith, within)) ∙ ap (place_of v k) e

own_sorted : (v : ℕ) (k : Kind) → IsKind k → IsStrictlySortedBy place_cmp (own_places v k 0 (width_of k))
own_sorted v k legal = sorted_from_all_adjacent place_cmp_total (own_places v k 0 (width_of k)) (place_of v k 0) (λ j within.
    let long = length-own v k 0 (width_of k) in
    let inside : j + 1 < width_of k = omega (arith, within, long) in
    let zero_j : 0 + j ≡ j = omega arith in
    let zero_next : 0 + (j + 1) ≡ j + 1 = omega arith in
    ap (λ p. place_cmp p (get_or (own_places v k 0 (width_of k)) (j + 1) (place_of v k 0))) (own_at v k 0 (width_of k) j (place_of v k 0) (omega (arith, inside)) ∙ ap (place_of v k) zero_j)
    ∙ ap (place_cmp (place_of v k j)) (own_at v k 0 (width_of k) (j + 1) (place_of v k 0) inside ∙ ap (place_of v k) zero_next)
    ∙ position_less v k j (j + 1) legal (omega arith) inside)

own_has : (v : ℕ) (k : Kind) (i n j : ℕ) → j < n → Contains (own_places v k i n) (place_of v k (i + j))
own_has v k i n j within = let long = length-own v k i n in (j, omega (arith, within, long), own_at v k i n j (place_of v k (i + j)) within)

own_from : (v : ℕ) (k : Kind) (i n : ℕ) (p : Place) → Contains (own_places v k i n) p → (j : ℕ) × (j < n) × (place_of v k (i + j) ≡ p)
own_from v k i n p h =
    let long = length-own v k i n in
    let j : ℕ = h.0 in
    let at : j < length (own_places v k i n) = h.1 in
    let within : j < n = omega (arith, at, long) in
    (j, within, sym (own_at v k i n j p within) ∙ h.2)

-- those of several places that are the variable's are its own, in order
pub filter_is : (kinds : List Kind) (sets : List VarId) (places : List Place) (v : VarId) (k : Kind) → AreSetPlaces kinds sets places → Contains sets v → slice_get kinds v.0 ≡ Some k → IsKind k
    → filter (is_of v) places ≡ own_places v.0 k 0 (width_of k)
filter_is kinds sets places v k are there is legal =
    same_members place_cmp place_cmp_total (filter (is_of v) places) (own_places v.0 k 0 (width_of k)) (IsStrictlySortedBy-filter place_cmp (is_of v) places are.ascending) (own_sorted v.0 k legal) to from
  where
    to : (p : Place) → Contains (filter (is_of v) places) p → Contains (own_places v.0 k 0 (width_of k)) p
    to p h =
        let kept = kept_is_in (is_of v) places p h in
        let of : p.variable.0 ≡ v.0 = eqb-true p.variable.0 v.0 kept.1 in
        let known = kind_of_place kinds p ((are.members p).0 kept.0).0 in
        let same : known.0 ≡ k = same_kind kinds p.variable.0 v.0 known.0 k of known.1 is in
        let within : p.position < width_of k = subst (λ j. p.position < width_of j) same known.2 in
        let element : p.element ≡ element_at k p.position = known.3 ∙ ap (λ j. element_at j p.position) same in
        let e : 0 + p.position ≡ p.position = omega arith in
        let here : place_of v.0 k (0 + p.position) ≡ p = ap (place_of v.0 k) e ∙ (λ i. record { element = sym element i; variable = record { 0 = sym of i }; position = p.position }) in
        subst (Contains (own_places v.0 k 0 (width_of k))) here (own_has v.0 k 0 (width_of k) p.position within)

    from : (p : Place) → Contains (own_places v.0 k 0 (width_of k)) p → Contains (filter (is_of v) places) p
    from p h =
        let r = own_from v.0 k 0 (width_of k) p h in
        let e : 0 + r.0 ≡ r.0 = omega arith in
        let q : Place = place_of v.0 k r.0 in
        let same : q ≡ p = ap (place_of v.0 k) (sym e) ∙ r.2 in
        let known : Contains places q = (are.members q).1 (is_place kinds q k is r.1 refl, there) in
        subst (Contains (filter (is_of v) places)) same (is_kept (is_of v) places q known (eq-eqb v.0 v.0 refl))

-- ---- how they are read

record Counted (i n : ℕ) (own : List (Option ℕ)) : Type 0 where
  from : CountFrom i own
  many : own_count own ≡ n

counted : (v : VarId) (places : List Place) (k : Kind) (i n : ℕ) → filter (is_of v) places ≡ own_places v.0 k i n → Counted i n (places_in places v)
counted v [] k i zero are = record { from = tt; many = refl }
counted v [] k i (suc n) are = absurd (cc)
counted v (p ∷ places) k i n are = by (is_of v p) n are (λ j m. counted v places k j m)
  where
    by : (b : Bool) (n : ℕ) → cond b (p ∷ filter (is_of v) places) (filter (is_of v) places) ≡ own_places v.0 k i n
        → ((j m : ℕ) → filter (is_of v) places ≡ own_places v.0 k j m → Counted j m (places_in places v)) → Counted i n (cond b (Some p.position) None ∷ places_in places v)
    by true zero are later = absurd (cc)
    by true (suc n) are later =
        let first : p ≡ place_of v.0 k i = cc in
        let rest : filter (is_of v) places ≡ own_places v.0 k (i + 1) n = cc in
        let h = later (i + 1) n rest in
        let one : own_count (places_in places v) + 1 ≡ suc n = let m = h.many in omega (arith, m) in
        record { from = (ap (λ (q : Place). q.position) first, h.from); many = one }
    by false n are later = let h = later i n are in record { from = h.from; many = h.many }

pub places_counted : (kinds : List Kind) (sets : List VarId) (places : List Place) (v : VarId) (k : Kind) → AreSetPlaces kinds sets places → Contains sets v → slice_get kinds v.0 ≡ Some k → IsKind k
    → CountFrom 0 (places_in places v) × (own_count (places_in places v) ≡ width_of k)
places_counted kinds sets places v k are there is legal = let h = counted v places k 0 (width_of k) (filter_is kinds sets places v k are there is legal) in (h.from, h.many)

-- ---- bits

own_map : (f : Place → Bool) (v : VarId) (places : List Place) → own_bits (places_in places v) (map f places) ≡ map f (filter (is_of v) places)
own_map f v [] = refl
own_map f v (p ∷ places) = by (is_of v p) (own_map f v places)
  where
    by : (b : Bool) → own_bits (places_in places v) (map f places) ≡ map f (filter (is_of v) places)
        → own_bits (cond b (Some p.position) None ∷ places_in places v) (f p ∷ map f places) ≡ map f (cond b (p ∷ filter (is_of v) places) (filter (is_of v) places))
    by true later = ap (λ bits. f p ∷ bits) later
    by false later = later

-- the bits of a set variable's places are the word of its set
set_bits : (values : List Value) (v : ℕ) (universe set : List ℤ) (i n : ℕ) → slice_get values v ≡ Some (value.Set set) → i + n ≡ length universe
    → map (set_bit values) (own_places v (kind.Set universe) i n) ≡ map (lists set) (drop i universe)
set_bits values v universe set i zero is whole = sym (ap (map (lists set)) (drop_all universe i (omega (arith, whole))))
  where
    drop_all : (xs : List ℤ) (i : ℕ) → length xs ≤ i → drop i xs ≡ []
    drop_all [] zero h = refl
    drop_all [] (suc i) h = refl
    drop_all (x ∷ xs) zero h = absurd (omega (arith, h))
    drop_all (x ∷ xs) (suc i) h = drop_all xs i (omega (arith, h))
set_bits values v universe set i (suc n) is whole =
    let within : i < length universe = omega (arith, whole) in
    let e : suc i ≡ i + 1 = omega arith in
    let cut : drop i universe ≡ get_or universe i (pos 0) ∷ drop (i + 1) universe = drop-cons universe i (pos 0) within ∙ ap (λ j. get_or universe i (pos 0) ∷ drop j universe) e in
    let bit : set_bit values (place_of v (kind.Set universe) i) ≡ lists set (get_or universe i (pos 0)) =
    ap (λ o. option_map_or (λ s. option_map_or (lists s) (slice_get universe i) false) (option_and_then set_in o) false) is
    ∙ ap (λ o. option_map_or (lists set) o false) (slice_get-get_or universe i (pos 0) within) in
    let rest = set_bits values v universe set (i + 1) n is (omega (arith, whole)) in
    (λ j. bit j ∷ rest j) ∙ sym (ap (map (lists set)) cut)

pub own_word : (kinds : List Kind) (sets : List VarId) (places : List Place) (values : List Value) (v : VarId) (universe set : List ℤ) → AreSetPlaces kinds sets places → Contains sets v
    → slice_get kinds v.0 ≡ Some (kind.Set universe) → IsKind (kind.Set universe) → slice_get values v.0 ≡ Some (value.Set set)
    → own_bits (places_in places v) (map (set_bit values) places) ≡ word_of (kind.Set universe) (value.Set set)
own_word kinds sets places values v universe set are there is legal given =
    own_map (set_bit values) v places
    ∙ ap (map (set_bit values)) (filter_is kinds sets places v (kind.Set universe) are there is legal)
    ∙ set_bits values v.0 universe set 0 (length universe) given (omega arith)

-- words over the places are one where the bits of each variable are
pub same_words : (places : List Place) (xs ys : List Bool) → length xs ≡ length places → length ys ≡ length places
    → ((v : VarId) → own_bits (places_in places v) xs ≡ own_bits (places_in places v) ys) → xs ≡ ys
same_words [] [] [] long other same = refl
same_words [] [] (y ∷ ys) long other same = absurd (omega (arith, other))
same_words [] (x ∷ xs) ys long other same = absurd (omega (arith, long))
same_words (p ∷ places) [] ys long other same = absurd (omega (arith, long))
same_words (p ∷ places) (x ∷ xs) [] long other same = absurd (omega (arith, other))
same_words (p ∷ places) (x ∷ xs) (y ∷ ys) long other same =
    let head : x ≡ y = own_head (is_of p.variable p) (eq-eqb p.variable.0 p.variable.0 refl) (same p.variable) in
    let tail = same_words places xs ys (omega (arith, long)) (omega (arith, other)) (λ v. own_tail v (is_of v p) (same v)) in
    λ i. head i ∷ tail i
  where
    own_head : (b : Bool) → b ≡ true → own_bits (cond b (Some p.position) None ∷ places_in places p.variable) (x ∷ xs) ≡ own_bits (cond b (Some p.position) None ∷ places_in places p.variable) (y ∷ ys) → x ≡ y
    own_head true e h = cc
    own_head false e h = absurd (cc)

    own_tail : (v : VarId) (b : Bool) → own_bits (cond b (Some p.position) None ∷ places_in places v) (x ∷ xs) ≡ own_bits (cond b (Some p.position) None ∷ places_in places v) (y ∷ ys)
        → own_bits (places_in places v) xs ≡ own_bits (places_in places v) ys
    own_tail v true h = cc
    own_tail v false h = h
