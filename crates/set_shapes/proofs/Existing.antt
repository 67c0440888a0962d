-- There is a table for three set terms, as a list, whether or not a call could make it.
use Rattle.std.proofs.Common.{◌≡◌, ◌⊎◌, ℕ, suc, ◌+◌, ◌<◌, eqb, Bool, true, false, List, [], ◌∷◌, length, get_or, map, Option, Some, None, refl, sym, ap, ◌∙◌, subst, inl, inr, arith, Contains}
use Rattle.std.specs.Prelude.{slice_get, if◌then◌else◌}
use Rattle.std.specs.List.{range_with_len, filter, list_any, All}
use Rattle.std.specs.List.Sorted.{IsStrictlyIncreasing}
use Rattle.std.specs.Cmp.{nat_eq_equiv, on_equiv}
use Rattle.std.specs.Option.{option_map_or}
use Rattle.std.proofs.lemmas.Bool.{eqb-true}
use Rattle.std.proofs.lemmas.Option.{slice_get-get_or, slice_get_within}
use Rattle.std.proofs.lemmas.List.FromFn.{length-range_with_len, get_or-range_with_len}
use Rattle.std.proofs.lemmas.Map.Views.{list_any-from_Contains, Contains-from_any}
use Rattle.std.proofs.lemmas.List.Kept.{IsStrictlyIncreasing-filter}
use Rattle.set_meaning.specs.declared.problems.VarId.{VarId}
use Rattle.set_meaning.specs.Sets.{ascending_set}
use Rattle.set_meaning.proofs.Ascending.{IsSetOf-ascending_set}
use Rattle.bit_layout.specs.declared.places.Place.{Place}
use Rattle.bit_layout.specs.Order.{LayoutState}
use Rattle.scope_words.specs.Words.{AreBitsOf, IsBitOf}
use Rattle.scope_words.specs.Places.{ArePlacesOf}
use Rattle.scope_words.proofs.Bits.{place_of_bit, is_bit_of, bits_known}
use Rattle.bit_layout.proofs.Rising.{nothing_in_empty, in_cons, in_head, in_tail}
use Rattle.element_machine.specs.declared.marks.Marks.{Marks}
use Rattle.element_machine.specs.declared.marks.Entry.{Entry}
use Rattle.set_shapes.specs.declared.operands.Operands.{Operands}
use Rattle.set_shapes.specs.Operands.{variables_of, constant_marks}
use Rattle.set_shapes.specs.Tables.{IsTable, entries_of, all_elements}

-- ---- what a filter keeps

kept_cases : {X : Type 0} (p : X → Bool) (y : X) (ys : List X) (x : X) (v : Bool) → p y ≡ v → Contains (if v then y ∷ filter p ys else filter p ys) x → ((y ≡ x) × (v ≡ true)) ⊎ Contains (filter p ys) x
kept_cases p y ys x true e h =
    elim (in_cons y (filter p ys) x h) [
      | inl same ↦ inl (same, refl)
      | inr later ↦ inr later
    ]
kept_cases p y ys x false e h = inr h

in_filter : {X : Type 0} (p : X → Bool) (xs : List X) (x : X) → Contains (filter p xs) x → Contains xs x × (p x ≡ true)
in_filter p [] x h = absurd (nothing_in_empty x h)
in_filter p (y ∷ ys) x h =
    elim (kept_cases p y ys x (p y) refl h) [
      | inl here ↦ (subst (Contains (y ∷ ys)) here.0 (in_head y ys), ap p (sym here.0) ∙ here.1)
      | inr later ↦ let r = in_filter p ys x later in (in_tail y ys x r.0, r.1)
    ]

put_first : {X : Type 0} (y : X) (ys : List X) (x : X) (v : Bool) → Contains ys x → Contains (if v then y ∷ ys else ys) x
put_first y ys x true h = in_tail y ys x h
put_first y ys x false h = h

put_here : {X : Type 0} (y : X) (ys : List X) (x : X) (v : Bool) → y ≡ x → v ≡ true → Contains (if v then y ∷ ys else ys) x
put_here y ys x true same is = subst (Contains (y ∷ ys)) same (in_head y ys)
put_here y ys x false same is = absurd (let e : false ≡ true = is in cc)

filter_has : {X : Type 0} (p : X → Bool) (xs : List X) (x : X) → Contains xs x → p x ≡ true → Contains (filter p xs) x
filter_has p [] x h is = absurd (nothing_in_empty x h)
filter_has p (y ∷ ys) x h is =
    elim (in_cons y ys x h) [
      | inl here ↦ put_here y (filter p ys) x (p y) here (ap p here ∙ is)
      | inr later ↦ put_first y (filter p ys) x (p y) (filter_has p ys x later is)
    ]

-- ---- the numbers from 0 on

numbers : ℕ → List ℕ
numbers n = range_with_len 0 n

numbers_rise : (n : ℕ) → IsStrictlyIncreasing (numbers n)
unfolding numbers
numbers_rise n k within =
    let long = length-range_with_len 0 n in
    let here = get_or-range_with_len 0 n k 0 (omega (arith, long, within)) in
    let next = get_or-range_with_len 0 n (k + 1) 0 (omega (arith, long, within)) in
    omega (arith, here, next)

numbers_have : (n i : ℕ) → i < n → Contains (numbers n) i
unfolding numbers
numbers_have n i within =
    let long = length-range_with_len 0 n in
    (i, omega (arith, long, within), get_or-range_with_len 0 n i i within ∙ (omega arith))

-- ---- the bits of a scope, as a list

one_of : List VarId → Place → Bool
one_of scope p = list_any (λ (v : VarId). eqb p.variable.0 v.0) scope

in_scope : LayoutState → List VarId → ℕ → Bool
in_scope l scope b = option_map_or (one_of scope) (slice_get l.places b) false

same_variable : (v w : VarId) → eqb v.0 w.0 ≡ true → v ≡ w
same_variable v w e = ap (λ n. record { 0 = n }) (eqb-true v.0 w.0 e)

in_scope_at : (l : LayoutState) (scope : List VarId) (b : ℕ) → (o : Option Place) → slice_get l.places b ≡ o → option_map_or (one_of scope) o false ≡ true → IsBitOf l scope b
unfolding one_of
in_scope_at l scope b None at is = absurd (let e : false ≡ true = is in cc)
in_scope_at l scope b (Some p) at is = is_bit_of l scope b p at (Contains-from_any {eq = λ (v w : VarId). eqb v.0 w.0} same_variable p.variable scope is)

scope_has : (l : LayoutState) (scope : List VarId) (b : ℕ) → IsBitOf l scope b → in_scope l scope b ≡ true
unfolding in_scope one_of
scope_has l scope b h =
    let r = place_of_bit l scope b h in
    ap (λ o. option_map_or (one_of scope) o false) r.1 ∙ list_any-from_Contains {eq = λ (v w : VarId). eqb v.0 w.0} (on_equiv (λ (v : VarId). v.0) nat_eq_equiv) r.0.variable scope r.2

listed_bits : LayoutState → List VarId → List ℕ
listed_bits l scope = filter (in_scope l scope) (numbers (length l.places))

are_listed : (l : LayoutState) (scope : List VarId) → AreBitsOf l scope (listed_bits l scope)
unfolding listed_bits in_scope
are_listed l scope = record {
  ascending = IsStrictlyIncreasing-filter (in_scope l scope) (numbers (length l.places)) (numbers_rise (length l.places));
  members = λ b. (
    λ h. in_scope_at l scope b (slice_get l.places b) refl (in_filter (in_scope l scope) (numbers (length l.places)) b h).1,
    λ h. let r = place_of_bit l scope b h in
        filter_has (in_scope l scope) (numbers (length l.places)) b (numbers_have (length l.places) b (slice_get_within l.places b r.0 r.1)) (scope_has l scope b h),
  );
}

-- ---- their places

some_place : Place
some_place = record { element = None; variable = record { 0 = 0 }; position = 0 }

places_at : LayoutState → List ℕ → List Place
places_at l bits = map (λ b. get_or l.places b some_place) bits

are_places_at : (l : LayoutState) (bits : List ℕ) → All (λ b. b < length l.places) bits → ArePlacesOf l bits (places_at l bits)
unfolding places_at
are_places_at l [] within = tt
are_places_at l (b ∷ bs) within =
    let here : b < length l.places = within 0 0 (omega arith) in
    (slice_get-get_or l.places b some_place here, are_places_at l bs (λ i d less. within (suc i) d (omega (arith, less))))

-- ---- the table

pub table_there : (l : LayoutState) (o : Operands) → (bits : List ℕ) × (constants : List Marks) × (entries : List Entry) × IsTable l o bits constants entries
table_there l o =
    let scope : List VarId = variables_of o in
    let bits : List ℕ = listed_bits l scope in
    let places : List Place = places_at l bits in
    let elements = ascending_set (all_elements l.kinds o) in (
      bits,
      map (constant_marks o) elements,
      entries_of o elements places,
      record {
        elements = elements;
        places = places;
        are_bits = are_listed l scope;
        are_places = are_places_at l bits (bits_known l scope bits (are_listed l scope));
        are_elements = IsSetOf-ascending_set (all_elements l.kinds o);
        are_constants = refl;
        are_entries = refl;
      },
    )
