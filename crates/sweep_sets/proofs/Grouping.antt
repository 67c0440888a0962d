-- The entries of places in order: their elements are listed, and never fall.
use Rattle.std.proofs.Common.{◌≡◌, ◌≤◌, ℤ, List, [], ◌∷◌, ◌++◌, length, get_or, Option, Some, None, refl, sym, ap, ◌∙◌, subst, inl, inr, arith, Contains}
use Rattle.std.specs.Prelude.{IsSome, IsSomeAnd, filter_map}
use Rattle.std.specs.List.{All}
use Rattle.std.specs.List.Sorted.{IsStrictlySortedBy}
use Rattle.std.specs.declared.cmp.Ordering.{Ordering}
use Rattle.std.specs.declared.cmp.Ordering.TheVariants.{Less, Greater}
use Rattle.std.specs.Ordering.{nat_cmp, int_cmp, ordering_then, ordering_reverse}
use Rattle.std.specs.Option.{option_cmp, option_map_or}
use Rattle.std.specs.Cmp.{int_cmp_total}
use Rattle.std.proofs.lemmas.Bool.{cases_lt}
use Rattle.std.proofs.lemmas.List.Elements.{All-contains, Contains-append_left, Contains-get_or}
use Rattle.std.proofs.lemmas.Map.Keys.{sorted_tail, Less-from_sorted}
use Rattle.std.proofs.lemmas.Option.{slice_get-get_or}
use Rattle.set_meaning.specs.Sets.{Has, IsAscending, IsSetOf}
use Rattle.bit_layout.specs.declared.places.Place.{Place}
use Rattle.bit_layout.specs.Order.{place_cmp}
use Rattle.bit_layout.proofs.Rising.{nothing_in_empty, in_cons, in_head, in_tail}
use Rattle.sweep_sets.specs.declared.operands.Operands.{Operands}
use Rattle.sweep_sets.specs.Reading.{AreGrouped}
use Rattle.sweep_sets.specs.Tables.{all_elements, number_of, number_at, entries_of}
use Rattle.sweep_sets.proofs.Numbers.{number_stands}

-- ---- the elements of places

-- the place has an element, which is listed
abbrev pub IsListed : List ℤ → Place → Type 0
IsListed elements p = (x : ℤ) × (p.element ≡ Some x) × Has elements x

some_of : (o : Option ℤ) → IsSome o → (x : ℤ) × (o ≡ Some x)
some_of None h = absurd (cc)
some_of (Some x) h = (x, refl)

cons-tail : (o : Option ℤ) (xs : List ℤ) (x : ℤ) → Contains xs x → Contains (Rattle.std.specs.List.cons_option o xs) x
cons-tail None xs x h = h
cons-tail (Some y) xs x h = in_tail y xs x h

pub in_places : (ps : List Place) (p : Place) (x : ℤ) → Contains ps p → p.element ≡ Some x → Contains (filter_map (λ (q : Place). q.element) ps) x
in_places [] p x h e = absurd (nothing_in_empty p h)
in_places (q ∷ ps) p x h e =
    let rest : List ℤ = filter_map (λ (q : Place). q.element) ps in
    elim (in_cons q ps p h) [
      | inl same ↦
          let here : q.element ≡ Some x = ap (λ (r : Place). r.element) same ∙ e in
          subst (λ o. Contains (Rattle.std.specs.List.cons_option o rest) x) (sym here) (in_head x rest)
      | inr later ↦ cons-tail q.element rest x (in_places ps p x later e)
    ]

pub places_listed : (o : Operands) (elements : List ℤ) (ps : List Place) → IsSetOf (all_elements o ps) elements → All (λ p. IsSome p.element) ps → (p : Place) → Contains ps p → IsListed elements p
places_listed o elements ps are all p h =
    let some = some_of p.element (All-contains (λ (q : Place). IsSome q.element) ps p all h) in
    let constants : List ℤ = o.first.constant.now ++ (o.second.constant.now ++ o.third.constant.now) in
    (some.0, some.1, (are.members some.0).1 (Contains-append_left (filter_map (λ (q : Place). q.element) ps) constants some.0 (in_places ps p some.0 h some.1)))

some_from : (o : Option ℤ) (x : ℤ) (P : ℤ → Type 0) → o ≡ Some x → P x → IsSomeAnd o P
some_from o x P e h = let Q : Option ℤ → Type 0 = λ o. IsSomeAnd o P in subst Q (sym e) h

pub all_listed : (o : Operands) (elements : List ℤ) (ps : List Place) → IsSetOf (all_elements o ps) elements → All (λ p. IsSome p.element) ps → All (λ p. IsSomeAnd p.element (Has elements)) ps
all_listed o elements ps are all i d within =
    let r = places_listed o elements ps are all (get_or ps i d) (Contains-get_or ps i d within) in
    some_from (get_or ps i d).element r.0 (Has elements) r.1 r.2

-- ---- the numbers of elements never fall

pub number_is_at : (elements : List ℤ) (p : Place) (x : ℤ) → p.element ≡ Some x → number_at elements p ≡ number_of elements x
number_is_at elements p x e = ap (λ o. option_map_or (number_of elements) o 0) e

not_less : (x y : ℤ) (rest : Ordering) → int_cmp y x ≡ Less → ordering_then (int_cmp x y) rest ≡ Less → ⊥
not_less x y rest below h =
    let back : int_cmp x y ≡ Greater = int_cmp_total.antisymm x y ∙ ap ordering_reverse below in
    let e : Greater ≡ Less = sym (ap (λ o. ordering_then o rest) back) ∙ h in cc

numbers_rise : (elements : List ℤ) (p q : Place) (x y : ℤ) → IsAscending elements → Has elements x → Has elements y → p.element ≡ Some x → q.element ≡ Some y → place_cmp p q ≡ Less → number_at elements p ≤ number_at elements q
numbers_rise elements p q x y up in_x in_y e f less =
    let m = number_stands elements x up in_x in
    let n = number_stands elements y up in_y in
    let a = number_is_at elements p x e in
    let b = number_is_at elements q y f in
    elim (cases_lt (number_of elements y) (number_of elements x)) [
      | inr fine ↦ omega (arith, fine, a, b)
      | inl fall ↦ absurd (
          let before : int_cmp (get_or elements (number_of elements y) x) (get_or elements (number_of elements x) x) ≡ Less = Less-from_sorted int_cmp elements (number_of elements y) (number_of elements x) x up fall m.0 in
          let there : get_or elements (number_of elements y) x ≡ y = let s : Some (get_or elements (number_of elements y) x) ≡ Some (get_or elements (number_of elements y) y) = sym (slice_get-get_or elements (number_of elements y) x n.0) ∙ slice_get-get_or elements (number_of elements y) y n.0 in let t : get_or elements (number_of elements y) x ≡ get_or elements (number_of elements y) y = cc in t ∙ n.1 in
          let below : int_cmp y x ≡ Less = ap (λ z. int_cmp z x) (sym there) ∙ ap (int_cmp (get_or elements (number_of elements y) x)) (sym m.1) ∙ before in
          let rest : Ordering = ordering_then (nat_cmp p.variable.0 q.variable.0) (nat_cmp p.position q.position) in
          not_less x y rest below (sym (ap (λ o. ordering_then (option_cmp int_cmp o q.element) rest) e ∙ ap (λ o. ordering_then (option_cmp int_cmp (Some x) o) rest) f) ∙ less))
    ]

pub entries_grouped : (o : Operands) (elements : List ℤ) (ps : List Place) → IsAscending elements → IsStrictlySortedBy place_cmp ps → ((p : Place) → Contains ps p → IsListed elements p) → AreGrouped (length elements) (entries_of o elements ps)
entries_grouped o elements [] up sorted listed = tt
entries_grouped o elements (p ∷ []) up sorted listed =
    let r = listed p (in_head p []) in
    let n = number_stands elements r.0 up r.2 in
    let a = number_is_at elements p r.0 r.1 in
    let low = n.0 in
    (omega (arith, a, low), omega (arith, a, low), tt)
entries_grouped o elements (p ∷ q ∷ ps) up sorted listed =
    let r = listed p (in_head p (q ∷ ps)) in
    let s = listed q (in_tail p (q ∷ ps) q (in_head q ps)) in
    let n = number_stands elements r.0 up r.2 in
    let a = number_is_at elements p r.0 r.1 in
    let low = n.0 in
    let less : place_cmp p q ≡ Less = Less-from_sorted place_cmp (p ∷ q ∷ ps) 0 1 p sorted (omega arith) (omega arith) in
    (omega (arith, a, low), numbers_rise elements p q r.0 s.0 up r.2 s.2 r.1 s.1 less, entries_grouped o elements (q ∷ ps) up (sorted_tail place_cmp p (q ∷ ps) sorted) (λ z h. listed z (in_tail p (q ∷ ps) z h)))
