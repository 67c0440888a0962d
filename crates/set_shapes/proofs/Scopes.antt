-- The variables and the elements of three set terms.
use Rattle.std.proofs.Common.{◌≡◌, ℕ, ◌<◌, ◌≤◌, ℤ, List, [], ◌∷◌, ◌++◌, length, get_or, Option, Some, None, refl, sym, ap, ◌∙◌, subst, inl, inr, arith, Contains}
use Rattle.std.specs.Prelude.{slice_get, IsSomeAnd, filter_map, option_map}
use Rattle.std.specs.List.{All}
use Rattle.std.specs.List.Sorted.{IsStrictlyIncreasing}
use Rattle.std.specs.declared.cmp.Ordering.{Ordering}
use Rattle.std.specs.declared.cmp.Ordering.TheVariants.{Less, Greater}
use Rattle.std.specs.Ordering.{nat_cmp, int_cmp, ordering_then, ordering_reverse}
use Rattle.std.specs.Option.{option_cmp, option_map_or}
use Rattle.std.specs.Cmp.{int_cmp_total}
use Rattle.std.proofs.lemmas.Bool.{cases_lt}
use Rattle.std.proofs.lemmas.List.Elements.{Contains-append_left, Contains-append_right, Contains-get_or}
use Rattle.std.proofs.lemmas.Map.Keys.{IsStrictlyIncreasing-from_sorted, sorted_tail, Less-from_sorted, sorted_from_strictly_increasing, below_from_sorted}
use Rattle.std.proofs.lemmas.Option.{slice_get-get_or, get_or_from_slice_get, slice_get_within}
use Rattle.set_meaning.specs.declared.kinds.Kind.{Kind}
use Rattle.set_meaning.specs.declared.kinds.Kind.TheVariants as kind
use Rattle.set_meaning.specs.declared.problems.VarId.{VarId}
use Rattle.set_meaning.specs.declared.problems.Term.{Term}
use Rattle.set_meaning.specs.declared.problems.Term.TheVariants.{Const, Var}
use Rattle.set_meaning.specs.declared.rows.Sort.TheVariants.{IntegerSet}
use Rattle.set_meaning.specs.Rows.{HasSort, sort_of_kind}
use Rattle.set_meaning.specs.Sets.{Has, IsAscending, IsSetOf}
use Rattle.set_meaning.specs.Relations.{variable_of}
use Rattle.bit_layout.specs.declared.places.Place.{Place}
use Rattle.bit_layout.specs.Words.{width_of}
use Rattle.bit_layout.specs.Order.{LayoutState, IsLayout, IsPlace, element_at, place_cmp}
use Rattle.bit_layout.proofs.Rising.{nothing_in_empty, in_cons, in_head, in_tail}
use Rattle.bit_layout.proofs.Listing.{all_zip_long, all_zip_at}
use Rattle.bit_layout.proofs.Finding.{kind_of_place, member_at, same_kind}
use Rattle.scope_words.specs.Words.{AreBitsOf, IsSetKind}
use Rattle.scope_words.proofs.Bits.{place_of_bit}
use Rattle.scope_words.proofs.PlaceLists.{places_less}
use Rattle.element_machine.specs.Reading.{AreGrouped}
use Rattle.set_shapes.specs.declared.operands.Operands.{Operands}
use Rattle.set_shapes.specs.Operands.{IsTermOf, variables_of, universe_of, universe_of_kind}
use Rattle.set_shapes.specs.Tables.{all_elements, number_of, number_at, entries_of, AreSets}
use Rattle.set_shapes.proofs.Numbers.{number_stands}
use Rattle.set_shapes.proofs.Linking.{Stand}
use Rattle.set_shapes.proofs.Sides.{AreElements, number_is_at}

-- ---- variables

abbrev pub terms : Operands → List Term
terms o = o.first ∷ o.second ∷ o.third ∷ []

in_variables : (ts : List Term) (y : VarId) → Contains (filter_map variable_of ts) y → Contains ts (Var y)
in_variables [] y h = absurd (nothing_in_empty y h)
in_variables (Const v ∷ ts) y h = in_tail (Const v) ts (Var y) (in_variables ts y h)
in_variables (Var z ∷ ts) y h =
    elim (in_cons z (filter_map variable_of ts) y h) [
      | inl same ↦ subst (λ x. Contains (Var z ∷ ts) (Var x)) same (in_head (Var z) ts)
      | inr later ↦ in_tail (Var z) ts (Var y) (in_variables ts y later)
    ]

pub variables_have : (ts : List Term) (t : Term) → Contains ts t → IsTermOf (filter_map variable_of ts) t
variables_have ts (Const v) h = tt
variables_have [] (Var y) h = absurd (nothing_in_empty (Var y) h)
variables_have (Const v ∷ ts) (Var y) h =
    elim (in_cons (Const v) ts (Var y) h) [
      | inl same ↦ absurd (cc)
      | inr later ↦ variables_have ts (Var y) later
    ]
variables_have (Var z ∷ ts) (Var y) h =
    elim (in_cons (Var z) ts (Var y) h) [
      | inl same ↦ let e : z ≡ y = cc in subst (Contains (z ∷ filter_map variable_of ts)) e (in_head z (filter_map variable_of ts))
      | inr later ↦ in_tail z (filter_map variable_of ts) y (variables_have ts (Var y) later)
    ]

pub are_terms : (o : Operands) → IsTermOf (variables_of o) o.first × IsTermOf (variables_of o) o.second × IsTermOf (variables_of o) o.third
are_terms o = (
  variables_have (terms o) o.first (in_head o.first (o.second ∷ o.third ∷ [])),
  variables_have (terms o) o.second (in_tail o.first (o.second ∷ o.third ∷ []) o.second (in_head o.second (o.third ∷ []))),
  variables_have (terms o) o.third (in_tail o.first (o.second ∷ o.third ∷ []) o.third (in_tail o.second (o.third ∷ []) o.third (in_head o.third []))),
)

-- what holds of each of the terms
each_term : (P : Term → Type 0) (o : Operands) → P o.first → P o.second → P o.third → (t : Term) → Contains (terms o) t → P t
each_term P o p q r t h =
    elim (in_cons o.first (o.second ∷ o.third ∷ []) t h) [
      | inl e ↦ subst P e p
      | inr h ↦ elim (in_cons o.second (o.third ∷ []) t h) [
        | inl e ↦ subst P e q
        | inr h ↦ elim (in_cons o.third [] t h) [
          | inl e ↦ subst P e r
          | inr h ↦ absurd (nothing_in_empty t h)
        ]
      ]
    ]

-- ---- kinds and elements

set_kind_of : (k : Kind) → sort_of_kind k ≡ IntegerSet → (u : List ℤ) × (k ≡ kind.Set u)
set_kind_of kind.Bool e = absurd (cc)
set_kind_of (kind.Int numbers) e = absurd (cc)
set_kind_of (kind.Set u) e = (u, refl)

pub variable_kind : (kinds : List Kind) (y : VarId) → HasSort kinds IntegerSet (Var y) → (u : List ℤ) × (slice_get kinds y.0 ≡ Some (kind.Set u))
variable_kind kinds y h =
    elim (slice_get kinds y.0) as (λ o. slice_get kinds y.0 ≡ o → option_map sort_of_kind o ≡ Some IntegerSet → (u : List ℤ) × (slice_get kinds y.0 ≡ Some (kind.Set u))) [
      | None ↦ λ e h. absurd (let f : None ≡ Some IntegerSet = h in cc)
      | Some k ↦ λ e h. let f : Some (sort_of_kind k) ≡ Some IntegerSet = h in let g : sort_of_kind k ≡ IntegerSet = cc in let r = set_kind_of k g in (r.0, e ∙ ap Some r.1)
    ] refl h

pub universe_listed : (kinds : List Kind) (o : Operands) (elements : List ℤ) → IsSetOf (all_elements kinds o) elements → (t : Term) → Contains (terms o) t → (x : ℤ) → Contains (universe_of kinds t) x → Has elements x
universe_listed kinds o elements are t h x k =
    let a = universe_of kinds o.first in
    let b = universe_of kinds o.second in
    let c = universe_of kinds o.third in
    (are.members x).1 (each_term (λ t. Contains (universe_of kinds t) x → Contains (a ++ (b ++ c)) x) o
    (λ h. Contains-append_left a (b ++ c) x h) (λ h. Contains-append_right a (b ++ c) x (Contains-append_left b c x h)) (λ h. Contains-append_right a (b ++ c) x (Contains-append_right b c x h)) t h k)

-- a variable of the scope is a set over listed elements
pub scope_kind : (l : LayoutState) (o : Operands) (elements : List ℤ) (y : VarId) → AreSets l.kinds o → IsSetOf (all_elements l.kinds o) elements → Contains (variables_of o) y
    → (u : List ℤ) × (slice_get l.kinds y.0 ≡ Some (kind.Set u)) × ((x : ℤ) → Contains u x → Has elements x)
scope_kind l o elements y sets are h =
    let t : Contains (terms o) (Var y) = in_variables (terms o) y h in
    let k = variable_kind l.kinds y (each_term (HasSort l.kinds IntegerSet) o sets.first sets.second sets.third (Var y) t) in
    let universe : universe_of l.kinds (Var y) ≡ k.0 = ap (λ z. option_map_or universe_of_kind z []) k.1 in
    (k.0, k.1, λ x k. universe_listed l.kinds o elements are (Var y) t x (subst (λ u. Contains u x) (sym universe) k))

pub scope_known : (l : LayoutState) (o : Operands) → AreSets l.kinds o → All (λ v. v.0 < length l.kinds) (variables_of o)
scope_known l o sets i d within =
    let y : VarId = get_or (variables_of o) i d in
    let t : Contains (terms o) (Var y) = in_variables (terms o) y (Contains-get_or (variables_of o) i d within) in
    let k = variable_kind l.kinds y (each_term (HasSort l.kinds IntegerSet) o sets.first sets.second sets.third (Var y) t) in
    slice_get_within l.kinds y.0 (kind.Set k.0) k.1

set_kind_from : (o : Option Kind) (u : List ℤ) → o ≡ Some (kind.Set u) → IsSomeAnd o IsSetKind
set_kind_from o u e = let P : Option Kind → Type 0 = λ o. IsSomeAnd o IsSetKind in subst P (sym e) tt

pub scope_sets : (l : LayoutState) (o : Operands) (elements : List ℤ) → AreSets l.kinds o → IsSetOf (all_elements l.kinds o) elements → (v : VarId) → Contains (variables_of o) v → IsSomeAnd (slice_get l.kinds v.0) IsSetKind
scope_sets l o elements sets are v h = let k = scope_kind l o elements v sets are h in set_kind_from (slice_get l.kinds v.0) k.0 k.1

-- each bit of the scope is of a listed element
pub listed_elements : (l : LayoutState) (o : Operands) (elements : List ℤ) (bits : List ℕ) → IsLayout l → AreSets l.kinds o → IsSetOf (all_elements l.kinds o) elements → AreBitsOf l (variables_of o) bits → AreElements elements l bits
listed_elements l o elements bits ok sets are of_scope = record {
  ascending = are.ascending;
  listed = λ b p h at.
      let r = place_of_bit l (variables_of o) b ((of_scope.members b).0 h) in
      let same : r.0 ≡ p = let e : Some r.0 ≡ Some p = sym r.1 ∙ at in cc in
      let mine : Contains (variables_of o) p.variable = subst (λ (q : Place). Contains (variables_of o) q.variable) same r.2 in
      let s = scope_kind l o elements p.variable sets are mine in
      let inside = slice_get_within l.places b p at in
      let here = get_or_from_slice_get l.places b p p at in
      let known : IsPlace l.kinds p = subst (IsPlace l.kinds) here (member_at l.kinds l.places b p ok.order inside) in
      let k = kind_of_place l.kinds p known in
      let of_set : k.0 ≡ kind.Set s.0 = same_kind l.kinds p.variable.0 p.variable.0 k.0 (kind.Set s.0) refl k.1 s.1 in
      let low : p.position < length s.0 = let P : Kind → Type 0 = λ z. p.position < width_of z in subst P of_set k.2 in
      let x : ℤ = get_or s.0 p.position (Rattle.std.specs.Prelude.pos 0) in
      (x, k.3 ∙ ap (λ z. element_at z p.position) of_set ∙ slice_get-get_or s.0 p.position (Rattle.std.specs.Prelude.pos 0) low, s.2 x (Contains-get_or s.0 p.position (Rattle.std.specs.Prelude.pos 0) low));
}

some_from : (o : Option ℤ) (x : ℤ) (P : ℤ → Type 0) → o ≡ Some x → P x → IsSomeAnd o P
some_from o x P e h = let Q : Option ℤ → Type 0 = λ o. IsSomeAnd o P in subst Q (sym e) h

pub places_listed : (l : LayoutState) (elements : List ℤ) (bits : List ℕ) (ps : List Place) → AreElements elements l bits → Stand l bits ps → All (λ p. IsSomeAnd p.element (Has elements)) ps
places_listed l elements bits ps known stand i d within =
    let long = all_zip_long (λ bit p. slice_get l.places bit ≡ Some p) bits ps stand in
    let inside : i < length bits = omega (arith, long, within) in
    let at = all_zip_at (λ bit p. slice_get l.places bit ≡ Some p) bits ps i 0 d stand inside in
    let r = known.listed (get_or bits i 0) (get_or ps i d) (Contains-get_or bits i 0 inside) at in
    some_from (get_or ps i d).element r.0 (Has elements) r.1 r.2

-- ---- the numbers of elements never fall

not_less : (x y : ℤ) (rest : Ordering) → int_cmp y x ≡ Less → ordering_then (int_cmp x y) rest ≡ Less → ⊥
not_less x y rest below h =
    let back : int_cmp x y ≡ Greater = int_cmp_total.antisymm x y ∙ ap ordering_reverse below in
    let e : Greater ≡ Less = sym (ap (λ o. ordering_then o rest) back) ∙ h in cc

numbers_rise : (elements : List ℤ) (p q : Place) (x y : ℤ) → IsAscending elements → Has elements x → Has elements y → p.element ≡ Some x → q.element ≡ Some y → place_cmp p q ≡ Less → number_at elements p ≤ number_at elements q
numbers_rise elements p q x y up in_x in_y e f less =
    let m = number_stands elements x up in_x in
    let n = number_stands elements y up in_y in
    let a = number_is_at elements p x e in
    let b = number_is_at elements q y f in
    elim (cases_lt (number_of elements y) (number_of elements x)) [
      | inr fine ↦ omega (arith, fine, a, b)
      | inl fall ↦ absurd (
          let before : int_cmp (get_or elements (number_of elements y) x) (get_or elements (number_of elements x) x) ≡ Less = Less-from_sorted int_cmp elements (number_of elements y) (number_of elements x) x up fall m.0 in
          let there : get_or elements (number_of elements y) x ≡ y = let s : Some (get_or elements (number_of elements y) x) ≡ Some (get_or elements (number_of elements y) y) = sym (slice_get-get_or elements (number_of elements y) x n.0) ∙ slice_get-get_or elements (number_of elements y) y n.0 in let t : get_or elements (number_of elements y) x ≡ get_or elements (number_of elements y) y = cc in t ∙ n.1 in
          let below : int_cmp y x ≡ Less = ap (λ z. int_cmp z x) (sym there) ∙ ap (int_cmp (get_or elements (number_of elements y) x)) (sym m.1) ∙ before in
          let rest : Ordering = ordering_then (nat_cmp p.variable.0 q.variable.0) (nat_cmp p.position q.position) in
          not_less x y rest below (sym (ap (λ o. ordering_then (option_cmp int_cmp o q.element) rest) e ∙ ap (λ o. ordering_then (option_cmp int_cmp (Some x) o) rest) f) ∙ less))
    ]

increasing_tail : (b : ℕ) (bs : List ℕ) → IsStrictlyIncreasing (b ∷ bs) → IsStrictlyIncreasing bs
increasing_tail b bs up = IsStrictlyIncreasing-from_sorted bs (sorted_tail nat_cmp b bs (sorted_from_strictly_increasing (b ∷ bs) up))

pub entries_grouped : (l : LayoutState) (o : Operands) (elements : List ℤ) (bits : List ℕ) (ps : List Place) → IsLayout l → IsStrictlyIncreasing bits → AreElements elements l bits → Stand l bits ps → AreGrouped (length elements) (entries_of o elements ps)
entries_grouped l o elements [] [] ok up known stand = tt
entries_grouped l o elements [] (p ∷ ps) ok up known stand = absurd stand
entries_grouped l o elements (b ∷ bs) [] ok up known stand = absurd stand
entries_grouped l o elements (b ∷ []) (p ∷ []) ok up known stand =
    let r = known.listed b p (in_head b []) stand.0 in
    let n = number_stands elements r.0 known.ascending r.2 in
    let a = number_is_at elements p r.0 r.1 in
    let low = n.0 in
    (omega (arith, a, low), omega (arith, a, low), tt)
entries_grouped l o elements (b ∷ []) (p ∷ q ∷ ps) ok up known stand = absurd stand.1
entries_grouped l o elements (b ∷ c ∷ bs) (p ∷ []) ok up known stand = absurd stand.1
entries_grouped l o elements (b ∷ c ∷ bs) (p ∷ q ∷ ps) ok up known stand =
    let r = known.listed b p (in_head b (c ∷ bs)) stand.0 in
    let s = known.listed c q (in_tail b (c ∷ bs) c (in_head c bs)) stand.1.0 in
    let n = number_stands elements r.0 known.ascending r.2 in
    let a = number_is_at elements p r.0 r.1 in
    let low = n.0 in
    let rise : b < c = below_from_sorted (b ∷ c ∷ bs) 0 1 0 (sorted_from_strictly_increasing (b ∷ c ∷ bs) up) (omega arith) (omega arith) in
    let less = places_less l b c p q ok stand.0 stand.1.0 rise in
    let rest : AreElements elements l (c ∷ bs) = record { ascending = known.ascending; listed = λ d z h at. known.listed d z (in_tail b (c ∷ bs) d h) at } in
    (omega (arith, a, low), numbers_rise elements p q r.0 s.0 known.ascending r.2 s.2 r.1 s.1 less, entries_grouped l o elements (c ∷ bs) (q ∷ ps) ok (increasing_tail b (c ∷ bs) up) rest stand.1)
