-- The elements of the sets that a word gives, by its bits and the constants.
use Rattle.std.proofs.Common.{◌≡◌, ℕ, suc, ◌+◌, ◌<◌, Bool, true, false, ◌||◌, ℤ, List, [], ◌∷◌, length, get_or, map, Some, None, refl, sym, ap, ◌∙◌, subst, arith, Contains}
use Rattle.std.specs.Prelude.{slice_get, option_and_then}
use Rattle.std.specs.Option.{option_map_or}
use Rattle.std.proofs.lemmas.Bool.{eqb-true, eq-eqb}
use Rattle.std.proofs.lemmas.List.{get_or-map}
use Rattle.std.proofs.lemmas.Option.{slice_get-get_or, get_or_from_slice_get, slice_get_within}
use Rattle.diagram_arena.specs.Table.{Word}
use Rattle.set_meaning.specs.declared.kinds.Kind.{Kind}
use Rattle.set_meaning.specs.declared.kinds.Kind.TheVariants as kind
use Rattle.set_meaning.specs.declared.kinds.Value.{Value}
use Rattle.set_meaning.specs.declared.kinds.Value.TheVariants as value
use Rattle.set_meaning.specs.declared.problems.VarId.{VarId}
use Rattle.set_meaning.specs.declared.problems.Term.{Term}
use Rattle.set_meaning.specs.declared.problems.Term.TheVariants.{Const, Var}
use Rattle.set_meaning.specs.Kinds.{InKind, IsSetWithin}
use Rattle.set_meaning.specs.Sets.{Has, IsAscending, IsSubset}
use Rattle.set_meaning.specs.Arguments.{set_in, set_of_term}
use Rattle.bit_layout.specs.declared.places.Place.{Place}
use Rattle.bit_layout.specs.Words.{lists, IsValueOf}
use Rattle.bit_layout.specs.Order.{LayoutState, IsLayout, IsPlace, element_at, width_at, bit_at}
use Rattle.bit_layout.proofs.Elements.{listed_is_in}
use Rattle.bit_layout.proofs.Finding.{bit_stands, stands_cases, kind_of_place, member_at, same_kind}
use Rattle.bit_layout.proofs.ValuesAt.{width_is}
use Rattle.scope_words.specs.Words.{read, Gives, AreBitsOf}
use Rattle.scope_words.proofs.Bits.{place_within, bit_is_of}
use Rattle.scope_words.proofs.Words.{value_given, read-at}
use Rattle.element_machine.specs.declared.marks.Marks.{Marks}
use Rattle.element_machine.specs.Rules.{joined}
use Rattle.element_machine.specs.Reading.{marked, elements_from}
use Rattle.set_shapes.specs.declared.operands.Operands.{Operands}
use Rattle.set_shapes.specs.Operands.{IsTermOf, constant_has, constant_marks}
use Rattle.set_shapes.specs.Tables.{number_of, number_at, entries_of, marks_in}
use Rattle.set_shapes.proofs.Numbers.{not_true, number_stands, number_is}
use Rattle.set_shapes.proofs.PassedTests.{same_truth}
use Rattle.set_shapes.proofs.Linking.{IsSide, Stand, marked_sound, marked_whole}

-- ---- the set of a variable under a word

-- at the bits of the set variable y, over the universe u, the word has the set s
pub record IsSetAt (l : LayoutState) (y : VarId) (w : Word) (u s : List ℤ) : Type 0 where
  pub kind_is : slice_get l.kinds y.0 ≡ Some (kind.Set u)
  pub is_value : IsSetWithin u s
  pub is_read : map (lists s) u ≡ read l y w

set_kind : (k : Kind) (s : List ℤ) → InKind k (value.Set s) → (u : List ℤ) × (k ≡ kind.Set u) × IsSetWithin u s
unfolding InKind
set_kind kind.Bool s h = absurd h
set_kind (kind.Int numbers) s h = absurd h
set_kind (kind.Set u) s h = (u, refl, h)

set_value : (x : Value) (s : List ℤ) → set_in x ≡ Some s → x ≡ value.Set s
set_value (value.Bool b) s e = absurd (let f : None ≡ Some s = e in cc)
set_value (value.Int n) s e = absurd (let f : None ≡ Some s = e in cc)
set_value (value.Set r) s e = let f : Some r ≡ Some s = e in let g : r ≡ s = cc in ap value.Set g

pub set_at : (l : LayoutState) (scope : List VarId) (values : List Value) (w : Word) (y : VarId) (s : List ℤ) → Gives l scope values w → Contains scope y → set_of_term values (Var y) ≡ Some s → (u : List ℤ) × IsSetAt l y w u s
set_at l scope values w y s given h e =
    let r = value_given l values y (read l y w) (given y h) in
    let same : set_in r.0 ≡ Some s = sym (ap (option_and_then set_in) r.2) ∙ e in
    let x : r.0 ≡ value.Set s = set_value r.0 s same in
    let of_set : IsValueOf r.1 (read l y w) (value.Set s) = subst (IsValueOf r.1 (read l y w)) x r.4 in
    let k = set_kind r.1 s of_set.in_kind in
    let also : IsValueOf (kind.Set k.0) (read l y w) (value.Set s) = let P : Kind → Type 0 = λ z. IsValueOf z (read l y w) (value.Set s) in subst P k.1 of_set in
    (k.0, record { kind_is = r.3 ∙ ap Some k.1; is_value = k.2; is_read = also.is_word })

same_id : (y v : VarId) → y.0 ≡ v.0 → y ≡ v
same_id y v e = let id : ℕ → VarId = λ n. record { 0 = n } in ap id e

-- a place of the variable, and its element
place_element : (l : LayoutState) (y : VarId) (w : Word) (u s : List ℤ) (b : ℕ) (p : Place) (x : ℤ) → IsLayout l → IsSetAt l y w u s → slice_get l.places b ≡ Some p → p.variable ≡ y → p.element ≡ Some x → w b ≡ lists s x
place_element l y w u s b p x ok is at mine element =
    let within = place_within l b p ok at in
    let inside = slice_get_within l.places b p at in
    let here = get_or_from_slice_get l.places b p p at in
    let known : IsPlace l.kinds p = subst (IsPlace l.kinds) here (member_at l.kinds l.places b p ok.order inside) in
    let k = kind_of_place l.kinds p known in
    let id : p.variable.0 ≡ y.0 = ap (λ (v : VarId). v.0) mine in
    let of_set : k.0 ≡ kind.Set u = same_kind l.kinds p.variable.0 y.0 k.0 (kind.Set u) id k.1 is.kind_is in
    let found : slice_get u p.position ≡ Some x = sym (k.3 ∙ ap (λ z. element_at z p.position) of_set) ∙ element in
    let stands : get_or u p.position x ≡ x = get_or_from_slice_get u p.position x x found in
    let low : p.position < length u = slice_get_within u p.position x found in
    let width : p.position < width_at l y = let P : VarId → Type 0 = λ v. p.position < width_at l v in subst P mine within.0 in
    let bit : bit_at l y p.position ≡ b = ap (λ v. bit_at l v p.position) (sym mine) ∙ within.1 in
    ap w (sym bit) ∙ sym (read-at l y w p.position false width) ∙ ap (λ bs. get_or bs p.position false) (sym is.is_read)
    ∙ get_or-map (lists s) u p.position x false low ∙ ap (lists s) stands

-- each element of the universe has a bit
element_place : (l : LayoutState) (scope : List VarId) (bits : List ℕ) (y : VarId) (w : Word) (u s : List ℤ) (x : ℤ) → IsLayout l → AreBitsOf l scope bits → Contains scope y → IsSetAt l y w u s → Contains u x
    → (b : ℕ) × (p : Place) × Contains bits b × (slice_get l.places b ≡ Some p) × (p.variable ≡ y) × (p.element ≡ Some x)
element_place l scope bits y w u s x ok are mine is h =
    let i : ℕ = h.0 in
    let width : width_at l y ≡ length u = width_is l y (kind.Set u) is.kind_is in
    let low : i < length u = h.1 in
    let within : i < width_at l y = omega (arith, width, low) in
    let r = stands_cases l (bit_at l y i) y i (bit_stands l y i ok.order within) in
    let p : Place = r.0 in
    let inside = slice_get_within l.places (bit_at l y i) p r.1 in
    let here = get_or_from_slice_get l.places (bit_at l y i) p p r.1 in
    let known : IsPlace l.kinds p = subst (IsPlace l.kinds) here (member_at l.kinds l.places (bit_at l y i) p ok.order inside) in
    let k = kind_of_place l.kinds p known in
    let id : p.variable.0 ≡ y.0 = ap (λ (v : VarId). v.0) r.2 in
    let of_set : k.0 ≡ kind.Set u = same_kind l.kinds p.variable.0 y.0 k.0 (kind.Set u) id k.1 is.kind_is in (
      bit_at l y i,
      p,
      (are.members (bit_at l y i)).1 (bit_is_of l scope y i ok mine within),
      r.1,
      r.2,
      k.3 ∙ ap (λ z. element_at z p.position) of_set ∙ ap (slice_get u) r.3 ∙ slice_get-get_or u i x low ∙ ap Some h.2,
    )

-- ---- one side

-- the element of a bit's place, of which it is known that it is listed
pub record AreElements (elements : List ℤ) (l : LayoutState) (bits : List ℕ) : Type 0 where
  pub ascending : IsAscending elements
  pub listed : (b : ℕ) (p : Place) → Contains bits b → slice_get l.places b ≡ Some p → (x : ℤ) × (p.element ≡ Some x) × Has elements x

pub number_is_at : (elements : List ℤ) (p : Place) (x : ℤ) → p.element ≡ Some x → number_at elements p ≡ number_of elements x
number_is_at elements p x e = ap (λ o. option_map_or (number_of elements) o 0) e

side_of_constant : (l : LayoutState) (o : Operands) (v : Value) (side : Marks → Bool) (elements : List ℤ) (bits : List ℕ) (ps : List Place) (w : Word) (values : List Value) (s : List ℤ) (x : ℤ) (j : ℕ)
    → IsSide o (Const v) side → Stand l bits ps → set_of_term values (Const v) ≡ Some s → side (joined (marked (entries_of o elements ps) bits w j) (constant_marks o x)) ≡ lists s x
side_of_constant l o v side elements bits ps w values s x j is stand e =
    let none : side (marked (entries_of o elements ps) bits w j) ≡ false = not_true (side (marked (entries_of o elements ps) bits w j)) (λ t.
    let r = marked_sound l o (Const v) side elements bits ps w j is stand t in let f : false ≡ true = r.variable in cc) in
    let set : v ≡ value.Set s = set_value v s e in
    is.joins (marked (entries_of o elements ps) bits w j) (constant_marks o x) ∙ ap (λ b. b || side (constant_marks o x)) none ∙ is.by_constant x ∙ ap (λ z. constant_has (Const z) x) set

or_false : (a : Bool) → (a || false) ≡ a
or_false true = refl
or_false false = refl

side_of_variable : (l : LayoutState) (scope : List VarId) (o : Operands) (y : VarId) (side : Marks → Bool) (elements : List ℤ) (bits : List ℕ) (ps : List Place) (w : Word) (u s : List ℤ) (x : ℤ) (j : ℕ)
    → IsLayout l → AreBitsOf l scope bits → Contains scope y → AreElements elements l bits → IsSetAt l y w u s → j < length elements → get_or elements j x ≡ x
    → IsSide o (Var y) side → Stand l bits ps → side (joined (marked (entries_of o elements ps) bits w j) (constant_marks o x)) ≡ lists s x
unfolding Has IsSubset
side_of_variable l scope o y side elements bits ps w u s x j ok are mine known set within at is stand =
    let m : Marks = marked (entries_of o elements ps) bits w j in
    let number : number_of elements x ≡ j = number_is elements x j known.ascending within at in
    is.joins m (constant_marks o x) ∙ ap (λ b. side m || b) (is.by_constant x) ∙ or_false (side m)
    ∙ same_truth (side m) (lists s x)
    (λ t.
    let r = marked_sound l o (Var y) side elements bits ps w j is stand t in
    let e = known.listed r.bit r.place r.listed r.at in
    let here = number_stands elements e.0 known.ascending e.2 in
    let places : number_of elements e.0 ≡ j = sym (number_is_at elements r.place e.0 e.1) ∙ r.number in
    let there : get_or elements j e.0 ≡ e.0 = ap (λ k. get_or elements k e.0) (sym places) ∙ here.1 in
    let same : e.0 ≡ x = let f : Some e.0 ≡ Some x = sym (slice_get-get_or elements j e.0 within ∙ ap Some there) ∙ slice_get-get_or elements j x within ∙ ap Some at in cc in
    let variable : r.place.variable ≡ y = sym (same_id y r.place.variable (eqb-true y.0 r.place.variable.0 r.variable)) in
    sym (place_element l y w u s r.bit r.place x ok set r.at variable (e.1 ∙ ap Some same)) ∙ r.on)
    (λ t.
    let r = element_place l scope bits y w u s x ok are mine set (set.is_value.within x (listed_is_in s x t)) in
    marked_whole l o (Var y) side elements bits ps w j r.0 r.1 is stand r.2 r.3 (number_is_at elements r.1 x r.5 ∙ number)
    (eq-eqb y.0 r.1.variable.0 (ap (λ (v : VarId). v.0) (sym r.4)))
    (place_element l y w u s r.0 r.1 x ok set r.3 r.4 r.5 ∙ t))

pub side_is : (l : LayoutState) (scope : List VarId) (o : Operands) (t : Term) (side : Marks → Bool) (elements : List ℤ) (bits : List ℕ) (ps : List Place) (w : Word) (values : List Value) (s : List ℤ) (x : ℤ) (j : ℕ)
    → IsLayout l → AreBitsOf l scope bits → AreElements elements l bits → Gives l scope values w → IsTermOf scope t → set_of_term values t ≡ Some s → j < length elements → get_or elements j x ≡ x → IsSide o t side → Stand l bits ps
    → side (joined (marked (entries_of o elements ps) bits w j) (constant_marks o x)) ≡ lists s x
side_is l scope o (Const v) side elements bits ps w values s x j ok are known given mine e within at is stand = side_of_constant l o v side elements bits ps w values s x j is stand e
side_is l scope o (Var y) side elements bits ps w values s x j ok are known given mine e within at is stand =
    let set = set_at l scope values w y s given mine e in
    side_of_variable l scope o y side elements bits ps w set.0 s x j ok are mine known set.1 within at is stand

-- ---- all sides of all elements

pub first_side : (o : Operands) → IsSide o o.first (λ m. m.first)
first_side o = record { joins = λ m n. refl; none = refl; by_variable = λ v. refl; by_constant = λ x. refl }

pub second_side : (o : Operands) → IsSide o o.second (λ m. m.second)
second_side o = record { joins = λ m n. refl; none = refl; by_variable = λ v. refl; by_constant = λ x. refl }

pub third_side : (o : Operands) → IsSide o o.third (λ m. m.third)
third_side o = record { joins = λ m n. refl; none = refl; by_variable = λ v. refl; by_constant = λ x. refl }

elements_are : (g : ℕ → Marks) (f h : ℤ → Marks) (j : ℕ) (xs : List ℤ) → ((i : ℕ) (x : ℤ) → i < length xs → get_or xs i x ≡ x → joined (g (j + i)) (f x) ≡ h x) → elements_from g j (map f xs) ≡ map h xs
elements_are g f h j [] same = refl
elements_are g f h j (x ∷ xs) same =
    let at : j + 0 ≡ j = omega arith in
    let first : joined (g j) (f x) ≡ h x = ap (λ n. joined (g n) (f x)) (sym at) ∙ same 0 x (omega arith) refl in
    let rest : elements_from g (j + 1) (map f xs) ≡ map h xs = elements_are g f h (j + 1) xs (λ i y within there.
    let next : (j + 1) + i ≡ j + suc i = omega arith in
    ap (λ n. joined (g n) (f y)) next ∙ same (suc i) y (omega (arith, within)) there) in
    λ k. first k ∷ rest k

-- under a word that gives values, the bits and the constants say which sets have each element
pub elements_given : (l : LayoutState) (scope : List VarId) (o : Operands) (elements : List ℤ) (bits : List ℕ) (ps : List Place) (w : Word) (values : List Value) (a b c : List ℤ)
    → IsLayout l → AreBitsOf l scope bits → AreElements elements l bits → Stand l bits ps → Gives l scope values w → IsTermOf scope o.first → IsTermOf scope o.second → IsTermOf scope o.third
    → set_of_term values o.first ≡ Some a → set_of_term values o.second ≡ Some b → set_of_term values o.third ≡ Some c
    → elements_from (marked (entries_of o elements ps) bits w) 0 (map (constant_marks o) elements) ≡ map (marks_in a b c) elements
elements_given l scope o elements bits ps w values a b c ok are known stand given first second third p q r =
    elements_are (marked (entries_of o elements ps) bits w) (constant_marks o) (marks_in a b c) 0 elements (λ i x within at.
    let zero_and : 0 + i ≡ i = omega arith in
    let f = side_is l scope o o.first (λ m. m.first) elements bits ps w values a x i ok are known given first p within at (first_side o) stand in
    let g = side_is l scope o o.second (λ m. m.second) elements bits ps w values b x i ok are known given second q within at (second_side o) stand in
    let h = side_is l scope o o.third (λ m. m.third) elements bits ps w values c x i ok are known given third r within at (third_side o) stand in
    ap (λ n. joined (marked (entries_of o elements ps) bits w n) (constant_marks o x)) zero_and
    ∙ (λ k. record { first = f k; second = g k; third = h k }))
