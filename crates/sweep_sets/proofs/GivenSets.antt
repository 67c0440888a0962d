-- The sets that an assignment gives, by the bits of places and the constants.
use Rattle.std.proofs.Common.{◌≡◌, ◌⊎◌, ℕ, suc, ◌+◌, ◌<◌, eqb, Bool, true, false, ◌||◌, ◌&&◌, ℤ, List, [], ◌∷◌, ◌++◌, length, get_or, map, Some, None, refl, sym, ap, ◌∙◌, subst, inl, inr, arith, Contains}
use Rattle.std.specs.Prelude.{filter_map}
use Rattle.std.specs.Option.{option_map_or}
use Rattle.std.proofs.lemmas.Bool.{and_parts, eqb-true, eq-eqb}
use Rattle.std.proofs.lemmas.List.Elements.{Contains-append_left, Contains-append_right}
use Rattle.std.proofs.lemmas.Option.{slice_get-get_or}
use Rattle.set_meaning.specs.declared.kinds.Value.{Value}
use Rattle.set_meaning.specs.declared.problems.VarId.{VarId}
use Rattle.set_meaning.specs.Sets.{Has, IsAscending, IsSetOf}
use Rattle.bit_layout.specs.declared.places.Place.{Place}
use Rattle.bit_layout.specs.Words.{lists}
use Rattle.bit_layout.proofs.Elements.{listed_is_in}
use Rattle.bit_layout.proofs.Rising.{nothing_in_empty, in_cons, in_head, in_tail}
use Rattle.sweep_rules.specs.SetPlaces.{set_bit}
use Rattle.sweep_sets.specs.declared.marks.Marks.{Marks}
use Rattle.sweep_sets.specs.declared.operands.Operand.{Operand}
use Rattle.sweep_sets.specs.declared.operands.Operands.{Operands}
use Rattle.sweep_sets.specs.Rules.{unmarked, joined, when, marks_in}
use Rattle.sweep_sets.specs.Reading.{marked, elements_from, elements_of}
use Rattle.sweep_sets.specs.Operands.{is_variable, constant_marks, variable_marks}
use Rattle.sweep_sets.specs.Tables.{all_elements, number_of, number_at, entries_of}
use Rattle.sweep_sets.proofs.Truth.{not_true, same_truth, or_cases, or_right}
use Rattle.sweep_sets.proofs.Numbers.{number_stands, number_is}
use Rattle.sweep_sets.proofs.Grouping.{IsListed, number_is_at, in_places}
use Rattle.sweep_sets.proofs.Deciding.{AreListed}

-- ---- one of the sets

-- one of the three sets: its operand, and its mark
pub record IsSide (o : Operands) (t : Operand) (side : Marks → Bool) : Type 0 where
  pub joins : (m n : Marks) → side (joined m n) ≡ (side m || side n)
  pub none : side unmarked ≡ false
  pub by_variable : (v : VarId) → side (variable_marks o v) ≡ is_variable t v
  pub by_constant : (x : ℤ) → side (constant_marks o x) ≡ lists t.constant.now x

pub first_side : (o : Operands) → IsSide o o.first (λ m. m.first)
first_side o = record { joins = λ m n. refl; none = refl; by_variable = λ v. refl; by_constant = λ x. refl }

pub second_side : (o : Operands) → IsSide o o.second (λ m. m.second)
second_side o = record { joins = λ m n. refl; none = refl; by_variable = λ v. refl; by_constant = λ x. refl }

pub third_side : (o : Operands) → IsSide o o.third (λ m. m.third)
third_side o = record { joins = λ m n. refl; none = refl; by_variable = λ v. refl; by_constant = λ x. refl }

-- the operand is a constant, this set
pub record IsConstantSet (t : Operand) (s : List ℤ) : Type 0 where
  pub constant : t.constant.now ≡ s
  pub no_variable : t.variable ≡ None

-- the operand is a variable, which has this set: its bits say so
pub record IsVariableSet (values : List Value) (ps : List Place) (t : Operand) (s : List ℤ) : Type 0 where
  pub variable : VarId
  pub is : t.variable ≡ Some variable
  pub no_constant : t.constant.now ≡ []
  pub bits : (p : Place) (x : ℤ) → p.variable ≡ variable → p.element ≡ Some x → set_bit values p ≡ lists s x
  pub places : (x : ℤ) → Contains s x → (p : Place) × Contains ps p × (p.variable ≡ variable) × (p.element ≡ Some x)

abbrev pub IsGivenSet : List Value → List Place → Operand → List ℤ → Type 0
IsGivenSet values ps t s = IsConstantSet t s ⊎ IsVariableSet values ps t s

-- ---- what the bits mark

-- a place whose bit marks the element number j
record Marks_it (elements : List ℤ) (values : List Value) (ps : List Place) (t : Operand) (j : ℕ) : Type 0 where
  pub place : Place
  pub listed : Contains ps place
  pub number : number_at elements place ≡ j
  pub variable : is_variable t place.variable ≡ true
  pub on : set_bit values place ≡ true

when_true : (side : Marks → Bool) (v : Bool) (m : Marks) → side unmarked ≡ false → side (when v m) ≡ true → (v ≡ true) × (side m ≡ true)
when_true side true m none h = (refl, h)
when_true side false m none h = absurd (let e : false ≡ true = sym none ∙ h in cc)

-- into which sets the bits of these places put the element number j
abbrev marks_at : Operands → List ℤ → List Value → List Place → ℕ → Marks
marks_at o elements values ps j = marked (entries_of o elements ps) (map (set_bit values) ps) j

marked_sound : (o : Operands) (t : Operand) (side : Marks → Bool) (elements : List ℤ) (values : List Value) (ps : List Place) (j : ℕ) → IsSide o t side → side (marks_at o elements values ps j) ≡ true → Marks_it elements values ps t j
marked_sound o t side elements values [] j is h = absurd (let e : false ≡ true = sym is.none ∙ h in cc)
marked_sound o t side elements values (p ∷ ps) j is h =
    let here : Bool = eqb (number_at elements p) j && set_bit values p in
    let rest : Marks = marks_at o elements values ps j in
    elim (or_cases (side (when here (variable_marks o p.variable))) (side rest) (sym (is.joins (when here (variable_marks o p.variable)) rest) ∙ h)) [
      | inl first ↦
          let r = when_true side here (variable_marks o p.variable) is.none first in
          let parts = and_parts (eqb (number_at elements p) j) (set_bit values p) r.0 in
          record {
            place = p;
            listed = in_head p ps;
            number = eqb-true (number_at elements p) j parts.0;
            variable = sym (is.by_variable p.variable) ∙ r.1;
            on = parts.1;
          }
      | inr later ↦
          let r = marked_sound o t side elements values ps j is later in
          record { place = r.place; listed = in_tail p ps r.place r.listed; number = r.number; variable = r.variable; on = r.on }
    ]

marked_whole : (o : Operands) (t : Operand) (side : Marks → Bool) (elements : List ℤ) (values : List Value) (ps : List Place) (j : ℕ) (p : Place) → IsSide o t side
    → Contains ps p → number_at elements p ≡ j → is_variable t p.variable ≡ true → set_bit values p ≡ true → side (marks_at o elements values ps j) ≡ true
marked_whole o t side elements values [] j p is h number variable on = absurd (nothing_in_empty p h)
marked_whole o t side elements values (q ∷ ps) j p is h number variable on =
    let here : Bool = eqb (number_at elements q) j && set_bit values q in
    let rest : Marks = marks_at o elements values ps j in
    is.joins (when here (variable_marks o q.variable)) rest
    ∙ elim (in_cons q ps p h) [
      | inl one ↦
          let first : eqb (number_at elements q) j ≡ true = eq-eqb (number_at elements q) j (ap (number_at elements) one ∙ number) in
          let second : set_bit values q ≡ true = ap (set_bit values) one ∙ on in
          let both : here ≡ true = ap (λ x. x && set_bit values q) first ∙ second in
          let mark : side (when here (variable_marks o q.variable)) ≡ true =
          ap (λ x. side (when x (variable_marks o q.variable))) both ∙ is.by_variable q.variable ∙ ap (λ (r : Place). is_variable t r.variable) one ∙ variable in
          ap (λ x. x || side rest) mark
      | inr later ↦ or_right (side (when here (variable_marks o q.variable))) (side rest) (marked_whole o t side elements values ps j p is later number variable on)
    ]

-- ---- one side

or_false : (a : Bool) → (a || false) ≡ a
or_false true = refl
or_false false = refl

is_no_variable : (t : Operand) (v : VarId) → t.variable ≡ None → is_variable t v ≡ false
is_no_variable t v e = ap (λ o. option_map_or (λ (own : VarId). eqb own.0 v.0) o false) e

is_the_variable : (t : Operand) (y v : VarId) → t.variable ≡ Some y → is_variable t v ≡ eqb y.0 v.0
is_the_variable t y v e = ap (λ o. option_map_or (λ (own : VarId). eqb own.0 v.0) o false) e

same_id : (y v : VarId) → y.0 ≡ v.0 → y ≡ v
same_id y v e = let id : ℕ → VarId = λ n. record { 0 = n } in ap id e

side_of_constant : (o : Operands) (t : Operand) (side : Marks → Bool) (elements : List ℤ) (values : List Value) (ps : List Place) (s : List ℤ) (x : ℤ) (j : ℕ) → IsSide o t side → IsConstantSet t s
    → side (joined (marks_at o elements values ps j) (constant_marks o x)) ≡ lists s x
side_of_constant o t side elements values ps s x j is of =
    let m : Marks = marks_at o elements values ps j in
    let none : side m ≡ false = not_true (side m) (λ h.
    let r = marked_sound o t side elements values ps j is h in
    let f : false ≡ true = sym (is_no_variable t r.place.variable of.no_variable) ∙ r.variable in cc) in
    is.joins m (constant_marks o x) ∙ ap (λ b. b || side (constant_marks o x)) none ∙ is.by_constant x ∙ ap (λ z. lists z x) of.constant

side_of_variable : (o : Operands) (t : Operand) (side : Marks → Bool) (elements : List ℤ) (values : List Value) (ps : List Place) (s : List ℤ) (x : ℤ) (j : ℕ) → IsSide o t side → IsVariableSet values ps t s
    → IsAscending elements → ((p : Place) → Contains ps p → IsListed elements p) → j < length elements → get_or elements j x ≡ x
    → side (joined (marks_at o elements values ps j) (constant_marks o x)) ≡ lists s x
side_of_variable o t side elements values ps s x j is of up known within at =
    let m : Marks = marks_at o elements values ps j in
    let number : number_of elements x ≡ j = number_is elements x j up within at in
    is.joins m (constant_marks o x) ∙ ap (λ b. side m || b) (is.by_constant x ∙ ap (λ z. lists z x) of.no_constant) ∙ or_false (side m)
    ∙ same_truth (side m) (lists s x)
    (λ h.
    let r = marked_sound o t side elements values ps j is h in
    let e = known r.place r.listed in
    let here = number_stands elements e.0 up e.2 in
    let one : number_of elements e.0 ≡ j = sym (number_is_at elements r.place e.0 e.1) ∙ r.number in
    let there : get_or elements j e.0 ≡ e.0 = ap (λ k. get_or elements k e.0) (sym one) ∙ here.1 in
    let same : e.0 ≡ x = let f : Some e.0 ≡ Some x = sym (slice_get-get_or elements j e.0 within ∙ ap Some there) ∙ slice_get-get_or elements j x within ∙ ap Some at in cc in
    let variable : r.place.variable ≡ of.variable = sym (same_id of.variable r.place.variable (eqb-true of.variable.0 r.place.variable.0 (sym (is_the_variable t of.variable r.place.variable of.is) ∙ r.variable))) in
    sym (of.bits r.place x variable (e.1 ∙ ap Some same)) ∙ r.on)
    (λ h.
    let r = of.places x (listed_is_in s x h) in
    marked_whole o t side elements values ps j r.0 is r.1 (number_is_at elements r.0 x r.3 ∙ number)
    (is_the_variable t of.variable r.0.variable of.is ∙ eq-eqb of.variable.0 r.0.variable.0 (ap (λ (v : VarId). v.0) (sym r.2)))
    (of.bits r.0 x r.2 r.3 ∙ h))

side_is : (o : Operands) (t : Operand) (side : Marks → Bool) (elements : List ℤ) (values : List Value) (ps : List Place) (s : List ℤ) (x : ℤ) (j : ℕ) → IsSide o t side → IsGivenSet values ps t s
    → IsAscending elements → ((p : Place) → Contains ps p → IsListed elements p) → j < length elements → get_or elements j x ≡ x
    → side (joined (marks_at o elements values ps j) (constant_marks o x)) ≡ lists s x
side_is o t side elements values ps s x j is given up known within at =
    elim given [
      | inl of ↦ side_of_constant o t side elements values ps s x j is of
      | inr of ↦ side_of_variable o t side elements values ps s x j is of up known within at
    ]

-- ---- all elements

elements_are : (g : ℕ → Marks) (f h : ℤ → Marks) (j : ℕ) (xs : List ℤ) → ((i : ℕ) (x : ℤ) → i < length xs → get_or xs i x ≡ x → joined (g (j + i)) (f x) ≡ h x) → elements_from g j (map f xs) ≡ map h xs
elements_are g f h j [] same = refl
elements_are g f h j (x ∷ xs) same =
    let at : j + 0 ≡ j = omega arith in
    let first : joined (g j) (f x) ≡ h x = ap (λ n. joined (g n) (f x)) (sym at) ∙ same 0 x (omega arith) refl in
    let rest : elements_from g (j + 1) (map f xs) ≡ map h xs = elements_are g f h (j + 1) xs (λ i y within there.
    let next : (j + 1) + i ≡ j + suc i = omega arith in
    ap (λ n. joined (g n) (f y)) next ∙ same (suc i) y (omega (arith, within)) there) in
    λ k. first k ∷ rest k

-- the bits and the constants say which sets have each element
pub elements_given : (o : Operands) (elements : List ℤ) (values : List Value) (ps : List Place) (a b c : List ℤ) → IsAscending elements → ((p : Place) → Contains ps p → IsListed elements p)
    → IsGivenSet values ps o.first a → IsGivenSet values ps o.second b → IsGivenSet values ps o.third c
    → elements_of (map (constant_marks o) elements) (entries_of o elements ps) (map (set_bit values) ps) ≡ map (marks_in a b c) elements
elements_given o elements values ps a b c up known p q r =
    elements_are (marks_at o elements values ps) (constant_marks o) (marks_in a b c) 0 elements (λ i x within at.
    let zero_and : 0 + i ≡ i = omega arith in
    let f = side_is o o.first (λ m. m.first) elements values ps a x i (first_side o) p up known within at in
    let g = side_is o o.second (λ m. m.second) elements values ps b x i (second_side o) q up known within at in
    let h = side_is o o.third (λ m. m.third) elements values ps c x i (third_side o) r up known within at in
    ap (λ n. joined (marks_at o elements values ps n) (constant_marks o x)) zero_and
    ∙ (λ k. record { first = f k; second = g k; third = h k }))

-- ---- each element of the sets is listed

abbrev constants_among : Operands → List ℤ
constants_among o = o.first.constant.now ++ (o.second.constant.now ++ o.third.constant.now)

set_listed : (o : Operands) (t : Operand) (elements : List ℤ) (values : List Value) (ps : List Place) (s : List ℤ) → IsSetOf (all_elements o ps) elements → IsGivenSet values ps t s
    → ((x : ℤ) → Contains t.constant.now x → Contains (constants_among o) x) → (x : ℤ) → Contains s x → Contains elements x
unfolding Has
set_listed o t elements values ps s are given among x h =
    let placed : List ℤ = filter_map (λ (q : Place). q.element) ps in
    elim given [
      | inl of ↦ (are.members x).1 (Contains-append_right placed (constants_among o) x (among x (subst (λ z. Contains z x) (sym of.constant) h)))
      | inr of ↦ let r = of.places x h in (are.members x).1 (Contains-append_left placed (constants_among o) x (in_places ps r.0 x r.1 r.3))
    ]

pub sets_listed : (o : Operands) (elements : List ℤ) (values : List Value) (ps : List Place) (a b c : List ℤ) → IsSetOf (all_elements o ps) elements
    → IsGivenSet values ps o.first a → IsGivenSet values ps o.second b → IsGivenSet values ps o.third c → AreListed elements a b c
sets_listed o elements values ps a b c are p q r =
    let f = o.first.constant.now in
    let g = o.second.constant.now in
    let h = o.third.constant.now in record {
      first = set_listed o o.first elements values ps a are p (λ x k. Contains-append_left f (g ++ h) x k);
      second = set_listed o o.second elements values ps b are q (λ x k. Contains-append_right f (g ++ h) x (Contains-append_left g h x k));
      third = set_listed o o.third elements values ps c are r (λ x k. Contains-append_right f (g ++ h) x (Contains-append_right g h x k));
    }
