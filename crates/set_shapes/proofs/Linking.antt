-- From the bits of a word to the elements of the sets that it gives.
use Rattle.std.proofs.Common.{◌≡◌, ◌⊎◌, ℕ, eqb, Bool, true, false, ◌||◌, ◌&&◌, ℤ, List, [], ◌∷◌, Some, refl, sym, ap, ◌∙◌, inl, inr, Contains}
use Rattle.std.specs.Prelude.{slice_get}
use Rattle.std.specs.List.{AllZip}
use Rattle.std.proofs.lemmas.Bool.{and_parts, eqb-true, eq-eqb}
use Rattle.diagram_arena.specs.Table.{Word}
use Rattle.set_meaning.specs.declared.problems.VarId.{VarId}
use Rattle.set_meaning.specs.declared.problems.Term.{Term}
use Rattle.bit_layout.specs.declared.places.Place.{Place}
use Rattle.bit_layout.specs.Order.{LayoutState}
use Rattle.bit_layout.proofs.Rising.{nothing_in_empty, in_cons}
use Rattle.element_machine.specs.declared.marks.Marks.{Marks}
use Rattle.element_machine.specs.Rules.{unmarked, joined, when}
use Rattle.element_machine.specs.Reading.{marked}
use Rattle.set_shapes.specs.declared.operands.Operands.{Operands}
use Rattle.set_shapes.specs.Operands.{constant_has, is_variable, constant_marks, variable_marks}
use Rattle.set_shapes.specs.Tables.{number_at, entries_of}

-- one of the three sets: its term, and its mark
pub record IsSide (o : Operands) (t : Term) (side : Marks → Bool) : Type 0 where
  pub joins : (m n : Marks) → side (joined m n) ≡ (side m || side n)
  pub none : side unmarked ≡ false
  pub by_variable : (v : VarId) → side (variable_marks o v) ≡ is_variable t v
  pub by_constant : (x : ℤ) → side (constant_marks o x) ≡ constant_has t x

-- bits and their places
abbrev pub Stand : LayoutState → List ℕ → List Place → Type 0
Stand l bs ps = AllZip (λ bit p. slice_get l.places bit ≡ Some p) bs ps

-- ---- what a word marks

-- a bit that marks the element number j
pub record Marks_it (l : LayoutState) (elements : List ℤ) (bs : List ℕ) (w : Word) (t : Term) (j : ℕ) : Type 0 where
  pub bit : ℕ
  pub place : Place
  pub at : slice_get l.places bit ≡ Some place
  pub listed : Contains bs bit
  pub number : number_at elements place ≡ j
  pub variable : is_variable t place.variable ≡ true
  pub on : w bit ≡ true

or_cases : (a b : Bool) → (a || b) ≡ true → (a ≡ true) ⊎ (b ≡ true)
or_cases true b h = inl refl
or_cases false b h = inr h

or_right : (a b : Bool) → b ≡ true → (a || b) ≡ true
or_right true b h = refl
or_right false b h = h

when_true : (side : Marks → Bool) (v : Bool) (m : Marks) → side unmarked ≡ false → side (when v m) ≡ true → (v ≡ true) × (side m ≡ true)
when_true side true m none h = (refl, h)
when_true side false m none h = absurd (let e : false ≡ true = sym none ∙ h in cc)

in_tail_of : {X : Type 0} (y : X) (ys : List X) (x : X) → Contains ys x → Contains (y ∷ ys) x
in_tail_of y ys x h = Rattle.bit_layout.proofs.Rising.in_tail y ys x h

pub marked_sound : (l : LayoutState) (o : Operands) (t : Term) (side : Marks → Bool) (elements : List ℤ) (bs : List ℕ) (ps : List Place) (w : Word) (j : ℕ) → IsSide o t side → Stand l bs ps
    → side (marked (entries_of o elements ps) bs w j) ≡ true → Marks_it l elements bs w t j
marked_sound l o t side elements [] [] w j is stand h = absurd (let e : false ≡ true = sym is.none ∙ h in cc)
marked_sound l o t side elements [] (p ∷ ps) w j is stand h = absurd stand
marked_sound l o t side elements (b ∷ bs) [] w j is stand h = absurd stand
marked_sound l o t side elements (b ∷ bs) (p ∷ ps) w j is stand h =
    let here : Bool = eqb (number_at elements p) j && w b in
    let rest : Marks = marked (entries_of o elements ps) bs w j in
    elim (or_cases (side (when here (variable_marks o p.variable))) (side rest) (sym (is.joins (when here (variable_marks o p.variable)) rest) ∙ h)) [
      | inl first ↦
          let r = when_true side here (variable_marks o p.variable) is.none first in
          let parts = and_parts (eqb (number_at elements p) j) (w b) r.0 in
          record {
            bit = b;
            place = p;
            at = stand.0;
            listed = Rattle.bit_layout.proofs.Rising.in_head b bs;
            number = eqb-true (number_at elements p) j parts.0;
            variable = sym (is.by_variable p.variable) ∙ r.1;
            on = parts.1;
          }
      | inr later ↦
          let r = marked_sound l o t side elements bs ps w j is stand.1 later in
          record { bit = r.bit; place = r.place; at = r.at; listed = in_tail_of b bs r.bit r.listed; number = r.number; variable = r.variable; on = r.on }
    ]

pub marked_whole : (l : LayoutState) (o : Operands) (t : Term) (side : Marks → Bool) (elements : List ℤ) (bs : List ℕ) (ps : List Place) (w : Word) (j b : ℕ) (p : Place) → IsSide o t side → Stand l bs ps
    → Contains bs b → slice_get l.places b ≡ Some p → number_at elements p ≡ j → is_variable t p.variable ≡ true → w b ≡ true → side (marked (entries_of o elements ps) bs w j) ≡ true
marked_whole l o t side elements [] ps w j b p is stand h at number variable on = absurd (nothing_in_empty b h)
marked_whole l o t side elements (c ∷ bs) [] w j b p is stand h at number variable on = absurd stand
marked_whole l o t side elements (c ∷ bs) (q ∷ ps) w j b p is stand h at number variable on =
    let here : Bool = eqb (number_at elements q) j && w c in
    let rest : Marks = marked (entries_of o elements ps) bs w j in
    is.joins (when here (variable_marks o q.variable)) rest
    ∙ elim (in_cons c bs b h) [
      | inl same ↦
          let there : slice_get l.places c ≡ Some p = ap (slice_get l.places) same ∙ at in
          let one : q ≡ p = let e : Some q ≡ Some p = sym stand.0 ∙ there in cc in
          let first : eqb (number_at elements q) j ≡ true = eq-eqb (number_at elements q) j (ap (number_at elements) one ∙ number) in
          let second : w c ≡ true = ap w same ∙ on in
          let both : here ≡ true = ap (λ x. x && w c) first ∙ second in
          let mark : side (when here (variable_marks o q.variable)) ≡ true =
          ap (λ x. side (when x (variable_marks o q.variable))) both ∙ is.by_variable q.variable ∙ ap (λ (r : Place). is_variable t r.variable) one ∙ variable in
          ap (λ x. x || side rest) mark
      | inr later ↦ or_right (side (when here (variable_marks o q.variable))) (side rest) (marked_whole l o t side elements bs ps w j b p is stand.1 later at number variable on)
    ]
