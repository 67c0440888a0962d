-- What a table of bits accepts is what satisfies the relation.
use Rattle.std.proofs.Common.{◌≡◌, ℕ, Bool, true, false, ℤ, List, [], ◌∷◌, length, map, Option, Some, refl, sym, ap, ◌∙◌, subst, Contains}
use Rattle.std.specs.Prelude.{slice_get, option_and_then}
use Rattle.std.specs.Option.{option_map_or}
use Rattle.std.proofs.lemmas.List.{length-map}
use Rattle.diagram_arena.specs.Table.{Word}
use Rattle.bit_machine.specs.Rules.{accepts}
use Rattle.bit_machine.specs.Comparisons.{beq-true}
use Rattle.set_meaning.specs.declared.kinds.Kind.{Kind}
use Rattle.set_meaning.specs.declared.kinds.Kind.TheVariants as kind
use Rattle.set_meaning.specs.declared.kinds.Value.{Value}
use Rattle.set_meaning.specs.declared.kinds.Value.TheVariants as value
use Rattle.set_meaning.specs.declared.problems.VarId.{VarId}
use Rattle.set_meaning.specs.declared.problems.Term.{Term}
use Rattle.set_meaning.specs.declared.problems.Term.TheVariants.{Const, Var}
use Rattle.set_meaning.specs.declared.rows.Sort.TheVariants.{IntegerSet}
use Rattle.set_meaning.specs.Rows.{HasSort}
use Rattle.set_meaning.specs.Kinds.{InKind, IsSetWithin}
use Rattle.set_meaning.specs.Sets.{Has, IsAscending, IsSubset}
use Rattle.set_meaning.specs.Arguments.{set_in, set_of_term, OfThree}
use Rattle.bit_layout.specs.Order.{LayoutState, IsLayout}
use Rattle.bit_layout.proofs.Listing.{all_zip_long}
use Rattle.scope_words.specs.Words.{read, Gives, AreWordsOf}
use Rattle.scope_words.proofs.Words.{value_given}
use Rattle.scope_words.proofs.Decoding.{sets_given}
use Rattle.element_machine.specs.declared.marks.Marks.{Marks}
use Rattle.element_machine.specs.declared.marks.Entry.{Entry}
use Rattle.element_machine.specs.Rules.{ElementRules, after, accepts_elements}
use Rattle.element_machine.specs.Reading.{AreGrouped, by_elements, elements_of}
use Rattle.element_machine.proofs.Elements.{accepts-by_elements}
use Rattle.bit_layout.specs.declared.places.Place.{Place}
use Rattle.set_shapes.specs.declared.operands.Operands.{Operands}
use Rattle.set_shapes.specs.declared.tests_of_elements.ElementTest.{ElementTest}
use Rattle.set_shapes.specs.Tests.{all_pass}
use Rattle.set_shapes.specs.Operands.{IsTermOf, variables_of, universe_of, universe_of_kind, constant_marks}
use Rattle.set_shapes.specs.Tables.{AreSets, IsTable, entry_of, entries_of, marks_in}
use Rattle.set_shapes.proofs.Numbers.{not_true}
use Rattle.set_shapes.proofs.PassedTests.{Relates, AreListed, are_passing, relates, all_passing, after-all_pass, after-all_true, in_map, all_from_listed, beq_from}
use Rattle.set_shapes.proofs.Sides.{elements_given}
use Rattle.set_shapes.proofs.Scopes.{are_terms, variable_kind, universe_listed, scope_sets, listed_elements, entries_grouped}
use Rattle.bit_layout.proofs.Rising.{in_head, in_tail}

-- ---- acceptance as the relation

abbrev pub Wanted : ElementTest → Bool → List ℤ → List ℤ → List ℤ → Type 0
Wanted test true a b c = Relates test a b c
Wanted test false a b c = Relates test a b c → ⊥

accepted : (test : ElementTest) (wanted : Bool) (elements a b c : List ℤ) → AreListed elements a b c → IsAscending a → IsAscending b → accepts_elements (all_pass test wanted) (map (marks_in a b c) elements) ≡ true → Wanted test wanted a b c
accepted test true elements a b c listed p q h = relates test a b c p q ((are_passing test true elements a b c listed).to h)
accepted test false elements a b c listed p q h = λ r.
    let ms : List Marks = map (marks_in a b c) elements in
    let no : after (all_pass test false) true ms ≡ false = beq-true (after (all_pass test false) true ms) false h in
    let yes_all : after (all_pass test false) true ms ≡ true = after-all_true test false true ms refl (λ m k. let s = in_map (marks_in a b c) elements m k in ap (Rattle.set_shapes.specs.Tests.passes test) (sym s.2) ∙ all_passing test a b c r s.0) in
    let e : false ≡ true = sym no ∙ yes_all in cc

accepts_wanted : (test : ElementTest) (wanted : Bool) (elements a b c : List ℤ) → AreListed elements a b c → IsAscending a → IsAscending b → Wanted test wanted a b c → accepts_elements (all_pass test wanted) (map (marks_in a b c) elements) ≡ true
accepts_wanted test true elements a b c listed p q h = (are_passing test true elements a b c listed).from (all_passing test a b c h)
accepts_wanted test false elements a b c listed p q h =
    let ms : List Marks = map (marks_in a b c) elements in
    beq_from (after (all_pass test false) true ms) false (not_true (after (all_pass test false) true ms) (λ t.
    h (relates test a b c p q (all_from_listed test elements a b c listed (after-all_pass test false true ms t).1))))

-- ---- the sets of the terms

pub record HasSet (kinds : List Kind) (values : List Value) (t : Term) : Type 0 where
  pub set : List ℤ
  pub is : set_of_term values t ≡ Some set
  pub ascending : IsAscending set
  pub within : (x : ℤ) → Contains set x → Contains (universe_of kinds t) x

set_in_kind : (u : List ℤ) (x : Value) → InKind (kind.Set u) x → (s : List ℤ) × (x ≡ value.Set s) × IsSetWithin u s
unfolding InKind
set_in_kind u (value.Bool b) h = absurd h
set_in_kind u (value.Int n) h = absurd h
set_in_kind u (value.Set s) h = (s, refl, h)

pub term_set : (l : LayoutState) (scope : List VarId) (values : List Value) (w : Word) (t : Term) → Gives l scope values w → IsTermOf scope t → HasSort l.kinds IntegerSet t → HasSet l.kinds values t
unfolding IsSubset Has
term_set l scope values w (Const (value.Bool b)) given mine sort = absurd sort
term_set l scope values w (Const (value.Int n)) given mine sort = absurd sort
term_set l scope values w (Const (value.Set s)) given mine sort = record { set = s; is = refl; ascending = sort; within = λ x h. h }
term_set l scope values w (Var y) given mine sort =
    let u = variable_kind l.kinds y sort in
    let r = value_given l values y (read l y w) (given y mine) in
    let same : r.1 ≡ kind.Set u.0 = let e : Some r.1 ≡ Some (kind.Set u.0) = sym r.3 ∙ u.1 in cc in
    let inside : InKind (kind.Set u.0) r.0 = let P : Kind → Type 0 = λ k. InKind k r.0 in subst P same r.4.in_kind in
    let s = set_in_kind u.0 r.0 inside in
    let universe : universe_of l.kinds (Var y) ≡ u.0 = ap (λ z. option_map_or universe_of_kind z []) u.1 in
    record {
      set = s.0;
      is = ap (option_and_then set_in) r.2 ∙ ap set_in s.1;
      ascending = s.2.ascending;
      within = λ x h. subst (λ u. Contains u x) (sym universe) (s.2.within x h);
    }

-- ---- all three

three_from : {A B C : Type 0} (R : A → B → C → Type 0) (p : Option A) (q : Option B) (r : Option C) (a : A) (b : B) (c : C) → p ≡ Some a → q ≡ Some b → r ≡ Some c → R a b c → OfThree R p q r
three_from {A} {B} {C} R p q r a b c e f g h =
    let P : Option A → Type 0 = λ o. OfThree R o q r in
    let Q : Option B → Type 0 = λ o. OfThree R (Some a) o r in
    let S : Option C → Type 0 = λ o. OfThree R (Some a) (Some b) o in
    subst P (sym e) (subst Q (sym f) (subst S (sym g) h))

three_to : {A B C : Type 0} (R : A → B → C → Type 0) (p : Option A) (q : Option B) (r : Option C) (a : A) (b : B) (c : C) → p ≡ Some a → q ≡ Some b → r ≡ Some c → OfThree R p q r → R a b c
three_to {A} {B} {C} R p q r a b c e f g h =
    let P : Option A → Type 0 = λ o. OfThree R o q r in
    let Q : Option B → Type 0 = λ o. OfThree R (Some a) o r in
    let S : Option C → Type 0 = λ o. OfThree R (Some a) (Some b) o in
    subst S g (subst Q f (subst P e h))

-- a machine of elements decides a relation of three sets
pub record Decides {Q : Type 0} (rules : ElementRules Q) (W : List ℤ → List ℤ → List ℤ → Type 0) : Type 0 where
  pub to : (elements a b c : List ℤ) → IsAscending elements → AreListed elements a b c → IsAscending a → IsAscending b → accepts_elements rules (map (marks_in a b c) elements) ≡ true → W a b c
  pub from : (elements a b c : List ℤ) → IsAscending elements → AreListed elements a b c → IsAscending a → IsAscending b → W a b c → accepts_elements rules (map (marks_in a b c) elements) ≡ true

pub tests_decide : (test : ElementTest) (wanted : Bool) → Decides (all_pass test wanted) (Wanted test wanted)
tests_decide test wanted = record {
  to = λ elements a b c up listed p q h. accepted test wanted elements a b c listed p q h;
  from = λ elements a b c up listed p q h. accepts_wanted test wanted elements a b c listed p q h;
}

-- what the three sets satisfy
abbrev pub Satisfy : (List ℤ → List ℤ → List ℤ → Type 0) → Operands → List Value → Type 0
Satisfy W o values = OfThree W (set_of_term values o.first) (set_of_term values o.second) (set_of_term values o.third)

pub length-entries : (o : Operands) (elements : List ℤ) (ps : List Place) → length (entries_of o elements ps) ≡ length ps
length-entries o elements ps = length-map ps (entry_of o elements)

-- a word that gives values, by the sets that it gives
pub record IsGiven {Q : Type 0} (l : LayoutState) (o : Operands) (elements : List ℤ) (values : List Value) (rules : ElementRules Q) (answer : Bool) : Type 0 where
  pub first : HasSet l.kinds values o.first
  pub second : HasSet l.kinds values o.second
  pub third : HasSet l.kinds values o.third
  pub listed : AreListed elements first.set second.set third.set
  pub by_sets : answer ≡ accepts_elements rules (map (marks_in first.set second.set third.set) elements)

pub table_grouped : (l : LayoutState) (o : Operands) (bits : List ℕ) (constants : List Marks) (entries : List Entry) → IsLayout l → AreSets l.kinds o → IsTable l o bits constants entries → AreGrouped (length constants) entries
table_grouped l o bits constants entries ok sets table =
    let elements = table.elements in
    let ps = table.places in
    let known = listed_elements l o elements bits ok sets table.are_elements table.are_bits in
    let grouped = entries_grouped l o elements bits ps ok table.are_bits.ascending known table.are_places in
    let long : length constants ≡ length elements = ap length table.are_constants ∙ length-map elements (constant_marks o) in
    subst (λ n. AreGrouped n entries) (sym long) (subst (AreGrouped (length elements)) (sym table.are_entries) grouped)

pub table_long : (l : LayoutState) (o : Operands) (bits : List ℕ) (constants : List Marks) (entries : List Entry) → IsTable l o bits constants entries → length entries ≡ length bits
table_long l o bits constants entries table =
    ap length table.are_entries ∙ length-entries o table.elements table.places ∙ sym (all_zip_long (λ bit p. slice_get l.places bit ≡ Some p) bits table.places table.are_places)

pub given_word : {Q : Type 0} (l : LayoutState) (o : Operands) (bits : List ℕ) (constants : List Marks) (entries : List Entry) (rules : ElementRules Q) (w : Word) (values : List Value) → IsLayout l → AreSets l.kinds o
    → (table : IsTable l o bits constants entries) → Gives l (variables_of o) values w → IsGiven l o table.elements values rules (accepts (by_elements rules constants entries) bits w)
unfolding Has
given_word l o bits constants entries rules w values ok sets table given =
    let scope = variables_of o in
    let elements = table.elements in
    let ps = table.places in
    let mine = are_terms o in
    let a = term_set l scope values w o.first given mine.0 sets.first in
    let b = term_set l scope values w o.second given mine.1 sets.second in
    let c = term_set l scope values w o.third given mine.2 sets.third in
    let known = listed_elements l o elements bits ok sets table.are_elements table.are_bits in
    record {
      first = a;
      second = b;
      third = c;
      listed = record {
        first = λ x h. universe_listed l.kinds o elements table.are_elements o.first (in_head o.first (o.second ∷ o.third ∷ [])) x (a.within x h);
        second = λ x h. universe_listed l.kinds o elements table.are_elements o.second (in_tail o.first (o.second ∷ o.third ∷ []) o.second (in_head o.second (o.third ∷ []))) x (b.within x h);
        third = λ x h. universe_listed l.kinds o elements table.are_elements o.third (in_tail o.first (o.second ∷ o.third ∷ []) o.third (in_tail o.second (o.third ∷ []) o.third (in_head o.third []))) x (c.within x h);
      };
      by_sets = accepts-by_elements rules constants entries bits w (table_grouped l o bits constants entries ok sets table) (table_long l o bits constants entries table)
          ∙ (λ i. accepts_elements rules (elements_of (table.are_constants i) (table.are_entries i) bits w))
          ∙ ap (accepts_elements rules) (elements_given l scope o elements bits ps w values a.set b.set c.set ok table.are_bits known table.are_places given mine.0 mine.1 mine.2 a.is b.is c.is);
    }

pub table_words : {Q : Type 0} (l : LayoutState) (o : Operands) (bits : List ℕ) (constants : List Marks) (entries : List Entry) (rules : ElementRules Q) (W : List ℤ → List ℤ → List ℤ → Type 0) → Decides rules W → IsLayout l → AreSets l.kinds o
    → IsTable l o bits constants entries → AreWordsOf l (variables_of o) (Satisfy W o) (accepts (by_elements rules constants entries) bits)
table_words l o bits constants entries rules W decides ok sets table = record {
  sound = λ w h.
      let r = sets_given l (variables_of o) w ok (scope_sets l o table.elements sets table.are_elements) in
      let g = given_word l o bits constants entries rules w r.0 ok sets table r.2 in (
        r.0,
        r.1,
        r.2,
        three_from W (set_of_term r.0 o.first) (set_of_term r.0 o.second) (set_of_term r.0 o.third) g.first.set g.second.set g.third.set g.first.is g.second.is g.third.is
            (decides.to table.elements g.first.set g.second.set g.third.set table.are_elements.ascending g.listed g.first.ascending g.second.ascending (sym g.by_sets ∙ h)),
      );
  whole = λ w values given h.
      let g = given_word l o bits constants entries rules w values ok sets table given in
      g.by_sets ∙ decides.from table.elements g.first.set g.second.set g.third.set table.are_elements.ascending g.listed g.first.ascending g.second.ascending
      (three_to W (set_of_term values o.first) (set_of_term values o.second) (set_of_term values o.third) g.first.set g.second.set g.third.set g.first.is g.second.is g.third.is h);
}
