-- What the shape of a rule accepts is what satisfies it.
use Rattle.std.proofs.Common.{◌≡◌, ◌↔◌, ℕ, ◌<◌, Bool, true, false, ℤ, List, [], ◌∷◌, length, get_or, map, Option, Some, None, refl, sym, ap, ◌∙◌, subst, inl, inr, arith, Contains}
use Rattle.std.specs.Prelude.{slice_get, option_and_then, option_map, IsSome, IsSomeAnd}
use Rattle.std.specs.Option.{option_map_or}
use Rattle.std.specs.List.{All}
use Rattle.std.specs.List.Sorted.{IsStrictlySortedBy}
use Rattle.std.proofs.Math.Bool.{beq}
use Rattle.std.proofs.lemmas.List.{length-map}
use Rattle.std.proofs.lemmas.List.Elements.{All-contains}
use Rattle.std.proofs.lemmas.Option.{slice_get-get_or, get_or_from_slice_get, slice_get_within}
use Rattle.set_meaning.specs.declared.kinds.Kind.{Kind}
use Rattle.set_meaning.specs.declared.kinds.Kind.TheVariants as kind
use Rattle.set_meaning.specs.declared.kinds.Value.{Value}
use Rattle.set_meaning.specs.declared.kinds.Value.TheVariants as value
use Rattle.set_meaning.specs.declared.problems.VarId.{VarId}
use Rattle.set_meaning.specs.declared.problems.Term.{Term}
use Rattle.set_meaning.specs.declared.problems.Term.TheVariants.{Const, Var}
use Rattle.set_meaning.specs.declared.rows.Sort.TheVariants.{IntegerSet}
use Rattle.set_meaning.specs.Rows.{HasSort, sort_of_kind}
use Rattle.set_meaning.specs.Kinds.{InKind, IsSetWithin, IsAssignment}
use Rattle.set_meaning.specs.Sets.{Has, IsAscending, IsSubset}
use Rattle.set_meaning.specs.Arguments.{set_in, set_of_term, OfTwo, OfThree}
use Rattle.bit_layout.specs.declared.places.Place.{Place}
use Rattle.bit_layout.specs.Order.{element_at, place_cmp}
use Rattle.bit_layout.specs.Words.{lists}
use Rattle.bit_layout.proofs.Finding.{is_place}
use Rattle.bit_layout.proofs.Listing.{all_zip_long, all_zip_at}
use Rattle.bit_layout.proofs.Rising.{nothing_in_empty, in_cons, in_head, in_tail}
use Rattle.sweep_rules.specs.Rules.{accepts}
use Rattle.sweep_rules.specs.SetPlaces.{set_at, set_bit, AreSetPlaces}
use Rattle.sweep_sets.specs.declared.rules.Rule.{Rule}
use Rattle.sweep_sets.specs.declared.rules.Rule.TheVariants.{Subset}
use Rattle.sweep_sets.specs.declared.operands.Operand.{Operand}
use Rattle.sweep_sets.specs.declared.operands.Operands.{Operands}
use Rattle.sweep_sets.specs.declared.shapes.SetShape.{SetShape}
use Rattle.sweep_sets.specs.Rules.{marks_in, Relates, decided}
use Rattle.sweep_sets.specs.Reading.{AreGrouped, elements_of}
use Rattle.sweep_sets.specs.Operands.{IsOperand, constant_marks}
use Rattle.sweep_sets.specs.Tables.{entry_of, entries_of, IsMade}
use Rattle.sweep_sets.specs.Shapes.{rules_of, HasTruth, RelatesTwo, RelatesThree, HasMember, IsSetAmong, IsExact}
use Rattle.sweep_sets.proofs.Truth.{as_wanted}
use Rattle.sweep_sets.proofs.Deciding.{decides}
use Rattle.sweep_sets.proofs.ReadElements.{read-decides}
use Rattle.sweep_sets.proofs.Grouping.{places_listed, entries_grouped}
use Rattle.sweep_sets.proofs.GivenSets.{IsGivenSet, elements_given, sets_listed}

-- ---- the table

length-entries : (o : Operands) (elements : List ℤ) (ps : List Place) → length (entries_of o elements ps) ≡ length ps
length-entries o elements ps = length-map ps (entry_of o elements)

pub made_long : (o : Operands) (ps : List Place) (rule : Rule) (truth : Bool) (s : SetShape) → IsMade o ps rule truth s → length s.entries ≡ length ps
made_long o ps rule truth s is = ap length is.are_entries ∙ length-entries o is.elements ps

pub made_grouped : (o : Operands) (ps : List Place) (rule : Rule) (truth : Bool) (s : SetShape) → IsStrictlySortedBy place_cmp ps → All (λ (p : Place). IsSome p.element) ps → IsMade o ps rule truth s
    → AreGrouped (length s.constants) s.entries
made_grouped o ps rule truth s sorted all is =
    let grouped = entries_grouped o is.elements ps is.are_elements.ascending sorted (places_listed o is.elements ps is.are_elements all) in
    let long : length s.constants ≡ length is.elements = ap length is.are_constants ∙ length-map is.elements (constant_marks o) in
    subst (λ n. AreGrouped n s.entries) (sym long) (subst (AreGrouped (length is.elements)) (sym is.are_entries) grouped)

-- ---- the sets of terms under an assignment

-- the value of a variable of this kind
value_there : (kinds : List Kind) (values : List Value) (i : ℕ) (k : Kind) → IsAssignment kinds values → slice_get kinds i ≡ Some k → (x : Value) × (slice_get values i ≡ Some x) × InKind k x
value_there kinds values i k assigned e =
    let within = slice_get_within kinds i k e in
    let long = all_zip_long InKind kinds values assigned in
    let other : Value = value.Bool false in
    let in_kind : InKind (get_or kinds i k) (get_or values i other) = all_zip_at InKind kinds values i k other assigned within in
    let also : i < length values = omega (arith, long, within) in
    (get_or values i other, slice_get-get_or values i other also, subst (λ z. InKind z (get_or values i other)) (get_or_from_slice_get kinds i k k e) in_kind)

set_in_kind : (u : List ℤ) (x : Value) → InKind (kind.Set u) x → (s : List ℤ) × (x ≡ value.Set s) × IsSetWithin u s
unfolding InKind
set_in_kind u (value.Bool b) h = absurd h
set_in_kind u (value.Int n) h = absurd h
set_in_kind u (value.Set s) h = (s, refl, h)

set_kind_of : (k : Kind) → sort_of_kind k ≡ IntegerSet → (u : List ℤ) × (k ≡ kind.Set u)
set_kind_of kind.Bool e = absurd (cc)
set_kind_of (kind.Int numbers) e = absurd (cc)
set_kind_of (kind.Set u) e = (u, refl)

variable_kind : (kinds : List Kind) (y : VarId) → HasSort kinds IntegerSet (Var y) → (u : List ℤ) × (slice_get kinds y.0 ≡ Some (kind.Set u))
variable_kind kinds y h =
    elim (slice_get kinds y.0) as (λ o. slice_get kinds y.0 ≡ o → option_map sort_of_kind o ≡ Some IntegerSet → (u : List ℤ) × (slice_get kinds y.0 ≡ Some (kind.Set u))) [
      | None ↦ λ e h. absurd (let f : None ≡ Some IntegerSet = h in cc)
      | Some k ↦ λ e h. let f : Some (sort_of_kind k) ≡ Some IntegerSet = h in let g : sort_of_kind k ≡ IntegerSet = cc in let r = set_kind_of k g in (r.0, e ∙ ap Some r.1)
    ] refl h

-- the set of a term
pub term_there : (kinds : List Kind) (values : List Value) (t : Term) → IsAssignment kinds values → HasSort kinds IntegerSet t → (s : List ℤ) × (set_of_term values t ≡ Some s)
term_there kinds values (Const (value.Bool b)) assigned sort = absurd sort
term_there kinds values (Const (value.Int n)) assigned sort = absurd sort
term_there kinds values (Const (value.Set s)) assigned sort = (s, refl)
term_there kinds values (Var y) assigned sort =
    let u = variable_kind kinds y sort in
    let v = value_there kinds values y.0 (kind.Set u.0) assigned u.1 in
    let s = set_in_kind u.0 v.0 v.2 in
    (s.0, ap (option_and_then set_in) v.1 ∙ ap set_in s.1)

-- the set of a term, and that its operand has it
record HasSet (values : List Value) (ps : List Place) (o : Operand) (t : Term) : Type 0 where
  pub set : List ℤ
  pub is : set_of_term values t ≡ Some set
  pub ascending : IsAscending set
  pub given : IsGivenSet values ps o set

bit_of : (values : List Value) (p : Place) (y : VarId) (s : List ℤ) (x : ℤ) → set_at values y ≡ Some s → p.variable ≡ y → p.element ≡ Some x → set_bit values p ≡ lists s x
bit_of values p y s x set mine e =
    ap (λ v. option_map_or (λ (r : List ℤ). option_map_or (lists r) p.element false) (set_at values v) false) mine
    ∙ ap (λ o. option_map_or (λ (r : List ℤ). option_map_or (lists r) p.element false) o false) set
    ∙ ap (λ o. option_map_or (lists s) o false) e

place_of : (kinds : List Kind) (sets : List VarId) (ps : List Place) (y : VarId) (u : List ℤ) (x : ℤ) → AreSetPlaces kinds sets ps → Contains sets y → slice_get kinds y.0 ≡ Some (kind.Set u) → Contains u x
    → (p : Place) × Contains ps p × (p.variable ≡ y) × (p.element ≡ Some x)
place_of kinds sets ps y u x are mine e h =
    let i : ℕ = h.0 in
    let p : Place = record { element = Some x; variable = y; position = i } in
    let here : Some x ≡ element_at (kind.Set u) i = sym (slice_get-get_or u i x h.1 ∙ ap Some h.2) in
    (p, (are.members p).1 (is_place kinds p (kind.Set u) e h.1 here, mine), refl, refl)

term_set : (kinds : List Kind) (sets : List VarId) (values : List Value) (ps : List Place) (o : Operand) (t : Term) → AreSetPlaces kinds sets ps → IsAssignment kinds values → IsSetAmong kinds sets t → IsOperand o t → HasSet values ps o t
unfolding IsSubset Has
term_set kinds sets values ps o (Const (value.Bool b)) are assigned among is = absurd among
term_set kinds sets values ps o (Const (value.Int n)) are assigned among is = absurd among
term_set kinds sets values ps o (Const (value.Set s)) are assigned among is = record {
  set = s;
  is = refl;
  ascending = among;
  given = inl record { constant = is.constant; no_variable = is.variable };
}
term_set kinds sets values ps o (Var y) are assigned among is =
    let u = variable_kind kinds y among.0 in
    let v = value_there kinds values y.0 (kind.Set u.0) assigned u.1 in
    let s = set_in_kind u.0 v.0 v.2 in
    let set : set_at values y ≡ Some s.0 = ap (option_and_then set_in) v.1 ∙ ap set_in s.1 in
    record {
      set = s.0;
      is = set;
      ascending = s.2.ascending;
      given = inr record {
        variable = y;
        is = is.variable;
        no_constant = is.constant;
        bits = λ p x mine e. bit_of values p y s.0 x set mine e;
        places = λ x h. place_of kinds sets ps y u.0 x are among.1 u.1 (s.2.within x h);
      };
    }

-- ---- what is accepted

pub truth_of : (answer truth : Bool) (P : Type 0) → (answer ≡ true) ↔ P → (beq answer truth ≡ true) ↔ HasTruth truth P
truth_of answer true P is = (as_wanted answer P is).0
truth_of answer false P is = (as_wanted answer P is).1

same_truths : (truth : Bool) (P Q : Type 0) → P ↔ Q → HasTruth truth P ↔ HasTruth truth Q
same_truths true P Q is = is
same_truths false P Q is = (λ h q. h (is.1 q), λ h p. h (is.0 p))

three_is : {A B C : Type 0} (R : A → B → C → Type 0) (p : Option A) (q : Option B) (r : Option C) (a : A) (b : B) (c : C) → p ≡ Some a → q ≡ Some b → r ≡ Some c → R a b c ↔ OfThree R p q r
three_is {A} {B} {C} R p q r a b c e f g =
    let P : Option A → Type 0 = λ o. R a b c ↔ OfThree R o q r in
    let Q : Option B → Type 0 = λ o. R a b c ↔ OfThree R (Some a) o r in
    let S : Option C → Type 0 = λ o. R a b c ↔ OfThree R (Some a) (Some b) o in
    subst P (sym e) (subst Q (sym f) (subst S (sym g) (λ h. h, λ h. h)))

-- the operands are those of three terms
pub record AreOperands (o : Operands) (a b c : Term) : Type 0 where
  pub first : IsOperand o.first a
  pub second : IsOperand o.second b
  pub third : IsOperand o.third c

-- what is known where a shape is made
pub record IsMaking (o : Operands) (ps : List Place) (rule : Rule) (truth : Bool) (s : SetShape) : Type 0 where
  pub sorted : IsStrictlySortedBy place_cmp ps
  pub elements : All (λ (p : Place). IsSome p.element) ps
  pub made : IsMade o ps rule truth s

accepted : (o : Operands) (a b c : Term) (ps : List Place) (rule : Rule) (truth : Bool) (s : SetShape) → IsMaking o ps rule truth s → AreOperands o a b c
    → (kinds : List Kind) (sets : List VarId) (values : List Value) → AreSetPlaces kinds sets ps → IsSetAmong kinds sets a → IsSetAmong kinds sets b → IsSetAmong kinds sets c → IsAssignment kinds values
    → (accepts (rules_of s) (map (set_bit values) ps) ≡ true) ↔ HasTruth truth (RelatesThree rule a b c values)
accepted o a b c ps rule truth s is of kinds sets values are p q r assigned =
    let made = is.made in
    let elements = made.elements in
    let f = term_set kinds sets values ps o.first a are assigned p of.first in
    let g = term_set kinds sets values ps o.second b are assigned q of.second in
    let h = term_set kinds sets values ps o.third c are assigned r of.third in
    let bits : List Bool = map (set_bit values) ps in
    let listed = places_listed o elements ps made.are_elements is.elements in
    let long : length s.entries ≡ length bits = made_long o ps rule truth s made ∙ sym (length-map ps (set_bit values)) in
    let read : accepts (rules_of s) bits ≡ beq (decided s.rule (elements_of s.constants s.entries bits)) s.truth =
    read-decides s.rule s.truth s.constants s.entries bits (made_grouped o ps rule truth s is.sorted is.elements made) long in
    let own : beq (decided s.rule (elements_of s.constants s.entries bits)) s.truth ≡ beq (decided rule (elements_of (map (constant_marks o) elements) (entries_of o elements ps) bits)) truth =
    λ i. beq (decided (made.rule_is i) (elements_of (made.are_constants i) (made.are_entries i) bits)) (made.truth_is i) in
    let given : beq (decided rule (elements_of (map (constant_marks o) elements) (entries_of o elements ps) bits)) truth ≡ beq (decided rule (map (marks_in f.set g.set h.set) elements)) truth =
    ap (λ ms. beq (decided rule ms) truth) (elements_given o elements values ps f.set g.set h.set made.are_elements.ascending listed f.given g.given h.given) in
    let found : (beq (decided rule (map (marks_in f.set g.set h.set) elements)) truth ≡ true) ↔ HasTruth truth (Relates rule f.set g.set h.set) =
    truth_of (decided rule (map (marks_in f.set g.set h.set) elements)) truth (Relates rule f.set g.set h.set)
    (decides rule elements f.set g.set h.set made.are_elements.ascending (sets_listed o elements values ps f.set g.set h.set made.are_elements f.given g.given h.given) f.ascending g.ascending) in
    let terms : HasTruth truth (Relates rule f.set g.set h.set) ↔ HasTruth truth (RelatesThree rule a b c values) =
    same_truths truth (Relates rule f.set g.set h.set) (RelatesThree rule a b c values) (three_is (Relates rule) (set_of_term values a) (set_of_term values b) (set_of_term values c) f.set g.set h.set f.is g.is h.is) in
    (λ t. terms.0 (found.0 (sym (read ∙ own ∙ given) ∙ t)), λ t. (read ∙ own ∙ given) ∙ found.1 (terms.1 t))

-- ---- three terms

pub exact_three : (o : Operands) (a b c : Term) (ps : List Place) (rule : Rule) (truth : Bool) (s : SetShape) → IsMaking o ps rule truth s → AreOperands o a b c
    → IsExact ps s (a ∷ b ∷ c ∷ []) (λ values. HasTruth truth (RelatesThree rule a b c values))
exact_three o a b c ps rule truth s is of kinds sets values are among assigned =
    let P : Term → Type 0 = IsSetAmong kinds sets in
    accepted o a b c ps rule truth s is of kinds sets values are
    (All-contains P (a ∷ b ∷ c ∷ []) a among (in_head a (b ∷ c ∷ [])))
    (All-contains P (a ∷ b ∷ c ∷ []) b among (in_tail a (b ∷ c ∷ []) b (in_head b (c ∷ []))))
    (All-contains P (a ∷ b ∷ c ∷ []) c among (in_tail a (b ∷ c ∷ []) c (in_tail b (c ∷ []) c (in_head c []))))
    assigned

-- ---- two terms, and no elements in the third set

-- the constant set
abbrev pub constant_term : List ℤ → Term
constant_term s = Const (value.Set s)

pub no_elements : IsAscending []
unfolding IsStrictlySortedBy
no_elements = tt

pub one_element : (x : ℤ) → IsAscending (x ∷ [])
unfolding IsStrictlySortedBy
one_element x = (tt, tt)

two_is : (R : List ℤ → List ℤ → Type 0) (S : List ℤ → List ℤ → List ℤ → Type 0) (p q : Option (List ℤ)) → ((a b : List ℤ) → S a b [] ↔ R a b) → OfThree S p q (Some []) ↔ OfTwo R p q
two_is R S None q same = (λ h. h, λ h. h)
two_is R S (Some a) None same = (λ h. h, λ h. h)
two_is R S (Some a) (Some b) same = same a b

pub exact_two : (o : Operands) (a b : Term) (ps : List Place) (rule : Rule) (truth : Bool) (s : SetShape) → IsMaking o ps rule truth s → AreOperands o a b (constant_term [])
    → IsExact ps s (a ∷ b ∷ []) (λ values. HasTruth truth (RelatesTwo rule a b values))
exact_two o a b ps rule truth s is of kinds sets values are among assigned =
    let P : Term → Type 0 = IsSetAmong kinds sets in
    let r = accepted o a b (constant_term []) ps rule truth s is of kinds sets values are
    (All-contains P (a ∷ b ∷ []) a among (in_head a (b ∷ [])))
    (All-contains P (a ∷ b ∷ []) b among (in_tail a (b ∷ []) b (in_head b [])))
    no_elements assigned in
    let terms = same_truths truth (RelatesThree rule a b (constant_term []) values) (RelatesTwo rule a b values)
    (two_is (λ s t. Relates rule s t []) (Relates rule) (set_of_term values a) (set_of_term values b) (λ s t. (λ h. h, λ h. h))) in
    (λ t. terms.0 (r.0 t), λ t. r.1 (terms.1 t))

-- ---- a member of one set

single_within : (x : ℤ) (s : List ℤ) → IsSubset (x ∷ []) s ↔ Has s x
unfolding IsSubset Has
single_within x s = (
  λ h. h x (in_head x []),
  λ h y in_single. elim (in_cons x [] y in_single) [ inl same ↦ subst (Contains s) same h | inr later ↦ absurd (nothing_in_empty y later) ],
)

member_is : (x : ℤ) (p : Option (List ℤ)) → OfThree (Relates Subset) (Some (x ∷ [])) p (Some []) ↔ IsSomeAnd p (λ s. Has s x)
member_is x None = (λ h. h, λ h. h)
member_is x (Some s) = single_within x s

pub exact_member : (o : Operands) (x : ℤ) (a : Term) (ps : List Place) (truth : Bool) (s : SetShape) → IsMaking o ps Subset truth s → AreOperands o (constant_term (x ∷ [])) a (constant_term [])
    → IsExact ps s (a ∷ []) (λ values. HasTruth truth (HasMember x a values))
exact_member o x a ps truth s is of kinds sets values are among assigned =
    let P : Term → Type 0 = IsSetAmong kinds sets in
    let r = accepted o (constant_term (x ∷ [])) a (constant_term []) ps Subset truth s is of kinds sets values are (one_element x) (All-contains P (a ∷ []) a among (in_head a [])) no_elements assigned in
    let terms = same_truths truth (RelatesThree Subset (constant_term (x ∷ [])) a (constant_term []) values) (HasMember x a values) (member_is x (set_of_term values a)) in
    (λ t. terms.0 (r.0 t), λ t. r.1 (terms.1 t))
