-- Each relation, its machine, and what a constraint's arguments are.
use Rattle.std.proofs.Common.{◌≡◌, ℕ, ◌↔◌, Bool, true, false, ℤ, List, [], ◌∷◌, Option, Some, None, refl, sym, subst}
use Rattle.std.specs.List.{AllZip}
use Rattle.diagram_arena.specs.Table.{Words}
use Rattle.bit_machine.specs.Rules.{accepts}
use Rattle.set_meaning.specs.declared.kinds.Kind.{Kind}
use Rattle.set_meaning.specs.declared.kinds.Value.{Value}
use Rattle.set_meaning.specs.declared.problems.VarId.{VarId}
use Rattle.set_meaning.specs.declared.problems.Term.{Term}
use Rattle.set_meaning.specs.declared.problems.Arg.{Arg}
use Rattle.set_meaning.specs.declared.problems.Arg.TheVariants.{One, Many}
use Rattle.set_meaning.specs.declared.problems.Relation.{Relation}
use Rattle.set_meaning.specs.declared.problems.Relation.TheVariants.{SetEq, SetNe, SetLt, SetLe, SetSubset, SetSuperset, SetUnion, SetIntersect, SetDiff, SetSymdiff}
use Rattle.set_meaning.specs.declared.rows.Sort.TheVariants.{IntegerSet}
use Rattle.set_meaning.specs.declared.rows.Shape.TheVariants.{OneOf}
use Rattle.set_meaning.specs.Rows.{HasSort, HasShape, row_of, shapes_of}
use Rattle.set_meaning.specs.Sets.{IsAscending, IsSubset}
use Rattle.set_meaning.specs.Arguments.{set_of_term, OfTwo, OfThree}
use Rattle.set_meaning.specs.Relations.{HoldsOf}
use Rattle.bit_layout.specs.Order.{LayoutState, IsLayout}
use Rattle.scope_words.specs.Words.{variables_in, AreWordsOf}
use Rattle.element_machine.specs.declared.marks.Marks.{Marks}
use Rattle.element_machine.specs.declared.marks.Entry.{Entry}
use Rattle.element_machine.specs.Rules.{ElementRules}
use Rattle.element_machine.specs.Reading.{by_elements}
use Rattle.set_shapes.specs.declared.operands.Operands.{Operands}
use Rattle.set_shapes.specs.declared.tests_of_elements.ElementTest.{ElementTest}
use Rattle.set_shapes.specs.declared.tests_of_elements.ElementTest.TheVariants.{Equal, Subset, Superset, Union, Intersection, Difference, SymmetricDifference}
use Rattle.set_shapes.specs.Tests.{all_pass}
use Rattle.set_shapes.specs.Orders.{compared, in_order}
use Rattle.set_shapes.specs.Operands.{operands_of, variables_of}
use Rattle.set_shapes.specs.Tables.{AreSets, IsTable}
use Rattle.set_shapes.specs.Shapes.{is_between_sets, machine_of, accepted_by}
use Rattle.set_shapes.proofs.Accepting.{Wanted, Decides, Satisfy, tests_decide, table_words}
use Rattle.set_shapes.proofs.SetOrders.{orders_decide}

-- ---- the relation of a constraint

two_args : (kinds : List Kind) (args : List Arg) → AllZip (HasShape kinds) (OneOf IntegerSet ∷ OneOf IntegerSet ∷ []) args
    → (a : Term) × (b : Term) × (args ≡ One a ∷ One b ∷ []) × HasSort kinds IntegerSet a × HasSort kinds IntegerSet b
two_args kinds [] h = absurd h
two_args kinds (a ∷ []) h = absurd h.1
two_args kinds (One a ∷ One b ∷ []) h = (a, b, refl, h.0, h.1.0)
two_args kinds (One a ∷ Many b ∷ []) h = absurd h.1.0
two_args kinds (Many a ∷ b ∷ []) h = absurd h.0
two_args kinds (a ∷ b ∷ c ∷ args) h = absurd h.1.1

three_args : (kinds : List Kind) (args : List Arg) → AllZip (HasShape kinds) (OneOf IntegerSet ∷ OneOf IntegerSet ∷ OneOf IntegerSet ∷ []) args
    → (a : Term) × (b : Term) × (c : Term) × (args ≡ One a ∷ One b ∷ One c ∷ []) × HasSort kinds IntegerSet a × HasSort kinds IntegerSet b × HasSort kinds IntegerSet c
three_args kinds [] h = absurd h
three_args kinds (a ∷ []) h = absurd h.1
three_args kinds (a ∷ b ∷ []) h = absurd h.1.1
three_args kinds (One a ∷ One b ∷ One c ∷ []) h = (a, b, c, refl, h.0, h.1.0, h.1.1.0)
three_args kinds (One a ∷ One b ∷ Many c ∷ []) h = absurd h.1.1.0
three_args kinds (One a ∷ Many b ∷ c ∷ []) h = absurd h.1.0
three_args kinds (Many a ∷ b ∷ c ∷ []) h = absurd h.0
three_args kinds (a ∷ b ∷ c ∷ d ∷ args) h = absurd h.1.1.1

two_of_three : (R : List ℤ → List ℤ → Type 0) (S : List ℤ → List ℤ → List ℤ → Type 0) (p q : Option (List ℤ)) → ((a b : List ℤ) → S a b [] ↔ R a b) → OfThree S p q (Some []) ↔ OfTwo R p q
two_of_three R S None q same = (λ h. h, λ h. h)
two_of_three R S (Some a) None same = (λ h. h, λ h. h)
two_of_three R S (Some a) (Some b) same = same a b

same_condition : (l : LayoutState) (scope : List VarId) (C D : List Value → Type 0) (V : Words) → ((values : List Value) → C values ↔ D values) → AreWordsOf l scope C V → AreWordsOf l scope D V
same_condition l scope C D V same words = record {
  sound = λ w h. let r = words.sound w h in (r.0, r.1, r.2, (same r.0).0 r.3);
  whole = λ w values given h. words.whole w values given ((same values).1 h);
}

-- what is known of a constraint with the arguments of its relation
pub record IsFit (l : LayoutState) (relation : Relation) (args : List Arg) : Type 0 where
  pub sets : AreSets l.kinds (operands_of args)
  pub scope : variables_of (operands_of args) ≡ variables_in args
  pub words : (bits : List ℕ) (constants : List Marks) (entries : List Entry) → IsTable l (operands_of args) bits constants entries → AreWordsOf l (variables_of (operands_of args)) (HoldsOf relation args) (accepted_by (machine_of relation) constants entries bits)

no_elements : IsAscending []
unfolding Rattle.std.specs.List.Sorted.IsStrictlySortedBy
no_elements = tt

-- the machine by which the relation is read
abbrev IsReadBy : {Q : Type 0} → Relation → ElementRules Q → Type 0
IsReadBy relation rules = (constants : List Marks) (entries : List Entry) (bits : List ℕ) → accepts (by_elements rules constants entries) bits ≡ accepted_by (machine_of relation) constants entries bits

fit_two : {Q : Type 0} (l : LayoutState) (relation : Relation) (args : List Arg) (rules : ElementRules Q) (W : List ℤ → List ℤ → List ℤ → Type 0) (R : List ℤ → List ℤ → Type 0) → IsLayout l → Decides rules W → IsReadBy relation rules
    → AllZip (HasShape l.kinds) (OneOf IntegerSet ∷ OneOf IntegerSet ∷ []) args → ((a b : List ℤ) → W a b [] ↔ R a b)
    → ((a b : Term) (values : List Value) → HoldsOf relation (One a ∷ One b ∷ []) values ≡ OfTwo R (set_of_term values a) (set_of_term values b)) → IsFit l relation args
fit_two l relation args rules W R ok decides read shapes same is =
    let r = two_args l.kinds args shapes in
    let o : Operands = operands_of (One r.0 ∷ One r.1 ∷ []) in
    let sets : AreSets l.kinds o = record { first = r.3; second = r.4; third = no_elements } in
    subst (IsFit l relation) (sym r.2) record {
      sets = sets;
      scope = refl;
      words = λ bits constants entries table. subst (AreWordsOf l (variables_of o) (HoldsOf relation (One r.0 ∷ One r.1 ∷ []))) (read constants entries bits) (same_condition l (variables_of o) (Satisfy W o) (HoldsOf relation (One r.0 ∷ One r.1 ∷ [])) (accepts (by_elements rules constants entries) bits)
          (λ values. subst (λ T. Satisfy W o values ↔ T) (sym (is r.0 r.1 values)) (two_of_three R W (set_of_term values r.0) (set_of_term values r.1) same))
          (table_words l o bits constants entries rules W decides ok sets table));
    }

fit_three : {Q : Type 0} (l : LayoutState) (relation : Relation) (args : List Arg) (rules : ElementRules Q) (W : List ℤ → List ℤ → List ℤ → Type 0) → IsLayout l → Decides rules W → IsReadBy relation rules
    → AllZip (HasShape l.kinds) (OneOf IntegerSet ∷ OneOf IntegerSet ∷ OneOf IntegerSet ∷ []) args
    → ((a b c : Term) (values : List Value) → HoldsOf relation (One a ∷ One b ∷ One c ∷ []) values ≡ Satisfy W (operands_of (One a ∷ One b ∷ One c ∷ [])) values) → IsFit l relation args
fit_three l relation args rules W ok decides read shapes is =
    let r = three_args l.kinds args shapes in
    let o : Operands = operands_of (One r.0 ∷ One r.1 ∷ One r.2 ∷ []) in
    let sets : AreSets l.kinds o = record { first = r.4; second = r.5; third = r.6 } in
    subst (IsFit l relation) (sym r.3) record {
      sets = sets;
      scope = refl;
      words = λ bits constants entries table. subst (AreWordsOf l (variables_of o) (HoldsOf relation (One r.0 ∷ One r.1 ∷ One r.2 ∷ []))) (read constants entries bits) (same_condition l (variables_of o) (Satisfy W o) (HoldsOf relation (One r.0 ∷ One r.1 ∷ One r.2 ∷ [])) (accepts (by_elements rules constants entries) bits)
          (λ values. subst (λ T. Satisfy W o values ↔ T) (sym (is r.0 r.1 r.2 values)) (λ h. h, λ h. h))
          (table_words l o bits constants entries rules W decides ok sets table));
    }

-- a relation that is a test of elements
tested_two : (l : LayoutState) (relation : Relation) (args : List Arg) (test : ElementTest) (wanted : Bool) (R : List ℤ → List ℤ → Type 0) → IsLayout l → IsReadBy relation (all_pass test wanted)
    → AllZip (HasShape l.kinds) (OneOf IntegerSet ∷ OneOf IntegerSet ∷ []) args → ((a b : List ℤ) → Wanted test wanted a b [] ↔ R a b)
    → ((a b : Term) (values : List Value) → HoldsOf relation (One a ∷ One b ∷ []) values ≡ OfTwo R (set_of_term values a) (set_of_term values b)) → IsFit l relation args
tested_two l relation args test wanted R ok read zip same is = fit_two l relation args (all_pass test wanted) (Wanted test wanted) R ok (tests_decide test wanted) read zip same is

tested_three : (l : LayoutState) (relation : Relation) (args : List Arg) (test : ElementTest) (wanted : Bool) → IsLayout l → IsReadBy relation (all_pass test wanted)
    → AllZip (HasShape l.kinds) (OneOf IntegerSet ∷ OneOf IntegerSet ∷ OneOf IntegerSet ∷ []) args
    → ((a b c : Term) (values : List Value) → HoldsOf relation (One a ∷ One b ∷ One c ∷ []) values ≡ Satisfy (Wanted test wanted) (operands_of (One a ∷ One b ∷ One c ∷ [])) values) → IsFit l relation args
tested_three l relation args test wanted ok read zip is = fit_three l relation args (all_pass test wanted) (Wanted test wanted) ok (tests_decide test wanted) read zip is

ordered_two : (l : LayoutState) (relation : Relation) (args : List Arg) (equal : Bool) → IsLayout l → IsReadBy relation (compared equal) → AllZip (HasShape l.kinds) (OneOf IntegerSet ∷ OneOf IntegerSet ∷ []) args
    → ((a b : Term) (values : List Value) → HoldsOf relation (One a ∷ One b ∷ []) values ≡ OfTwo (in_order equal) (set_of_term values a) (set_of_term values b)) → IsFit l relation args
ordered_two l relation args equal ok read zip is = fit_two l relation args (compared equal) (λ a b c. in_order equal a b) (in_order equal) ok (orders_decide equal) read zip (λ a b. (λ h. h, λ h. h)) is

pub fits : (l : LayoutState) (relation : Relation) (args : List Arg) → IsLayout l → is_between_sets relation ≡ true → AllZip (HasShape l.kinds) (shapes_of (row_of relation)) args → IsFit l relation args
unfolding HoldsOf
fits l SetEq args ok shape zip = tested_two l SetEq args Equal true (λ a b. a ≡ b) ok (λ c e b. refl) zip (λ a b. (λ h. h, λ h. h)) (λ a b values. refl)
fits l SetNe args ok shape zip = tested_two l SetNe args Equal false (λ a b. a ≡ b → ⊥) ok (λ c e b. refl) zip (λ a b. (λ h. h, λ h. h)) (λ a b values. refl)
fits l SetLt args ok shape zip = ordered_two l SetLt args false ok (λ c e b. refl) zip (λ a b values. refl)
fits l SetLe args ok shape zip = ordered_two l SetLe args true ok (λ c e b. refl) zip (λ a b values. refl)
fits l SetSubset args ok shape zip = tested_two l SetSubset args Subset true IsSubset ok (λ c e b. refl) zip (λ a b. (λ h. h, λ h. h)) (λ a b values. refl)
fits l SetSuperset args ok shape zip = tested_two l SetSuperset args Superset true (λ a b. IsSubset b a) ok (λ c e b. refl) zip (λ a b. (λ h. h, λ h. h)) (λ a b values. refl)
fits l SetUnion args ok shape zip = tested_three l SetUnion args Union true ok (λ c e b. refl) zip (λ a b c values. refl)
fits l SetIntersect args ok shape zip = tested_three l SetIntersect args Intersection true ok (λ c e b. refl) zip (λ a b c values. refl)
fits l SetDiff args ok shape zip = tested_three l SetDiff args Difference true ok (λ c e b. refl) zip (λ a b c values. refl)
fits l SetSymdiff args ok shape zip = tested_three l SetSymdiff args SymmetricDifference true ok (λ c e b. refl) zip (λ a b c values. refl)
fits l relation args ok shape zip = absurd (let e : false ≡ true = shape in cc)
