-- Each relation between sets, and the shape of its rule.
use Rattle.std.proofs.Common.{◌≡◌, ◌↔◌, ◌<◌, ◌≤◌, arith, length, get_or, Bool, true, false, not, ℤ, List, [], ◌∷◌, map, Option, Some, refl, sym, ap, ◌∙◌, subst, inl, inr, Contains}
use Rattle.std.specs.Prelude.{filter_map}
use Rattle.std.specs.List.{All, AllZip}
use Rattle.std.proofs.Math.Bool.{beq}
use Rattle.std.proofs.lemmas.List.Elements.{All-from_recursion}
use Rattle.set_meaning.specs.declared.kinds.Kind.{Kind}
use Rattle.set_meaning.specs.declared.kinds.Value.{Value}
use Rattle.set_meaning.specs.declared.problems.VarId.{VarId}
use Rattle.set_meaning.specs.declared.problems.Term.{Term}
use Rattle.set_meaning.specs.declared.problems.Term.TheVariants.{Const, Var}
use Rattle.set_meaning.specs.declared.problems.Arg.{Arg}
use Rattle.set_meaning.specs.declared.problems.Arg.TheVariants.{One}
use Rattle.set_meaning.specs.declared.problems.Relation.{Relation}
use Rattle.set_meaning.specs.declared.problems.Relation.TheVariants.{SetEq, SetNe, SetLt, SetLe, SetSubset, SetSuperset, SetUnion, SetIntersect, SetDiff, SetSymdiff}
use Rattle.set_meaning.specs.declared.rows.Sort.TheVariants.{IntegerSet}
use Rattle.set_meaning.specs.declared.rows.Shape.TheVariants.{OneOf}
use Rattle.set_meaning.specs.Rows.{HasSort, HasShape, row_of, shapes_of}
use Rattle.set_meaning.specs.Arguments.{set_of_term, OfTwo}
use Rattle.set_meaning.specs.Relations.{HoldsOf, variable_of}
use Rattle.bit_layout.specs.declared.places.Place.{Place}
use Rattle.bit_layout.proofs.Rising.{nothing_in_empty, in_cons, in_head, in_tail}
use Rattle.sweep_rules.specs.Rules.{accepts}
use Rattle.sweep_rules.specs.SetPlaces.{set_bit}
use Rattle.sweep_sets.specs.declared.rules.Rule.TheVariants.{Equal}
use Rattle.sweep_sets.specs.declared.shapes.SetShape.{SetShape}
use Rattle.sweep_sets.specs.Shapes.{rules_of, HasTruth, RelatesTwo, RelatesThree, IsSetAmong, IsExact}
use Rattle.sweep_sets.specs.Relations.{is_between_sets, rule_of, rule_truth, AreAmong, IsShapeOf}
use Rattle.sweep_sets.proofs.Exact.{term_there}

-- ---- arguments

-- a list of two or three terms, item by item
pub two_are : (xs : List Arg) (x y : Arg) (a b : Term) → 2 ≤ length xs → length xs < 3 → x ≡ get_or xs 0 x → y ≡ get_or xs 1 y → x ≡ One a → y ≡ One b → xs ≡ One a ∷ One b ∷ []
two_are [] x y a b more few p q e f = absurd (omega (arith, more))
two_are (v ∷ []) x y a b more few p q e f = absurd (omega (arith, more))
two_are (v ∷ w ∷ []) x y a b more few p q e f = let g : v ≡ One a = sym p ∙ e in let h : w ≡ One b = sym q ∙ f in λ i. g i ∷ h i ∷ []
two_are (v ∷ w ∷ u ∷ xs) x y a b more few p q e f = absurd (omega (arith, few))

pub three_are : (xs : List Arg) (x y z : Arg) (a b c : Term) → 3 ≤ length xs → length xs < 4 → x ≡ get_or xs 0 x → y ≡ get_or xs 1 y → z ≡ get_or xs 2 z → x ≡ One a → y ≡ One b → z ≡ One c → xs ≡ One a ∷ One b ∷ One c ∷ []
three_are [] x y z a b c more few p q r e f g = absurd (omega (arith, more))
three_are (v ∷ []) x y z a b c more few p q r e f g = absurd (omega (arith, more))
three_are (v ∷ w ∷ []) x y z a b c more few p q r e f g = absurd (omega (arith, more))
three_are (v ∷ w ∷ u ∷ []) x y z a b c more few p q r e f g =
    let h : v ≡ One a = sym p ∙ e in let k : w ≡ One b = sym q ∙ f in let l : u ≡ One c = sym r ∙ g in λ i. h i ∷ k i ∷ l i ∷ []
three_are (v ∷ w ∷ u ∷ t ∷ xs) x y z a b c more few p q r e f g = absurd (omega (arith, few))

-- a term of the sort whose variable, if it is one, is listed
among : (kinds : List Kind) (sets : List VarId) (t : Term) → HasSort kinds IntegerSet t → ((v : VarId) → Contains (filter_map variable_of (t ∷ [])) v → Contains sets v) → IsSetAmong kinds sets t
among kinds sets (Const v) sort listed = sort
among kinds sets (Var y) sort listed = (sort, listed y (in_head y []))

-- variables of a part of the terms are those of all
in_front : (t : Term) (ts : List Term) (v : VarId) → Contains (filter_map variable_of (t ∷ [])) v → Contains (filter_map variable_of (t ∷ ts)) v
in_front (Const c) ts v h = absurd (nothing_in_empty v h)
in_front (Var y) ts v h =
    elim (in_cons y [] v h) [
      | inl same ↦ subst (Contains (y ∷ filter_map variable_of ts)) same (in_head y (filter_map variable_of ts))
      | inr later ↦ absurd (nothing_in_empty v later)
    ]

in_rest : (t : Term) (ts : List Term) (v : VarId) → Contains (filter_map variable_of ts) v → Contains (filter_map variable_of (t ∷ ts)) v
in_rest (Const c) ts v h = h
in_rest (Var y) ts v h = in_tail y (filter_map variable_of ts) v h

two_among : (kinds : List Kind) (sets : List VarId) (a b : Term) → HasSort kinds IntegerSet a → HasSort kinds IntegerSet b → AreAmong sets (One a ∷ One b ∷ []) → All (IsSetAmong kinds sets) (a ∷ b ∷ [])
two_among kinds sets a b p q listed =
    All-from_recursion (IsSetAmong kinds sets) (a ∷ b ∷ []) (
      among kinds sets a p (λ v h. listed v (in_front a (b ∷ []) v h)),
      (among kinds sets b q (λ v h. listed v (in_rest a (b ∷ []) v h)), tt),
    )

three_among : (kinds : List Kind) (sets : List VarId) (a b c : Term) → HasSort kinds IntegerSet a → HasSort kinds IntegerSet b → HasSort kinds IntegerSet c → AreAmong sets (One a ∷ One b ∷ One c ∷ [])
    → All (IsSetAmong kinds sets) (a ∷ b ∷ c ∷ [])
three_among kinds sets a b c p q r listed =
    All-from_recursion (IsSetAmong kinds sets) (a ∷ b ∷ c ∷ []) (
      among kinds sets a p (λ v h. listed v (in_front a (b ∷ c ∷ []) v h)),
      (
        among kinds sets b q (λ v h. listed v (in_rest a (b ∷ c ∷ []) v (in_front b (c ∷ []) v h))),
        (among kinds sets c r (λ v h. listed v (in_rest a (b ∷ c ∷ []) v (in_rest b (c ∷ []) v h))), tt),
      ),
    )

-- ---- truth values

true_is : (truth : Bool) → beq true truth ≡ truth
true_is true = refl
true_is false = refl

false_is : (truth : Bool) → beq false truth ≡ not truth
false_is true = refl
false_is false = refl

-- where an answer decides Q, what is not Q is decided by the other truth value
negated : (answer truth : Bool) (P Q : Type 0) → P ↔ (Q → ⊥) → (answer ≡ true) ↔ HasTruth (not truth) Q → (answer ≡ true) ↔ HasTruth truth P
negated answer true P Q is h = (λ t. is.1 (h.0 t), λ p. h.1 (is.0 p))
negated true false P Q is h = (λ t p. is.0 p (h.0 t), λ _. refl)
negated false false P Q is h = (λ t. absurd (let e : false ≡ true = t in cc), λ n. absurd (n (is.1 (λ q. let e : false ≡ true = h.1 q in cc))))

different_is : (p q : Option (List ℤ)) (a b : List ℤ) → p ≡ Some a → q ≡ Some b → OfTwo (λ s t. s ≡ t → ⊥) p q ↔ (OfTwo (λ s t. s ≡ t) p q → ⊥)
different_is p q a b e f =
    let P : Option (List ℤ) → Type 0 = λ o. OfTwo (λ s t. s ≡ t → ⊥) o q ↔ (OfTwo (λ s t. s ≡ t) o q → ⊥) in
    let Q : Option (List ℤ) → Type 0 = λ o. OfTwo (λ s t. s ≡ t → ⊥) (Some a) o ↔ (OfTwo (λ s t. s ≡ t) (Some a) o → ⊥) in
    subst P (sym e) (subst Q (sym f) (λ h. h, λ h. h))

-- ---- the relations

-- a relation of two sets that holds where its rule does
by_rule_of_two : (ps : List Place) (relation : Relation) (truth : Bool) (a b : Term) (args : List Arg) (s : SetShape) → args ≡ One a ∷ One b ∷ []
    → shapes_of (row_of relation) ≡ OneOf IntegerSet ∷ OneOf IntegerSet ∷ [] → rule_truth relation ≡ true
    → ((values : List Value) → HoldsOf relation (One a ∷ One b ∷ []) values ≡ RelatesTwo (rule_of relation) a b values)
    → IsExact ps s (a ∷ b ∷ []) (λ values. HasTruth (beq (rule_truth relation) truth) (RelatesTwo (rule_of relation) a b values)) → IsShapeOf ps relation truth args s
by_rule_of_two ps relation truth a b args s is row direct same exact kinds sets values are shapes listed assigned =
    let given : AllZip (HasShape kinds) (shapes_of (row_of relation)) (One a ∷ One b ∷ []) = subst (AllZip (HasShape kinds) (shapes_of (row_of relation))) is shapes in
    let own : AllZip (HasShape kinds) (OneOf IntegerSet ∷ OneOf IntegerSet ∷ []) (One a ∷ One b ∷ []) = subst (λ xs. AllZip (HasShape kinds) xs (One a ∷ One b ∷ [])) row given in
    let r = exact kinds sets values are (two_among kinds sets a b own.0 own.1.0 (subst (AreAmong sets) is listed)) assigned in
    let truths : beq (rule_truth relation) truth ≡ truth = ap (λ v. beq v truth) direct ∙ true_is truth in
    let answer : Bool = accepts (rules_of s) (map (set_bit values) ps) in
    subst (λ xs. (answer ≡ true) ↔ HasTruth truth (HoldsOf relation xs values)) (sym is)
    (subst (λ T. (answer ≡ true) ↔ HasTruth truth T) (sym (same values))
    (subst (λ v. (answer ≡ true) ↔ HasTruth v (RelatesTwo (rule_of relation) a b values)) truths r))

-- the same of three sets
by_rule_of_three : (ps : List Place) (relation : Relation) (truth : Bool) (a b c : Term) (args : List Arg) (s : SetShape) → args ≡ One a ∷ One b ∷ One c ∷ []
    → shapes_of (row_of relation) ≡ OneOf IntegerSet ∷ OneOf IntegerSet ∷ OneOf IntegerSet ∷ [] → rule_truth relation ≡ true
    → ((values : List Value) → HoldsOf relation (One a ∷ One b ∷ One c ∷ []) values ≡ RelatesThree (rule_of relation) a b c values)
    → IsExact ps s (a ∷ b ∷ c ∷ []) (λ values. HasTruth (beq (rule_truth relation) truth) (RelatesThree (rule_of relation) a b c values)) → IsShapeOf ps relation truth args s
by_rule_of_three ps relation truth a b c args s is row direct same exact kinds sets values are shapes listed assigned =
    let three : List Arg = One a ∷ One b ∷ One c ∷ [] in
    let given : AllZip (HasShape kinds) (shapes_of (row_of relation)) three = subst (AllZip (HasShape kinds) (shapes_of (row_of relation))) is shapes in
    let own : AllZip (HasShape kinds) (OneOf IntegerSet ∷ OneOf IntegerSet ∷ OneOf IntegerSet ∷ []) three = subst (λ xs. AllZip (HasShape kinds) xs three) row given in
    let r = exact kinds sets values are (three_among kinds sets a b c own.0 own.1.0 own.1.1.0 (subst (AreAmong sets) is listed)) assigned in
    let truths : beq (rule_truth relation) truth ≡ truth = ap (λ v. beq v truth) direct ∙ true_is truth in
    let answer : Bool = accepts (rules_of s) (map (set_bit values) ps) in
    subst (λ xs. (answer ≡ true) ↔ HasTruth truth (HoldsOf relation xs values)) (sym is)
    (subst (λ T. (answer ≡ true) ↔ HasTruth truth T) (sym (same values))
    (subst (λ v. (answer ≡ true) ↔ HasTruth v (RelatesThree (rule_of relation) a b c values)) truths r))

-- sets that differ
by_difference : (ps : List Place) (truth : Bool) (a b : Term) (args : List Arg) (s : SetShape) → args ≡ One a ∷ One b ∷ []
    → IsExact ps s (a ∷ b ∷ []) (λ values. HasTruth (beq false truth) (RelatesTwo Equal a b values)) → IsShapeOf ps SetNe truth args s
unfolding HoldsOf
by_difference ps truth a b args s is exact kinds sets values are shapes listed assigned =
    let own : AllZip (HasShape kinds) (OneOf IntegerSet ∷ OneOf IntegerSet ∷ []) (One a ∷ One b ∷ []) = subst (AllZip (HasShape kinds) (OneOf IntegerSet ∷ OneOf IntegerSet ∷ [])) is shapes in
    let all = subst (AreAmong sets) is listed in
    let r = exact kinds sets values are (two_among kinds sets a b own.0 own.1.0 all) assigned in
    let first = term_there kinds values a assigned own.0 in
    let second = term_there kinds values b assigned own.1.0 in
    let answer : Bool = accepts (rules_of s) (map (set_bit values) ps) in
    let h : (answer ≡ true) ↔ HasTruth (not truth) (RelatesTwo Equal a b values) = subst (λ v. (answer ≡ true) ↔ HasTruth v (RelatesTwo Equal a b values)) (false_is truth) r in
    subst (λ xs. (answer ≡ true) ↔ HasTruth truth (HoldsOf SetNe xs values)) (sym is)
    (negated answer truth (HoldsOf SetNe (One a ∷ One b ∷ []) values) (RelatesTwo Equal a b values)
    (different_is (set_of_term values a) (set_of_term values b) first.0 second.0 first.1 second.1) h)

-- two arguments are not three
no_two : (relation : Relation) (kinds : List Kind) (a b : Term) (args : List Arg) (P : Type 0) → args ≡ One a ∷ One b ∷ [] → shapes_of (row_of relation) ≡ OneOf IntegerSet ∷ OneOf IntegerSet ∷ OneOf IntegerSet ∷ []
    → AllZip (HasShape kinds) (shapes_of (row_of relation)) args → P
no_two relation kinds a b args P is row shapes =
    let own : AllZip (HasShape kinds) (OneOf IntegerSet ∷ OneOf IntegerSet ∷ OneOf IntegerSet ∷ []) (One a ∷ One b ∷ []) =
    subst (λ xs. AllZip (HasShape kinds) xs (One a ∷ One b ∷ [])) row (subst (AllZip (HasShape kinds) (shapes_of (row_of relation))) is shapes) in
    absurd own.1.1

no_three : (relation : Relation) (kinds : List Kind) (a b c : Term) (args : List Arg) (P : Type 0) → args ≡ One a ∷ One b ∷ One c ∷ [] → shapes_of (row_of relation) ≡ OneOf IntegerSet ∷ OneOf IntegerSet ∷ []
    → AllZip (HasShape kinds) (shapes_of (row_of relation)) args → P
no_three relation kinds a b c args P is row shapes =
    let own : AllZip (HasShape kinds) (OneOf IntegerSet ∷ OneOf IntegerSet ∷ []) (One a ∷ One b ∷ One c ∷ []) =
    subst (λ xs. AllZip (HasShape kinds) xs (One a ∷ One b ∷ One c ∷ [])) row (subst (AllZip (HasShape kinds) (shapes_of (row_of relation))) is shapes) in
    absurd own.1.1

pub shape_of_two : (ps : List Place) (relation : Relation) (truth : Bool) (a b : Term) (args : List Arg) (s : SetShape) → args ≡ One a ∷ One b ∷ [] → is_between_sets relation ≡ true
    → IsExact ps s (a ∷ b ∷ []) (λ values. HasTruth (beq (rule_truth relation) truth) (RelatesTwo (rule_of relation) a b values)) → IsShapeOf ps relation truth args s
unfolding HoldsOf
shape_of_two ps SetEq truth a b args s is between exact = by_rule_of_two ps SetEq truth a b args s is refl refl (λ values. refl) exact
shape_of_two ps SetLt truth a b args s is between exact = by_rule_of_two ps SetLt truth a b args s is refl refl (λ values. refl) exact
shape_of_two ps SetLe truth a b args s is between exact = by_rule_of_two ps SetLe truth a b args s is refl refl (λ values. refl) exact
shape_of_two ps SetSubset truth a b args s is between exact = by_rule_of_two ps SetSubset truth a b args s is refl refl (λ values. refl) exact
shape_of_two ps SetSuperset truth a b args s is between exact = by_rule_of_two ps SetSuperset truth a b args s is refl refl (λ values. refl) exact
shape_of_two ps SetNe truth a b args s is between exact = by_difference ps truth a b args s is exact
shape_of_two ps SetUnion truth a b args s is between exact = λ kinds sets values are shapes listed assigned. no_two SetUnion kinds a b args _ is refl shapes
shape_of_two ps SetIntersect truth a b args s is between exact = λ kinds sets values are shapes listed assigned. no_two SetIntersect kinds a b args _ is refl shapes
shape_of_two ps SetDiff truth a b args s is between exact = λ kinds sets values are shapes listed assigned. no_two SetDiff kinds a b args _ is refl shapes
shape_of_two ps SetSymdiff truth a b args s is between exact = λ kinds sets values are shapes listed assigned. no_two SetSymdiff kinds a b args _ is refl shapes
shape_of_two ps relation truth a b args s is between exact = absurd (let e : false ≡ true = between in cc)

pub shape_of_three : (ps : List Place) (relation : Relation) (truth : Bool) (a b c : Term) (args : List Arg) (s : SetShape) → args ≡ One a ∷ One b ∷ One c ∷ [] → is_between_sets relation ≡ true
    → IsExact ps s (a ∷ b ∷ c ∷ []) (λ values. HasTruth (beq (rule_truth relation) truth) (RelatesThree (rule_of relation) a b c values)) → IsShapeOf ps relation truth args s
unfolding HoldsOf
shape_of_three ps SetUnion truth a b c args s is between exact = by_rule_of_three ps SetUnion truth a b c args s is refl refl (λ values. refl) exact
shape_of_three ps SetIntersect truth a b c args s is between exact = by_rule_of_three ps SetIntersect truth a b c args s is refl refl (λ values. refl) exact
shape_of_three ps SetDiff truth a b c args s is between exact = by_rule_of_three ps SetDiff truth a b c args s is refl refl (λ values. refl) exact
shape_of_three ps SetSymdiff truth a b c args s is between exact = by_rule_of_three ps SetSymdiff truth a b c args s is refl refl (λ values. refl) exact
shape_of_three ps SetEq truth a b c args s is between exact = λ kinds sets values are shapes listed assigned. no_three SetEq kinds a b c args _ is refl shapes
shape_of_three ps SetNe truth a b c args s is between exact = λ kinds sets values are shapes listed assigned. no_three SetNe kinds a b c args _ is refl shapes
shape_of_three ps SetLt truth a b c args s is between exact = λ kinds sets values are shapes listed assigned. no_three SetLt kinds a b c args _ is refl shapes
shape_of_three ps SetLe truth a b c args s is between exact = λ kinds sets values are shapes listed assigned. no_three SetLe kinds a b c args _ is refl shapes
shape_of_three ps SetSubset truth a b c args s is between exact = λ kinds sets values are shapes listed assigned. no_three SetSubset kinds a b c args _ is refl shapes
shape_of_three ps SetSuperset truth a b c args s is between exact = λ kinds sets values are shapes listed assigned. no_three SetSuperset kinds a b c args _ is refl shapes
shape_of_three ps relation truth a b c args s is between exact = absurd (let e : false ≡ true = between in cc)
