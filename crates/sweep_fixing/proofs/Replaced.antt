-- A constraint with a value in the place of a variable says of values what the constraint says of those that have it there.
use Rattle.std.proofs.Common.{◌≡◌, ◌≢◌, pos, ◌+ℤ◌, ◌*ℤ◌, ◌≤ℤ◌, ◌<ℤ◌, ℤ, ℕ, ◌<◌, ◌==◌, ◌↔◌, ◌⊎◌, Bool, true, false, ◌&&◌, ◌||◌, cond, List, [], ◌∷◌, length, map, set, Option, Some, None, refl, sym, ap, ◌∙◌, subst, IsTrue}
use Rattle.std.specs.Prelude.{slice_get, option_and_then, All, Any}
use Rattle.std.specs.List.{AllZip}
use Rattle.std.specs.Option.{option_map}
use Rattle.std.proofs.lemmas.Bool.{eqb-true, eqb-false}
use Rattle.std.proofs.lemmas.List.Elements.{All-head, All-tail}
use Rattle.set_meaning.specs.declared.kinds.Kind.{Kind}
use Rattle.set_meaning.specs.declared.kinds.Value.{Value}
use Rattle.set_meaning.specs.declared.problems.VarId.{VarId}
use Rattle.set_meaning.specs.declared.problems.Term.{Term}
use Rattle.set_meaning.specs.declared.problems.Term.TheVariants.{Const, Var}
use Rattle.set_meaning.specs.declared.problems.Arg.{Arg}
use Rattle.set_meaning.specs.declared.problems.Arg.TheVariants.{One, Many}
use Rattle.set_meaning.specs.declared.problems.Relation.{Relation}
use Rattle.set_meaning.specs.declared.problems.Relation.TheVariants.{SetEq, SetNe, SetLt, SetLe, SetSubset, SetSuperset, SetIn, SetUnion, SetIntersect, SetDiff, SetSymdiff, SetCard, ArraySetElement, IntEq, IntNe, IntLe, IntLt, IntLinEq, IntLinLe, IntLinNe, IntPlus, IntTimes, IntMin, IntMax, IntAbs, ArrayIntElement, BoolEq, BoolLe, BoolLt, BoolNot, BoolAnd, BoolOr, BoolXor, BoolClause, ArrayBoolAnd, ArrayBoolOr, Bool2Int, ArrayBoolElement}
use Rattle.set_meaning.specs.declared.problems.Constraint.{Constraint}
use Rattle.set_meaning.specs.declared.rows.Sort.TheVariants.{Integer}
use Rattle.set_meaning.specs.declared.rows.Shape.{Shape}
use Rattle.set_meaning.specs.declared.rows.Shape.TheVariants.{OneOf, ManyOf, ConstantOf, ConstantsOf}
use Rattle.set_meaning.specs.Sets.{Has, IsSubset, IsUnion, IsIntersection, IsDifference, IsSymmetricDifference, IsBefore}
use Rattle.set_meaning.specs.Integers.{IsMinimum, IsMaximum, IsAbsoluteValue}
use Rattle.set_meaning.specs.Elements.{IsItem}
use Rattle.set_meaning.specs.Booleans.{IsClause, IsNumberOf}
use Rattle.set_meaning.specs.LinearSums.{IsLinear}
use Rattle.set_meaning.specs.Arguments.{value_of, bool_in, int_in, set_in, one_of, many_of, each_of, cons_some, bool_of_term, bool_of, int_of, set_of, bools_of, ints_of, sets_of, constant_of_term, constant_of, constants_of, OfTwo, OfThree, OfTwoArgs, OfThreeArgs, OfTwoBools, OfThreeBools, OfTwoInts, OfThreeInts, OfLinear, OfTwoSets, OfThreeSets}
use Rattle.set_meaning.specs.Rows.{IsConstantOf, HasShape, linear, shapes_of, row_of, FitsRow}
use Rattle.set_meaning.specs.Relations.{HoldsOf, IsTruthOf, HoldsAs, Holds}
use Rattle.sweep_fixing.specs.Fixing.{fixed_term, fixed_arg, fixed}
use Rattle.sweep_fixing.proofs.Puts.{at_put, beside_put}

-- ---- relations of what arguments stand for

two_same : {A B : Type 0} (f f' : Arg → Option A) (g g' : Arg → Option B) (h : Arg → Arg) (R : A → B → Type 0) (args : List Arg)
    → ((a : Arg) → f a ≡ f' (h a)) → ((a : Arg) → g a ≡ g' (h a)) → OfTwoArgs f g R args ↔ OfTwoArgs f' g' R (map h args)
two_same f f' g g' h R [] hf hg = (λ k. k, λ k. k)
two_same f f' g g' h R (a ∷ []) hf hg = (λ k. k, λ k. k)
two_same f f' g g' h R (a ∷ b ∷ []) hf hg = (
  λ k. subst (λ o. OfTwo R o (g' (h b))) (hf a) (subst (λ o. OfTwo R (f a) o) (hg b) k),
  λ k. subst (λ o. OfTwo R (f a) o) (sym (hg b)) (subst (λ o. OfTwo R o (g' (h b))) (sym (hf a)) k),
)
two_same f f' g g' h R (a ∷ b ∷ c ∷ args) hf hg = (λ k. k, λ k. k)

three_same : {A B C : Type 0} (f f' : Arg → Option A) (g g' : Arg → Option B) (k k' : Arg → Option C) (h : Arg → Arg) (R : A → B → C → Type 0) (args : List Arg)
    → ((a : Arg) → f a ≡ f' (h a)) → ((a : Arg) → g a ≡ g' (h a)) → ((a : Arg) → k a ≡ k' (h a)) → OfThreeArgs f g k R args ↔ OfThreeArgs f' g' k' R (map h args)
three_same f f' g g' k k' h R [] hf hg hk = (λ t. t, λ t. t)
three_same f f' g g' k k' h R (a ∷ []) hf hg hk = (λ t. t, λ t. t)
three_same f f' g g' k k' h R (a ∷ b ∷ []) hf hg hk = (λ t. t, λ t. t)
three_same f f' g g' k k' h R (a ∷ b ∷ c ∷ []) hf hg hk = (
  λ t. subst (λ o. OfThree R o (g' (h b)) (k' (h c))) (hf a) (subst (λ o. OfThree R (f a) o (k' (h c))) (hg b) (subst (λ o. OfThree R (f a) (g b) o) (hk c) t)),
  λ t. subst (λ o. OfThree R (f a) (g b) o) (sym (hk c)) (subst (λ o. OfThree R (f a) o (k' (h c))) (sym (hg b)) (subst (λ o. OfThree R o (g' (h b)) (k' (h c))) (sym (hf a)) t)),
)
three_same f f' g g' k k' h R (a ∷ b ∷ c ∷ d ∷ args) hf hg hk = (λ t. t, λ t. t)

-- ---- values with one put in place

module _ (values : List Value) (v : VarId) (x : Value) (within : v.0 < length values) where
  abbrev pub put : List Value
  put = set values v.0 x

  term_same : (t : Term) → value_of t put ≡ value_of (fixed_term v x t) values
  term_same (Const y) = refl
  term_same (Var u) = by (u.0 == v.0) refl
    where
      by : (b : Bool) → (u.0 == v.0) ≡ b → slice_get (set values v.0 x) u.0 ≡ value_of (cond b (Const x) (Var u)) values
      by true e = ap (slice_get (set values v.0 x)) (eqb-true u.0 v.0 e) ∙ at_put values v.0 x within
      by false e = beside_put values v.0 u.0 x (λ same. eqb-false u.0 v.0 e (sym same))

  module _ (X : Type 0) (g : Value → Option X) where
    abbrev before : Term → Option X
    before t = option_and_then g (value_of t put)

    abbrev after : Term → Option X
    after t = option_and_then g (value_of t values)

    read_same : (t : Term) → before t ≡ after (fixed_term v x t)
    read_same t = ap (option_and_then g) (term_same t)

    one_same : (a : Arg) → one_of before a ≡ one_of after (fixed_arg v x a)
    one_same (One t) = read_same t
    one_same (Many ts) = refl

    each_same : (ts : List Term) → each_of before ts ≡ each_of after (map (fixed_term v x) ts)
    each_same [] = refl
    each_same (t ∷ ts) = ap (λ o. cons_some o (each_of before ts)) (read_same t) ∙ ap (λ o. cons_some (after (fixed_term v x t)) o) (each_same ts)

    many_same : (a : Arg) → many_of before a ≡ many_of after (fixed_arg v x a)
    many_same (One t) = refl
    many_same (Many ts) = each_same ts

  bools : (a : Arg) → bool_of put a ≡ bool_of values (fixed_arg v x a)
  bools a = one_same Bool bool_in a

  ints : (a : Arg) → int_of put a ≡ int_of values (fixed_arg v x a)
  ints a = one_same ℤ int_in a

  sets : (a : Arg) → set_of put a ≡ set_of values (fixed_arg v x a)
  sets a = one_same (List ℤ) set_in a

  all_bools : (a : Arg) → bools_of put a ≡ bools_of values (fixed_arg v x a)
  all_bools a = many_same Bool bool_in a

  all_ints : (a : Arg) → ints_of put a ≡ ints_of values (fixed_arg v x a)
  all_ints a = many_same ℤ int_in a

  all_sets : (a : Arg) → sets_of put a ≡ sets_of values (fixed_arg v x a)
  all_sets a = many_same (List ℤ) set_in a

  two_bools : (R : Bool → Bool → Type 0) (args : List Arg) → OfTwoBools R args put ↔ OfTwoBools R (map (fixed_arg v x) args) values
  two_bools R args = two_same (bool_of put) (bool_of values) (bool_of put) (bool_of values) (fixed_arg v x) R args bools bools

  three_bools : (R : Bool → Bool → Bool → Type 0) (args : List Arg) → OfThreeBools R args put ↔ OfThreeBools R (map (fixed_arg v x) args) values
  three_bools R args = three_same (bool_of put) (bool_of values) (bool_of put) (bool_of values) (bool_of put) (bool_of values) (fixed_arg v x) R args bools bools bools

  two_ints : (R : ℤ → ℤ → Type 0) (args : List Arg) → OfTwoInts R args put ↔ OfTwoInts R (map (fixed_arg v x) args) values
  two_ints R args = two_same (int_of put) (int_of values) (int_of put) (int_of values) (fixed_arg v x) R args ints ints

  three_ints : (R : ℤ → ℤ → ℤ → Type 0) (args : List Arg) → OfThreeInts R args put ↔ OfThreeInts R (map (fixed_arg v x) args) values
  three_ints R args = three_same (int_of put) (int_of values) (int_of put) (int_of values) (int_of put) (int_of values) (fixed_arg v x) R args ints ints ints

  two_sets : (R : List ℤ → List ℤ → Type 0) (args : List Arg) → OfTwoSets R args put ↔ OfTwoSets R (map (fixed_arg v x) args) values
  two_sets R args = two_same (set_of put) (set_of values) (set_of put) (set_of values) (fixed_arg v x) R args sets sets

  three_sets : (R : List ℤ → List ℤ → List ℤ → Type 0) (args : List Arg) → OfThreeSets R args put ↔ OfThreeSets R (map (fixed_arg v x) args) values
  three_sets R args = three_same (set_of put) (set_of values) (set_of put) (set_of values) (set_of put) (set_of values) (fixed_arg v x) R args sets sets sets

  -- ---- linear sums, whose constants have no variable

  constant_same : (t : Term) → IsConstantOf Integer t → constant_of_term t ≡ constant_of_term (fixed_term v x t)
  constant_same (Const y) h = refl
  constant_same (Var u) h = absurd h

  constants_same : (ts : List Term) → All (IsConstantOf Integer) ts → each_of constant_of_term ts ≡ each_of constant_of_term (map (fixed_term v x) ts)
  constants_same [] h = refl
  constants_same (t ∷ ts) h =
      ap (λ o. cons_some o (each_of constant_of_term ts)) (constant_same t (All-head (IsConstantOf Integer) t ts h))
      ∙ ap (λ o. cons_some (constant_of_term (fixed_term v x t)) o) (constants_same ts (All-tail (IsConstantOf Integer) t ts h))

  linear_same : (R : ℤ → ℤ → Type 0) (kinds : List Kind) (args : List Arg) → AllZip (HasShape kinds) (shapes_of linear) args → OfLinear R args put ↔ OfLinear R (map (fixed_arg v x) args) values
  linear_same R kinds [] h = absurd h
  linear_same R kinds (a ∷ []) h = absurd h.1
  linear_same R kinds (a ∷ b ∷ []) h = absurd h.1.1
  linear_same R kinds (One t ∷ b ∷ c ∷ []) h = absurd h.0
  linear_same R kinds (Many cs ∷ b ∷ Many us ∷ []) h = absurd h.1.1.0
  linear_same R kinds (Many cs ∷ b ∷ One t ∷ []) h =
      let first = constants_same cs h.0 in
      let third = constant_same t h.1.1.0 in (
        λ k. subst (λ o. OfThree (IsLinear R) o (ints_of values (fixed_arg v x b)) (constant_of_term (fixed_term v x t))) first
            (subst (λ o. OfThree (IsLinear R) (each_of constant_of_term cs) o (constant_of_term (fixed_term v x t))) (all_ints b)
            (subst (λ o. OfThree (IsLinear R) (each_of constant_of_term cs) (ints_of put b) o) third k)),
        λ k. subst (λ o. OfThree (IsLinear R) (each_of constant_of_term cs) (ints_of put b) o) (sym third)
            (subst (λ o. OfThree (IsLinear R) (each_of constant_of_term cs) o (constant_of_term (fixed_term v x t))) (sym (all_ints b))
            (subst (λ o. OfThree (IsLinear R) o (ints_of values (fixed_arg v x b)) (constant_of_term (fixed_term v x t))) (sym first) k)),
      )
  linear_same R kinds (a ∷ b ∷ c ∷ d ∷ args) h = absurd h.1.1.1

  relations_same : (r : Relation) (kinds : List Kind) (args : List Arg) → AllZip (HasShape kinds) (shapes_of (row_of r)) args → HoldsOf r args put ↔ HoldsOf r (map (fixed_arg v x) args) values
  unfolding HoldsOf
  relations_same SetEq kinds args fits = two_sets (λ a b. a ≡ b) args
  relations_same SetNe kinds args fits = two_sets (λ a b. a ≢ b) args
  relations_same SetLt kinds args fits = two_sets IsBefore args
  relations_same SetLe kinds args fits = two_sets (λ a b. IsBefore a b ⊎ (a ≡ b)) args
  relations_same SetSubset kinds args fits = two_sets IsSubset args
  relations_same SetSuperset kinds args fits = two_sets (λ a b. IsSubset b a) args
  relations_same SetIn kinds args fits = two_same (int_of put) (int_of values) (set_of put) (set_of values) (fixed_arg v x) (λ y a. Has a y) args ints sets
  relations_same SetUnion kinds args fits = three_sets IsUnion args
  relations_same SetIntersect kinds args fits = three_sets IsIntersection args
  relations_same SetDiff kinds args fits = three_sets IsDifference args
  relations_same SetSymdiff kinds args fits = three_sets IsSymmetricDifference args
  relations_same SetCard kinds args fits = two_same (set_of put) (set_of values) (int_of put) (int_of values) (fixed_arg v x) (λ a n. n ≡ pos (length a)) args sets ints
  relations_same ArraySetElement kinds args fits = three_same (int_of put) (int_of values) (sets_of put) (sets_of values) (set_of put) (set_of values) (fixed_arg v x) IsItem args ints all_sets sets
  relations_same IntEq kinds args fits = two_ints (λ a b. a ≡ b) args
  relations_same IntNe kinds args fits = two_ints (λ a b. a ≢ b) args
  relations_same IntLe kinds args fits = two_ints (λ a b. a ≤ℤ b) args
  relations_same IntLt kinds args fits = two_ints (λ a b. a <ℤ b) args
  relations_same IntLinEq kinds args fits = linear_same (λ sum k. sum ≡ k) kinds args fits
  relations_same IntLinLe kinds args fits = linear_same (λ sum k. sum ≤ℤ k) kinds args fits
  relations_same IntLinNe kinds args fits = linear_same (λ sum k. sum ≢ k) kinds args fits
  relations_same IntPlus kinds args fits = three_ints (λ a b c. (a +ℤ b) ≡ c) args
  relations_same IntTimes kinds args fits = three_ints (λ a b c. (a *ℤ b) ≡ c) args
  relations_same IntMin kinds args fits = three_ints IsMinimum args
  relations_same IntMax kinds args fits = three_ints IsMaximum args
  relations_same IntAbs kinds args fits = two_ints IsAbsoluteValue args
  relations_same ArrayIntElement kinds args fits = three_same (int_of put) (int_of values) (ints_of put) (ints_of values) (int_of put) (int_of values) (fixed_arg v x) IsItem args ints all_ints ints
  relations_same BoolEq kinds args fits = two_bools (λ a b. a ≡ b) args
  relations_same BoolLe kinds args fits = two_bools (λ a b. (a ≡ false) ⊎ (b ≡ true)) args
  relations_same BoolLt kinds args fits = two_bools (λ a b. (a ≡ false) × (b ≡ true)) args
  relations_same BoolNot kinds args fits = two_bools (λ a b. a ≢ b) args
  relations_same BoolAnd kinds args fits = three_bools (λ a b c. c ≡ (a && b)) args
  relations_same BoolOr kinds args fits = three_bools (λ a b c. c ≡ (a || b)) args
  relations_same BoolXor kinds args fits = three_bools (λ a b c. IsTrue c ↔ (a ≢ b)) args
  relations_same BoolClause kinds args fits = two_same (bools_of put) (bools_of values) (bools_of put) (bools_of values) (fixed_arg v x) IsClause args all_bools all_bools
  relations_same ArrayBoolAnd kinds args fits = two_same (bools_of put) (bools_of values) (bool_of put) (bool_of values) (fixed_arg v x) (λ items c. IsTrue c ↔ All IsTrue items) args all_bools bools
  relations_same ArrayBoolOr kinds args fits = two_same (bools_of put) (bools_of values) (bool_of put) (bool_of values) (fixed_arg v x) (λ items c. IsTrue c ↔ Any IsTrue items) args all_bools bools
  relations_same Bool2Int kinds args fits = two_same (bool_of put) (bool_of values) (int_of put) (int_of values) (fixed_arg v x) IsNumberOf args bools ints
  relations_same ArrayBoolElement kinds args fits = three_same (int_of put) (int_of values) (bools_of put) (bools_of values) (bool_of put) (bool_of values) (fixed_arg v x) IsItem args ints all_bools bools

  truths : (o : Option Bool) (P Q : Type 0) → P ↔ Q → IsTruthOf o P → IsTruthOf o Q
  truths None P Q both h = absurd h
  truths (Some b) P Q both h = (λ is. both.0 (h.0 is), λ q. h.1 (both.1 q))

  turned : {P Q : Type 0} → P ↔ Q → Q ↔ P
  turned both = (both.1, both.0)

  as_same : (reif : Option Term) (P Q : Type 0) → P ↔ Q → HoldsAs reif put P ↔ HoldsAs (option_map (fixed_term v x) reif) values Q
  as_same None P Q both = both
  as_same (Some t) P Q both =
      let read : bool_of_term put t ≡ bool_of_term values (fixed_term v x t) = read_same Bool bool_in t in (
        λ h. subst (λ o. IsTruthOf o Q) read (truths (bool_of_term put t) P Q both h),
        λ h. truths (bool_of_term put t) Q P (turned both) (subst (λ o. IsTruthOf o Q) (sym read) h),
      )

  pub holds_same : (c : Constraint) (kinds : List Kind) → FitsRow kinds c → Holds c put ↔ Holds (fixed v x c) values
  unfolding Holds
  holds_same c kinds fits = as_same c.reif (HoldsOf c.relation c.args put) (HoldsOf c.relation (map (fixed_arg v x) c.args) values) (relations_same c.relation kinds c.args fits.args)
