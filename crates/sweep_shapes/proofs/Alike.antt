-- Whether a constraint holds depends on the values of its variables alone.
use Rattle.std.proofs.Common.{◌≡◌, ◌≢◌, pos, ◌+ℤ◌, ◌*ℤ◌, ◌≤ℤ◌, ◌<ℤ◌, ℤ, ◌↔◌, ◌⊎◌, Bool, true, false, ◌&&◌, ◌||◌, List, [], ◌∷◌, ◌++◌, length, Option, Some, None, refl, sym, ap, ◌∙◌, subst, IsTrue}
use Rattle.std.specs.Prelude.{slice_get, option_and_then, All, Any, option_to_list}
use Rattle.std.specs.List.{filter_map, flat_map}
use Rattle.set_meaning.specs.declared.kinds.Value.{Value}
use Rattle.set_meaning.specs.declared.problems.VarId.{VarId}
use Rattle.set_meaning.specs.declared.problems.Term.{Term}
use Rattle.set_meaning.specs.declared.problems.Term.TheVariants.{Const, Var}
use Rattle.set_meaning.specs.declared.problems.Arg.{Arg}
use Rattle.set_meaning.specs.declared.problems.Arg.TheVariants.{One, Many}
use Rattle.set_meaning.specs.declared.problems.Relation.{Relation}
use Rattle.set_meaning.specs.declared.problems.Relation.TheVariants.{SetEq, SetNe, SetLt, SetLe, SetSubset, SetSuperset, SetIn, SetUnion, SetIntersect, SetDiff, SetSymdiff, SetCard, ArraySetElement, IntEq, IntNe, IntLe, IntLt, IntLinEq, IntLinLe, IntLinNe, IntPlus, IntTimes, IntMin, IntMax, IntAbs, ArrayIntElement, BoolEq, BoolLe, BoolLt, BoolNot, BoolAnd, BoolOr, BoolXor, BoolClause, ArrayBoolAnd, ArrayBoolOr, Bool2Int, ArrayBoolElement}
use Rattle.set_meaning.specs.declared.problems.Constraint.{Constraint}
use Rattle.set_meaning.specs.Sets.{Has, IsSubset, IsUnion, IsIntersection, IsDifference, IsSymmetricDifference, IsBefore}
use Rattle.set_meaning.specs.Integers.{IsMinimum, IsMaximum, IsAbsoluteValue}
use Rattle.set_meaning.specs.Elements.{IsItem}
use Rattle.set_meaning.specs.Booleans.{IsClause, IsNumberOf}
use Rattle.set_meaning.specs.LinearSums.{IsLinear}
use Rattle.set_meaning.specs.Arguments.{value_of, bool_in, int_in, set_in, one_of, many_of, each_of, cons_some, bool_of_term, bool_of, int_of, set_of, bools_of, ints_of, sets_of, constant_of, constants_of, OfTwo, OfThree, OfTwoArgs, OfThreeArgs, OfTwoBools, OfThreeBools, OfTwoInts, OfThreeInts, OfLinear, OfTwoSets, OfThreeSets}
use Rattle.set_meaning.specs.Relations.{HoldsOf, IsTruthOf, HoldsAs, Holds, terms_of, variable_of, variables_of}

-- P of each item, by recursion on the list
abbrev pub Each : {X : Type 0} → (X → Type 0) → List X → Type 0
Each P [] = Unit {0}
Each P (x ∷ xs) = P x × Each P xs

pub each_front : {X : Type 0} (P : X → Type 0) (xs ys : List X) → Each P (xs ++ ys) → Each P xs
each_front P [] ys h = tt
each_front P (x ∷ xs) ys h = (h.0, each_front P xs ys h.1)

pub each_back : {X : Type 0} (P : X → Type 0) (xs ys : List X) → Each P (xs ++ ys) → Each P ys
each_back P [] ys h = h
each_back P (x ∷ xs) ys h = each_back P xs ys h.1

-- ---- relations of what arguments stand for

two_alike : {A B : Type 0} (f f' : Arg → Option A) (g g' : Arg → Option B) (R : A → B → Type 0) (args : List Arg)
    → Each (λ a. f a ≡ f' a) args → Each (λ a. g a ≡ g' a) args → OfTwoArgs f g R args → OfTwoArgs f' g' R args
two_alike f f' g g' R [] hf hg h = absurd h
two_alike f f' g g' R (a ∷ []) hf hg h = absurd h
two_alike f f' g g' R (a ∷ b ∷ []) hf hg h = subst (λ o. OfTwo R o (g' b)) hf.0 (subst (λ o. OfTwo R (f a) o) hg.1.0 h)
two_alike f f' g g' R (a ∷ b ∷ c ∷ args) hf hg h = absurd h

three_alike : {A B C : Type 0} (f f' : Arg → Option A) (g g' : Arg → Option B) (k k' : Arg → Option C) (R : A → B → C → Type 0) (args : List Arg)
    → Each (λ a. f a ≡ f' a) args → Each (λ a. g a ≡ g' a) args → Each (λ a. k a ≡ k' a) args → OfThreeArgs f g k R args → OfThreeArgs f' g' k' R args
three_alike f f' g g' k k' R [] hf hg hk h = absurd h
three_alike f f' g g' k k' R (a ∷ []) hf hg hk h = absurd h
three_alike f f' g g' k k' R (a ∷ b ∷ []) hf hg hk h = absurd h
three_alike f f' g g' k k' R (a ∷ b ∷ c ∷ []) hf hg hk h =
    subst (λ o. OfThree R o (g' b) (k' c)) hf.0 (subst (λ o. OfThree R (f a) o (k' c)) hg.1.0 (subst (λ o. OfThree R (f a) (g b) o) hk.1.1.0 h))
three_alike f f' g g' k k' R (a ∷ b ∷ c ∷ d ∷ args) hf hg hk h = absurd h

-- ---- values that are the same at some variables

module _ (xs ys : List Value) where
  abbrev pub Agree : VarId → Type 0
  Agree v = slice_get xs v.0 ≡ slice_get ys v.0

  abbrev TermAgrees : Term → Type 0
  TermAgrees t = value_of t xs ≡ value_of t ys

  abbrev ArgAgrees : Arg → Type 0
  ArgAgrees a = Each TermAgrees (terms_of a)

  terms_agree : (ts : List Term) → Each Agree (filter_map variable_of ts) → Each TermAgrees ts
  terms_agree [] h = tt
  terms_agree (Const v ∷ ts) h = (refl, terms_agree ts h)
  terms_agree (Var v ∷ ts) h = (h.0, terms_agree ts h.1)

  args_agree : (args : List Arg) → Each TermAgrees (flat_map terms_of args) → Each ArgAgrees args
  args_agree [] h = tt
  args_agree (a ∷ args) h = (each_front TermAgrees (terms_of a) (flat_map terms_of args) h, args_agree args (each_back TermAgrees (terms_of a) (flat_map terms_of args) h))

  module _ (X : Type 0) (g : Value → Option X) where
    abbrev before : Term → Option X
    before t = option_and_then g (value_of t xs)

    abbrev after : Term → Option X
    after t = option_and_then g (value_of t ys)

    term_alike : (t : Term) → TermAgrees t → before t ≡ after t
    term_alike t h = ap (option_and_then g) h

    one_alike : (a : Arg) → ArgAgrees a → one_of before a ≡ one_of after a
    one_alike (One t) h = term_alike t h.0
    one_alike (Many ts) h = refl

    each_alike : (ts : List Term) → Each TermAgrees ts → each_of before ts ≡ each_of after ts
    each_alike [] h = refl
    each_alike (t ∷ ts) h = ap (λ o. cons_some o (each_of before ts)) (term_alike t h.0) ∙ ap (λ o. cons_some (after t) o) (each_alike ts h.1)

    many_alike : (a : Arg) → ArgAgrees a → many_of before a ≡ many_of after a
    many_alike (One t) h = refl
    many_alike (Many ts) h = each_alike ts h

    ones_alike : (args : List Arg) → Each ArgAgrees args → Each (λ a. one_of before a ≡ one_of after a) args
    ones_alike [] h = tt
    ones_alike (a ∷ args) h = (one_alike a h.0, ones_alike args h.1)

    manys_alike : (args : List Arg) → Each ArgAgrees args → Each (λ a. many_of before a ≡ many_of after a) args
    manys_alike [] h = tt
    manys_alike (a ∷ args) h = (many_alike a h.0, manys_alike args h.1)

  bools : (args : List Arg) → Each ArgAgrees args → Each (λ a. bool_of xs a ≡ bool_of ys a) args
  bools args h = ones_alike Bool bool_in args h

  ints : (args : List Arg) → Each ArgAgrees args → Each (λ a. int_of xs a ≡ int_of ys a) args
  ints args h = ones_alike ℤ int_in args h

  sets : (args : List Arg) → Each ArgAgrees args → Each (λ a. set_of xs a ≡ set_of ys a) args
  sets args h = ones_alike (List ℤ) set_in args h

  all_bools : (args : List Arg) → Each ArgAgrees args → Each (λ a. bools_of xs a ≡ bools_of ys a) args
  all_bools args h = manys_alike Bool bool_in args h

  all_ints : (args : List Arg) → Each ArgAgrees args → Each (λ a. ints_of xs a ≡ ints_of ys a) args
  all_ints args h = manys_alike ℤ int_in args h

  all_sets : (args : List Arg) → Each ArgAgrees args → Each (λ a. sets_of xs a ≡ sets_of ys a) args
  all_sets args h = manys_alike (List ℤ) set_in args h

  itself : {X : Type 0} (f : Arg → X) (args : List Arg) → Each (λ a. f a ≡ f a) args
  itself f [] = tt
  itself f (a ∷ args) = (refl, itself f args)

  two_bools : (R : Bool → Bool → Type 0) (args : List Arg) → Each ArgAgrees args → OfTwoBools R args xs → OfTwoBools R args ys
  two_bools R args same h = two_alike (bool_of xs) (bool_of ys) (bool_of xs) (bool_of ys) R args (bools args same) (bools args same) h

  three_bools : (R : Bool → Bool → Bool → Type 0) (args : List Arg) → Each ArgAgrees args → OfThreeBools R args xs → OfThreeBools R args ys
  three_bools R args same h = three_alike (bool_of xs) (bool_of ys) (bool_of xs) (bool_of ys) (bool_of xs) (bool_of ys) R args (bools args same) (bools args same) (bools args same) h

  two_ints : (R : ℤ → ℤ → Type 0) (args : List Arg) → Each ArgAgrees args → OfTwoInts R args xs → OfTwoInts R args ys
  two_ints R args same h = two_alike (int_of xs) (int_of ys) (int_of xs) (int_of ys) R args (ints args same) (ints args same) h

  three_ints : (R : ℤ → ℤ → ℤ → Type 0) (args : List Arg) → Each ArgAgrees args → OfThreeInts R args xs → OfThreeInts R args ys
  three_ints R args same h = three_alike (int_of xs) (int_of ys) (int_of xs) (int_of ys) (int_of xs) (int_of ys) R args (ints args same) (ints args same) (ints args same) h

  two_sets : (R : List ℤ → List ℤ → Type 0) (args : List Arg) → Each ArgAgrees args → OfTwoSets R args xs → OfTwoSets R args ys
  two_sets R args same h = two_alike (set_of xs) (set_of ys) (set_of xs) (set_of ys) R args (sets args same) (sets args same) h

  three_sets : (R : List ℤ → List ℤ → List ℤ → Type 0) (args : List Arg) → Each ArgAgrees args → OfThreeSets R args xs → OfThreeSets R args ys
  three_sets R args same h = three_alike (set_of xs) (set_of ys) (set_of xs) (set_of ys) (set_of xs) (set_of ys) R args (sets args same) (sets args same) (sets args same) h

  linear : (R : ℤ → ℤ → Type 0) (args : List Arg) → Each ArgAgrees args → OfLinear R args xs → OfLinear R args ys
  linear R args same h = three_alike constants_of constants_of (ints_of xs) (ints_of ys) constant_of constant_of (IsLinear R) args (itself constants_of args) (all_ints args same) (itself constant_of args) h

  pub relations_alike : (r : Relation) (args : List Arg) → Each ArgAgrees args → HoldsOf r args xs → HoldsOf r args ys
  unfolding HoldsOf
  relations_alike SetEq args same h = two_sets (λ a b. a ≡ b) args same h
  relations_alike SetNe args same h = two_sets (λ a b. a ≢ b) args same h
  relations_alike SetLt args same h = two_sets IsBefore args same h
  relations_alike SetLe args same h = two_sets (λ a b. IsBefore a b ⊎ (a ≡ b)) args same h
  relations_alike SetSubset args same h = two_sets IsSubset args same h
  relations_alike SetSuperset args same h = two_sets (λ a b. IsSubset b a) args same h
  relations_alike SetIn args same h = two_alike (int_of xs) (int_of ys) (set_of xs) (set_of ys) (λ x a. Has a x) args (ints args same) (sets args same) h
  relations_alike SetUnion args same h = three_sets IsUnion args same h
  relations_alike SetIntersect args same h = three_sets IsIntersection args same h
  relations_alike SetDiff args same h = three_sets IsDifference args same h
  relations_alike SetSymdiff args same h = three_sets IsSymmetricDifference args same h
  relations_alike SetCard args same h = two_alike (set_of xs) (set_of ys) (int_of xs) (int_of ys) (λ a n. n ≡ pos (length a)) args (sets args same) (ints args same) h
  relations_alike ArraySetElement args same h = three_alike (int_of xs) (int_of ys) (sets_of xs) (sets_of ys) (set_of xs) (set_of ys) IsItem args (ints args same) (all_sets args same) (sets args same) h
  relations_alike IntEq args same h = two_ints (λ a b. a ≡ b) args same h
  relations_alike IntNe args same h = two_ints (λ a b. a ≢ b) args same h
  relations_alike IntLe args same h = two_ints (λ a b. a ≤ℤ b) args same h
  relations_alike IntLt args same h = two_ints (λ a b. a <ℤ b) args same h
  relations_alike IntLinEq args same h = linear (λ sum k. sum ≡ k) args same h
  relations_alike IntLinLe args same h = linear (λ sum k. sum ≤ℤ k) args same h
  relations_alike IntLinNe args same h = linear (λ sum k. sum ≢ k) args same h
  relations_alike IntPlus args same h = three_ints (λ a b c. (a +ℤ b) ≡ c) args same h
  relations_alike IntTimes args same h = three_ints (λ a b c. (a *ℤ b) ≡ c) args same h
  relations_alike IntMin args same h = three_ints IsMinimum args same h
  relations_alike IntMax args same h = three_ints IsMaximum args same h
  relations_alike IntAbs args same h = two_ints IsAbsoluteValue args same h
  relations_alike ArrayIntElement args same h = three_alike (int_of xs) (int_of ys) (ints_of xs) (ints_of ys) (int_of xs) (int_of ys) IsItem args (ints args same) (all_ints args same) (ints args same) h
  relations_alike BoolEq args same h = two_bools (λ a b. a ≡ b) args same h
  relations_alike BoolLe args same h = two_bools (λ a b. (a ≡ false) ⊎ (b ≡ true)) args same h
  relations_alike BoolLt args same h = two_bools (λ a b. (a ≡ false) × (b ≡ true)) args same h
  relations_alike BoolNot args same h = two_bools (λ a b. a ≢ b) args same h
  relations_alike BoolAnd args same h = three_bools (λ a b c. c ≡ (a && b)) args same h
  relations_alike BoolOr args same h = three_bools (λ a b c. c ≡ (a || b)) args same h
  relations_alike BoolXor args same h = three_bools (λ a b c. IsTrue c ↔ (a ≢ b)) args same h
  relations_alike BoolClause args same h = two_alike (bools_of xs) (bools_of ys) (bools_of xs) (bools_of ys) IsClause args (all_bools args same) (all_bools args same) h
  relations_alike ArrayBoolAnd args same h = two_alike (bools_of xs) (bools_of ys) (bool_of xs) (bool_of ys) (λ items c. IsTrue c ↔ All IsTrue items) args (all_bools args same) (bools args same) h
  relations_alike ArrayBoolOr args same h = two_alike (bools_of xs) (bools_of ys) (bool_of xs) (bool_of ys) (λ items c. IsTrue c ↔ Any IsTrue items) args (all_bools args same) (bools args same) h
  relations_alike Bool2Int args same h = two_alike (bool_of xs) (bool_of ys) (int_of xs) (int_of ys) IsNumberOf args (bools args same) (ints args same) h
  relations_alike ArrayBoolElement args same h = three_alike (int_of xs) (int_of ys) (bools_of xs) (bools_of ys) (bool_of xs) (bool_of ys) IsItem args (ints args same) (all_bools args same) (bools args same) h

  pub arguments_agree : (c : Constraint) → Each Agree (variables_of c) → Each ArgAgrees c.args × Each TermAgrees (option_to_list c.reif)
  arguments_agree c h =
      let ts = terms_agree (flat_map terms_of c.args ++ option_to_list c.reif) h in
      (args_agree c.args (each_front TermAgrees (flat_map terms_of c.args) (option_to_list c.reif) ts), each_back TermAgrees (flat_map terms_of c.args) (option_to_list c.reif) ts)

-- the truth value of a fact is that of one which holds just where it does
truths_alike : (o : Option Bool) (P Q : Type 0) → (P → Q) → (Q → P) → IsTruthOf o P → IsTruthOf o Q
truths_alike (Some b) P Q to from h = (λ is. to (h.0 is), λ q. h.1 (from q))
truths_alike None P Q to from h = absurd h

each_sym : (xs ys : List Value) (vs : List VarId) → Each (Agree xs ys) vs → Each (Agree ys xs) vs
each_sym xs ys [] h = tt
each_sym xs ys (v ∷ vs) h = (sym h.0, each_sym xs ys vs h.1)

as_alike : (xs ys : List Value) (reif : Option Term) (P Q : Type 0) → (P → Q) → (Q → P) → Each (λ t. value_of t xs ≡ value_of t ys) (option_to_list reif) → HoldsAs reif xs P → HoldsAs reif ys Q
as_alike xs ys None P Q to from same h = to h
as_alike xs ys (Some t) P Q to from same h = truths_alike (bool_of_term ys t) P Q to from (subst (λ o. IsTruthOf o P) (ap (option_and_then bool_in) same.0) h)

-- under values that are the same at the variables of the constraint it holds as well
pub holds_alike : (c : Constraint) (xs ys : List Value) → Each (Agree xs ys) (variables_of c) → Holds c xs → Holds c ys
unfolding Holds
holds_alike c xs ys same h =
    let there = arguments_agree xs ys c same in
    let back = arguments_agree ys xs c (each_sym xs ys (variables_of c) same) in
    as_alike xs ys c.reif (HoldsOf c.relation c.args xs) (HoldsOf c.relation c.args ys) (relations_alike xs ys c.relation c.args there.0) (relations_alike ys xs c.relation c.args back.0) there.1 h
