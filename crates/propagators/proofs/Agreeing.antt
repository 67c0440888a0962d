-- What a relation says depends on the values of its arguments' variables alone.
use Rattle.std.proofs.Common.{◌≡◌, ◌≢◌, ◌↔◌, ◌⊎◌, pos, ◌+ℤ◌, ◌*ℤ◌, ◌≤ℤ◌, ◌<ℤ◌, Bool, true, false, ◌&&◌, ◌||◌, ℤ, List, [], ◌∷◌, length, Option, refl, ap, ◌∙◌, subst, Contains}
use Rattle.std.specs.Prelude.{slice_get, filter_map, option_and_then, IsTrue, Any}
use Rattle.std.specs.List.{All, flat_map}
use Rattle.set_meaning.specs.declared.kinds.Value.{Value}
use Rattle.set_meaning.specs.declared.problems.VarId.{VarId}
use Rattle.set_meaning.specs.declared.problems.Term.{Term}
use Rattle.set_meaning.specs.declared.problems.Term.TheVariants.{Const, Var}
use Rattle.set_meaning.specs.declared.problems.Arg.{Arg}
use Rattle.set_meaning.specs.declared.problems.Arg.TheVariants.{One, Many}
use Rattle.set_meaning.specs.declared.problems.Relation.{Relation}
use Rattle.set_meaning.specs.declared.problems.Relation.TheVariants.{SetEq, SetNe, SetLt, SetLe, SetSubset, SetSuperset, SetIn, SetUnion, SetIntersect, SetDiff, SetSymdiff, SetCard, ArraySetElement, IntEq, IntNe, IntLe, IntLt, IntLinEq, IntLinLe, IntLinNe, IntPlus, IntTimes, IntMin, IntMax, IntAbs, ArrayIntElement, BoolEq, BoolLe, BoolLt, BoolNot, BoolAnd, BoolOr, BoolXor, BoolClause, ArrayBoolAnd, ArrayBoolOr, Bool2Int, ArrayBoolElement}
use Rattle.set_meaning.specs.Sets.{Has, IsSubset, IsUnion, IsIntersection, IsDifference, IsSymmetricDifference, IsBefore}
use Rattle.set_meaning.specs.Integers.{IsMinimum, IsMaximum, IsAbsoluteValue}
use Rattle.set_meaning.specs.Elements.{IsItem}
use Rattle.set_meaning.specs.Booleans.{IsClause, IsNumberOf}
use Rattle.set_meaning.specs.LinearSums.{IsLinear}
use Rattle.set_meaning.specs.Arguments.{value_of, bool_in, int_in, set_in, bool_of_term, int_of_term, set_of_term, one_of, many_of, each_of, cons_some, bool_of, int_of, set_of, bools_of, ints_of, sets_of, constant_of, constants_of, OfTwo, OfThree, OfTwoArgs, OfThreeArgs}
use Rattle.set_meaning.specs.Relations.{HoldsOf, terms_of, variable_of}
use Rattle.bit_layout.proofs.Rising.{in_head, in_tail}
use Rattle.scope_words.specs.Words.{variables_in}
use Rattle.scope_words.proofs.Bits.{flat_map_has}
use Rattle.propagators.proofs.Narrow.{term_variable}

-- the two lists have the same values at these variables
abbrev pub AgreeAt : List VarId → List Value → List Value → Type 0
AgreeAt vs xs ys = (v : VarId) → Contains vs v → slice_get xs v.0 ≡ slice_get ys v.0

-- the condition depends on the values of these variables alone
abbrev pub IsOfValues : List VarId → (List Value → Type 0) → Type 0
IsOfValues vs C = (xs ys : List Value) → AgreeAt vs xs ys → C xs → C ys

pub term_same : (ts : List Term) (xs ys : List Value) → AgreeAt (filter_map variable_of ts) xs ys → (t : Term) → Contains ts t → value_of t xs ≡ value_of t ys
term_same ts xs ys agree (Const v) h = refl
term_same ts xs ys agree (Var x) h = agree x (term_variable ts x h)

one_same : {X : Type 0} (f g : Term → Option X) (a : Arg) → ((t : Term) → Contains (terms_of a) t → f t ≡ g t) → one_of f a ≡ one_of g a
one_same f g (One t) h = h t (in_head t [])
one_same f g (Many ts) h = refl

each_same : {X : Type 0} (f g : Term → Option X) (ts : List Term) → ((t : Term) → Contains ts t → f t ≡ g t) → each_of f ts ≡ each_of g ts
each_same f g [] h = refl
each_same f g (t ∷ ts) h = ap (λ o. cons_some o (each_of f ts)) (h t (in_head t ts)) ∙ ap (λ os. cons_some (g t) os) (each_same f g ts (λ u m. h u (in_tail t ts u m)))

many_same : {X : Type 0} (f g : Term → Option X) (a : Arg) → ((t : Term) → Contains (terms_of a) t → f t ≡ g t) → many_of f a ≡ many_of g a
many_same f g (One t) h = refl
many_same f g (Many ts) h = each_same f g ts h

-- the arguments stand for the same under both lists
pub record AreAlike (args : List Arg) (xs ys : List Value) : Type 0 where
  pub bools : (a : Arg) → Contains args a → bool_of xs a ≡ bool_of ys a
  pub ints : (a : Arg) → Contains args a → int_of xs a ≡ int_of ys a
  pub sets : (a : Arg) → Contains args a → set_of xs a ≡ set_of ys a
  pub bool_lists : (a : Arg) → Contains args a → bools_of xs a ≡ bools_of ys a
  pub int_lists : (a : Arg) → Contains args a → ints_of xs a ≡ ints_of ys a
  pub set_lists : (a : Arg) → Contains args a → sets_of xs a ≡ sets_of ys a

pub alike : (args : List Arg) (xs ys : List Value) → AgreeAt (variables_in args) xs ys → AreAlike args xs ys
alike args xs ys agree = record {
  bools = λ a m. one_same (bool_of_term xs) (bool_of_term ys) a (λ t h. ap (λ o. option_and_then bool_in o) (same a m t h));
  ints = λ a m. one_same (int_of_term xs) (int_of_term ys) a (λ t h. ap (λ o. option_and_then int_in o) (same a m t h));
  sets = λ a m. one_same (set_of_term xs) (set_of_term ys) a (λ t h. ap (λ o. option_and_then set_in o) (same a m t h));
  bool_lists = λ a m. many_same (bool_of_term xs) (bool_of_term ys) a (λ t h. ap (λ o. option_and_then bool_in o) (same a m t h));
  int_lists = λ a m. many_same (int_of_term xs) (int_of_term ys) a (λ t h. ap (λ o. option_and_then int_in o) (same a m t h));
  set_lists = λ a m. many_same (set_of_term xs) (set_of_term ys) a (λ t h. ap (λ o. option_and_then set_in o) (same a m t h));
}
  where
    same : (a : Arg) → Contains args a → (t : Term) → Contains (terms_of a) t → value_of t xs ≡ value_of t ys
    same a m t h = term_same (flat_map terms_of args) xs ys agree t (flat_map_has terms_of args a t m h)

two : {A B : Type 0} (f g : Arg → Option A) (h k : Arg → Option B) (R : A → B → Type 0) (args : List Arg) → ((a : Arg) → Contains args a → f a ≡ g a) → ((a : Arg) → Contains args a → h a ≡ k a) → OfTwoArgs f h R args → OfTwoArgs g k R args
two f g h k R [] p q r = absurd r
two f g h k R (a ∷ []) p q r = absurd r
two f g h k R (a ∷ b ∷ []) p q r =
    subst (λ o. OfTwo R o (k b)) (p a (in_head a (b ∷ []))) (subst (λ o. OfTwo R (f a) o) (q b (in_tail a (b ∷ []) b (in_head b []))) r)
two f g h k R (a ∷ b ∷ c ∷ rest) p q r = absurd r

three : {A B D : Type 0} (f g : Arg → Option A) (h k : Arg → Option B) (m n : Arg → Option D) (R : A → B → D → Type 0) (args : List Arg) → ((a : Arg) → Contains args a → f a ≡ g a) → ((a : Arg) → Contains args a → h a ≡ k a)
    → ((a : Arg) → Contains args a → m a ≡ n a) → OfThreeArgs f h m R args → OfThreeArgs g k n R args
three f g h k m n R [] p q s r = absurd r
three f g h k m n R (a ∷ []) p q s r = absurd r
three f g h k m n R (a ∷ b ∷ []) p q s r = absurd r
three f g h k m n R (a ∷ b ∷ c ∷ []) p q s r =
    let at_a = p a (in_head a (b ∷ c ∷ [])) in
    let at_b = q b (in_tail a (b ∷ c ∷ []) b (in_head b (c ∷ []))) in
    let at_c = s c (in_tail a (b ∷ c ∷ []) c (in_tail b (c ∷ []) c (in_head c []))) in
    subst (λ o. OfThree R o (k b) (n c)) at_a (subst (λ o. OfThree R (f a) o (n c)) at_b (subst (λ o. OfThree R (f a) (h b) o) at_c r))
three f g h k m n R (a ∷ b ∷ c ∷ d ∷ rest) p q s r = absurd r

module _ (args : List Arg) (xs ys : List Value) (same : AreAlike args xs ys) where
  two_sets : (R : List ℤ → List ℤ → Type 0) → OfTwoArgs (set_of xs) (set_of xs) R args → OfTwoArgs (set_of ys) (set_of ys) R args
  two_sets R = two (set_of xs) (set_of ys) (set_of xs) (set_of ys) R args same.sets same.sets

  three_sets : (R : List ℤ → List ℤ → List ℤ → Type 0) → OfThreeArgs (set_of xs) (set_of xs) (set_of xs) R args → OfThreeArgs (set_of ys) (set_of ys) (set_of ys) R args
  three_sets R = three (set_of xs) (set_of ys) (set_of xs) (set_of ys) (set_of xs) (set_of ys) R args same.sets same.sets same.sets

  two_ints : (R : ℤ → ℤ → Type 0) → OfTwoArgs (int_of xs) (int_of xs) R args → OfTwoArgs (int_of ys) (int_of ys) R args
  two_ints R = two (int_of xs) (int_of ys) (int_of xs) (int_of ys) R args same.ints same.ints

  three_ints : (R : ℤ → ℤ → ℤ → Type 0) → OfThreeArgs (int_of xs) (int_of xs) (int_of xs) R args → OfThreeArgs (int_of ys) (int_of ys) (int_of ys) R args
  three_ints R = three (int_of xs) (int_of ys) (int_of xs) (int_of ys) (int_of xs) (int_of ys) R args same.ints same.ints same.ints

  two_bools : (R : Bool → Bool → Type 0) → OfTwoArgs (bool_of xs) (bool_of xs) R args → OfTwoArgs (bool_of ys) (bool_of ys) R args
  two_bools R = two (bool_of xs) (bool_of ys) (bool_of xs) (bool_of ys) R args same.bools same.bools

  three_bools : (R : Bool → Bool → Bool → Type 0) → OfThreeArgs (bool_of xs) (bool_of xs) (bool_of xs) R args → OfThreeArgs (bool_of ys) (bool_of ys) (bool_of ys) R args
  three_bools R = three (bool_of xs) (bool_of ys) (bool_of xs) (bool_of ys) (bool_of xs) (bool_of ys) R args same.bools same.bools same.bools

  linear : (R : ℤ → ℤ → Type 0) → OfThreeArgs constants_of (ints_of xs) constant_of (IsLinear R) args → OfThreeArgs constants_of (ints_of ys) constant_of (IsLinear R) args
  linear R = three constants_of constants_of (ints_of xs) (ints_of ys) constant_of constant_of (IsLinear R) args (λ a m. refl) same.int_lists (λ a m. refl)

  pub same_relation : (r : Relation) → HoldsOf r args xs → HoldsOf r args ys
  unfolding HoldsOf
  same_relation SetEq h = two_sets (λ a b. a ≡ b) h
  same_relation SetNe h = two_sets (λ a b. a ≢ b) h
  same_relation SetLt h = two_sets IsBefore h
  same_relation SetLe h = two_sets (λ a b. IsBefore a b ⊎ (a ≡ b)) h
  same_relation SetSubset h = two_sets IsSubset h
  same_relation SetSuperset h = two_sets (λ a b. IsSubset b a) h
  same_relation SetIn h = two (int_of xs) (int_of ys) (set_of xs) (set_of ys) (λ x a. Has a x) args same.ints same.sets h
  same_relation SetUnion h = three_sets IsUnion h
  same_relation SetIntersect h = three_sets IsIntersection h
  same_relation SetDiff h = three_sets IsDifference h
  same_relation SetSymdiff h = three_sets IsSymmetricDifference h
  same_relation SetCard h = two (set_of xs) (set_of ys) (int_of xs) (int_of ys) (λ a n. n ≡ pos (length a)) args same.sets same.ints h
  same_relation ArraySetElement h = three (int_of xs) (int_of ys) (sets_of xs) (sets_of ys) (set_of xs) (set_of ys) IsItem args same.ints same.set_lists same.sets h
  same_relation IntEq h = two_ints (λ a b. a ≡ b) h
  same_relation IntNe h = two_ints (λ a b. a ≢ b) h
  same_relation IntLe h = two_ints (λ a b. a ≤ℤ b) h
  same_relation IntLt h = two_ints (λ a b. a <ℤ b) h
  same_relation IntLinEq h = linear (λ sum k. sum ≡ k) h
  same_relation IntLinLe h = linear (λ sum k. sum ≤ℤ k) h
  same_relation IntLinNe h = linear (λ sum k. sum ≢ k) h
  same_relation IntPlus h = three_ints (λ a b c. (a +ℤ b) ≡ c) h
  same_relation IntTimes h = three_ints (λ a b c. (a *ℤ b) ≡ c) h
  same_relation IntMin h = three_ints IsMinimum h
  same_relation IntMax h = three_ints IsMaximum h
  same_relation IntAbs h = two_ints IsAbsoluteValue h
  same_relation ArrayIntElement h = three (int_of xs) (int_of ys) (ints_of xs) (ints_of ys) (int_of xs) (int_of ys) IsItem args same.ints same.int_lists same.ints h
  same_relation BoolEq h = two_bools (λ a b. a ≡ b) h
  same_relation BoolLe h = two_bools (λ a b. (a ≡ false) ⊎ (b ≡ true)) h
  same_relation BoolLt h = two_bools (λ a b. (a ≡ false) × (b ≡ true)) h
  same_relation BoolNot h = two_bools (λ a b. a ≢ b) h
  same_relation BoolAnd h = three_bools (λ a b c. c ≡ (a && b)) h
  same_relation BoolOr h = three_bools (λ a b c. c ≡ (a || b)) h
  same_relation BoolXor h = three_bools (λ a b c. IsTrue c ↔ (a ≢ b)) h
  same_relation BoolClause h = two (bools_of xs) (bools_of ys) (bools_of xs) (bools_of ys) IsClause args same.bool_lists same.bool_lists h
  same_relation ArrayBoolAnd h = two (bools_of xs) (bools_of ys) (bool_of xs) (bool_of ys) (λ items c. IsTrue c ↔ All IsTrue items) args same.bool_lists same.bools h
  same_relation ArrayBoolOr h = two (bools_of xs) (bools_of ys) (bool_of xs) (bool_of ys) (λ items c. IsTrue c ↔ Any IsTrue items) args same.bool_lists same.bools h
  same_relation Bool2Int h = two (bool_of xs) (bool_of ys) (int_of xs) (int_of ys) IsNumberOf args same.bools same.ints h
  same_relation ArrayBoolElement h = three (int_of xs) (int_of ys) (bools_of xs) (bools_of ys) (bool_of xs) (bool_of ys) IsItem args same.ints same.bool_lists same.bools h

pub relation_is_of_values : (r : Relation) (args : List Arg) → IsOfValues (variables_in args) (HoldsOf r args)
relation_is_of_values r args xs ys agree h = same_relation args xs ys (alike args xs ys agree) r h
