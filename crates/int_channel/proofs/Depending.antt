-- Whether a relation of integers and Booleans holds depends on the values of the arguments' variables alone.
use Rattle.std.proofs.Common.{◌≡◌, ◌↔◌, ◌⊎◌, Bool, true, false, ◌&&◌, ◌||◌, ℤ, pos, ◌+ℤ◌, ◌*ℤ◌, ◌≤ℤ◌, unsigned_abs, List, [], ◌∷◌, length, Option, Some, None, refl, sym, ap, ◌∙◌, subst, inl, inr, Contains}
use Rattle.std.specs.Prelude.{slice_get, option_and_then, ◌<ℤ◌, ◌≢◌, IsTrue, Any}
use Rattle.std.specs.List.{All, flat_map}
use Rattle.set_meaning.specs.declared.kinds.Value.{Value}
use Rattle.set_meaning.specs.declared.problems.VarId.{VarId}
use Rattle.set_meaning.specs.declared.problems.Term.{Term}
use Rattle.set_meaning.specs.declared.problems.Term.TheVariants.{Const, Var}
use Rattle.set_meaning.specs.declared.problems.Arg.{Arg}
use Rattle.set_meaning.specs.declared.problems.Arg.TheVariants.{One, Many}
use Rattle.set_meaning.specs.declared.problems.Relation.{Relation}
use Rattle.set_meaning.specs.declared.problems.Relation.TheVariants.{SetIn, IntEq, IntNe, IntLe, IntLt, IntLinEq, IntLinLe, IntLinNe, IntPlus, IntTimes, IntMin, IntMax, IntAbs, ArrayIntElement, BoolEq, BoolLe, BoolLt, BoolNot, BoolAnd, BoolOr, BoolXor, BoolClause, ArrayBoolAnd, ArrayBoolOr, Bool2Int, ArrayBoolElement}
use Rattle.set_meaning.specs.Sets.{Has}
use Rattle.set_meaning.specs.Integers.{IsMinimum, IsMaximum}
use Rattle.set_meaning.specs.LinearSums.{IsLinear}
use Rattle.set_meaning.specs.Booleans.{IsClause, IsNumberOf}
use Rattle.set_meaning.specs.Elements.{IsItem}
use Rattle.set_meaning.specs.Arguments.{bool_in, int_in, set_in, value_of, bool_of_term, int_of_term, set_of_term, cons_some, each_of, one_of, many_of, bool_of, int_of, set_of, bools_of, ints_of, constant_of, constants_of, OfTwo, OfThree, OfTwoArgs, OfThreeArgs}
use Rattle.set_meaning.specs.Relations.{HoldsOf, terms_of}
use Rattle.bit_layout.proofs.Rising.{in_head, in_tail}
use Rattle.scope_words.specs.Words.{variables_in}
use Rattle.scope_words.proofs.Bits.{flat_map_has}
use Rattle.int_channel.specs.Shapes.{is_shape}
use Rattle.int_channel.proofs.TermNumbers.{IsTermOver, over_terms}

-- the variables of the scope have the same values
abbrev pub Agree : List VarId → List Value → List Value → Type 0
Agree scope xs ys = (v : VarId) → Contains scope v → slice_get xs v.0 ≡ slice_get ys v.0

value_same : (scope : List VarId) (xs ys : List Value) (t : Term) → Agree scope xs ys → IsTermOver scope t → value_of t xs ≡ value_of t ys
value_same scope xs ys (Const v) agree over = refl
value_same scope xs ys (Var x) agree over = agree x over

-- a way to read a term is the same under both
abbrev ReadsAlike : {X : Type 0} → List VarId → List Value → List Value → (List Value → Term → Option X) → Type 0
ReadsAlike scope xs ys f = (t : Term) → IsTermOver scope t → f xs t ≡ f ys t

abbrev ArgsAlike : {X : Type 0} → List Arg → List Value → List Value → (List Value → Arg → Option X) → Type 0
ArgsAlike args xs ys f = (a : Arg) → Contains args a → f xs a ≡ f ys a

term_of_args : (args : List Arg) (a : Arg) (t : Term) → Contains args a → Contains (terms_of a) t → IsTermOver (variables_in args) t
term_of_args args a t of_args of_arg = over_terms (flat_map terms_of args) t (flat_map_has terms_of args a t of_args of_arg)

one_alike : {X : Type 0} (f : List Value → Term → Option X) (xs ys : List Value) (args : List Arg) → ReadsAlike (variables_in args) xs ys f → ArgsAlike args xs ys (λ values a. one_of (f values) a)
one_alike f xs ys args alike (One t) of_args = alike t (term_of_args args (One t) t of_args (in_head t []))
one_alike f xs ys args alike (Many ts) of_args = refl

each_alike : {X : Type 0} (f : List Value → Term → Option X) (xs ys : List Value) (ts : List Term) → ((t : Term) → Contains ts t → f xs t ≡ f ys t) → each_of (f xs) ts ≡ each_of (f ys) ts
each_alike f xs ys [] alike = refl
each_alike f xs ys (t ∷ ts) alike =
    ap (λ o. cons_some o (each_of (f xs) ts)) (alike t (in_head t ts)) ∙ ap (cons_some (f ys t)) (each_alike f xs ys ts (λ u h. alike u (in_tail t ts u h)))

many_alike : {X : Type 0} (f : List Value → Term → Option X) (xs ys : List Value) (args : List Arg) → ReadsAlike (variables_in args) xs ys f → ArgsAlike args xs ys (λ values a. many_of (f values) a)
many_alike f xs ys args alike (One t) of_args = refl
many_alike f xs ys args alike (Many ts) of_args = each_alike f xs ys ts (λ t h. alike t (term_of_args args (Many ts) t of_args h))

two_alike : {A B : Type 0} (f : List Value → Arg → Option A) (g : List Value → Arg → Option B) (R : A → B → Type 0) (xs ys : List Value) (args : List Arg)
    → ArgsAlike args xs ys f → ArgsAlike args xs ys g → OfTwoArgs (f xs) (g xs) R args → OfTwoArgs (f ys) (g ys) R args
two_alike f g R xs ys [] p q h = h
two_alike f g R xs ys (a ∷ []) p q h = h
two_alike f g R xs ys (a ∷ b ∷ []) p q h =
    subst (λ o. OfTwo R o (g ys b)) (p a (in_head a (b ∷ []))) (subst (OfTwo R (f xs a)) (q b (in_tail a (b ∷ []) b (in_head b []))) h)
two_alike f g R xs ys (a ∷ b ∷ c ∷ args) p q h = h

three_alike : {A B C : Type 0} (f : List Value → Arg → Option A) (g : List Value → Arg → Option B) (k : List Value → Arg → Option C) (R : A → B → C → Type 0) (xs ys : List Value) (args : List Arg)
    → ArgsAlike args xs ys f → ArgsAlike args xs ys g → ArgsAlike args xs ys k → OfThreeArgs (f xs) (g xs) (k xs) R args → OfThreeArgs (f ys) (g ys) (k ys) R args
three_alike f g k R xs ys [] p q r h = h
three_alike f g k R xs ys (a ∷ []) p q r h = h
three_alike f g k R xs ys (a ∷ b ∷ []) p q r h = h
three_alike f g k R xs ys (a ∷ b ∷ c ∷ []) p q r h =
    let last = in_tail a (b ∷ c ∷ []) c (in_tail b (c ∷ []) c (in_head c [])) in
    subst (λ o. OfThree R o (g ys b) (k ys c)) (p a (in_head a (b ∷ c ∷ [])))
    (subst (λ o. OfThree R (f xs a) o (k ys c)) (q b (in_tail a (b ∷ c ∷ []) b (in_head b (c ∷ []))))
    (subst (λ o. OfThree R (f xs a) (g xs b) o) (r c last) h))
three_alike f g k R xs ys (a ∷ b ∷ c ∷ d ∷ args) p q r h = h

-- the ways to read an argument are each the same under both
record Alike (args : List Arg) (xs ys : List Value) : Type 0 where
  bool : ArgsAlike args xs ys bool_of
  int : ArgsAlike args xs ys int_of
  set : ArgsAlike args xs ys set_of
  bools : ArgsAlike args xs ys bools_of
  ints : ArgsAlike args xs ys ints_of

are_alike : (args : List Arg) (xs ys : List Value) → Agree (variables_in args) xs ys → Alike args xs ys
are_alike args xs ys agree =
    let scope = variables_in args in
    let bool_alike : ReadsAlike scope xs ys bool_of_term = λ t over. ap (option_and_then bool_in) (value_same scope xs ys t agree over) in
    let int_alike : ReadsAlike scope xs ys int_of_term = λ t over. ap (option_and_then int_in) (value_same scope xs ys t agree over) in
    let set_alike : ReadsAlike scope xs ys set_of_term = λ t over. ap (option_and_then set_in) (value_same scope xs ys t agree over) in
    record {
      bool = one_alike bool_of_term xs ys args bool_alike;
      int = one_alike int_of_term xs ys args int_alike;
      set = one_alike set_of_term xs ys args set_alike;
      bools = many_alike bool_of_term xs ys args bool_alike;
      ints = many_alike int_of_term xs ys args int_alike;
    }

ints_two : (R : ℤ → ℤ → Type 0) (args : List Arg) (xs ys : List Value) → Alike args xs ys → OfTwoArgs (int_of xs) (int_of xs) R args → OfTwoArgs (int_of ys) (int_of ys) R args
ints_two R args xs ys s h = two_alike int_of int_of R xs ys args s.int s.int h

ints_three : (R : ℤ → ℤ → ℤ → Type 0) (args : List Arg) (xs ys : List Value) → Alike args xs ys → OfThreeArgs (int_of xs) (int_of xs) (int_of xs) R args → OfThreeArgs (int_of ys) (int_of ys) (int_of ys) R args
ints_three R args xs ys s h = three_alike int_of int_of int_of R xs ys args s.int s.int s.int h

bools_two : (R : Bool → Bool → Type 0) (args : List Arg) (xs ys : List Value) → Alike args xs ys → OfTwoArgs (bool_of xs) (bool_of xs) R args → OfTwoArgs (bool_of ys) (bool_of ys) R args
bools_two R args xs ys s h = two_alike bool_of bool_of R xs ys args s.bool s.bool h

bools_three : (R : Bool → Bool → Bool → Type 0) (args : List Arg) (xs ys : List Value) → Alike args xs ys → OfThreeArgs (bool_of xs) (bool_of xs) (bool_of xs) R args → OfThreeArgs (bool_of ys) (bool_of ys) (bool_of ys) R args
bools_three R args xs ys s h = three_alike bool_of bool_of bool_of R xs ys args s.bool s.bool s.bool h

linears : (R : ℤ → ℤ → Type 0) (args : List Arg) (xs ys : List Value) → Alike args xs ys → OfThreeArgs constants_of (ints_of xs) constant_of (IsLinear R) args → OfThreeArgs constants_of (ints_of ys) constant_of (IsLinear R) args
linears R args xs ys s h = three_alike (λ values a. constants_of a) ints_of (λ values a. constant_of a) (IsLinear R) xs ys args (λ a i. refl) s.ints (λ a i. refl) h

pub depends : (relation : Relation) (args : List Arg) (xs ys : List Value) → is_shape relation ≡ true → Agree (variables_in args) xs ys → HoldsOf relation args xs → HoldsOf relation args ys
unfolding HoldsOf
depends relation args xs ys shape agree = by relation shape (are_alike args xs ys agree)
  where
    by : (relation : Relation) → is_shape relation ≡ true → Alike args xs ys → HoldsOf relation args xs → HoldsOf relation args ys
    by SetIn shape s h = two_alike int_of set_of (λ x a. Has a x) xs ys args s.int s.set h
    by IntEq shape s h = ints_two (λ a b. a ≡ b) args xs ys s h
    by IntNe shape s h = ints_two (λ a b. a ≢ b) args xs ys s h
    by IntLe shape s h = ints_two (λ a b. a ≤ℤ b) args xs ys s h
    by IntLt shape s h = ints_two (λ a b. a <ℤ b) args xs ys s h
    by IntLinEq shape s h = linears (λ sum k. sum ≡ k) args xs ys s h
    by IntLinLe shape s h = linears (λ sum k. sum ≤ℤ k) args xs ys s h
    by IntLinNe shape s h = linears (λ sum k. sum ≢ k) args xs ys s h
    by IntPlus shape s h = ints_three (λ a b c. (a +ℤ b) ≡ c) args xs ys s h
    by IntTimes shape s h = ints_three (λ a b c. (a *ℤ b) ≡ c) args xs ys s h
    by IntMin shape s h = ints_three IsMinimum args xs ys s h
    by IntMax shape s h = ints_three IsMaximum args xs ys s h
    by IntAbs shape s h = ints_two (λ a b. b ≡ pos (unsigned_abs a)) args xs ys s h
    by ArrayIntElement shape s h = three_alike int_of ints_of int_of IsItem xs ys args s.int s.ints s.int h
    by BoolEq shape s h = bools_two (λ a b. a ≡ b) args xs ys s h
    by BoolLe shape s h = bools_two (λ a b. (a ≡ false) ⊎ (b ≡ true)) args xs ys s h
    by BoolLt shape s h = bools_two (λ a b. (a ≡ false) × (b ≡ true)) args xs ys s h
    by BoolNot shape s h = bools_two (λ a b. a ≢ b) args xs ys s h
    by BoolAnd shape s h = bools_three (λ a b c. c ≡ (a && b)) args xs ys s h
    by BoolOr shape s h = bools_three (λ a b c. c ≡ (a || b)) args xs ys s h
    by BoolXor shape s h = bools_three (λ a b c. IsTrue c ↔ (a ≢ b)) args xs ys s h
    by BoolClause shape s h = two_alike bools_of bools_of IsClause xs ys args s.bools s.bools h
    by ArrayBoolAnd shape s h = two_alike bools_of bool_of (λ items c. IsTrue c ↔ All IsTrue items) xs ys args s.bools s.bool h
    by ArrayBoolOr shape s h = two_alike bools_of bool_of (λ items c. IsTrue c ↔ Any IsTrue items) xs ys args s.bools s.bool h
    by Bool2Int shape s h = two_alike bool_of int_of IsNumberOf xs ys args s.bool s.int h
    by ArrayBoolElement shape s h = three_alike int_of bools_of bool_of IsItem xs ys args s.int s.bools s.bool h
    by relation shape s h = absurd (let e : false ≡ true = shape in cc)
