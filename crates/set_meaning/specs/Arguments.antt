-- What the terms and arguments of a constraint stand for, under a list of values, one a variable. This project's own,
-- after the FlatZinc grammar of the MiniZinc Handbook.
use Rattle.std.specs.Prelude.{Bool, ℤ, List, [], ◌∷◌, Option, Some, None, slice_get, option_and_then}
use Rattle.set_meaning.specs.declared.kinds.Value.{Value}
use Rattle.set_meaning.specs.declared.kinds.Value.TheVariants as value
use Rattle.set_meaning.specs.declared.problems.VarId.{VarId}
use Rattle.set_meaning.specs.declared.problems.Term.{Term}
use Rattle.set_meaning.specs.declared.problems.Term.TheVariants.{Const, Var}
use Rattle.set_meaning.specs.declared.problems.Arg.{Arg}
use Rattle.set_meaning.specs.declared.problems.Arg.TheVariants.{One, Many}
use Rattle.set_meaning.specs.LinearSums.{IsLinear}

-- ---- terms

abbrev pub value_of : Term → List Value → Option Value
value_of (Const v) values = Some v
value_of (Var x) values = slice_get values x.0

abbrev pub bool_in : Value → Option Bool
bool_in (value.Bool b) = Some b
bool_in _ = None

abbrev pub set_in : Value → Option (List ℤ)
set_in (value.Set s) = Some s
set_in _ = None

abbrev pub int_in : Value → Option ℤ
int_in (value.Int x) = Some x
int_in _ = None

-- the integer of a variable
abbrev pub int_at : VarId → List Value → Option ℤ
int_at v values = option_and_then int_in (slice_get values v.0)

abbrev pub bool_of_term : List Value → Term → Option Bool
bool_of_term values t = option_and_then bool_in (value_of t values)

abbrev pub int_of_term : List Value → Term → Option ℤ
int_of_term values t = option_and_then int_in (value_of t values)

abbrev pub set_of_term : List Value → Term → Option (List ℤ)
set_of_term values t = option_and_then set_in (value_of t values)

-- the integer of a constant
abbrev pub constant_of_term : Term → Option ℤ
constant_of_term (Const v) = int_in v
constant_of_term (Var x) = None

-- ---- arguments

-- what the one term stands for
abbrev pub one_of : {X : Type 0} → (Term → Option X) → Arg → Option X
one_of f (One t) = f t
one_of f (Many ts) = None

abbrev pub cons_some : {X : Type 0} → Option X → Option (List X) → Option (List X)
cons_some (Some x) (Some xs) = Some (x ∷ xs)
cons_some _ _ = None

-- what each term stands for, in order, where each stands for something
abbrev pub each_of : {X : Type 0} → (Term → Option X) → List Term → Option (List X)
each_of f [] = Some []
each_of f (t ∷ ts) = cons_some (f t) (each_of f ts)

-- what the terms of the array stand for
abbrev pub many_of : {X : Type 0} → (Term → Option X) → Arg → Option (List X)
many_of f (One t) = None
many_of f (Many ts) = each_of f ts

abbrev pub bool_of : List Value → Arg → Option Bool
bool_of values a = one_of (bool_of_term values) a

abbrev pub int_of : List Value → Arg → Option ℤ
int_of values a = one_of (int_of_term values) a

abbrev pub set_of : List Value → Arg → Option (List ℤ)
set_of values a = one_of (set_of_term values) a

abbrev pub bools_of : List Value → Arg → Option (List Bool)
bools_of values a = many_of (bool_of_term values) a

abbrev pub ints_of : List Value → Arg → Option (List ℤ)
ints_of values a = many_of (int_of_term values) a

abbrev pub sets_of : List Value → Arg → Option (List (List ℤ))
sets_of values a = many_of (set_of_term values) a

abbrev pub constant_of : Arg → Option ℤ
constant_of a = one_of constant_of_term a

abbrev pub constants_of : Arg → Option (List ℤ)
constants_of a = many_of constant_of_term a

-- ---- relations of what arguments stand for

-- R of the two values, and both are there
abbrev pub OfTwo : {A B : Type 0} → (A → B → Type 0) → Option A → Option B → Type 0
OfTwo R (Some a) (Some b) = R a b
OfTwo R _ _ = ⊥

-- R of the three values, and all are there
abbrev pub OfThree : {A B C : Type 0} → (A → B → C → Type 0) → Option A → Option B → Option C → Type 0
OfThree R (Some a) (Some b) (Some c) = R a b c
OfThree R _ _ _ = ⊥

-- R of what two arguments stand for, read by f and by g; of any other list of arguments it is not true
abbrev pub OfTwoArgs : {A B : Type 0} → (Arg → Option A) → (Arg → Option B) → (A → B → Type 0) → List Arg → Type 0
OfTwoArgs f g R (a ∷ b ∷ []) = OfTwo R (f a) (g b)
OfTwoArgs f g R _ = ⊥

-- R of what three arguments stand for, read by f, by g and by h; of any other list of arguments it is not true
abbrev pub OfThreeArgs : {A B C : Type 0} → (Arg → Option A) → (Arg → Option B) → (Arg → Option C) → (A → B → C → Type 0) → List Arg → Type 0
OfThreeArgs f g h R (a ∷ b ∷ c ∷ []) = OfThree R (f a) (g b) (h c)
OfThreeArgs f g h R _ = ⊥

abbrev pub OfTwoBools : (Bool → Bool → Type 0) → List Arg → List Value → Type 0
OfTwoBools R args values = OfTwoArgs (bool_of values) (bool_of values) R args

abbrev pub OfThreeBools : (Bool → Bool → Bool → Type 0) → List Arg → List Value → Type 0
OfThreeBools R args values = OfThreeArgs (bool_of values) (bool_of values) (bool_of values) R args

abbrev pub OfTwoInts : (ℤ → ℤ → Type 0) → List Arg → List Value → Type 0
OfTwoInts R args values = OfTwoArgs (int_of values) (int_of values) R args

abbrev pub OfThreeInts : (ℤ → ℤ → ℤ → Type 0) → List Arg → List Value → Type 0
OfThreeInts R args values = OfThreeArgs (int_of values) (int_of values) (int_of values) R args

abbrev pub OfTwoSets : (List ℤ → List ℤ → Type 0) → List Arg → List Value → Type 0
OfTwoSets R args values = OfTwoArgs (set_of values) (set_of values) R args

abbrev pub OfThreeSets : (List ℤ → List ℤ → List ℤ → Type 0) → List Arg → List Value → Type 0
OfThreeSets R args values = OfThreeArgs (set_of values) (set_of values) (set_of values) R args

-- R of the sum of the products of constants and as many integers, and of one more constant
abbrev pub OfLinear : (ℤ → ℤ → Type 0) → List Arg → List Value → Type 0
OfLinear R args values = OfThreeArgs constants_of (ints_of values) constant_of (IsLinear R) args
