-- Whether a relation of integers and Booleans holds of given values is decided.
use Rattle.std.proofs.Common.{◌≡◌, ◌↔◌, ◌⊎◌, ℕ, zero, suc, ◌<◌, eqb, Bool, true, false, not, ◌&&◌, ◌||◌, ℤ, pos, negsuc, ◌+ℤ◌, ◌*ℤ◌, ◌≤ℤ◌, int_lt, unsigned_abs, List, [], ◌∷◌, length, Option, Some, None, refl, sym, ap, ◌∙◌, subst, inl, inr, arith, Contains}
use Rattle.std.specs.Prelude.{slice_get, slice_index_or, ◌<ℤ◌, ◌≢◌, IsTrue, IsFalse, Any}
use Rattle.std.specs.Bool.{Decides}
use Rattle.std.specs.Ordering.{int_eq}
use Rattle.std.specs.List.{All}
use Rattle.std.proofs.lemmas.Int.{ints}
use Rattle.std.proofs.lemmas.Bool.Decides.{Decides-and, Decides-or, Decides-not, Decides-like, Decides-int_eq, Decides-eqb}
use Rattle.std.proofs.lemmas.List.Elements.{All-cons, All-head, All-tail, All-nil}
use Rattle.set_meaning.specs.declared.kinds.Value.{Value}
use Rattle.set_meaning.specs.declared.problems.Arg.{Arg}
use Rattle.set_meaning.specs.declared.problems.Relation.{Relation}
use Rattle.set_meaning.specs.declared.problems.Relation.TheVariants.{SetIn, IntEq, IntNe, IntLe, IntLt, IntLinEq, IntLinLe, IntLinNe, IntPlus, IntTimes, IntMin, IntMax, IntAbs, ArrayIntElement, BoolEq, BoolLe, BoolLt, BoolNot, BoolAnd, BoolOr, BoolXor, BoolClause, ArrayBoolAnd, ArrayBoolOr, Bool2Int, ArrayBoolElement}
use Rattle.set_meaning.specs.Sets.{Has}
use Rattle.set_meaning.specs.Integers.{IsMinimum, IsMaximum}
use Rattle.set_meaning.specs.LinearSums.{IsLinear, sum_of_products}
use Rattle.set_meaning.specs.Booleans.{IsClause, IsNumberOf}
use Rattle.set_meaning.specs.Elements.{IsItem}
use Rattle.set_meaning.specs.Arguments.{bool_of, int_of, set_of, bools_of, ints_of, constant_of, constants_of, OfTwo, OfThree, OfTwoArgs, OfThreeArgs}
use Rattle.set_meaning.specs.Relations.{HoldsOf}
use Rattle.bit_layout.proofs.Rising.{nothing_in_empty, in_cons, in_head, in_tail}
use Rattle.int_channel.specs.Shapes.{is_shape}

-- a truth value that decides it
abbrev pub Test : Type 0 → Type 0
Test P = (b : Bool) × Decides b P

both : {P Q : Type 0} → Test P → Test Q → Test (P × Q)
both p q = (p.0 && q.0, Decides-and p.0 q.0 p.1 q.1)

either : {P Q : Type 0} → Test P → Test Q → Test (P ⊎ Q)
either p q = (p.0 || q.0, Decides-or p.0 q.0 p.1 q.1)

negated : {P : Type 0} → Test P → Test (P → ⊥)
negated p = (not p.0, Decides-not p.0 p.1)

like : {P Q : Type 0} → (P → Q) → (Q → P) → Test P → Test Q
like f g p = (p.0, Decides-like p.0 f g p.1)

-- it holds, or it does not
surely : {P : Type 0} → P → Test P
surely h = (true, (λ e. h, λ p. refl))

never : {P : Type 0} → (P → ⊥) → Test P
never h = (false, (λ e. absurd (let f : false ≡ true = e in cc), λ p. absurd (h p)))

by_cases : {P Q : Type 0} → Test P → (P → Q) → ((P → ⊥) → Q) → Q
by_cases {P} {Q} p f g =
    elim p.0 as (λ b. Decides b P → Q) [
      | true ↦ λ d. f (d.0 refl)
      | false ↦ λ d. g (λ h. let e : false ≡ true = d.1 h in absurd (cc))
    ] p.1

implied : {P Q : Type 0} → Test P → Test Q → Test (P → Q)
implied {P} {Q} p q = by_cases {Q = Test (P → Q)} p (λ h. like (λ y x. y) (λ f. f h) q) (λ h. surely (λ x. absurd (h x)))

same : {P Q : Type 0} → Test P → Test Q → Test (P ↔ Q)
same p q = both (implied p q) (implied q p)

-- ---- numbers, truth values and lists

equal : (a b : ℤ) → Test (a ≡ b)
equal a b = (int_eq a b, Decides-int_eq a b)

at_most : (a b : ℤ) → Test (a ≤ℤ b)
at_most a b = (not (int_lt b a), (λ e. grind (arith, ints), λ h. grind (arith, ints)))

less : (a b : ℤ) → Test (a <ℤ b)
less a b = (int_lt a b, (λ e. grind (arith, ints), λ h. grind (arith, ints)))

alike : (a b : Bool) → Test (a ≡ b)
alike true true = surely refl
alike true false = never (λ e. cc)
alike false true = never (λ e. cc)
alike false false = surely refl

is_true : (b : Bool) → Test (IsTrue b)
is_true b = alike b true

is_false : (b : Bool) → Test (IsFalse b)
is_false b = alike b false

as_long : (m n : ℕ) → Test (m ≡ n)
as_long m n = (eqb m n, Decides-eqb m n)

pub any_none : {X : Type 0} (P : X → Type 0) → Any P [] → ⊥
any_none P h = omega (arith, h.2)

pub any_here : {X : Type 0} (P : X → Type 0) (x : X) (xs : List X) → P x → Any P (x ∷ xs)
any_here P x xs h = (0, x, omega arith, refl, h)

pub any_later : {X : Type 0} (P : X → Type 0) (x : X) (xs : List X) → Any P xs → Any P (x ∷ xs)
any_later P x xs h = (suc h.0, h.1, omega (arith, h.2), h.3, h.4)

pub any_cases : {X : Type 0} (P : X → Type 0) (x : X) (xs : List X) → Any P (x ∷ xs) → P x ⊎ Any P xs
any_cases {X} P x xs h = at h.0 h.1 h.2 h.3 h.4
  where
    at : (k : ℕ) (y : X) → k < length (x ∷ xs) → slice_index_or (x ∷ xs) k y ≡ y → P y → P x ⊎ Any P xs
    at zero y within here h = inl (subst P (sym here) h)
    at (suc k) y within here h = inr (k, y, omega (arith, within), here, h)

some : {X : Type 0} (P : X → Type 0) → ((x : X) → Test (P x)) → (xs : List X) → Test (Any P xs)
some P test [] = never (any_none P)
some P test (x ∷ xs) = like (λ h. elim h [
  | inl here ↦ any_here P x xs here
  | inr later ↦ any_later P x xs later
]) (any_cases P x xs) (either (test x) (some P test xs))

every : {X : Type 0} (P : X → Type 0) → ((x : X) → Test (P x)) → (xs : List X) → Test (All P xs)
every P test [] = surely (All-nil P)
every P test (x ∷ xs) = like (λ h. All-cons P x xs h.0 h.1) (λ h. (All-head P x xs h, All-tail P x xs h)) (both (test x) (every P test xs))

has : (s : List ℤ) (x : ℤ) → Test (Has s x)
unfolding Has
has [] x = never (nothing_in_empty x)
has (y ∷ s) x = like (λ h. elim h [
  | inl here ↦ subst (Contains (y ∷ s)) here (in_head y s)
  | inr later ↦ in_tail y s x later
]) (in_cons y s x) (either (equal y x) (has s x))

-- ---- relations of plain values

option_is : {X : Type 0} → ((x y : X) → Test (x ≡ y)) → (o : Option X) (x : X) → Test (o ≡ Some x)
option_is test None x = never (λ e. cc)
option_is test (Some y) x = like (λ e. ap Some e) (λ e. cc) (test y x)

item : {X : Type 0} → ((x y : X) → Test (x ≡ y)) → (place : ℤ) (items : List X) (x : X) → Test (IsItem place items x)
item test (pos zero) items x = never (λ h. let e = h.counted in omega (arith, ints))
item test (pos (suc n)) items x = like (λ e. record { index = n; counted = refl; item = e })
    (λ h. let e : n ≡ h.index = (let f = h.counted in cc) in subst (λ i. slice_get items i ≡ Some x) (sym e) h.item) (option_is test (slice_get items n) x)
item test (negsuc n) items x = never (λ h. let e = h.counted in cc)

minimum : (a b c : ℤ) → Test (IsMinimum a b c)
minimum a b c = like (λ h. record { first = h.0; second = h.1.0; attained = h.1.1 }) (λ h. (h.first, (h.second, h.attained)))
    (both (at_most c a) (both (at_most c b) (either (equal c a) (equal c b))))

maximum : (a b c : ℤ) → Test (IsMaximum a b c)
maximum a b c = like (λ h. record { first = h.0; second = h.1.0; attained = h.1.1 }) (λ h. (h.first, (h.second, h.attained)))
    (both (at_most a c) (both (at_most b c) (either (equal c a) (equal c b))))

linear : (R : ℤ → ℤ → Type 0) → ((a b : ℤ) → Test (R a b)) → (cs xs : List ℤ) (k : ℤ) → Test (IsLinear R cs xs k)
linear R test cs xs k = like (λ h. record { paired = h.0; sum = h.1 }) (λ h. (h.paired, h.sum)) (both (as_long (length cs) (length xs)) (test (sum_of_products cs xs) k))

number : (b : Bool) (n : ℤ) → Test (IsNumberOf b n)
number true n = equal n (pos 1)
number false n = equal n (pos 0)

-- ---- relations of arguments

of_two : {A B : Type 0} (R : A → B → Type 0) → ((a : A) (b : B) → Test (R a b)) → (p : Option A) (q : Option B) → Test (OfTwo R p q)
of_two R test None q = never (λ h. h)
of_two R test (Some a) None = never (λ h. h)
of_two R test (Some a) (Some b) = test a b

of_three : {A B C : Type 0} (R : A → B → C → Type 0) → ((a : A) (b : B) (c : C) → Test (R a b c)) → (p : Option A) (q : Option B) (r : Option C) → Test (OfThree R p q r)
of_three R test None q r = never (λ h. h)
of_three R test (Some a) None r = never (λ h. h)
of_three R test (Some a) (Some b) None = never (λ h. h)
of_three R test (Some a) (Some b) (Some c) = test a b c

two : {A B : Type 0} (f : Arg → Option A) (g : Arg → Option B) (R : A → B → Type 0) → ((a : A) (b : B) → Test (R a b)) → (args : List Arg) → Test (OfTwoArgs f g R args)
two f g R test [] = never (λ h. h)
two f g R test (a ∷ []) = never (λ h. h)
two f g R test (a ∷ b ∷ []) = of_two R test (f a) (g b)
two f g R test (a ∷ b ∷ c ∷ args) = never (λ h. h)

three : {A B C : Type 0} (f : Arg → Option A) (g : Arg → Option B) (h : Arg → Option C) (R : A → B → C → Type 0) → ((a : A) (b : B) (c : C) → Test (R a b c)) → (args : List Arg) → Test (OfThreeArgs f g h R args)
three f g h R test [] = never (λ h. h)
three f g h R test (a ∷ []) = never (λ h. h)
three f g h R test (a ∷ b ∷ []) = never (λ h. h)
three f g h R test (a ∷ b ∷ c ∷ []) = of_three R test (f a) (g b) (h c)
three f g h R test (a ∷ b ∷ c ∷ d ∷ args) = never (λ h. h)

pub decided : (relation : Relation) (args : List Arg) (values : List Value) → is_shape relation ≡ true → Test (HoldsOf relation args values)
unfolding HoldsOf
decided SetIn args values shape = two (int_of values) (set_of values) (λ x a. Has a x) (λ x a. has a x) args
decided IntEq args values shape = two (int_of values) (int_of values) (λ a b. a ≡ b) equal args
decided IntNe args values shape = two (int_of values) (int_of values) (λ a b. a ≢ b) (λ a b. negated (equal a b)) args
decided IntLe args values shape = two (int_of values) (int_of values) (λ a b. a ≤ℤ b) at_most args
decided IntLt args values shape = two (int_of values) (int_of values) (λ a b. a <ℤ b) less args
decided IntLinEq args values shape = three constants_of (ints_of values) constant_of (IsLinear (λ sum k. sum ≡ k)) (linear (λ sum k. sum ≡ k) equal) args
decided IntLinLe args values shape = three constants_of (ints_of values) constant_of (IsLinear (λ sum k. sum ≤ℤ k)) (linear (λ sum k. sum ≤ℤ k) at_most) args
decided IntLinNe args values shape = three constants_of (ints_of values) constant_of (IsLinear (λ sum k. sum ≢ k)) (linear (λ sum k. sum ≢ k) (λ a b. negated (equal a b))) args
decided IntPlus args values shape = three (int_of values) (int_of values) (int_of values) (λ a b c. (a +ℤ b) ≡ c) (λ a b c. equal (a +ℤ b) c) args
decided IntTimes args values shape = three (int_of values) (int_of values) (int_of values) (λ a b c. (a *ℤ b) ≡ c) (λ a b c. equal (a *ℤ b) c) args
decided IntMin args values shape = three (int_of values) (int_of values) (int_of values) IsMinimum minimum args
decided IntMax args values shape = three (int_of values) (int_of values) (int_of values) IsMaximum maximum args
decided IntAbs args values shape = two (int_of values) (int_of values) (λ a b. b ≡ pos (unsigned_abs a)) (λ a b. equal b (pos (unsigned_abs a))) args
decided ArrayIntElement args values shape = three (int_of values) (ints_of values) (int_of values) IsItem (item equal) args
decided BoolEq args values shape = two (bool_of values) (bool_of values) (λ a b. a ≡ b) alike args
decided BoolLe args values shape = two (bool_of values) (bool_of values) (λ a b. (a ≡ false) ⊎ (b ≡ true)) (λ a b. either (alike a false) (alike b true)) args
decided BoolLt args values shape = two (bool_of values) (bool_of values) (λ a b. (a ≡ false) × (b ≡ true)) (λ a b. both (alike a false) (alike b true)) args
decided BoolNot args values shape = two (bool_of values) (bool_of values) (λ a b. a ≢ b) (λ a b. negated (alike a b)) args
decided BoolAnd args values shape = three (bool_of values) (bool_of values) (bool_of values) (λ a b c. c ≡ (a && b)) (λ a b c. alike c (a && b)) args
decided BoolOr args values shape = three (bool_of values) (bool_of values) (bool_of values) (λ a b c. c ≡ (a || b)) (λ a b c. alike c (a || b)) args
decided BoolXor args values shape = three (bool_of values) (bool_of values) (bool_of values) (λ a b c. IsTrue c ↔ (a ≢ b)) (λ a b c. same (is_true c) (negated (alike a b))) args
decided BoolClause args values shape = two (bools_of values) (bools_of values) IsClause (λ ps ns. either (some IsTrue is_true ps) (some IsFalse is_false ns)) args
decided ArrayBoolAnd args values shape = two (bools_of values) (bool_of values) (λ items c. IsTrue c ↔ All IsTrue items) (λ items c. same (is_true c) (every IsTrue is_true items)) args
decided ArrayBoolOr args values shape = two (bools_of values) (bool_of values) (λ items c. IsTrue c ↔ Any IsTrue items) (λ items c. same (is_true c) (some IsTrue is_true items)) args
decided Bool2Int args values shape = two (bool_of values) (int_of values) IsNumberOf number args
decided ArrayBoolElement args values shape = three (int_of values) (bools_of values) (bool_of values) IsItem (item alike) args
decided relation args values shape = absurd (let e : false ≡ true = shape in cc)
