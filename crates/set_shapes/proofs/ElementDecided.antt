-- Whether the element relation holds of given values is decided, and depends on the values of the arguments' variables alone.
use Rattle.std.proofs.Common.{◌≡◌, ℕ, zero, suc, Bool, true, false, ◌&&◌, ℤ, pos, negsuc, List, [], ◌∷◌, Option, Some, None, refl, sym, ap, ◌∙◌, subst, arith, Contains}
use Rattle.std.specs.Prelude.{slice_get, option_and_then}
use Rattle.std.specs.Bool.{Decides}
use Rattle.std.specs.Ordering.{int_eq}
use Rattle.std.specs.List.{flat_map}
use Rattle.std.proofs.lemmas.Int.{ints}
use Rattle.std.proofs.lemmas.Bool.Decides.{Decides-and, Decides-like, Decides-int_eq}
use Rattle.set_meaning.specs.declared.kinds.Value.{Value}
use Rattle.set_meaning.specs.declared.problems.VarId.{VarId}
use Rattle.set_meaning.specs.declared.problems.Term.{Term}
use Rattle.set_meaning.specs.declared.problems.Term.TheVariants.{Const, Var}
use Rattle.set_meaning.specs.declared.problems.Arg.{Arg}
use Rattle.set_meaning.specs.declared.problems.Arg.TheVariants.{One, Many}
use Rattle.set_meaning.specs.declared.problems.Relation.TheVariants.{ArraySetElement}
use Rattle.set_meaning.specs.Elements.{IsItem}
use Rattle.set_meaning.specs.Arguments.{int_in, set_in, value_of, int_of_term, set_of_term, cons_some, each_of, one_of, many_of, int_of, set_of, sets_of, OfThree, OfThreeArgs}
use Rattle.set_meaning.specs.Relations.{HoldsOf, terms_of}
use Rattle.bit_layout.proofs.Rising.{in_head, in_tail}
use Rattle.scope_words.specs.Words.{variables_in}
use Rattle.scope_words.proofs.Bits.{flat_map_has}
use Rattle.set_shapes.specs.Operands.{IsTermOf}
use Rattle.set_shapes.proofs.Scopes.{variables_have}

-- ---- decided

-- a truth value that decides it
abbrev pub Test : Type 0 → Type 0
Test P = (b : Bool) × Decides b P

both : {P Q : Type 0} → Test P → Test Q → Test (P × Q)
both p q = (p.0 && q.0, Decides-and p.0 q.0 p.1 q.1)

like : {P Q : Type 0} → (P → Q) → (Q → P) → Test P → Test Q
like f g p = (p.0, Decides-like p.0 f g p.1)

-- it holds, or it does not
surely : {P : Type 0} → P → Test P
surely h = (true, (λ e. h, λ p. refl))

never : {P : Type 0} → (P → ⊥) → Test P
never h = (false, (λ e. absurd (let f : false ≡ true = e in cc), λ p. absurd (h p)))

equal : (a b : ℤ) → Test (a ≡ b)
equal a b = (int_eq a b, Decides-int_eq a b)

same_list : (xs ys : List ℤ) → Test (xs ≡ ys)
same_list [] [] = surely refl
same_list [] (y ∷ ys) = never (λ e. cc)
same_list (x ∷ xs) [] = never (λ e. cc)
same_list (x ∷ xs) (y ∷ ys) =
    like (λ h. ap (λ z. z ∷ xs) h.0 ∙ ap (λ zs. y ∷ zs) h.1) (λ e. let first : x ≡ y = cc in let rest : xs ≡ ys = cc in (first, rest)) (both (equal x y) (same_list xs ys))

option_is : {X : Type 0} → ((x y : X) → Test (x ≡ y)) → (o : Option X) (x : X) → Test (o ≡ Some x)
option_is test None x = never (λ e. cc)
option_is test (Some y) x = like (λ e. ap Some e) (λ e. cc) (test y x)

item : {X : Type 0} → ((x y : X) → Test (x ≡ y)) → (place : ℤ) (items : List X) (x : X) → Test (IsItem place items x)
item test (pos zero) items x = never (λ h. let e = h.counted in omega (arith, ints))
item test (pos (suc n)) items x = like (λ e. record { index = n; counted = refl; item = e })
    (λ h. let e : n ≡ h.index = (let f = h.counted in cc) in subst (λ i. slice_get items i ≡ Some x) (sym e) h.item) (option_is test (slice_get items n) x)
item test (negsuc n) items x = never (λ h. let e = h.counted in cc)

of_three : {A B C : Type 0} (R : A → B → C → Type 0) → ((a : A) (b : B) (c : C) → Test (R a b c)) → (p : Option A) (q : Option B) (r : Option C) → Test (OfThree R p q r)
of_three R test None q r = never (λ h. h)
of_three R test (Some a) None r = never (λ h. h)
of_three R test (Some a) (Some b) None = never (λ h. h)
of_three R test (Some a) (Some b) (Some c) = test a b c

three : {A B C : Type 0} (f : Arg → Option A) (g : Arg → Option B) (h : Arg → Option C) (R : A → B → C → Type 0) → ((a : A) (b : B) (c : C) → Test (R a b c)) → (args : List Arg) → Test (OfThreeArgs f g h R args)
three f g h R test [] = never (λ h. h)
three f g h R test (a ∷ []) = never (λ h. h)
three f g h R test (a ∷ b ∷ []) = never (λ h. h)
three f g h R test (a ∷ b ∷ c ∷ []) = of_three R test (f a) (g b) (h c)
three f g h R test (a ∷ b ∷ c ∷ d ∷ args) = never (λ h. h)

pub decided : (args : List Arg) (values : List Value) → Test (HoldsOf ArraySetElement args values)
unfolding HoldsOf
decided args values = three (int_of values) (sets_of values) (set_of values) IsItem (item same_list) args

-- ---- the values that count

-- the variables of the scope have the same values
abbrev pub Agree : List VarId → List Value → List Value → Type 0
Agree scope xs ys = (v : VarId) → Contains scope v → slice_get xs v.0 ≡ slice_get ys v.0

value_same : (scope : List VarId) (xs ys : List Value) (t : Term) → Agree scope xs ys → IsTermOf scope t → value_of t xs ≡ value_of t ys
value_same scope xs ys (Const v) agree over = refl
value_same scope xs ys (Var x) agree over = agree x over

-- a way to read a term is the same under both
abbrev ReadsAlike : {X : Type 0} → List VarId → List Value → List Value → (List Value → Term → Option X) → Type 0
ReadsAlike scope xs ys f = (t : Term) → IsTermOf scope t → f xs t ≡ f ys t

abbrev ArgsAlike : {X : Type 0} → List Arg → List Value → List Value → (List Value → Arg → Option X) → Type 0
ArgsAlike args xs ys f = (a : Arg) → Contains args a → f xs a ≡ f ys a

term_of_args : (args : List Arg) (a : Arg) (t : Term) → Contains args a → Contains (terms_of a) t → IsTermOf (variables_in args) t
term_of_args args a t of_args of_arg = variables_have (flat_map terms_of args) t (flat_map_has terms_of args a t of_args of_arg)

one_alike : {X : Type 0} (f : List Value → Term → Option X) (xs ys : List Value) (args : List Arg) → ReadsAlike (variables_in args) xs ys f → ArgsAlike args xs ys (λ values a. one_of (f values) a)
one_alike f xs ys args alike (One t) of_args = alike t (term_of_args args (One t) t of_args (in_head t []))
one_alike f xs ys args alike (Many ts) of_args = refl

each_alike : {X : Type 0} (f : List Value → Term → Option X) (xs ys : List Value) (ts : List Term) → ((t : Term) → Contains ts t → f xs t ≡ f ys t) → each_of (f xs) ts ≡ each_of (f ys) ts
each_alike f xs ys [] alike = refl
each_alike f xs ys (t ∷ ts) alike =
    ap (λ o. cons_some o (each_of (f xs) ts)) (alike t (in_head t ts)) ∙ ap (cons_some (f ys t)) (each_alike f xs ys ts (λ u h. alike u (in_tail t ts u h)))

many_alike : {X : Type 0} (f : List Value → Term → Option X) (xs ys : List Value) (args : List Arg) → ReadsAlike (variables_in args) xs ys f → ArgsAlike args xs ys (λ values a. many_of (f values) a)
many_alike f xs ys args alike (One t) of_args = refl
many_alike f xs ys args alike (Many ts) of_args = each_alike f xs ys ts (λ t h. alike t (term_of_args args (Many ts) t of_args h))

three_alike : {A B C : Type 0} (f : List Value → Arg → Option A) (g : List Value → Arg → Option B) (k : List Value → Arg → Option C) (R : A → B → C → Type 0) (xs ys : List Value) (args : List Arg)
    → ArgsAlike args xs ys f → ArgsAlike args xs ys g → ArgsAlike args xs ys k → OfThreeArgs (f xs) (g xs) (k xs) R args → OfThreeArgs (f ys) (g ys) (k ys) R args
three_alike f g k R xs ys [] p q r h = h
three_alike f g k R xs ys (a ∷ []) p q r h = h
three_alike f g k R xs ys (a ∷ b ∷ []) p q r h = h
three_alike f g k R xs ys (a ∷ b ∷ c ∷ []) p q r h =
    let last = in_tail a (b ∷ c ∷ []) c (in_tail b (c ∷ []) c (in_head c [])) in
    subst (λ o. OfThree R o (g ys b) (k ys c)) (p a (in_head a (b ∷ c ∷ [])))
    (subst (λ o. OfThree R (f xs a) o (k ys c)) (q b (in_tail a (b ∷ c ∷ []) b (in_head b (c ∷ []))))
    (subst (λ o. OfThree R (f xs a) (g xs b) o) (r c last) h))
three_alike f g k R xs ys (a ∷ b ∷ c ∷ d ∷ args) p q r h = h

pub depends : (args : List Arg) (xs ys : List Value) → Agree (variables_in args) xs ys → HoldsOf ArraySetElement args xs → HoldsOf ArraySetElement args ys
unfolding HoldsOf
depends args xs ys agree h =
    let scope = variables_in args in
    let int_alike : ReadsAlike scope xs ys int_of_term = λ t over. ap (option_and_then int_in) (value_same scope xs ys t agree over) in
    let set_alike : ReadsAlike scope xs ys set_of_term = λ t over. ap (option_and_then set_in) (value_same scope xs ys t agree over) in
    three_alike int_of sets_of set_of IsItem xs ys args (one_alike int_of_term xs ys args int_alike) (many_alike set_of_term xs ys args set_alike) (one_alike set_of_term xs ys args set_alike) h
