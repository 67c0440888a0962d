-- Each relation of the table says that its sum compares so with 0.
use Rattle.std.proofs.Common.{◌≡◌, ◌≢◌, ◌⊎◌, ◌↔◌, ◌≤◌, ℕ, Bool, true, false, ℤ, pos, negsuc, ◌+ℤ◌, ◌*ℤ◌, ◌≤ℤ◌, ◌<ℤ◌, unsigned_abs, List, [], ◌∷◌, ◌++◌, map, length, Option, Some, IsTrue, All, Contains, flat_map, refl, sym, ap, ◌∙◌, subst, inl, inr, append-nil, arith}
use Rattle.std.specs.List.{AllZip}
use Rattle.std.proofs.lemmas.Int.{ints}
use Rattle.std.proofs.lemmas.List.{length-map}
use Rattle.std.proofs.lemmas.List.Elements.{Contains-append_left, Contains-append_right}
use Rattle.set_meaning.specs.declared.kinds.Kind.{Kind}
use Rattle.set_meaning.specs.declared.kinds.Value.{Value}
use Rattle.set_meaning.specs.declared.kinds.Value.TheVariants as value
use Rattle.set_meaning.specs.declared.problems.Term.{Term}
use Rattle.set_meaning.specs.declared.problems.Term.TheVariants.{Const, Var}
use Rattle.set_meaning.specs.declared.problems.Arg.{Arg}
use Rattle.set_meaning.specs.declared.problems.Arg.TheVariants.{One, Many}
use Rattle.set_meaning.specs.declared.problems.Relation.{Relation}
use Rattle.set_meaning.specs.declared.problems.Relation.TheVariants.{IntEq, IntNe, IntLe, IntLt, IntLinEq, IntLinLe, IntLinNe, IntPlus, BoolEq, BoolLe, BoolLt, BoolNot, BoolClause, Bool2Int}
use Rattle.set_meaning.specs.declared.rows.Shape.TheVariants.{OneOf, ManyOf, ConstantOf, ConstantsOf}
use Rattle.set_meaning.specs.declared.rows.Sort.TheVariants.{Boolean, Integer}
use Rattle.set_meaning.specs.Rows.{HasShape, ArePaired, row_of, shapes_of}
use Rattle.set_meaning.specs.Arguments.{int_of, bool_of, bools_of, int_of_term, bool_of_term, constant_of_term, each_of, OfTwo, OfThree, OfTwoArgs, OfTwoInts, OfTwoBools, OfThreeInts, OfLinear}
use Rattle.set_meaning.specs.LinearSums.{IsLinear, sum_of_products}
use Rattle.set_meaning.specs.Booleans.{IsClause, IsNumberOf}
use Rattle.set_meaning.specs.Relations.{HoldsOf, terms_of}
use Rattle.bit_layout.proofs.Rising.{in_head, in_tail}
use Rattle.sweep_sums.specs.Forms.{variables_in}
use Rattle.problem_limits.specs.Limits.{IsSmallTerm}
use Rattle.sweep_sums.specs.Forms.{Compares}
use Rattle.sweep_sums.specs.Forms.{linear_sum}
use Rattle.sweep_sums.specs.declared.forms.LinearSum.{LinearSum}
use Rattle.sweep_sums.specs.Shapes.{is_sum}
use Rattle.sweep_sums.specs.Forms.{HaveValues, IsSumOf, SumHolds}
use Rattle.sweep_sums.specs.SumTables.{constant_of, constant_part, variable_part, times, of_two, of_plus, of_linear, clause_offset, summands_of, offset_of, comparison_of, IsSumOver}
use Rattle.sweep_sums.proofs.TermNumbers.{IsTermOver, over_terms}
use Rattle.sweep_sums.proofs.SumTerms.{count, total, total_is, all_over}
use Rattle.sweep_sums.proofs.SumParts.{table_made}
use Rattle.sweep_sums.proofs.SumLists.{number_of_bool, int_here, bool_here, constants_here, ints_here, products_total, bools_here, trues, plus_total, minus_total, counted_long, clause_counts}

-- ---- what two or three terms stand for

of_two_values : {A B : Type 0} (R : A → B → Type 0) (T : Type 0) (o : Option A) (p : Option B) (a : A) (b : B) → o ≡ Some a → p ≡ Some b → R a b ↔ T → OfTwo R o p ↔ T
of_two_values R T o p a b e f h = subst (λ o. OfTwo R o p ↔ T) (sym e) (subst (λ p. OfTwo R (Some a) p ↔ T) (sym f) h)

of_three_values : {A B C : Type 0} (R : A → B → C → Type 0) (T : Type 0) (o : Option A) (p : Option B) (q : Option C) (a : A) (b : B) (c : C) → o ≡ Some a → p ≡ Some b → q ≡ Some c
    → R a b c ↔ T → OfThree R o p q ↔ T
of_three_values R T o p q a b c e f g h =
    subst (λ o. OfThree R o p q ↔ T) (sym e) (subst (λ p. OfThree R (Some a) p q ↔ T) (sym f) (subst (λ q. OfThree R (Some a) (Some b) q ↔ T) (sym g) h))

-- two numbers, each times a coefficient
abbrev Both : ℤ → ℤ → ℤ → ℤ → ℤ
Both c d m n = (c *ℤ m) +ℤ ((d *ℤ n) +ℤ pos 0)

two_ints : (kinds : List Kind) (values : List Value) (R : ℤ → ℤ → Type 0) (P : ℤ → Type 0) (c d : ℤ) (args : List Arg) → AllZip (HasShape kinds) (OneOf Integer ∷ OneOf Integer ∷ []) args
    → HaveValues kinds (variables_in args) values → ((m n : ℤ) → R m n ↔ P (Both c d m n)) → OfTwoInts R args values ↔ P (total values (of_two c d args))
two_ints kinds values R P c d [] h have same = absurd h
two_ints kinds values R P c d (a ∷ []) h have same = absurd h.1
two_ints kinds values R P c d (One a ∷ One b ∷ []) h have same =
    let scope = variables_in (One a ∷ One b ∷ []) in
    of_two_values R (P (Both c d (count values a) (count values b))) (int_of_term values a) (int_of_term values b) (count values a) (count values b)
    (int_here kinds scope values a have (over_terms (a ∷ b ∷ []) a (in_head a (b ∷ []))) h.0)
    (int_here kinds scope values b have (over_terms (a ∷ b ∷ []) b (in_tail a (b ∷ []) b (in_head b []))) h.1.0)
    (same (count values a) (count values b))
two_ints kinds values R P c d (One a ∷ Many b ∷ []) h have same = absurd h.1.0
two_ints kinds values R P c d (Many a ∷ b ∷ []) h have same = absurd h.0
two_ints kinds values R P c d (a ∷ b ∷ x ∷ args) h have same = absurd h.1.1

two_bools : (kinds : List Kind) (values : List Value) (R : Bool → Bool → Type 0) (P : ℤ → Type 0) (c d : ℤ) (args : List Arg) → AllZip (HasShape kinds) (OneOf Boolean ∷ OneOf Boolean ∷ []) args
    → HaveValues kinds (variables_in args) values → ((m n : Bool) → R m n ↔ P (Both c d (number_of_bool m) (number_of_bool n))) → OfTwoBools R args values ↔ P (total values (of_two c d args))
two_bools kinds values R P c d [] h have same = absurd h
two_bools kinds values R P c d (a ∷ []) h have same = absurd h.1
two_bools kinds values R P c d (One a ∷ One b ∷ []) h have same =
    let scope = variables_in (One a ∷ One b ∷ []) in
    let p = bool_here kinds scope values a have (over_terms (a ∷ b ∷ []) a (in_head a (b ∷ []))) h.0 in
    let q = bool_here kinds scope values b have (over_terms (a ∷ b ∷ []) b (in_tail a (b ∷ []) b (in_head b []))) h.1.0 in
    of_two_values R (P (Both c d (count values a) (count values b))) (bool_of_term values a) (bool_of_term values b) p.0 q.0 p.1 q.1
    (subst (λ x. R p.0 q.0 ↔ P (Both c d x (count values b))) (sym p.2) (subst (λ y. R p.0 q.0 ↔ P (Both c d (number_of_bool p.0) y)) (sym q.2) (same p.0 q.0)))
two_bools kinds values R P c d (One a ∷ Many b ∷ []) h have same = absurd h.1.0
two_bools kinds values R P c d (Many a ∷ b ∷ []) h have same = absurd h.0
two_bools kinds values R P c d (a ∷ b ∷ x ∷ args) h have same = absurd h.1.1

bool_and_int : (kinds : List Kind) (values : List Value) (R : Bool → ℤ → Type 0) (P : ℤ → Type 0) (c d : ℤ) (args : List Arg) → AllZip (HasShape kinds) (OneOf Boolean ∷ OneOf Integer ∷ []) args
    → HaveValues kinds (variables_in args) values → ((m : Bool) (n : ℤ) → R m n ↔ P (Both c d (number_of_bool m) n)) → OfTwoArgs (bool_of values) (int_of values) R args ↔ P (total values (of_two c d args))
bool_and_int kinds values R P c d [] h have same = absurd h
bool_and_int kinds values R P c d (a ∷ []) h have same = absurd h.1
bool_and_int kinds values R P c d (One a ∷ One b ∷ []) h have same =
    let scope = variables_in (One a ∷ One b ∷ []) in
    let p = bool_here kinds scope values a have (over_terms (a ∷ b ∷ []) a (in_head a (b ∷ []))) h.0 in
    of_two_values R (P (Both c d (count values a) (count values b))) (bool_of_term values a) (int_of_term values b) p.0 (count values b) p.1
    (int_here kinds scope values b have (over_terms (a ∷ b ∷ []) b (in_tail a (b ∷ []) b (in_head b []))) h.1.0)
    (subst (λ x. R p.0 (count values b) ↔ P (Both c d x (count values b))) (sym p.2) (same p.0 (count values b)))
bool_and_int kinds values R P c d (One a ∷ Many b ∷ []) h have same = absurd h.1.0
bool_and_int kinds values R P c d (Many a ∷ b ∷ []) h have same = absurd h.0
bool_and_int kinds values R P c d (a ∷ b ∷ x ∷ args) h have same = absurd h.1.1

plus : (kinds : List Kind) (values : List Value) (args : List Arg) → AllZip (HasShape kinds) (OneOf Integer ∷ OneOf Integer ∷ OneOf Integer ∷ []) args → HaveValues kinds (variables_in args) values
    → OfThreeInts (λ a b c. (a +ℤ b) ≡ c) args values ↔ ((pos 0 +ℤ total values (of_plus args)) ≡ pos 0)
plus kinds values [] h have = absurd h
plus kinds values (a ∷ []) h have = absurd h.1
plus kinds values (a ∷ b ∷ []) h have = absurd h.1.1
plus kinds values (One a ∷ One b ∷ One c ∷ []) h have =
    let scope = variables_in (One a ∷ One b ∷ One c ∷ []) in
    let terms = a ∷ b ∷ c ∷ [] in
    of_three_values (λ a b c. (a +ℤ b) ≡ c) ((pos 0 +ℤ total values (of_plus (One a ∷ One b ∷ One c ∷ []))) ≡ pos 0) (int_of_term values a) (int_of_term values b) (int_of_term values c)
    (count values a) (count values b) (count values c)
    (int_here kinds scope values a have (over_terms terms a (in_head a (b ∷ c ∷ []))) h.0)
    (int_here kinds scope values b have (over_terms terms b (in_tail a (b ∷ c ∷ []) b (in_head b (c ∷ [])))) h.1.0)
    (int_here kinds scope values c have (over_terms terms c (in_tail a (b ∷ c ∷ []) c (in_tail b (c ∷ []) c (in_head c [])))) h.1.1.0)
    (equal (count values a) (count values b) (count values c))
  where
    equal : (a b c : ℤ) → ((a +ℤ b) ≡ c) ↔ ((pos 0 +ℤ ((pos 1 *ℤ a) +ℤ ((pos 1 *ℤ b) +ℤ ((negsuc 0 *ℤ c) +ℤ pos 0)))) ≡ pos 0)
    equal a b c = (λ e. omega (arith, ints), λ e. omega (arith, ints))
plus kinds values (Many a ∷ b ∷ c ∷ args) h have = absurd h.0
plus kinds values (One a ∷ Many b ∷ c ∷ args) h have = absurd h.1.0
plus kinds values (One a ∷ One b ∷ Many c ∷ args) h have = absurd h.1.1.0
plus kinds values (One a ∷ One b ∷ One c ∷ d ∷ args) h have = absurd h.1.1.1

-- ---- what arrays of terms stand for

sums : (kinds : List Kind) (values : List Value) (R : ℤ → ℤ → Type 0) (P : ℤ → Type 0) (args : List Arg) → AllZip (HasShape kinds) (ConstantsOf Integer ∷ ManyOf Integer ∷ ConstantOf Integer ∷ []) args
    → ArePaired args → HaveValues kinds (variables_in args) values → ((s k : ℤ) → R s k ↔ P (s +ℤ ((negsuc 0 *ℤ k) +ℤ pos 0))) → OfLinear R args values ↔ P (total values (of_linear args))
sums kinds values R P [] h paired have same = absurd h
sums kinds values R P (a ∷ []) h paired have same = absurd h.1
sums kinds values R P (a ∷ b ∷ []) h paired have same = absurd h.1.1
sums kinds values R P (Many cs ∷ Many xs ∷ One (Const (value.Int k)) ∷ []) h paired have same =
    let last : Term = Const (value.Int k) in
    let scope = variables_in (Many cs ∷ Many xs ∷ One last ∷ []) in
    let is : total values (of_linear (Many cs ∷ Many xs ∷ One last ∷ [])) ≡ sum_of_products (map constant_of cs) (map (count values) xs) +ℤ ((negsuc 0 *ℤ k) +ℤ pos 0)
    = products_total values cs xs (times (negsuc 0) last ∷ []) in
    of_three_values (IsLinear R) (P (total values (of_linear (Many cs ∷ Many xs ∷ One last ∷ [])))) (each_of constant_of_term cs) (each_of (int_of_term values) xs) (Some k)
    (map constant_of cs) (map (count values) xs) k
    (constants_here cs h.0)
    (ints_here kinds scope values xs have (λ t i. over_terms (cs ++ (xs ++ (last ∷ []))) t (Contains-append_right cs (xs ++ (last ∷ [])) t (Contains-append_left xs (last ∷ []) t i))) h.1.0)
    refl (
      λ l. subst P (sym is) ((same (sum_of_products (map constant_of cs) (map (count values) xs)) k).0 l.sum),
      λ p. record {
        paired = length-map cs constant_of ∙ paired ∙ sym (length-map xs (count values));
        sum = (same (sum_of_products (map constant_of cs) (map (count values) xs)) k).1 (subst P is p);
      },
    )
sums kinds values R P (Many cs ∷ Many xs ∷ One (Const (value.Bool b)) ∷ []) h paired have same = absurd h.1.1.0
sums kinds values R P (Many cs ∷ Many xs ∷ One (Const (value.Set s)) ∷ []) h paired have same = absurd h.1.1.0
sums kinds values R P (Many cs ∷ Many xs ∷ One (Var x) ∷ []) h paired have same = absurd h.1.1.0
sums kinds values R P (Many cs ∷ Many xs ∷ Many ks ∷ []) h paired have same = absurd h.1.1.0
sums kinds values R P (One c ∷ b ∷ k ∷ args) h paired have same = absurd h.0
sums kinds values R P (Many cs ∷ One x ∷ k ∷ args) h paired have same = absurd h.1.0
sums kinds values R P (Many cs ∷ Many xs ∷ k ∷ d ∷ args) h paired have same = absurd h.1.1.1

clause : (kinds : List Kind) (values : List Value) (args : List Arg) → AllZip (HasShape kinds) (ManyOf Boolean ∷ ManyOf Boolean ∷ []) args → HaveValues kinds (variables_in args) values
    → OfTwoArgs (bools_of values) (bools_of values) IsClause args ↔ ((clause_offset args +ℤ total values (of_two (negsuc 0) (pos 1) args)) ≤ℤ pos 0)
clause kinds values [] h have = absurd h
clause kinds values (a ∷ []) h have = absurd h.1
clause kinds values (Many ps ∷ Many ns ∷ []) h have =
    let args = Many ps ∷ Many ns ∷ [] in
    let scope = variables_in args in
    let none : (xs : List Term) → xs ++ [] ≡ xs = append-nil in
    let over : (t : Term) → Contains (ps ++ ns) t → IsTermOver scope t = λ t i. over_terms (ps ++ (ns ++ [])) t (subst (λ xs. Contains (ps ++ xs) t) (sym (none ns)) i) in
    let p = bools_here kinds scope values ps have (λ t i. over t (Contains-append_left ps ns t i)) h.0 in
    let n = bools_here kinds scope values ns have (λ t i. over t (Contains-append_right ps ns t i)) h.1.0 in
    let sum = total values (of_two (negsuc 0) (pos 1) args) in
    let first : pos (trues p.0) +ℤ sum ≡ total values (map (times (pos 1)) ns) = minus_total values ps p.0 (map (times (pos 1)) ns) p.2 in
    let second : total values (map (times (pos 1)) ns) ≡ pos (trues n.0)
    = sym (ap (total values) (append-nil (map (times (pos 1)) ns))) ∙ plus_total values ns n.0 [] n.2 ∙ none_last (trues n.0) in
    of_two_values IsClause ((clause_offset args +ℤ sum) ≤ℤ pos 0) (each_of (bool_of_term values) ps) (each_of (bool_of_term values) ns) p.0 n.0 p.1 n.1
    (clause_counts p.0 n.0 (length ns) sum (counted_long values ns n.0 n.2) (first ∙ second))
  where
    none_last : (n : ℕ) → pos n +ℤ pos 0 ≡ pos n
    none_last n = omega (arith, ints)
clause kinds values (One p ∷ b ∷ []) h have = absurd h.0
clause kinds values (Many ps ∷ One n ∷ []) h have = absurd h.1.0
clause kinds values (a ∷ b ∷ x ∷ args) h have = absurd h.1.1

-- ---- comparisons of numbers

equal : (a b : ℤ) → (a ≡ b) ↔ ((pos 0 +ℤ Both (pos 1) (negsuc 0) a b) ≡ pos 0)
equal a b = (λ e. omega (arith, ints), λ e. omega (arith, ints))

different : (a b : ℤ) → (a ≢ b) ↔ ((pos 0 +ℤ Both (pos 1) (negsuc 0) a b) ≢ pos 0)
different a b = (λ h e. h ((equal a b).1 e), λ h e. h ((equal a b).0 e))

at_most : (a b : ℤ) → (a ≤ℤ b) ↔ ((pos 0 +ℤ Both (pos 1) (negsuc 0) a b) ≤ℤ pos 0)
at_most a b = (λ e. omega (arith, ints), λ e. omega (arith, ints))

less : (a b : ℤ) → (a <ℤ b) ↔ ((pos 1 +ℤ Both (pos 1) (negsuc 0) a b) ≤ℤ pos 0)
less a b = (λ e. omega (arith, ints), λ e. omega (arith, ints))

sum_equal : (s k : ℤ) → (s ≡ k) ↔ ((pos 0 +ℤ (s +ℤ ((negsuc 0 *ℤ k) +ℤ pos 0))) ≡ pos 0)
sum_equal s k = (λ e. omega (arith, ints), λ e. omega (arith, ints))

sum_different : (s k : ℤ) → (s ≢ k) ↔ ((pos 0 +ℤ (s +ℤ ((negsuc 0 *ℤ k) +ℤ pos 0))) ≢ pos 0)
sum_different s k = (λ h e. h ((sum_equal s k).1 e), λ h e. h ((sum_equal s k).0 e))

sum_at_most : (s k : ℤ) → (s ≤ℤ k) ↔ ((pos 0 +ℤ (s +ℤ ((negsuc 0 *ℤ k) +ℤ pos 0))) ≤ℤ pos 0)
sum_at_most s k = (λ e. omega (arith, ints), λ e. omega (arith, ints))

-- ---- comparisons of truth values

bool_equal : (a b : Bool) → (a ≡ b) ↔ ((pos 0 +ℤ Both (pos 1) (negsuc 0) (number_of_bool a) (number_of_bool b)) ≡ pos 0)
bool_equal true true = (λ h. refl, λ h. refl)
bool_equal true false = (λ h. absurd (cc), λ h. absurd (omega (arith, ints)))
bool_equal false true = (λ h. absurd (cc), λ h. absurd (omega (arith, ints)))
bool_equal false false = (λ h. refl, λ h. refl)

bool_at_most : (a b : Bool) → ((a ≡ false) ⊎ (b ≡ true)) ↔ ((pos 0 +ℤ Both (pos 1) (negsuc 0) (number_of_bool a) (number_of_bool b)) ≤ℤ pos 0)
bool_at_most true true = (λ h. omega (arith, ints), λ h. inr refl)
bool_at_most true false = (λ h. absurd (elim h [ inl e ↦ (cc) | inr e ↦ (cc) ]), λ h. absurd (omega (arith, ints)))
bool_at_most false true = (λ h. omega (arith, ints), λ h. inl refl)
bool_at_most false false = (λ h. omega (arith, ints), λ h. inl refl)

bool_less : (a b : Bool) → ((a ≡ false) × (b ≡ true)) ↔ ((pos 1 +ℤ Both (pos 1) (negsuc 0) (number_of_bool a) (number_of_bool b)) ≤ℤ pos 0)
bool_less true true = (λ h. absurd (let e = h.0 in cc), λ h. absurd (omega (arith, ints)))
bool_less true false = (λ h. absurd (let e = h.0 in cc), λ h. absurd (omega (arith, ints)))
bool_less false true = (λ h. omega (arith, ints), λ h. (refl, refl))
bool_less false false = (λ h. absurd (let e = h.1 in cc), λ h. absurd (omega (arith, ints)))

bool_different : (a b : Bool) → (a ≢ b) ↔ ((negsuc 0 +ℤ Both (pos 1) (pos 1) (number_of_bool a) (number_of_bool b)) ≡ pos 0)
bool_different true true = (λ h. absurd (h refl), λ h. absurd (omega (arith, ints)))
bool_different true false = (λ h. refl, λ h e. absurd (cc))
bool_different false true = (λ h. refl, λ h e. absurd (cc))
bool_different false false = (λ h. absurd (h refl), λ h. absurd (omega (arith, ints)))

bool_is_number : (a : Bool) (n : ℤ) → IsNumberOf a n ↔ ((pos 0 +ℤ Both (pos 1) (negsuc 0) (number_of_bool a) n) ≡ pos 0)
bool_is_number true n = (λ h. omega (arith, ints), λ h. omega (arith, ints))
bool_is_number false n = (λ h. omega (arith, ints), λ h. omega (arith, ints))

-- ---- the table

abbrev Fits : List Kind → Relation → List Arg → Type 0
Fits kinds relation args = AllZip (HasShape kinds) (shapes_of (row_of relation)) args

relation_is_sum : (kinds : List Kind) (relation : Relation) (args : List Arg) (values : List Value) → is_sum relation ≡ true → Fits kinds relation args
    → (IsTrue (row_of relation).paired → ArePaired args) → HaveValues kinds (variables_in args) values
    → HoldsOf relation args values ↔ Compares (comparison_of relation) (offset_of relation args +ℤ total values (summands_of relation args))
unfolding HoldsOf
relation_is_sum kinds IntEq args values shape h paired have = two_ints kinds values (λ a b. a ≡ b) (λ x. (pos 0 +ℤ x) ≡ pos 0) (pos 1) (negsuc 0) args h have equal
relation_is_sum kinds IntNe args values shape h paired have = two_ints kinds values (λ a b. a ≢ b) (λ x. (pos 0 +ℤ x) ≢ pos 0) (pos 1) (negsuc 0) args h have different
relation_is_sum kinds IntLe args values shape h paired have = two_ints kinds values (λ a b. a ≤ℤ b) (λ x. (pos 0 +ℤ x) ≤ℤ pos 0) (pos 1) (negsuc 0) args h have at_most
relation_is_sum kinds IntLt args values shape h paired have = two_ints kinds values (λ a b. a <ℤ b) (λ x. (pos 1 +ℤ x) ≤ℤ pos 0) (pos 1) (negsuc 0) args h have less
relation_is_sum kinds IntLinEq args values shape h paired have = sums kinds values (λ s k. s ≡ k) (λ x. (pos 0 +ℤ x) ≡ pos 0) args h (paired refl) have sum_equal
relation_is_sum kinds IntLinLe args values shape h paired have = sums kinds values (λ s k. s ≤ℤ k) (λ x. (pos 0 +ℤ x) ≤ℤ pos 0) args h (paired refl) have sum_at_most
relation_is_sum kinds IntLinNe args values shape h paired have = sums kinds values (λ s k. s ≢ k) (λ x. (pos 0 +ℤ x) ≢ pos 0) args h (paired refl) have sum_different
relation_is_sum kinds IntPlus args values shape h paired have = plus kinds values args h have
relation_is_sum kinds BoolEq args values shape h paired have = two_bools kinds values (λ a b. a ≡ b) (λ x. (pos 0 +ℤ x) ≡ pos 0) (pos 1) (negsuc 0) args h have bool_equal
relation_is_sum kinds BoolLe args values shape h paired have = two_bools kinds values (λ a b. (a ≡ false) ⊎ (b ≡ true)) (λ x. (pos 0 +ℤ x) ≤ℤ pos 0) (pos 1) (negsuc 0) args h have bool_at_most
relation_is_sum kinds BoolLt args values shape h paired have = two_bools kinds values (λ a b. (a ≡ false) × (b ≡ true)) (λ x. (pos 1 +ℤ x) ≤ℤ pos 0) (pos 1) (negsuc 0) args h have bool_less
relation_is_sum kinds BoolNot args values shape h paired have = two_bools kinds values (λ a b. a ≢ b) (λ x. (negsuc 0 +ℤ x) ≡ pos 0) (pos 1) (pos 1) args h have bool_different
relation_is_sum kinds BoolClause args values shape h paired have = clause kinds values args h have
relation_is_sum kinds Bool2Int args values shape h paired have = bool_and_int kinds values IsNumberOf (λ x. (pos 0 +ℤ x) ≡ pos 0) (pos 1) (negsuc 0) args h have bool_is_number
relation_is_sum kinds _ args values shape h paired have = absurd (let e : false ≡ true = shape in cc)

-- ---- the whole

-- the sum of a relation, from its parts
pub sum_is_of : (kinds : List Kind) (relation : Relation) (args : List Arg) (s : LinearSum) → is_sum relation ≡ true → Fits kinds relation args → (IsTrue (row_of relation).paired → ArePaired args)
    → All IsSmallTerm (flat_map terms_of args) → length (flat_map terms_of args) ≤ 4194304 → IsSumOver (summands_of relation args) (offset_of relation args) (comparison_of relation) s
    → IsSumOf kinds relation args s
sum_is_of kinds relation args s shape fits paired small few is =
    let made = table_made relation args small in
    let over = all_over (flat_map terms_of args) (summands_of relation args) made.over in
    record {
      meaning = λ values have. subst (λ x. HoldsOf relation args values ↔ x) (sym (same values)) (relation_is_sum kinds relation args values shape fits paired have);
      variables = subst (All (λ t. Contains (variables_in args) t.variable)) (sym is.terms) over.variables;
      small = record {
        coefficients = subst (All (λ t. unsigned_abs t.coefficient ≤ 1000000000)) (sym is.terms) over.coefficients;
        few = let e = ap length is.terms in let f = over.few in let g = made.few in omega (arith, e, f, g, few);
        constant_size = is.size;
      };
    }
  where
    grouped : (o c v t : ℤ) → c +ℤ v ≡ t → ((o +ℤ c) +ℤ v) ≡ o +ℤ t
    grouped o c v t e = omega (arith, ints)

    same : (values : List Value) → SumHolds values s ≡ Compares (comparison_of relation) (offset_of relation args +ℤ total values (summands_of relation args))
    same values =
        ap (λ c. Compares c (s.constant +ℤ linear_sum s.terms values)) is.comparison
        ∙ ap (Compares (comparison_of relation)) (ap (λ x. x +ℤ linear_sum s.terms values) is.constant ∙ ap (λ ts. (offset_of relation args +ℤ constant_part (summands_of relation args)) +ℤ linear_sum ts values) is.terms
        ∙ grouped (offset_of relation args) (constant_part (summands_of relation args)) (linear_sum (variable_part (summands_of relation args)) values) (total values (summands_of relation args))
        (total_is values (summands_of relation args)))
