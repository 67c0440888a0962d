-- Summands: what they are together, and of which variables.
use Rattle.std.proofs.Common.{◌≡◌, ◌+◌, ◌*◌, ◌<◌, ◌≤◌, ◌^◌, ℕ, zero, suc, ℤ, pos, ◌+ℤ◌, ◌*ℤ◌, unsigned_abs, List, [], ◌∷◌, ◌++◌, map, length, take, get_or, All, Contains, filter_map, true, false, refl, sym, ap, ◌∙◌, subst, append_assoc, append-nil, length-append, length-take, take_all, arith}
use Rattle.std.proofs.lemmas.Int.{ints}
use Rattle.std.proofs.lemmas.List.{length-map, map-append, take_more}
use Rattle.std.proofs.lemmas.List.Concat.{flat_map-append}
use Rattle.std.proofs.lemmas.List.Elements.{All-nil, All-cons, All-head, All-tail, All-map, All-weaker, All-contains_itself, Contains-append_left, Contains-append_right}
use Rattle.set_meaning.specs.declared.kinds.Value.{Value}
use Rattle.set_meaning.specs.declared.kinds.Value.TheVariants as value
use Rattle.set_meaning.specs.declared.problems.Term.{Term}
use Rattle.set_meaning.specs.declared.problems.Term.TheVariants.{Const, Var}
use Rattle.set_meaning.specs.Relations.{variable_of}
use Rattle.problem_limits.specs.Limits.{IsSmallTerm}
use Rattle.sweep_sums.specs.declared.comparison.Comparison.{Comparison}
use Rattle.sweep_sums.specs.declared.forms.LinearTerm.{LinearTerm}
use Rattle.sweep_sums.specs.Forms.{linear_sum, number_at}
use Rattle.sweep_sums.specs.SumTables.{Summand, constant_of, constant_part, terms_with, variable_part, times, products, Adds, IsSumOver}
use Rattle.sweep_sums.specs.declared.forms.LinearSum.{LinearSum}
use Rattle.sweep_sums.specs.declared.sums.adding.PartialSum.{PartialSum}
use Rattle.sweep_sums.proofs.TermNumbers.{IsTermOver, over_terms}

-- ---- what summands are together

-- what a term counts under these values
abbrev pub count : List Value → Term → ℤ
count values (Const v) = constant_of (Const v)
count values (Var x) = number_at values x

abbrev pub total : List Value → List Summand → ℤ
total values [] = pos 0
total values (s ∷ ss) = (s.coefficient *ℤ count values s.term) +ℤ total values ss

first_part : (p c v t : ℤ) → c +ℤ v ≡ t → ((p +ℤ c) +ℤ v) ≡ p +ℤ t
first_part p c v t e = omega (arith, ints)

second_part : (z p c v t : ℤ) → z ≡ pos 0 → c +ℤ v ≡ t → ((z +ℤ c) +ℤ (p +ℤ v)) ≡ p +ℤ t
second_part z p c v t none e = omega (arith, ints)

times_zero : (c : ℤ) → c *ℤ pos 0 ≡ pos 0
times_zero c = omega (arith, ints)

one_total : (values : List Value) (c : ℤ) (t : Term) (ss : List Summand) → constant_part ss +ℤ linear_sum (variable_part ss) values ≡ total values ss
    → (((c *ℤ constant_of t) +ℤ constant_part ss) +ℤ linear_sum (terms_with c t ++ variable_part ss) values) ≡ (c *ℤ count values t) +ℤ total values ss
one_total values c (Const v) ss e = first_part (c *ℤ constant_of (Const v)) (constant_part ss) (linear_sum (variable_part ss) values) (total values ss) e
one_total values c (Var x) ss e =
    second_part (c *ℤ pos 0) (c *ℤ number_at values x) (constant_part ss) (linear_sum (variable_part ss) values) (total values ss) (times_zero c) e

-- constants and variables together are the sum of all
pub total_is : (values : List Value) (ss : List Summand) → constant_part ss +ℤ linear_sum (variable_part ss) values ≡ total values ss
total_is values [] = refl
total_is values (s ∷ ss) = one_total values s.coefficient s.term ss (total_is values ss)

-- ---- lists of summands, one after another

pub variables_append : (ss ts : List Summand) → variable_part (ss ++ ts) ≡ variable_part ss ++ variable_part ts
variables_append ss ts = flat_map-append (λ s. terms_with s.coefficient s.term) ss ts

pub constants_append : (ss ts : List Summand) → constant_part (ss ++ ts) ≡ constant_part ss +ℤ constant_part ts
constants_append [] ts = let none : (n : ℤ) → n ≡ pos 0 +ℤ n = λ (n : ℤ). omega (arith, ints) in none (constant_part ts)
constants_append (s ∷ ss) ts = more (s.coefficient *ℤ constant_of s.term) (constant_part (ss ++ ts)) (constant_part ss) (constant_part ts) (constants_append ss ts)
  where
    more : (p a b c : ℤ) → a ≡ b +ℤ c → p +ℤ a ≡ (p +ℤ b) +ℤ c
    more p a b c e = omega (arith, ints)

-- ---- of which variables, and how large

pub record IsOver (terms : List Term) (s : Summand) : Type 0 where
  pub small : unsigned_abs s.coefficient ≤ 1000000000
  pub there : Contains terms s.term

pub record AreOver (terms : List Term) (ts : List LinearTerm) (most : ℕ) : Type 0 where
  pub variables : All (λ (t : LinearTerm). Contains (filter_map variable_of terms) t.variable) ts
  pub coefficients : All (λ (t : LinearTerm). unsigned_abs t.coefficient ≤ 1000000000) ts
  pub few : length ts ≤ most

one_over : (terms : List Term) (c : ℤ) (t : Term) (ts : List LinearTerm) (n : ℕ) → unsigned_abs c ≤ 1000000000 → IsTermOver (filter_map variable_of terms) t → AreOver terms ts n
    → AreOver terms (terms_with c t ++ ts) (n + 1)
one_over terms c (Const v) ts n small there over = record { variables = over.variables; coefficients = over.coefficients; few = let f = over.few in omega (arith, f) }
one_over terms c (Var x) ts n small there over = record {
  variables = All-cons (λ (t : LinearTerm). Contains (filter_map variable_of terms) t.variable) record { coefficient = c; variable = x } ts there over.variables;
  coefficients = All-cons (λ (t : LinearTerm). unsigned_abs t.coefficient ≤ 1000000000) record { coefficient = c; variable = x } ts small over.coefficients;
  few = let f = over.few in omega (arith, f);
}

pub all_over : (terms : List Term) (ss : List Summand) → All (IsOver terms) ss → AreOver terms (variable_part ss) (length ss)
all_over terms [] h = record {
  variables = All-nil (λ (t : LinearTerm). Contains (filter_map variable_of terms) t.variable);
  coefficients = All-nil (λ (t : LinearTerm). unsigned_abs t.coefficient ≤ 1000000000);
  few = omega arith;
}
all_over terms (s ∷ ss) h =
    let here : IsOver terms s = All-head (IsOver terms) s ss h in
    let e : length ss + 1 ≡ length (s ∷ ss) = omega arith in
    subst (AreOver terms (variable_part (s ∷ ss))) e
    (one_over terms s.coefficient s.term (variable_part ss) (length ss) here.small (over_terms terms s.term here.there) (all_over terms ss (All-tail (IsOver terms) s ss h)))

-- ---- the summands of an argument

pub each_over : (terms : List Term) (c : ℤ) (ts : List Term) → unsigned_abs c ≤ 1000000000 → ((t : Term) → Contains ts t → Contains terms t) → All (IsOver terms) (map (times c) ts)
each_over terms c ts small there =
    All-map (IsOver terms) (times c) ts (All-weaker (Contains ts) (λ t. IsOver terms (times c t)) (λ t h. record { small = small; there = there t h }) ts (All-contains_itself ts))

pub small_constant : (t : Term) → IsSmallTerm t → unsigned_abs (constant_of t) ≤ 1000000000
small_constant (Const (value.Bool true)) h = omega arith
small_constant (Const (value.Bool false)) h = omega arith
small_constant (Const (value.Int n)) h = h
small_constant (Const (value.Set s)) h = omega arith
small_constant (Var x) h = omega arith

pub products_over : (terms cs xs : List Term) → All IsSmallTerm cs → ((t : Term) → Contains xs t → Contains terms t) → All (IsOver terms) (products cs xs)
products_over terms [] xs small there = All-nil (IsOver terms)
products_over terms (c ∷ cs) [] small there = All-nil (IsOver terms)
products_over terms (c ∷ cs) (x ∷ xs) small there =
    All-cons (IsOver terms) (times (constant_of c) x) (products cs xs) (record { small = small_constant c (All-head IsSmallTerm c cs small); there = there x (Contains-append_left (x ∷ []) xs x (0, omega arith, refl)) })
    (products_over terms cs xs (All-tail IsSmallTerm c cs small) (λ t h. there t (Contains-append_right (x ∷ []) xs t h)))

pub products_few : (cs xs : List Term) → length (products cs xs) ≤ length xs
products_few [] xs = omega arith
products_few (c ∷ cs) [] = omega arith
products_few (c ∷ cs) (x ∷ xs) = let h = products_few cs xs in omega (arith, h)

-- ---- sums to which more is added

pub abs_add : (m n : ℤ) → unsigned_abs (m +ℤ n) ≤ unsigned_abs m + unsigned_abs n
abs_add m n = grind (arith, ints)

pub adds_none : (a : PartialSum) → Adds [] a a
adds_none a = record { terms = sym (append-nil a.terms.items); constant = none a.constant; size = omega arith }
  where
    none : (n : ℤ) → n ≡ n +ℤ pos 0
    none n = omega (arith, ints)

pub adds_both : (ss ts : List Summand) (a b d : PartialSum) → Adds ss a b → Adds ts b d → Adds (ss ++ ts) a d
adds_both ss ts a b d first second = record {
  terms = second.terms ∙ ap (λ xs. xs ++ variable_part ts) first.terms ∙ append_assoc a.terms.items (variable_part ss) (variable_part ts) ∙ ap (λ xs. a.terms.items ++ xs) (sym (variables_append ss ts));
  constant = joined d.constant b.constant a.constant (constant_part ss) (constant_part ts) (constant_part (ss ++ ts)) second.constant first.constant (constants_append ss ts);
  size = let e = length-append ss ts in let f = first.size in let g = second.size in omega (arith, e, f, g);
}
  where
    joined : (d b a s t both : ℤ) → d ≡ b +ℤ t → b ≡ a +ℤ s → both ≡ s +ℤ t → d ≡ a +ℤ both
    joined d b a s t both e f g = omega (arith, ints)

pub adds_constant : (c : ℤ) (t : Term) (v : Value) (a : PartialSum) (p : ℤ) → t ≡ Const v → p ≡ c *ℤ constant_of (Const v) → unsigned_abs p ≤ 1000000000000000000
    → Adds (times c t ∷ []) a record { terms = a.terms; constant = a.constant +ℤ p }
adds_constant c t v a p is value size =
    let whole : Adds (times c (Const v) ∷ []) a record { terms = a.terms; constant = a.constant +ℤ p } = record {
      terms = sym (append-nil a.terms.items);
      constant = one a.constant p (c *ℤ constant_of (Const v)) value;
      size = let e = abs_add a.constant p in omega (arith, e, size);
    } in
    subst (λ u. Adds (times c u ∷ []) a record { terms = a.terms; constant = a.constant +ℤ p }) (sym is) whole
  where
    one : (n p k : ℤ) → p ≡ k → n +ℤ p ≡ n +ℤ (k +ℤ pos 0)
    one n p k e = omega (arith, ints)

-- one more term of an array
pub adds_more : (c : ℤ) (ts : List Term) (i : ℕ) (t : Term) (a b d : PartialSum) → i < length ts → t ≡ get_or ts i t → Adds (map (times c) (take i ts)) a b → Adds (times c t ∷ []) b d
    → Adds (map (times c) (take (i + 1) ts)) a d
adds_more c ts i t a b d within at before step =
    let longer : take (i + 1) ts ≡ take i ts ++ t ∷ [] = take_more ts i t within ∙ ap (λ u. take i ts ++ u ∷ []) (sym at) in
    subst (λ ss. Adds ss a d) (sym (ap (map (times c)) longer ∙ map-append (times c) (take i ts) (t ∷ []))) (adds_both (map (times c) (take i ts)) (times c t ∷ []) a b d before step)

pub adds_all : (c : ℤ) (ts : List Term) (i : ℕ) (a b : PartialSum) → length ts ≤ i → Adds (map (times c) (take i ts)) a b → Adds (map (times c) ts) a b
adds_all c ts i a b all h = subst (λ us. Adds (map (times c) us) a b) (take_all i ts all) h

pub room_left : (c : ℤ) (ts : List Term) (i : ℕ) (a b : PartialSum) → i < length ts → unsigned_abs a.constant + length ts * 1000000000000000000 ≤ 2 ^ 100 → Adds (map (times c) (take i ts)) a b
    → unsigned_abs b.constant + 1000000000000000000 ≤ 2 ^ 100
room_left c ts i a b within room h =
    let size = h.size in
    let e = length-map (take i ts) (times c) in
    let f = length-take i ts in
    omega (arith, within, room, size, e, f)

-- one more product
products_more : (cs xs : List Term) (i : ℕ) (c x : Term) → length cs ≡ length xs → i < length xs → c ≡ get_or cs i c → x ≡ get_or xs i x
    → products (take (i + 1) cs) (take (i + 1) xs) ≡ products (take i cs) (take i xs) ++ times (constant_of c) x ∷ []
products_more [] xs i c x paired within p q = absurd (omega (arith, paired, within))
products_more (k ∷ cs) [] i c x paired within p q = absurd (omega (arith, within))
products_more (k ∷ cs) (y ∷ xs) zero c x paired within p q = ap (λ u. times (constant_of u) y ∷ []) (sym p) ∙ ap (λ u. times (constant_of c) u ∷ []) (sym q)
products_more (k ∷ cs) (y ∷ xs) (suc i) c x paired within p q =
    let e : suc i + 1 ≡ suc (i + 1) = omega arith in
    ap (λ n. products (take n (k ∷ cs)) (take n (y ∷ xs))) e ∙ ap (λ ss. times (constant_of k) y ∷ ss) (products_more cs xs i c x (omega (arith, paired)) (omega (arith, within)) p q)

pub adds_product : (cs xs : List Term) (i : ℕ) (c x : Term) (a b d : PartialSum) → length cs ≡ length xs → i < length xs → c ≡ get_or cs i c → x ≡ get_or xs i x
    → Adds (products (take i cs) (take i xs)) a b → Adds (times (constant_of c) x ∷ []) b d → Adds (products (take (i + 1) cs) (take (i + 1) xs)) a d
adds_product cs xs i c x a b d paired within p q before step =
    subst (λ ss. Adds ss a d) (sym (products_more cs xs i c x paired within p q)) (adds_both (products (take i cs) (take i xs)) (times (constant_of c) x ∷ []) a b d before step)

pub adds_products : (cs xs : List Term) (i : ℕ) (a b : PartialSum) → length cs ≡ length xs → length xs ≤ i → Adds (products (take i cs) (take i xs)) a b → Adds (products cs xs) a b
adds_products cs xs i a b paired all h =
    subst (λ us. Adds (products us xs) a b) (take_all i cs (omega (arith, paired, all))) (subst (λ us. Adds (products (take i cs) us) a b) (take_all i xs all) h)

pub room_for_product : (cs xs : List Term) (i : ℕ) (a b : PartialSum) → i < length xs → unsigned_abs a.constant + length xs * 1000000000000000000 ≤ 2 ^ 100
    → Adds (products (take i cs) (take i xs)) a b → unsigned_abs b.constant + 1000000000000000000 ≤ 2 ^ 100
room_for_product cs xs i a b within room h =
    let size = h.size in
    let e = products_few (take i cs) (take i xs) in
    let f = length-take i xs in
    omega (arith, within, room, size, e, f)

-- what was added to the offset is the whole
pub sum_made : (ss : List Summand) (offset : ℤ) (compared : Comparison) (start end : PartialSum) (s : LinearSum) → start.terms.items ≡ [] → start.constant ≡ offset → Adds ss start end
    → s.terms ≡ end.terms.items → s.constant ≡ end.constant → s.comparison ≡ compared → unsigned_abs offset ≤ 1000000000 → length ss ≤ 4194304 → IsSumOver ss offset compared s
sum_made ss offset compared start end s empty begun added terms constant comparison small few =
    let whole : s.constant ≡ offset +ℤ constant_part ss = constant ∙ added.constant ∙ ap (λ n. n +ℤ constant_part ss) begun in
    record {
      terms = terms ∙ added.terms ∙ ap (λ xs. xs ++ variable_part ss) empty;
      constant = whole;
      comparison = comparison;
      size = let e = ap unsigned_abs constant in let f = added.size in let g = ap unsigned_abs begun in omega (arith, e, f, g, small, few);
    }
