-- What arrays of terms stand for, and their sums.
use Rattle.std.proofs.Common.{◌≡◌, ◌⊎◌, ◌↔◌, ℕ, zero, suc, ◌+◌, ◌<◌, ◌≤◌, Bool, true, false, ℤ, pos, negsuc, ◌+ℤ◌, ◌-ℤ◌, ◌*ℤ◌, ◌≤ℤ◌, List, [], ◌∷◌, ◌++◌, map, length, get_or, Some, IsTrue, IsFalse, All, Any, Contains, refl, sym, ap, ◌∙◌, subst, inl, inr, arith}
use Rattle.std.specs.Prelude.{if◌then◌else◌}
use Rattle.std.specs.List.{AllZip}
use Rattle.std.proofs.lemmas.Int.{ints}
use Rattle.std.proofs.lemmas.List.Elements.{All-head, All-tail}
use Rattle.set_meaning.specs.declared.kinds.Kind.{Kind}
use Rattle.set_meaning.specs.declared.kinds.Value.{Value}
use Rattle.set_meaning.specs.declared.kinds.Value.TheVariants as value
use Rattle.set_meaning.specs.declared.problems.VarId.{VarId}
use Rattle.set_meaning.specs.declared.problems.Term.{Term}
use Rattle.set_meaning.specs.declared.problems.Term.TheVariants.{Const, Var}
use Rattle.set_meaning.specs.declared.rows.Sort.TheVariants.{Boolean, Integer}
use Rattle.set_meaning.specs.Rows.{HasSort, IsConstantOf}
use Rattle.set_meaning.specs.Arguments.{cons_some, each_of, constant_of_term, int_of_term, bool_of_term}
use Rattle.set_meaning.specs.LinearSums.{sum_of_products}
use Rattle.set_meaning.specs.Booleans.{IsClause}
use Rattle.bit_layout.proofs.Rising.{in_head, in_tail}
use Rattle.sweep_sums.specs.Forms.{HaveValues}
use Rattle.sweep_sums.specs.SumTables.{Summand, constant_of, times, products}
use Rattle.sweep_sums.proofs.TermNumbers.{IsTermOver, number_of_term, int_term, bool_term}
use Rattle.sweep_sums.proofs.SumTerms.{count, total}

-- ---- one term

abbrev pub number_of_bool : Bool → ℤ
number_of_bool b = if b then pos 1 else pos 0

int_counts : (kinds : List Kind) (values : List Value) (t : Term) → HasSort kinds Integer t → number_of_term values t ≡ count values t
int_counts kinds values (Const (value.Bool b)) h = absurd h
int_counts kinds values (Const (value.Int n)) h = refl
int_counts kinds values (Const (value.Set s)) h = absurd h
int_counts kinds values (Var x) h = refl

bool_counts : (kinds : List Kind) (values : List Value) (t : Term) → HasSort kinds Boolean t → number_of_term values t ≡ count values t
bool_counts kinds values (Const (value.Bool b)) h = refl
bool_counts kinds values (Const (value.Int n)) h = absurd h
bool_counts kinds values (Const (value.Set s)) h = absurd h
bool_counts kinds values (Var x) h = refl

pub int_here : (kinds : List Kind) (scope : List VarId) (values : List Value) (t : Term) → HaveValues kinds scope values → IsTermOver scope t → HasSort kinds Integer t
    → int_of_term values t ≡ Some (count values t)
int_here kinds scope values t have over h = int_term kinds scope values t have over h ∙ ap Some (int_counts kinds values t h)

pub bool_here : (kinds : List Kind) (scope : List VarId) (values : List Value) (t : Term) → HaveValues kinds scope values → IsTermOver scope t → HasSort kinds Boolean t
    → (b : Bool) × (bool_of_term values t ≡ Some b) × (count values t ≡ number_of_bool b)
bool_here kinds scope values t have over h =
    let r = bool_term kinds scope values t have over h in
    (r.0, r.1, sym (bool_counts kinds values t h) ∙ r.2)

-- ---- products of constants and integers

pub constants_here : (cs : List Term) → All (IsConstantOf Integer) cs → each_of constant_of_term cs ≡ Some (map constant_of cs)
constants_here [] h = refl
constants_here (Const (value.Bool b) ∷ cs) h = absurd (All-head (IsConstantOf Integer) (Const (value.Bool b)) cs h)
constants_here (Const (value.Int n) ∷ cs) h = ap (cons_some (Some n)) (constants_here cs (All-tail (IsConstantOf Integer) (Const (value.Int n)) cs h))
constants_here (Const (value.Set s) ∷ cs) h = absurd (All-head (IsConstantOf Integer) (Const (value.Set s)) cs h)
constants_here (Var x ∷ cs) h = absurd (All-head (IsConstantOf Integer) (Var x) cs h)

pub ints_here : (kinds : List Kind) (scope : List VarId) (values : List Value) (xs : List Term) → HaveValues kinds scope values → ((t : Term) → Contains xs t → IsTermOver scope t)
    → All (HasSort kinds Integer) xs → each_of (int_of_term values) xs ≡ Some (map (count values) xs)
ints_here kinds scope values [] have over h = refl
ints_here kinds scope values (x ∷ xs) have over h =
    ap (λ o. cons_some o (each_of (int_of_term values) xs)) (int_here kinds scope values x have (over x (in_head x xs)) (All-head (HasSort kinds Integer) x xs h))
    ∙ ap (cons_some (Some (count values x))) (ints_here kinds scope values xs have (λ t i. over t (in_tail x xs t i)) (All-tail (HasSort kinds Integer) x xs h))

none_first : (n : ℤ) → n ≡ pos 0 +ℤ n
none_first n = omega (arith, ints)

pub products_total : (values : List Value) (cs xs : List Term) (rest : List Summand)
    → total values (products cs xs ++ rest) ≡ sum_of_products (map constant_of cs) (map (count values) xs) +ℤ total values rest
products_total values [] xs rest = none_first (total values rest)
products_total values (c ∷ cs) [] rest = none_first (total values rest)
products_total values (c ∷ cs) (x ∷ xs) rest =
    more (constant_of c *ℤ count values x) (total values (products cs xs ++ rest)) (sum_of_products (map constant_of cs) (map (count values) xs)) (total values rest) (products_total values cs xs rest)
  where
    more : (p a b c : ℤ) → a ≡ b +ℤ c → p +ℤ a ≡ (p +ℤ b) +ℤ c
    more p a b c e = omega (arith, ints)

-- ---- the true ones among Booleans

-- each term counts as its truth value
abbrev pub Count : List Value → List Term → List Bool → Type 0
Count values ts bs = AllZip (λ t b. count values t ≡ number_of_bool b) ts bs

pub bools_here : (kinds : List Kind) (scope : List VarId) (values : List Value) (ts : List Term) → HaveValues kinds scope values → ((t : Term) → Contains ts t → IsTermOver scope t)
    → All (HasSort kinds Boolean) ts → (bs : List Bool) × (each_of (bool_of_term values) ts ≡ Some bs) × Count values ts bs
bools_here kinds scope values [] have over h = ([], refl, tt)
bools_here kinds scope values (t ∷ ts) have over h =
    let first = bool_here kinds scope values t have (over t (in_head t ts)) (All-head (HasSort kinds Boolean) t ts h) in
    let rest = bools_here kinds scope values ts have (λ u i. over u (in_tail t ts u i)) (All-tail (HasSort kinds Boolean) t ts h) in
    (first.0 ∷ rest.0, ap (λ o. cons_some o (each_of (bool_of_term values) ts)) first.1 ∙ ap (cons_some (Some first.0)) rest.1, (first.2, rest.2))

-- how many are true
abbrev pub trues : List Bool → ℕ
trues [] = 0
trues (true ∷ bs) = 1 + trues bs
trues (false ∷ bs) = trues bs

pub plus_total : (values : List Value) (ts : List Term) (bs : List Bool) (rest : List Summand) → Count values ts bs
    → total values (map (times (pos 1)) ts ++ rest) ≡ pos (trues bs) +ℤ total values rest
plus_total values [] [] rest h = none_first (total values rest)
plus_total values [] (b ∷ bs) rest h = absurd h
plus_total values (t ∷ ts) [] rest h = absurd h
plus_total values (t ∷ ts) (true ∷ bs) rest h =
    more (count values t) (total values (map (times (pos 1)) ts ++ rest)) (total values rest) (trues bs) h.0 (plus_total values ts bs rest h.1)
  where
    more : (n a b : ℤ) (k : ℕ) → n ≡ pos 1 → a ≡ pos k +ℤ b → (pos 1 *ℤ n) +ℤ a ≡ pos (1 + k) +ℤ b
    more n a b k e f = omega (arith, ints)
plus_total values (t ∷ ts) (false ∷ bs) rest h =
    more (count values t) (total values (map (times (pos 1)) ts ++ rest)) (total values rest) (trues bs) h.0 (plus_total values ts bs rest h.1)
  where
    more : (n a b : ℤ) (k : ℕ) → n ≡ pos 0 → a ≡ pos k +ℤ b → (pos 1 *ℤ n) +ℤ a ≡ pos k +ℤ b
    more n a b k e f = omega (arith, ints)

pub minus_total : (values : List Value) (ts : List Term) (bs : List Bool) (rest : List Summand) → Count values ts bs
    → pos (trues bs) +ℤ total values (map (times (negsuc 0)) ts ++ rest) ≡ total values rest
minus_total values [] [] rest h = sym (none_first (total values rest))
minus_total values [] (b ∷ bs) rest h = absurd h
minus_total values (t ∷ ts) [] rest h = absurd h
minus_total values (t ∷ ts) (true ∷ bs) rest h =
    more (count values t) (total values (map (times (negsuc 0)) ts ++ rest)) (total values rest) (trues bs) h.0 (minus_total values ts bs rest h.1)
  where
    more : (n a b : ℤ) (k : ℕ) → n ≡ pos 1 → pos k +ℤ a ≡ b → pos (1 + k) +ℤ ((negsuc 0 *ℤ n) +ℤ a) ≡ b
    more n a b k e f = omega (arith, ints)
minus_total values (t ∷ ts) (false ∷ bs) rest h =
    more (count values t) (total values (map (times (negsuc 0)) ts ++ rest)) (total values rest) (trues bs) h.0 (minus_total values ts bs rest h.1)
  where
    more : (n a b : ℤ) (k : ℕ) → n ≡ pos 0 → pos k +ℤ a ≡ b → pos k +ℤ ((negsuc 0 *ℤ n) +ℤ a) ≡ b
    more n a b k e f = omega (arith, ints)

pub counted_long : (values : List Value) (ts : List Term) (bs : List Bool) → Count values ts bs → length ts ≡ length bs
counted_long values [] [] h = refl
counted_long values [] (b ∷ bs) h = absurd h
counted_long values (t ∷ ts) [] h = absurd h
counted_long values (t ∷ ts) (b ∷ bs) h = let e = counted_long values ts bs h.1 in omega (arith, e)

any_later : (P : Bool → Type 0) (b : Bool) (bs : List Bool) → Any P bs → Any P (b ∷ bs)
any_later P b bs h = let within : h.0 < length bs = h.2 in (suc h.0, h.1, omega (arith, within), h.3, h.4)

any_cases : (P : Bool → Type 0) (b : Bool) (bs : List Bool) → Any P (b ∷ bs) → P b ⊎ Any P bs
any_cases P b bs h = at h.0 h.1 h.2 h.3 h.4
  where
    at : (k : ℕ) (x : Bool) → k < length (b ∷ bs) → get_or (b ∷ bs) k x ≡ x → P x → P b ⊎ Any P bs
    at zero x within e p = inl (subst P (sym e) p)
    at (suc k) x within e p = inr (k, x, omega (arith, within), e, p)

pub some_true : (bs : List Bool) → Any IsTrue bs → 1 ≤ trues bs
some_true [] h = let none : h.0 < 0 = h.2 in absurd (omega (arith, none))
some_true (true ∷ bs) h = omega arith
some_true (false ∷ bs) h = elim (any_cases IsTrue false bs h) [ inl here ↦ absurd (cc) | inr later ↦ some_true bs later ]

pub true_somewhere : (bs : List Bool) → 1 ≤ trues bs → Any IsTrue bs
true_somewhere [] h = absurd (omega (arith, h))
true_somewhere (true ∷ bs) h = (0, true, omega arith, refl, refl)
true_somewhere (false ∷ bs) h = any_later IsTrue false bs (true_somewhere bs h)

pub at_most_all : (bs : List Bool) → trues bs ≤ length bs
at_most_all [] = omega arith
at_most_all (true ∷ bs) = let h = at_most_all bs in omega (arith, h)
at_most_all (false ∷ bs) = let h = at_most_all bs in omega (arith, h)

pub some_false : (bs : List Bool) → Any IsFalse bs → trues bs < length bs
some_false [] h = let none : h.0 < 0 = h.2 in absurd (omega (arith, none))
some_false (true ∷ bs) h = elim (any_cases IsFalse true bs h) [ inl here ↦ absurd (cc) | inr later ↦ let g = some_false bs later in omega (arith, g) ]
some_false (false ∷ bs) h = let g = at_most_all bs in omega (arith, g)

pub false_somewhere : (bs : List Bool) → trues bs < length bs → Any IsFalse bs
false_somewhere [] h = absurd (omega (arith, h))
false_somewhere (true ∷ bs) h = any_later IsFalse true bs (false_somewhere bs (omega (arith, h)))
false_somewhere (false ∷ bs) h = (0, false, omega arith, refl, refl)

-- the true ones of the first list and the false ones of the second are at least 1 together
pub clause_counts : (ps ns : List Bool) (long : ℕ) (sum : ℤ) → long ≡ length ns → pos (trues ps) +ℤ sum ≡ pos (trues ns)
    → IsClause ps ns ↔ (((pos 1 -ℤ pos long) +ℤ sum) ≤ℤ pos 0)
clause_counts ps ns long sum e f = (there, back)
  where
    there : IsClause ps ns → ((pos 1 -ℤ pos long) +ℤ sum) ≤ℤ pos 0
    there (inl h) = let some = some_true ps h in let all = at_most_all ns in omega (arith, ints, some, all, e, f)
    there (inr h) = let some = some_false ns h in omega (arith, ints, some, e, f)

    by_first : (n : ℕ) → trues ps ≡ n → ((pos 1 -ℤ pos long) +ℤ sum) ≤ℤ pos 0 → IsClause ps ns
    by_first zero g h = inr (false_somewhere ns (omega (arith, ints, e, f, g, h)))
    by_first (suc n) g h = inl (true_somewhere ps (omega (arith, g)))

    back : ((pos 1 -ℤ pos long) +ℤ sum) ≤ℤ pos 0 → IsClause ps ns
    back h = by_first (trues ps) refl h
