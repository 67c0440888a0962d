-- Whether all, or some, of an array of Booleans are true, as sums of them.
use Rattle.std.proofs.Common.{◌≡◌, ◌↔◌, ◌⊎◌, ◌<◌, ◌≤◌, ◌+◌, ◌*◌, ℕ, zero, suc, ℤ, pos, negsuc, ◌+ℤ◌, ◌*ℤ◌, ◌≤ℤ◌, Bool, true, false, List, [], ◌∷◌, ◌++◌, map, take, length, get_or, min, Some, IsTrue, refl, sym, ap, ◌∙◌, subst, inl, inr, arith, Contains}
use Rattle.std.specs.Prelude.{◌-ℤ◌, Any, filter_map}
use Rattle.std.specs.List.{All, AllZip, flat_map}
use Rattle.std.proofs.lemmas.Int.{ints}
use Rattle.std.proofs.lemmas.Bool.{cases_eq}
use Rattle.std.proofs.lemmas.List.{length-map, length-append, length-take, map-append, take_more, take_all}
use Rattle.std.proofs.lemmas.List.Elements.{All-nil, All-cons, All-head, All-tail}
use Rattle.set_meaning.specs.declared.kinds.Kind.{Kind}
use Rattle.set_meaning.specs.declared.kinds.Value.{Value}
use Rattle.set_meaning.specs.declared.problems.Term.{Term}
use Rattle.set_meaning.specs.declared.problems.Arg.{Arg}
use Rattle.set_meaning.specs.declared.problems.Arg.TheVariants.{One, Many}
use Rattle.set_meaning.specs.declared.problems.Relation.TheVariants.{ArrayBoolAnd, ArrayBoolOr}
use Rattle.set_meaning.specs.Arguments.{bool_of_term, each_of, OfTwo}
use Rattle.set_meaning.specs.Relations.{HoldsOf, terms_of, variable_of}
use Rattle.set_meaning.specs.Rows.{HasShape, row_of, shapes_of}
use Rattle.linear_machine.specs.declared.comparison.Comparison.TheVariants.{AtMost}
use Rattle.int_channel.specs.declared.forms.Atom.{Atom}
use Rattle.int_channel.specs.declared.choices.amounts.Amount.{Amount}
use Rattle.int_channel.specs.Forms.{HaveValues}
use Rattle.int_channel.specs.Choices.{number_of_term, Multiple, multiples_of, terms_of_multiples, sum_of_multiples, AreAmong, IsAmount, IsAtomWhere, ComparesSum, AreBranchesFor}
use Rattle.int_channel.proofs.ChoiceTerms.{IsKnown, bool_known, bools_known, bit}
use Rattle.int_channel.proofs.ChoiceBranches.{branch, one_branch, any_head, any_tail, any_cases, none}
use Rattle.int_channel.proofs.ChoiceIntegers.{of_two_known}
use Rattle.int_channel.proofs.ChoiceElements.{all_in, items_known}

-- ---- counting

pub count : List Bool → ℕ
count [] = 0
count (true ∷ bs) = suc (count bs)
count (false ∷ bs) = count bs

count_short : (bs : List Bool) → count bs ≤ length bs
unfolding count
count_short [] = omega arith
count_short (true ∷ bs) = let h = count_short bs in omega (arith, h)
count_short (false ∷ bs) = let h = count_short bs in omega (arith, h)

all_counted : (bs : List Bool) → All IsTrue bs → count bs ≡ length bs
unfolding count
all_counted [] h = refl
all_counted (true ∷ bs) h = ap suc (all_counted bs (All-tail IsTrue true bs h))
all_counted (false ∷ bs) h = absurd (let never : false ≡ true = All-head IsTrue false bs h in cc)

counted_all : (bs : List Bool) → count bs ≡ length bs → All IsTrue bs
unfolding count
counted_all [] e = All-nil IsTrue
counted_all (true ∷ bs) e = All-cons IsTrue true bs refl (counted_all bs (let f : suc (count bs) ≡ suc (length bs) = e in omega (arith, f)))
counted_all (false ∷ bs) e = absurd (let h = count_short bs in let f : count bs ≡ suc (length bs) = e in omega (arith, h, f))

some_counted : (bs : List Bool) → Any IsTrue bs → 0 < count bs
unfolding count
some_counted [] h = absurd (none IsTrue h)
some_counted (true ∷ bs) h = omega arith
some_counted (false ∷ bs) h = elim (any_cases IsTrue false bs h) [ inl never ↦ absurd (let e : false ≡ true = never in cc) | inr later ↦ some_counted bs later ]

counted_some : (bs : List Bool) → 0 < count bs → Any IsTrue bs
unfolding count
counted_some [] h = absurd (let e : 0 < 0 = h in omega (arith, e))
counted_some (true ∷ bs) h = any_head IsTrue true bs refl
counted_some (false ∷ bs) h = any_tail IsTrue false bs (counted_some bs h)

-- ---- sums of bits

weighted : ℤ → List ℤ → ℤ
weighted k [] = pos 0
weighted k (x ∷ xs) = (k *ℤ x) +ℤ weighted k xs

items_sum : (values : List Value) (k : ℤ) (items : List Term) (l : ℤ) (c : Term)
    → sum_of_multiples values (multiples_of k items ++ (l, c) ∷ []) ≡ weighted k (map (number_of_term values) items) +ℤ (l *ℤ number_of_term values c)
unfolding weighted
items_sum values k [] l c = only (l *ℤ number_of_term values c)
  where
    only : (p : ℤ) → (p +ℤ pos 0) ≡ (pos 0 +ℤ p)
    only p = omega (arith, ints)
items_sum values k (t ∷ ts) l c =
    step (k *ℤ number_of_term values t) (sum_of_multiples values (multiples_of k ts ++ (l, c) ∷ [])) (weighted k (map (number_of_term values) ts)) (l *ℤ number_of_term values c) (items_sum values k ts l c)
  where
    step : (a s w q : ℤ) → s ≡ w +ℤ q → (a +ℤ s) ≡ ((a +ℤ w) +ℤ q)
    step a s w q e = omega (arith, ints)

up_sum : (bs : List Bool) → weighted (pos 1) (map bit bs) ≡ pos (count bs)
unfolding weighted count
up_sum [] = refl
up_sum (true ∷ bs) = step (weighted (pos 1) (map bit bs)) (count bs) (up_sum bs)
  where
    step : (w : ℤ) (n : ℕ) → w ≡ pos n → (pos 1 +ℤ w) ≡ pos (suc n)
    step w n e = omega (arith, ints)
up_sum (false ∷ bs) = step (weighted (pos 1) (map bit bs)) (count bs) (up_sum bs)
  where
    step : (w : ℤ) (n : ℕ) → w ≡ pos n → (pos 0 +ℤ w) ≡ pos n
    step w n e = omega (arith, ints)

down_sum : (bs : List Bool) → (weighted (negsuc 0) (map bit bs) +ℤ pos (count bs)) ≡ pos 0
unfolding weighted count
down_sum [] = refl
down_sum (true ∷ bs) = step (weighted (negsuc 0) (map bit bs)) (count bs) (down_sum bs)
  where
    step : (w : ℤ) (n : ℕ) → (w +ℤ pos n) ≡ pos 0 → ((negsuc 0 +ℤ w) +ℤ pos (suc n)) ≡ pos 0
    step w n e = omega (arith, ints)
down_sum (false ∷ bs) = step (weighted (negsuc 0) (map bit bs)) (count bs) (down_sum bs)
  where
    step : (w : ℤ) (n : ℕ) → (w +ℤ pos n) ≡ pos 0 → ((pos 0 +ℤ w) +ℤ pos n) ≡ pos 0
    step w n e = omega (arith, ints)

pub up_items : (values : List Value) (base l : ℤ) (items : List Term) (c : Term) (bs : List Bool) (z : Bool) → map (number_of_term values) items ≡ map bit bs → number_of_term values c ≡ bit z
    → (base +ℤ sum_of_multiples values (multiples_of (pos 1) items ++ (l, c) ∷ [])) ≡ base +ℤ (pos (count bs) +ℤ (l *ℤ bit z))
up_items values base l items c bs z e f =
    ap (λ s. base +ℤ s) (items_sum values (pos 1) items l c ∙ ap (λ (xs : List ℤ). weighted (pos 1) xs +ℤ (l *ℤ number_of_term values c)) e ∙ ap (λ w. w +ℤ (l *ℤ number_of_term values c)) (up_sum bs)
    ∙ ap (λ x. pos (count bs) +ℤ (l *ℤ x)) f)

pub down_items : (values : List Value) (base l : ℤ) (items : List Term) (c : Term) (bs : List Bool) (z : Bool) → map (number_of_term values) items ≡ map bit bs → number_of_term values c ≡ bit z
    → ((base +ℤ sum_of_multiples values (multiples_of (negsuc 0) items ++ (l, c) ∷ [])) +ℤ pos (count bs)) ≡ base +ℤ (l *ℤ bit z)
down_items values base l items c bs z e f =
    step base (sum_of_multiples values (multiples_of (negsuc 0) items ++ (l, c) ∷ [])) (weighted (negsuc 0) (map bit bs)) (l *ℤ bit z) (count bs)
    (items_sum values (negsuc 0) items l c ∙ ap (λ (xs : List ℤ). weighted (negsuc 0) xs +ℤ (l *ℤ number_of_term values c)) e ∙ ap (λ x. weighted (negsuc 0) (map bit bs) +ℤ (l *ℤ x)) f) (down_sum bs)
  where
    step : (base s w q : ℤ) (n : ℕ) → s ≡ w +ℤ q → (w +ℤ pos n) ≡ pos 0 → ((base +ℤ s) +ℤ pos n) ≡ base +ℤ q
    step base s w q n a b = omega (arith, ints)

-- ---- the two relations

times_one : (k : ℤ) → k *ℤ pos 1 ≡ k
times_one (pos n) = omega (arith, ints)
times_one (negsuc n) = omega (arith, ints)

times_none : (k : ℤ) → k *ℤ pos 0 ≡ pos 0
times_none (pos n) = omega (arith, ints)
times_none (negsuc n) = omega (arith, ints)

all_plain : (bs : List Bool) (z : Bool) (n base low high : ℤ) → n ≡ pos (length bs) → base ≡ pos 1 -ℤ pos (length bs) → (low +ℤ pos (count bs)) ≡ pos 0 +ℤ (n *ℤ bit z)
    → high ≡ base +ℤ (pos (count bs) +ℤ (negsuc 0 *ℤ bit z)) → (IsTrue z ↔ All IsTrue bs) ↔ ((low ≤ℤ pos 0) × (high ≤ℤ pos 0))
all_plain bs true n base low high long short down up =
    let few = count_short bs in
    let one = times_one n in (
      λ h. let e = all_counted bs (h.0 refl) in (omega (arith, ints), omega (arith, ints)),
      λ h. let below = h.0 in let e : count bs ≡ length bs = omega (arith, ints) in (λ _. counted_all bs e, λ _. refl),
    )
all_plain bs false n base low high long short down up =
    let few = count_short bs in
    let zero = times_none n in (
      λ h. elim (cases_eq (count bs) (length bs)) [
        | inl e ↦ absurd (let never : false ≡ true = h.1 (counted_all bs e) in cc)
        | inr differ ↦ let less : count bs < length bs = omega (arith, few, differ) in (omega (arith, ints), omega (arith, ints))
      ],
      λ h. let below = h.1 in (λ t. absurd (cc), λ all. let e = all_counted bs all in absurd (omega (arith, ints))),
    )

some_plain : (bs : List Bool) (z : Bool) (m low high : ℤ) → (m +ℤ pos (length bs)) ≡ pos 0 → (low +ℤ pos (count bs)) ≡ pos 0 +ℤ (pos 1 *ℤ bit z) → high ≡ pos 0 +ℤ (pos (count bs) +ℤ (m *ℤ bit z))
    → (IsTrue z ↔ Any IsTrue bs) ↔ ((low ≤ℤ pos 0) × (high ≤ℤ pos 0))
some_plain bs true m low high long down up =
    let few = count_short bs in
    let one = times_one m in (
      λ h. let e = some_counted bs (h.0 refl) in (omega (arith, ints), omega (arith, ints)),
      λ h. let below = h.0 in let e : 0 < count bs = omega (arith, ints) in (λ _. counted_some bs e, λ _. refl),
    )
some_plain bs false m low high long down up =
    let few = count_short bs in
    let zero = times_none m in (
      λ h. elim (cases_eq (count bs) 0) [
        | inl e ↦ (omega (arith, ints), omega (arith, ints))
        | inr differ ↦ absurd (let never : false ≡ true = h.1 (counted_some bs (omega (arith, differ))) in cc)
      ],
      λ h. let below = h.1 in (λ t. absurd (cc), λ some. let e = some_counted bs some in absurd (omega (arith, ints))),
    )

-- bits and how many there are
long_bits : (values : List Value) (items : List Term) (bs : List Bool) → map (number_of_term values) items ≡ map bit bs → length items ≡ length bs
long_bits values items bs e = sym (length-map items (number_of_term values)) ∙ ap length e ∙ length-map bs bit

pub all_branches : (items : List Term) (c : Term) (n base : ℤ) (p q : Atom) → n ≡ pos (length items) → base ≡ pos 1 -ℤ pos (length items)
    → IsAtomWhere (items ++ c ∷ []) (ComparesSum AtMost (pos 0) (multiples_of (negsuc 0) items ++ (n, c) ∷ [])) p
    → IsAtomWhere (items ++ c ∷ []) (ComparesSum AtMost base (multiples_of (pos 1) items ++ (negsuc 0, c) ∷ [])) q → AreBranchesFor ArrayBoolAnd (Many items ∷ One c ∷ []) (branch p q ∷ [])
unfolding HoldsOf
all_branches items c n base p q long short first second kinds fits =
    let terms : List Term = items ++ c ∷ [] in
    let among : AreAmong terms terms = all_in terms [] terms refl in
    one_branch kinds ArrayBoolAnd (Many items ∷ One c ∷ []) terms terms terms (ComparesSum AtMost (pos 0) (multiples_of (negsuc 0) items ++ (n, c) ∷ []))
    (ComparesSum AtMost base (multiples_of (pos 1) items ++ (negsuc 0, c) ∷ [])) p q refl first second among among
    (λ values have.
    let all = items_known kinds terms values items c have among in
    let truths = bools_known kinds values items fits.0 all.0 in
    let truth = bool_known kinds values c fits.1.0 all.1 in
    let low = pos 0 +ℤ sum_of_multiples values (multiples_of (negsuc 0) items ++ (n, c) ∷ []) in
    let high = base +ℤ sum_of_multiples values (multiples_of (pos 1) items ++ (negsuc 0, c) ∷ []) in
    let same : length items ≡ length truths.0 = long_bits values items truths.0 truths.2 in
    of_two_known (λ items c. IsTrue c ↔ All IsTrue items) (each_of (bool_of_term values) items) (bool_of_term values c) truths.0 truth.0 truths.1 truth.1 ((low ≤ℤ pos 0) × (high ≤ℤ pos 0))
    (all_plain truths.0 truth.0 n base low high (long ∙ ap (λ (k : ℕ). pos k) same) (short ∙ ap (λ (k : ℕ). pos 1 -ℤ pos k) same)
    (down_items values (pos 0) n items c truths.0 truth.0 truths.2 truth.2) (up_items values base (negsuc 0) items c truths.0 truth.0 truths.2 truth.2)))

pub some_branches : (items : List Term) (c : Term) (m : ℤ) (p q : Atom) → (m +ℤ pos (length items)) ≡ pos 0
    → IsAtomWhere (items ++ c ∷ []) (ComparesSum AtMost (pos 0) (multiples_of (negsuc 0) items ++ (pos 1, c) ∷ [])) p
    → IsAtomWhere (items ++ c ∷ []) (ComparesSum AtMost (pos 0) (multiples_of (pos 1) items ++ (m, c) ∷ [])) q → AreBranchesFor ArrayBoolOr (Many items ∷ One c ∷ []) (branch p q ∷ [])
unfolding HoldsOf
some_branches items c m p q long first second kinds fits =
    let terms : List Term = items ++ c ∷ [] in
    let among : AreAmong terms terms = all_in terms [] terms refl in
    one_branch kinds ArrayBoolOr (Many items ∷ One c ∷ []) terms terms terms (ComparesSum AtMost (pos 0) (multiples_of (negsuc 0) items ++ (pos 1, c) ∷ []))
    (ComparesSum AtMost (pos 0) (multiples_of (pos 1) items ++ (m, c) ∷ [])) p q refl first second among among
    (λ values have.
    let all = items_known kinds terms values items c have among in
    let truths = bools_known kinds values items fits.0 all.0 in
    let truth = bool_known kinds values c fits.1.0 all.1 in
    let low = pos 0 +ℤ sum_of_multiples values (multiples_of (negsuc 0) items ++ (pos 1, c) ∷ []) in
    let high = pos 0 +ℤ sum_of_multiples values (multiples_of (pos 1) items ++ (m, c) ∷ []) in
    let same : length items ≡ length truths.0 = long_bits values items truths.0 truths.2 in
    of_two_known (λ items c. IsTrue c ↔ Any IsTrue items) (each_of (bool_of_term values) items) (bool_of_term values c) truths.0 truth.0 truths.1 truth.1 ((low ≤ℤ pos 0) × (high ≤ℤ pos 0))
    (some_plain truths.0 truth.0 m low high (subst (λ (k : ℕ). (m +ℤ pos k) ≡ pos 0) same long)
    (down_items values (pos 0) (pos 1) items c truths.0 truth.0 truths.2 truth.2) (up_items values (pos 0) m items c truths.0 truth.0 truths.2 truth.2)))

-- the terms of such multiples
pub terms_multiplied : (k : ℤ) (items : List Term) (l : ℤ) (c : Term) → terms_of_multiples (multiples_of k items ++ (l, c) ∷ []) ≡ items ++ c ∷ []
terms_multiplied k [] l c = refl
terms_multiplied k (t ∷ ts) l c = ap (λ (xs : List Term). t ∷ xs) (terms_multiplied k ts l c)

multiples_more : (k : ℤ) (items : List Term) (i : ℕ) (t : Term) → i < length items → t ≡ get_or items i t → multiples_of k (take (i + 1) items) ≡ multiples_of k (take i items) ++ (k, t) ∷ []
multiples_more k items i t within at =
    ap (multiples_of k) (take_more items i t within ∙ ap (λ x. take i items ++ x ∷ []) (sym at)) ∙ map-append (λ (x : Term). (k, x)) (take i items) (t ∷ [])

pub item_added : (base k : ℤ) (items : List Term) (i : ℕ) (t : Term) (a : Amount) → i < length items → t ≡ get_or items i t → IsAmount base (multiples_of k (take i items) ++ (k, t) ∷ []) a
    → IsAmount base (multiples_of k (take (i + 1) items)) a
item_added base k items i t a within at h = subst (λ (ms : List Multiple). IsAmount base ms a) (sym (multiples_more k items i t within at)) h

pub short_multiples : (k : ℤ) (items : List Term) (i : ℕ) (m : Multiple) → length items < 4194304 → length (multiples_of k (take i items) ++ m ∷ []) ≤ 4194304
short_multiples k items i m few =
    let sum : length (multiples_of k (take i items) ++ m ∷ []) ≡ length (multiples_of k (take i items)) + 1 = length-append (multiples_of k (take i items)) (m ∷ []) in
    let same : length (multiples_of k (take i items)) ≡ length (take i items) = length-map (take i items) (λ (x : Term). (k, x)) in
    let front : length (take i items) ≡ min i (length items) = length-take i items in
    omega (arith, sum, same, front, few)

pub items_compared : (base k l base' k' l' : ℤ) (items : List Term) (t : Term) (i : ℕ) (atom : Atom) → base' ≡ base → k' ≡ k → l' ≡ l → length items ≤ i
    → IsAtomWhere (terms_of_multiples (multiples_of k' (take i items) ++ (l', t) ∷ [])) (ComparesSum AtMost base' (multiples_of k' (take i items) ++ (l', t) ∷ [])) atom
    → IsAtomWhere (items ++ t ∷ []) (ComparesSum AtMost base (multiples_of k items ++ (l, t) ∷ [])) atom
items_compared base k l base' k' l' items t i atom e f g whole h =
    let W : ℤ → ℤ → ℤ → List Term → Type 0 = λ b k l ts. IsAtomWhere (terms_of_multiples (multiples_of k ts ++ (l, t) ∷ [])) (ComparesSum AtMost b (multiples_of k ts ++ (l, t) ∷ [])) atom in
    let all : W base' k' l' items = subst (W base' k' l') (take_all i items whole) h in
    let plain : W base k l items = subst (λ (b : ℤ). W b k l items) e (subst (λ (k : ℤ). W base' k l items) f (subst (λ (l : ℤ). W base' k' l items) g all)) in
    subst (λ (ts : List Term). IsAtomWhere ts (ComparesSum AtMost base (multiples_of k items ++ (l, t) ∷ [])) atom) (terms_multiplied k items l t) plain

pub few_items : (args : List Arg) (items : List Term) (t : Term) → args ≡ Many items ∷ One t ∷ [] → length (flat_map terms_of args) ≤ 4194304 → length items < 4194304
few_items args items t is few =
    let here : length (items ++ t ∷ []) ≤ 4194304 = subst (λ (xs : List Arg). length (flat_map terms_of xs) ≤ 4194304) is few in
    let sum = length-append items (t ∷ []) in
    omega (arith, here, sum)
