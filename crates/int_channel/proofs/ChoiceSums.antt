-- Sums of multiples of terms, as linear sums over variables.
use Rattle.std.proofs.Common.{◌≡◌, ◌<◌, ◌≤◌, ◌+◌, ◌*◌, ◌^◌, ◌↔◌, ℕ, ℤ, pos, negsuc, ◌+ℤ◌, ◌*ℤ◌, unsigned_abs, List, [], ◌∷◌, ◌++◌, map, length, refl, sym, ap, ◌∙◌, subst, inl, inr, arith, Contains}
use Rattle.std.specs.Prelude.{filter_map}
use Rattle.std.specs.List.{All}
use Rattle.std.proofs.lemmas.Int.{ints}
use Rattle.std.proofs.lemmas.List.{length-append}
use Rattle.std.proofs.lemmas.List.Elements.{All-nil, All-cons, All-append, All-same}
use Rattle.set_meaning.specs.declared.kinds.Kind.{Kind}
use Rattle.set_meaning.specs.declared.kinds.Value.{Value}
use Rattle.set_meaning.specs.declared.problems.VarId.{VarId}
use Rattle.set_meaning.specs.declared.problems.Term.{Term}
use Rattle.set_meaning.specs.declared.problems.Term.TheVariants.{Const, Var}
use Rattle.set_meaning.specs.Relations.{variable_of}
use Rattle.bit_layout.proofs.Rising.{nothing_in_empty, in_cons, in_head, in_tail}
use Rattle.linear_machine.specs.declared.comparison.Comparison.{Comparison}
use Rattle.linear_machine.specs.Sums.{Compares}
use Rattle.linear_terms.specs.declared.terms.LinearTerm.{LinearTerm}
use Rattle.linear_terms.specs.Terms.{AreTermsSmall, number_at, linear_sum}
use Rattle.int_channel.specs.declared.forms.LinearSum.{LinearSum}
use Rattle.int_channel.specs.declared.forms.Atom.{Atom}
use Rattle.int_channel.specs.declared.forms.Atom.TheVariants.{Sum}
use Rattle.int_channel.specs.declared.choices.amounts.Amount.{Amount}
use Rattle.int_channel.specs.Choices.{number_of_constant, number_of_term, constant_part, variable_part, Multiple, sum_of_multiples, AreAmong, terms_of_multiples, IsAmount, IsAtomWhere, ComparesSum}

-- ---- numbers

zero_plus : (y : ℤ) → y ≡ pos 0 +ℤ y
zero_plus y = omega (arith, ints)

times_zero : (k : ℤ) → k *ℤ pos 0 ≡ pos 0
times_zero (pos n) = omega (arith, ints)
times_zero (negsuc n) = omega (arith, ints)

pub abs_sum : (m n : ℤ) → unsigned_abs (m +ℤ n) ≤ unsigned_abs m + unsigned_abs n
abs_sum m n = grind (arith, ints)

-- ---- sums

linear_sum-append : (xs ys : List LinearTerm) (values : List Value) → linear_sum (xs ++ ys) values ≡ linear_sum xs values +ℤ linear_sum ys values
linear_sum-append [] ys values = zero_plus (linear_sum ys values)
linear_sum-append (x ∷ xs) ys values = step (x.coefficient *ℤ number_at values x.variable) (linear_sum (xs ++ ys) values) (linear_sum xs values) (linear_sum ys values) (linear_sum-append xs ys values)
  where
    step : (a s t u : ℤ) → s ≡ t +ℤ u → (a +ℤ s) ≡ ((a +ℤ t) +ℤ u)
    step a s t u e = omega (arith, ints)

sum_more : (values : List Value) (ms : List Multiple) (m : Multiple) → sum_of_multiples values (ms ++ m ∷ []) ≡ sum_of_multiples values ms +ℤ (m.0 *ℤ number_of_term values m.1)
sum_more values [] m = only (m.0 *ℤ number_of_term values m.1)
  where
    only : (p : ℤ) → (p +ℤ pos 0) ≡ (pos 0 +ℤ p)
    only p = omega (arith, ints)
sum_more values (n ∷ ms) m = step (n.0 *ℤ number_of_term values n.1) (sum_of_multiples values (ms ++ m ∷ [])) (sum_of_multiples values ms) (m.0 *ℤ number_of_term values m.1) (sum_more values ms m)
  where
    step : (a s t u : ℤ) → s ≡ t +ℤ u → (a +ℤ s) ≡ ((a +ℤ t) +ℤ u)
    step a s t u e = omega (arith, ints)

parts_sum : (values : List Value) (k : ℤ) (t : Term) → ((k *ℤ constant_part t) +ℤ linear_sum (variable_part k t) values) ≡ k *ℤ number_of_term values t
parts_sum values k (Const v) = only (k *ℤ number_of_constant v)
  where
    only : (p : ℤ) → (p +ℤ pos 0) ≡ p
    only p = omega (arith, ints)
parts_sum values k (Var x) = both (k *ℤ pos 0) (k *ℤ number_at values x) (times_zero k)
  where
    both : (z p : ℤ) → z ≡ pos 0 → (z +ℤ (p +ℤ pos 0)) ≡ p
    both z p e = omega (arith, ints)

-- ---- variables

pub variables_have : (ts : List Term) (x : VarId) → Contains ts (Var x) → Contains (filter_map variable_of ts) x
variables_have [] x h = absurd (nothing_in_empty (Var x) h)
variables_have (Const v ∷ ts) x h =
    elim (in_cons (Const v) ts (Var x) h) [
      | inl same ↦ absurd (cc)
      | inr later ↦ variables_have ts x later
    ]
variables_have (Var z ∷ ts) x h =
    elim (in_cons (Var z) ts (Var x) h) [
      | inl same ↦ let e : z ≡ x = cc in subst (Contains (z ∷ filter_map variable_of ts)) e (in_head z (filter_map variable_of ts))
      | inr later ↦ in_tail z (filter_map variable_of ts) x (variables_have ts x later)
    ]

among_front : (terms : List Term) (ms : List Multiple) (m : Multiple) → AreAmong terms (terms_of_multiples (ms ++ m ∷ [])) → AreAmong terms (terms_of_multiples ms)
among_front terms [] m h = tt
among_front terms (n ∷ ms) m h = (h.0, among_front terms ms m h.1)

among_last : (terms : List Term) (ms : List Multiple) (m : Multiple) → AreAmong terms (terms_of_multiples (ms ++ m ∷ [])) → Contains terms m.1
among_last terms [] m h = h.0
among_last terms (n ∷ ms) m h = among_last terms ms m h.1

-- what holds of a variable's term holds of the part
part_all : (P : LinearTerm → Type 0) (k : ℤ) (t : Term) → ((x : VarId) → t ≡ Var x → P record { coefficient = k; variable = x }) → All P (variable_part k t)
part_all P k (Const v) h = All-nil P
part_all P k (Var x) h = All-cons P record { coefficient = k; variable = x } [] (h x refl) (All-nil P)

part_short : (k : ℤ) (t : Term) → length (variable_part k t) ≤ 1
part_short k (Const v) = omega arith
part_short k (Var x) = omega arith

-- ---- amounts

pub one_added : (base k : ℤ) (t : Term) (old new : Amount) → new.terms.items ≡ old.terms.items ++ variable_part k t → new.constant ≡ old.constant +ℤ (k *ℤ constant_part t)
    → unsigned_abs k ≤ 1000000000 → unsigned_abs (k *ℤ constant_part t) ≤ 1000000000000000000 → (ms : List Multiple) → IsAmount base ms old → IsAmount base (ms ++ (k, t) ∷ []) new
one_added base k t old new terms_are constant_is small product_small ms h =
    record {
      value = λ values.
          let e : linear_sum new.terms.items values ≡ linear_sum old.terms.items values +ℤ linear_sum (variable_part k t) values =
          ap (λ (ts : List LinearTerm). linear_sum ts values) terms_are ∙ linear_sum-append old.terms.items (variable_part k t) values in
          join new.constant old.constant (k *ℤ constant_part t) (linear_sum new.terms.items values) (linear_sum old.terms.items values) (linear_sum (variable_part k t) values)
          (k *ℤ number_of_term values t) base (sum_of_multiples values ms) (sum_of_multiples values (ms ++ (k, t) ∷ []))
          constant_is e (parts_sum values k t) (h.value values) (sum_more values ms (k, t));
      over = λ terms among.
          let P : LinearTerm → Type 0 = λ t. Contains (filter_map variable_of terms) t.variable in
          let last = among_last terms ms (k, t) among in
          All-same P new.terms.items (old.terms.items ++ variable_part k t) terms_are
          (All-append P old.terms.items (variable_part k t) (h.over terms (among_front terms ms (k, t) among))
          (part_all P k t (λ x is. variables_have terms x (subst (Contains terms) is last))));
      coefficients =
          let P : LinearTerm → Type 0 = λ t. unsigned_abs t.coefficient ≤ 1000000000 in
          All-same P new.terms.items (old.terms.items ++ variable_part k t) terms_are
          (All-append P old.terms.items (variable_part k t) h.coefficients (part_all P k t (λ x is. small)));
      few =
          let e : length new.terms.items ≡ length old.terms.items + length (variable_part k t) = ap length terms_are ∙ length-append old.terms.items (variable_part k t) in
          let short = part_short k t in
          let sum : length (ms ++ (k, t) ∷ []) ≡ length ms + 1 = length-append ms ((k, t) ∷ []) in
          let was = h.few in
          omega (arith, e, short, sum, was);
      size =
          let e : unsigned_abs new.constant ≡ unsigned_abs (old.constant +ℤ (k *ℤ constant_part t)) = ap unsigned_abs constant_is in
          let both = abs_sum old.constant (k *ℤ constant_part t) in
          let sum : length (ms ++ (k, t) ∷ []) ≡ length ms + 1 = length-append ms ((k, t) ∷ []) in
          let was = h.size in
          omega (arith, e, both, sum, was, product_small);
    }
  where
    join : (new_c old_c p new_s old_s part q base sum more : ℤ) → new_c ≡ old_c +ℤ p → new_s ≡ old_s +ℤ part → (p +ℤ part) ≡ q → (old_c +ℤ old_s) ≡ (base +ℤ sum) → more ≡ sum +ℤ q
        → (new_c +ℤ new_s) ≡ (base +ℤ more)
    join new_c old_c p new_s old_s part q base sum more a b c d e = omega (arith, ints)

-- ---- atoms

pub sum_compared : (cmp : Comparison) (base : ℤ) (ms : List Multiple) (a : Amount) (s : LinearSum) → s.comparison ≡ cmp → s.terms ≡ a.terms.items → s.constant ≡ a.constant
    → IsAmount base ms a → length ms ≤ 4194304 → IsAtomWhere (terms_of_multiples ms) (ComparesSum cmp base ms) (Sum s)
sum_compared cmp base ms a s compared terms_are constant_is h short =
    record {
      meaning = λ values.
          let e : (base +ℤ sum_of_multiples values ms) ≡ (s.constant +ℤ linear_sum s.terms values) = cc (h.value values, ap (λ (ts : List LinearTerm). linear_sum ts values) terms_are) in (
            λ holds. subst (λ (c : Comparison). Compares c (s.constant +ℤ linear_sum s.terms values)) (sym compared) (subst (Compares cmp) e holds),
            λ holds. subst (Compares cmp) (sym e) (subst (λ (c : Comparison). Compares c (s.constant +ℤ linear_sum s.terms values)) compared holds),
          );
      over = λ kinds terms among. (
        All-same (λ (t : LinearTerm). Contains (filter_map variable_of terms) t.variable) s.terms a.terms.items terms_are (h.over terms among),
        record {
          coefficients = All-same (λ (t : LinearTerm). unsigned_abs t.coefficient ≤ 1000000000) s.terms a.terms.items terms_are h.coefficients;
          few = let e : length s.terms ≡ length a.terms.items = ap length terms_are in let was = h.few in omega (arith, e, was, short);
          constant_size = let e : unsigned_abs s.constant ≡ unsigned_abs a.constant = ap unsigned_abs constant_is in let was = h.size in omega (arith, e, was, short);
        },
      );
    }

pub same_atom : (ts : List Term) (P Q : List Value → Type 0) (atom : Atom) → ((values : List Value) → P values ↔ Q values) → IsAtomWhere ts P atom → IsAtomWhere ts Q atom
same_atom ts P Q atom same h =
    record {
      meaning = λ values. (λ q. (h.meaning values).0 ((same values).1 q), λ holds. (same values).0 ((h.meaning values).1 holds));
      over = h.over;
    }
