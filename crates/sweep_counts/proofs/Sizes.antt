-- A set has as many elements as its bits are true.
use Rattle.std.proofs.Common.{◌≡◌, ◌↔◌, ◌⊎◌, ℕ, suc, ◌+◌, ◌<◌, ◌≤◌, ◌==◌, Bool, true, false, cond, ℤ, List, [], ◌∷◌, map, length, count_by, filter, Contains, refl, ap, sym, ◌∙◌, subst, inl, inr, eq-eqb, arith}
use Rattle.std.specs.Prelude.{if◌then◌else◌}
use Rattle.std.specs.Ordering.{int_cmp}
use Rattle.std.specs.Cmp.{int_cmp_total}
use Rattle.std.proofs.lemmas.Bool.{eqb-true, ne_eqb}
use Rattle.std.proofs.lemmas.List.Kept.{IsStrictlySortedBy-filter}
use Rattle.set_meaning.specs.Kinds.{IsSetWithin}
use Rattle.set_meaning.specs.Sets.{Has, IsAscending, IsSubset}
use Rattle.bit_layout.specs.Words.{lists}
use Rattle.bit_layout.proofs.Elements.{lists_true, listed_is_in}
use Rattle.bit_layout.proofs.Rising.{nothing_in_empty, in_cons, in_head, in_tail, same_members}
use Rattle.sweep_rules.specs.Rules.{run, accepts}
use Rattle.sweep_counts.specs.Counts.{count_rules}

-- ---- a set has a true bit for each of its elements

kept_first : (p : ℤ → Bool) (x : ℤ) (xs : List ℤ) (z : ℤ) (v : Bool) → p x ≡ v → (Contains (filter p xs) z → Contains xs z × (p z ≡ true)) → Contains (cond v (x ∷ filter p xs) (filter p xs)) z → Contains (x ∷ xs) z × (p z ≡ true)
kept_first p x xs z true e later h =
    elim (in_cons x (filter p xs) z h) [
      | inl here ↦ let P : ℤ → Type 0 = λ y. Contains (x ∷ xs) y × (p y ≡ true) in subst P here (in_head x xs, e)
      | inr behind ↦ let r = later behind in (in_tail x xs z r.0, r.1)
    ]
kept_first p x xs z false e later h = let r = later h in (in_tail x xs z r.0, r.1)

kept_is_in : (p : ℤ → Bool) (xs : List ℤ) (z : ℤ) → Contains (filter p xs) z → Contains xs z × (p z ≡ true)
kept_is_in p [] z h = absurd (nothing_in_empty z h)
kept_is_in p (x ∷ xs) z h = kept_first p x xs z (p x) refl (kept_is_in p xs z) h

first_is_kept : (p : ℤ → Bool) (x : ℤ) (xs : List ℤ) (z : ℤ) (v : Bool) → p x ≡ v → p z ≡ true → (Contains xs z → Contains (filter p xs) z) → (x ≡ z) ⊎ Contains xs z → Contains (cond v (x ∷ filter p xs) (filter p xs)) z
first_is_kept p x xs z true e k later (inl here) = let P : ℤ → Type 0 = λ y. Contains (x ∷ filter p xs) y in subst P here (in_head x (filter p xs))
first_is_kept p x xs z true e k later (inr behind) = in_tail x (filter p xs) z (later behind)
first_is_kept p x xs z false e k later (inl here) = let c : false ≡ true = sym e ∙ ap p here ∙ k in cc
first_is_kept p x xs z false e k later (inr behind) = later behind

is_kept : (p : ℤ → Bool) (xs : List ℤ) (z : ℤ) → Contains xs z → p z ≡ true → Contains (filter p xs) z
is_kept p [] z h k = absurd (nothing_in_empty z h)
is_kept p (x ∷ xs) z h k = first_is_kept p x xs z (p x) refl k (λ later. is_kept p xs z later k) (in_cons x xs z h)

chosen_elements : (universe set : List ℤ) → IsAscending universe → IsAscending set → IsSubset set universe → filter (lists set) universe ≡ set
unfolding IsSubset Has
chosen_elements universe set up ascending within =
    same_members int_cmp int_cmp_total (filter (lists set) universe) set (IsStrictlySortedBy-filter int_cmp (lists set) universe up) ascending
    (λ z h. listed_is_in set z (kept_is_in (lists set) universe z h).1)
    (λ z h. is_kept (lists set) universe z (within z h) (lists_true set z h))

-- ---- bits are counted

counted : (size at q : ℕ) (p : ℤ → Bool) (xs : List ℤ) → run (count_rules size) at q (map p xs) ≡ q + length (filter p xs)
counted size at q p [] = let e : q ≡ q + 0 = omega arith in e
counted size at q p (x ∷ xs) = by (p x) (λ r. counted size (at + 1) r p xs)
  where
    by : (v : Bool) → ((r : ℕ) → run (count_rules size) (at + 1) r (map p xs) ≡ r + length (filter p xs))
        → run (count_rules size) (at + 1) (if v then q + 1 else q) (map p xs) ≡ q + length (cond v (x ∷ filter p xs) (filter p xs))
    by true again = again (q + 1) ∙ (let e : q + 1 + length (filter p xs) ≡ q + suc (length (filter p xs)) = omega arith in e)
    by false again = again q

none_first : (n : ℕ) → 0 + n ≡ n
none_first n = omega arith

pub size_counted : (size : ℕ) (universe set : List ℤ) → IsAscending universe → IsSetWithin universe set → (accepts (count_rules size) (map (lists set) universe) ≡ true) ↔ (length set ≡ size)
size_counted size universe set up within =
    let whole : run (count_rules size) 0 0 (map (lists set) universe) ≡ length set = counted size 0 0 (lists set) universe ∙ none_first (length (filter (lists set) universe)) ∙ ap length (chosen_elements universe set up within.ascending within.within) in (
      λ h. eqb-true (length set) size (subst (λ n. (n == size) ≡ true) whole h),
      λ e. subst (λ n. (n == size) ≡ true) (sym whole) (eq-eqb (length set) size e),
    )

-- ---- a count that is past the size never comes back

never_falls : (size at q : ℕ) (bits : List Bool) → q ≤ run (count_rules size) at q bits
never_falls size at q [] = omega arith
never_falls size at q (true ∷ bs) = let r = never_falls size (at + 1) (q + 1) bs in omega (arith, r)
never_falls size at q (false ∷ bs) = never_falls size (at + 1) q bs

pub past_is_lost : (size q : ℕ) → size < q → (at : ℕ) (rest : List Bool) → (run (count_rules size) at q rest == size) ≡ false
past_is_lost size q past at rest =
    let r = never_falls size at q rest in
    ne_eqb (run (count_rules size) at q rest) size (λ e. let clash : size < run (count_rules size) at q rest = omega (arith, past, r) in omega (arith, clash, e))
